use Rattle.std.proofs.Common.{arith, Err, ◌≡◌, ◌-◌, ◌+◌, sym, ap, ◌∙◌}
use Rattle.std.proofs.lemmas.Grind.{common_steps}
use Rattle.std.specs.Prelude.{List}
use Rattle.fh_event.specs.declared.outcome.Output.{Output}
use Rattle.fh_event.specs.Reading.{outputs_in_turn}
use Rattle.fh_event.proofs.Turns.{behind, one_turn, turn_fails}
use Rattle.fh_event.proofs.reading.outputs_in_turn.Goals as goal

pub returns-in_err-output : goal.returns-in_err-output
returns-in_err-output c =
    let is : c.from_residual.result ≡ Err c.in_err-output.field-0.0 = grind (arith, common_steps) in
    let whole = outputs_in_turn 2 c.args.count c.args.bytes.now in
    let outputs = c.loop-turn.outputs.items in
    rw is (
    turn_fails 2 c.args.count c.loop-turn.turn outputs c.loop-turn.rest.now whole c.loop-turn.invariant
    c.loop-turn-test.true c.in_err-output.field-0.0 c.in_err-output.ensures
    )

pub loop-turn-preserved : goal.loop-turn-preserved
loop-turn-preserved c =
    let output = c.in_ok-output.output in
    let rest = c.in_ok-output.behind.now in
    let outputs = c.loop-turn.outputs.items in
    let others = outputs_in_turn 2 (c.args.count - (c.loop-turn.turn + 1)) rest in
    ap (λ (os : List Output). behind os others) c.in_ok-push.ensures.items
    ∙ sym (one_turn 2 c.args.count c.loop-turn.turn outputs c.loop-turn.rest.now output rest c.loop-turn-test.true
    c.in_ok-output.ensures)
    ∙ c.loop-turn.invariant
