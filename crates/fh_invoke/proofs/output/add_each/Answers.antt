use Rattle.std.proofs.Common.{◌≡◌, ◌++◌, ◌∷◌, [], ◌∙◌, refl, append-nil, arith, ap, map, drop, List}
use Rattle.std.proofs.lemmas.List.{drop_all}
use Rattle.serde_json.specs.View.{view}
use Rattle.serde_json.specs.declared.value.Value.{Value}
use Rattle.fh_invoke.specs.Outputs.{sent_to}
use Rattle.fh_invoke.proofs.Sending.{sent_next}
use Rattle.fh_invoke.proofs.output.add_each.Goals as goal

pub loop-value-init : goal.loop-value-init
loop-value-init c = λ before are. (before, refl, are)

pub loop-value-preserved : goal.loop-value-preserved
loop-value-preserved c = λ before are.
    let held = c.loop-value.invariant before are in
    let binding = c.args.binding.now in
    let place = c.args.place.now in (
      held.0 ++ sent_to binding place (view c.value-item.result ∷ []),
      held.1 ∙ sent_next held.0 binding place c.args.given.now c.loop-value.value-index c.value-item.result
          c.loop-value-test.true c.value-item.is,
      c.in_ok-add_output.ensures held.0 held.2,
    )

pub returns : goal.returns
returns c = λ before are.
    let held = c.loop-value.invariant before are in
    let all : drop c.loop-value.value-index c.args.given.now ≡ [] = drop_all _ c.args.given.now (omega arith) in
    rw (held.1
    ∙ ap (λ (left : List Value). held.0 ++ sent_to c.args.binding.now c.args.place.now (map view left)) all
    ∙ append-nil held.0) held.2
