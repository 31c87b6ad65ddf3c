use Rattle.std.proofs.Common.{arith, ◌≡◌, ◌+◌, ◌++◌, ◌∷◌, [], Some, take, drop, sym, ap, ◌∙◌}
use Rattle.std.proofs.lemmas.Grind.{common_steps}
use Rattle.std.proofs.lemmas.List.{take-append-drop}
use Rattle.fh_queues.proofs.Broken.{broken-push, broken-more}
use Rattle.fh_dispatch.specs.Outputs.{output_rule, each_output_rule}
use Rattle.fh_dispatch.proofs.outputs.each_output_rule.Goals as goal

pub returns-in-Some : goal.returns-in-Some
returns-in-Some c =
    let outputs = c.args.outputs.now in
    let at = c.loop-output.output-index in
    let more : take (at + 1) outputs ≡ take at outputs ++ c.output-item.result ∷ [] = grind (arith, common_steps) in
    let broken : each_output_rule (take (at + 1) outputs) ≡ Some c.in-Some.rule =
    ap each_output_rule more ∙ broken-push output_rule (take at outputs) c.output-item.result c.loop-output.invariant
    ∙ sym c.output_rule.ensures ∙ c.in-Some.is in
    sym (broken-more output_rule (take (at + 1) outputs) (drop (at + 1) outputs) c.in-Some.rule broken)
    ∙ ap each_output_rule (take-append-drop (at + 1) outputs)

pub loop-output-preserved : goal.loop-output-preserved
loop-output-preserved c =
    let outputs = c.args.outputs.now in
    let at = c.loop-output.output-index in
    let more : take (at + 1) outputs ≡ take at outputs ++ c.output-item.result ∷ [] = grind (arith, common_steps) in
    ap each_output_rule more ∙ broken-push output_rule (take at outputs) c.output-item.result c.loop-output.invariant
    ∙ sym c.output_rule.ensures ∙ c.in_default.is
