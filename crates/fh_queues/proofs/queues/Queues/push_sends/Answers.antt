use Rattle.std.proofs.Common.{arith, ◌≡◌, ◌+◌, ◌++◌, ◌∷◌, [], List, take, ap, ◌∙◌}
use Rattle.std.proofs.lemmas.Grind.{common_steps}
use Rattle.fh_event.specs.declared.outcome.Output.{Output}
use Rattle.fh_queues.specs.Rules.{output_rule}
use Rattle.fh_queues.specs.Jobs.{sends}
use Rattle.fh_queues.proofs.Broken.{unbroken-at}
use Rattle.fh_queues.proofs.Sending.{sends-push}
use Rattle.fh_queues.proofs.queues.Queues.push_sends.Goals as goal

pub push_output-requires : goal.push_output-requires
push_output-requires c =
    let at = c.loop-output.output-index in
    grind (arith, common_steps, unbroken-at output_rule c.args.outputs.now at c.output-item.result)

pub loop-output-preserved : goal.loop-output-preserved
loop-output-preserved c =
    let outputs = c.args.outputs.now in
    let m = c.args.m in
    let at = c.loop-output.output-index in
    let more : take (at + 1) outputs ≡ take at outputs ++ c.output-item.result ∷ [] = grind (arith, common_steps) in
    let all = ap (λ (os : List Output). sends m os) more ∙ sends-push m (take at outputs) c.output-item.result in
    grind (arith, common_steps, all)
