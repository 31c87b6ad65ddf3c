use Rattle.std.proofs.Common.{arith, ◌≡◌, ◌+◌, ◌++◌, ◌∷◌, [], take, ap}
use Rattle.std.proofs.lemmas.Grind.{common_steps}
use Rattle.fh_queues.specs.Jobs.{count_sent}
use Rattle.fh_queues.proofs.Sending.{count_sent-push}
use Rattle.fh_queues.proofs.job_rules.count_sent.Goals as goal

pub loop-output-preserved : goal.loop-output-preserved
loop-output-preserved c =
    let outputs = c.args.outputs.now in
    let had = c.loop-output.invariant in
    let at = c.loop-output.output-index in
    let more : take (at + 1) outputs ≡ take at outputs ++ c.output-item.result ∷ [] = grind (arith, common_steps) in
    record {
      count = omega (
        arith,
        had.count,
        c.sent_by-count.ensures.count,
        ap count_sent more,
        count_sent-push (take at outputs) c.output-item.result,
      );
      few = omega (arith, had.few, c.sent_by-count.ensures.few);
    }
