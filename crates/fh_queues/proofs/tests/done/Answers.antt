use Rattle.std.proofs.Common.{arith, ◌≡◌}
use Rattle.std.proofs.lemmas.Grind.{common_steps}
use Rattle.fh_event.specs.Judging.{Makes}
use Rattle.fh_queues.specs.Acts.{by_acts}
use Rattle.fh_queues.specs.Asks.{ask_of}
use Rattle.fh_queues.specs.Outcome.{outcome}
use Rattle.fh_queues.proofs.tests.done.Goals as goal

pub stage-requires-clause-planned : goal.stage-requires-clause-planned
stage-requires-clause-planned g c =
    let part = c.args.queues.now.part in
    let is : outcome part (ask_of c.args.ask.now) c.args.m ≡ Makes (by_acts part c.in_ok-change.change.acts) c.in_ok-change.change.done = grind (arith, common_steps, c.is_quiet.ensures.loud part) in
    record { ask = ask_of c.args.ask.now; moment = c.args.m; is = is }
