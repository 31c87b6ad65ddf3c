use Rattle.std.proofs.Common.{◌∙◌}
use Rattle.fh_sample.proofs.Connections.{accepts_more, unfinished}
use Rattle.fh_sample.proofs.worker.make_rounds.Goals as goal

pub returns-in_err-make_round-clause-makes : goal.returns-in_err-make_round-clause-makes
returns-in_err-make_round-clause-makes g c =
    unfinished _ _ _ _ _ _ _ _ _ c.from_residual.ensures.1 c.loop-round-test.true c.loop-round.invariant.accepted
    c.loop-round.invariant.facing c.in_err-make_round.ensures.makes

pub loop-round-preserved : goal.loop-round-preserved
loop-round-preserved g c = record {
  accepted =
      accepts_more _ _ _ _ _ _ c.loop-round.invariant.accepted
      (rw (← c.loop-round.invariant.facing) c.in_ok-make_round.ensures.makes);
  facing = c.in_ok-make_round.ensures.faces ∙ c.loop-round.invariant.facing;
  faults = c.in_ok-make_round.ensures.cause ∙ c.loop-round.invariant.faults;
}
