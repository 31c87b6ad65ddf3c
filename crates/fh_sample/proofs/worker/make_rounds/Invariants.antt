use Rattle.std.proofs.Common.{◌≡◌}
use Rattle.fh_sample.specs.Rounds.{Accepts}
use Rattle.fh_sample.proofs.worker.make_rounds.Given as goal

abbrev pub invariant-loop-round : goal.invariant-loop-round
invariant-loop-round g l = record {
  accepted :
      Accepts (g.D.Door.facing l.initial.door) l.round (g.D.Door.accepted l.initial.door) (g.D.Door.accepted l.door);
  facing : g.D.Door.facing l.door ≡ g.D.Door.facing l.initial.door;
  faults : g.D.Door.door_faults l.door ≡ g.D.Door.door_faults l.initial.door;
}
