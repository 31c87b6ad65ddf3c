use Rattle.std.proofs.Common.{◌≡◌, filter, map, take}
use Rattle.fh_dispatch.specs.DueRuns.{dues_with}
use Rattle.fh_dispatch.specs.Renewals.{due_at, is_due}
use Rattle.fh_dispatch.specs.Stores.{others_of}
use Rattle.fh_dispatch.proofs.work.Work.due_runs.Given as goal

abbrev pub invariant-loop-run : goal.invariant-loop-run
invariant-loop-run l =
    dues_with l.dues.items ≡ filter is_due
    (map (due_at l.self.part (others_of l.stores) l.m) (map (λ run. run.now) (take l.run-index l.run-items)))
