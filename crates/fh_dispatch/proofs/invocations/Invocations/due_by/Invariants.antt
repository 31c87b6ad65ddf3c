use Rattle.std.proofs.Common.{◌≡◌, ◌-◌, ◌++◌, map}
use Rattle.fh_dispatch.specs.Invocations.{due_by}
use Rattle.fh_dispatch.specs.Runs.{due_from}
use Rattle.fh_dispatch.proofs.invocations.Invocations.due_by.Given as goal

abbrev pub invariant-loop-run : goal.invariant-loop-run
invariant-loop-run l =
    map (λ run. run.now) l.runs.items ++ due_from l.from l.most l.self.running ≡ due_by l.most l.self.running

abbrev pub decreases-loop-run : goal.decreases-loop-run
decreases-loop-run l = l.self.next - l.from
