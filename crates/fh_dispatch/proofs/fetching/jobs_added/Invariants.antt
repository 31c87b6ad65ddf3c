use Rattle.std.proofs.Common.{◌≡◌, take}
use Rattle.fh_dispatch.specs.Outcome.{adding}
use Rattle.fh_dispatch.proofs.fetching.jobs_added.Given as goal

abbrev pub invariant-loop-item : goal.invariant-loop-item
invariant-loop-item l = l.acts.items ≡ adding l.function (take l.item-index l.items)
