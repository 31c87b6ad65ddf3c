use Rattle.std.proofs.Common.{◌≡◌, take, map}
use Rattle.fh_dispatch.specs.Outcome.{fetched_job}
use Rattle.fh_dispatch.proofs.fetching.jobs_told.Given as goal

abbrev pub invariant-loop-item : goal.invariant-loop-item
invariant-loop-item l = l.jobs.items ≡ map fetched_job (take l.item-index l.items)
