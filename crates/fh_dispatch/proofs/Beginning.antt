-- The first job of a function is the first of its jobs.
use Rattle.std.proofs.Common.{◌≡◌, ℕ, Bool, true, false, List, [], ◌∷◌, Some, refl}
use Rattle.std.specs.Prelude.{◌==◌, if◌then◌else◌, slice_get}
use Rattle.fh_dispatch.specs.declared.ready.ReadyJob.{ReadyJob}
use Rattle.fh_dispatch.specs.Ready.{first_job, jobs_of}

pub first_of_jobs : (function : ℕ) (ready : List ReadyJob)
    → slice_get (jobs_of function ready) 0 ≡ first_job function ready
first_of_jobs function [] = refl
first_of_jobs function (job ∷ jobs) = by_test (job.function == function) (first_of_jobs function jobs)
  where
    by_test : (b : Bool) → slice_get (jobs_of function jobs) 0 ≡ first_job function jobs
        → slice_get (if b then job ∷ jobs_of function jobs else jobs_of function jobs) 0
        ≡ (if b then Some job else first_job function jobs)
    by_test true rest = refl
    by_test false rest = rest
