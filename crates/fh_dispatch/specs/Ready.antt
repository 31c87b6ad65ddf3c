-- The jobs that are ready: in order of function number, and those of a function in the order in which they came.
use Rattle.std.specs.Prelude.{ℕ, ◌==◌, nat_le, nat_lt, Bool, true, false, not, if◌then◌else◌, List, [], ◌∷◌, ◌++◌, filter, find, Option}
use Rattle.std.specs.List.Sorted.{IsNonDecreasingBy}
use Rattle.fh_dispatch.specs.declared.ready.Job.{Job}
use Rattle.fh_dispatch.specs.declared.ready.Job.TheVariants.{Message, Timer}
use Rattle.fh_dispatch.specs.declared.ready.ReadyJob.{ReadyJob}

-- no job stands before one of a function of a lower number
abbrev pub AreInOrder : List ReadyJob → Type 0
AreInOrder jobs = IsNonDecreasingBy (λ job. job.function) jobs

-- the jobs of the function of this number
abbrev pub jobs_of : ℕ → List ReadyJob → List ReadyJob
jobs_of function ready = filter (λ job. job.function == function) ready

-- the first job of the function
abbrev pub first_job : ℕ → List ReadyJob → Option ReadyJob
first_job function ready = find (λ job. job.function == function) ready

-- a run of a timer, and not a message
abbrev pub is_run : Job → Bool
is_run (Message number receipt) = false
is_run (Timer run) = true

-- the job behind those that its function has
abbrev pub with_job : ReadyJob → List ReadyJob → List ReadyJob
with_job job ready =
    filter (λ other. nat_le other.function job.function) ready
    ++ job ∷ filter (λ other. nat_lt job.function other.function) ready

-- the first job of the function is gone
abbrev pub without_first : ℕ → List ReadyJob → List ReadyJob
without_first function [] = []
without_first function (job ∷ jobs) =
    if job.function == function then jobs else job ∷ without_first function jobs

-- no job of the function
abbrev pub without_jobs_of : ℕ → List ReadyJob → List ReadyJob
without_jobs_of function ready = filter (λ job. not (job.function == function)) ready
