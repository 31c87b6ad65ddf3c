-- What is in work for a function: its jobs that are ready, and its invocations that are running.
use Rattle.std.specs.Prelude.{ℕ, ◌+◌, ◌==◌, Bool, not, length, filter}
use Rattle.fh_dispatch.specs.Invocations.{runs_of}
use Rattle.fh_dispatch.specs.Part.{WorkPart}
use Rattle.fh_dispatch.specs.Ready.{jobs_of, is_run}

-- how many jobs of the function are in work
abbrev pub in_work : ℕ → WorkPart → ℕ
in_work function part = length (jobs_of function part.ready) + length (runs_of function part.running)

-- a job of the function is in work
abbrev pub is_busy : ℕ → WorkPart → Bool
is_busy function part = not (in_work function part == 0)

-- how many runs of the function's timer are in work
abbrev pub runs_in : ℕ → WorkPart → ℕ
runs_in function part =
    length (filter (λ job. is_run job.job) (jobs_of function part.ready))
    + length (filter (λ run. is_run run.job) (runs_of function part.running))
