-- The invocations that are running, in order of number.
use Rattle.std.specs.Prelude.{ℕ, nat_le, ◌&&◌, List, [], ◌∷◌, ◌++◌, filter, find, Option, Some, None}
use Rattle.std.specs.Ordering.{nat_cmp, ordering_then}
use Rattle.std.specs.declared.cmp.Ordering.{Ordering}
use Rattle.fh_rows.specs.Rows.{row_at, rows_at, with_change_at, without_row_at}
use Rattle.fh_dispatch.specs.declared.ready.Job.{Job}
use Rattle.fh_dispatch.specs.declared.ready.Job.TheVariants.{Message, Timer}
use Rattle.fh_dispatch.specs.declared.running.Running.{Running}

-- the invocations, the number that the next one gets, and for how many more there is room
pub record InvocationsState : Type 0 where
  pub running : List Running
  pub next : ℕ
  pub room : ℕ

-- how an invocation stands to a number, to a function's number, and to both: functions come first
abbrev pub by_number : ℕ → Running → Ordering
by_number invocation run = nat_cmp run.invocation invocation

abbrev pub by_function : ℕ → Running → Ordering
by_function function run = nat_cmp run.function function

abbrev pub by_run : ℕ → ℕ → Running → Ordering
by_run function invocation run = ordering_then (by_function function run) (by_number invocation run)

-- the one of this number
abbrev pub run_of : ℕ → List Running → Option Running
run_of invocation running = row_at (by_number invocation) running

-- those of a function
abbrev pub runs_of : ℕ → List Running → List Running
runs_of function running = rows_at (by_function function) running

-- the first one from a number on that is due by a moment
abbrev pub first_due : ℕ → ℕ → List Running → Option Running
first_due from most running = find (λ run. nat_le from run.invocation && nat_le run.due most) running

-- those that are due by a moment
abbrev pub due_by : ℕ → List Running → List Running
due_by most running = filter (λ run. nat_le run.due most) running

-- the least number of one
abbrev pub lowest : List Running → Option ℕ
lowest [] = None
lowest (run ∷ running) = Some run.invocation

-- another one behind them
abbrev pub with_run : Running → List Running → List Running
with_run run running = running ++ run ∷ []

abbrev pub renewed_job : ℕ → Job → Job
renewed_job receipt (Message number old) = Message number receipt
renewed_job receipt (Timer run) = Timer run

-- with this receipt, where it runs for a message, and due then
abbrev pub renewed : ℕ → ℕ → Running → Running
renewed receipt due run = record run { job = renewed_job receipt run.job; due = due }

abbrev pub with_renewal : ℕ → ℕ → ℕ → List Running → List Running
with_renewal invocation receipt due running = with_change_at (by_number invocation) (renewed receipt due) running

-- none of this number, or of this function
abbrev pub without_run : ℕ → List Running → List Running
without_run invocation running = without_row_at (by_number invocation) running

abbrev pub without_runs_of : ℕ → List Running → List Running
without_runs_of function running = without_row_at (by_function function) running
