-- The work's part of the world.
use Rattle.std.specs.Prelude.{ℕ, List, [], Option, None, Some}
use Rattle.std.specs.Cmp.Lexicographic.{slice_cmp}
use Rattle.std.specs.Ordering.{nat_cmp}
use Rattle.std.specs.declared.cmp.Ordering.{Ordering}
use Rattle.fh_rows.specs.Rows.{row_at}
use Rattle.fh_queues.specs.Part.{QueuePart}
use Rattle.fh_blobs.specs.Part.{BlobPart}
use Rattle.fh_leases.specs.Part.{LeasePart}
use Rattle.fh_timers.specs.Part.{TimerPart}
use Rattle.fh_dispatch.specs.declared.function.Function.{Function}
use Rattle.fh_dispatch.specs.declared.ready.ReadyJob.{ReadyJob}
use Rattle.fh_dispatch.specs.declared.running.Running.{Running}

-- the functions in order of their names, the jobs that are ready, the invocations that are running, the numbers that
-- the next new function and the next invocation get, and how many sessions have begun
pub record WorkPart : Type 0 where
  pub functions : List Function
  pub ready : List ReadyJob
  pub running : List Running
  pub next_function : ℕ
  pub next_invocation : ℕ
  pub session : ℕ

abbrev pub no_work : WorkPart
no_work =
    record { functions = []; ready = []; running = []; next_function = 1; next_invocation = 1; session = 0 }

-- how a function stands to a name: names are in order of their bytes
abbrev pub by_name : List ℕ → Function → Ordering
by_name name function = slice_cmp nat_cmp function.name name

-- the function of this name
abbrev pub function_of : List ℕ → List Function → Option Function
function_of name functions = row_at (by_name name) functions

-- the number of a function that is there, or the next one
abbrev pub number_or : ℕ → Option Function → ℕ
number_or next None = next
number_or next (Some function) = function.number

-- the parts of the other stores at which the work looks
pub record Others : Type 0 where
  pub queues : QueuePart
  pub blobs : BlobPart
  pub leases : LeasePart
  pub timers : TimerPart

abbrev pub others_with : QueuePart → BlobPart → LeasePart → TimerPart → Others
others_with queues blobs leases timers =
    record { queues = queues; blobs = blobs; leases = leases; timers = timers }
