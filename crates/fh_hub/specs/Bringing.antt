-- How many jobs of a function are in work, by the events of a trace.
use Rattle.std.specs.Prelude.{◌≡◌, ⊤, ℕ, ◌≤◌, ◌==◌, Bool, false, Option, None, Some}
use Rattle.fh_event.specs.declared.command.Command.{Command}
use Rattle.fh_event.specs.declared.command.Command.TheVariants.{Fetch, Arm, Tick}
use Rattle.fh_dispatch.specs.declared.timer.Timer.{Timer}
use Rattle.fh_dispatch.specs.Part.{WorkPart}
use Rattle.fh_dispatch.specs.Queues.{trigger_of}
use Rattle.fh_dispatch.specs.InWork.{in_work}
use Rattle.fh_dispatch.specs.Timers.{timer_of}
use Rattle.fh_dispatch.specs.Laws.{number_for, IsWithin}
use Rattle.fh_hub.specs.Replay.{Event}

-- behind a fetch its function has no more jobs in work than a batch beside its threshold, by the settings in force
abbrev pub IsWithinBound : Event → Command → Type 0
IsWithinBound e (Fetch function) = IsWithin e.after.parts.work (trigger_of function e.before.parts.work.functions)
IsWithinBound e command = ⊤

abbrev pub is_timer_of : ℕ → Option Timer → Bool
is_timer_of f None = false
is_timer_of f (Some timer) = timer.function == f

-- the command may bring jobs to the function of this number: it fetches for it, or is about its timer
abbrev pub brings : ℕ → WorkPart → Command → Bool
brings f part (Fetch function) = number_for part function == f
brings f part (Arm function) = is_timer_of f (timer_of function part.functions)
brings f part (Tick function) = is_timer_of f (timer_of function part.functions)
brings f part command = false

-- fetches keep to their bound, and no other event brings more jobs into work
pub record KeepsToBounds (e : Event) : Type 0 where
  pub fetch : IsWithinBound e e.command
  pub others :
      (f : ℕ) → brings f e.before.parts.work e.command ≡ false
      → in_work f e.after.parts.work ≤ in_work f e.before.parts.work
