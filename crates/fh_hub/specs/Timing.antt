-- The due times of timers, by the events of a trace.
use Rattle.std.specs.Prelude.{◌≡◌, ℕ, ◌*◌, ◌≤◌, ◌==◌, nat_lt, Bool, true, ◌&&◌, if◌then◌else◌, List, fold, Option, Some, None, IfSome, pos}
use Rattle.fh_event.specs.declared.command.Command.{Command}
use Rattle.fh_event.specs.declared.command.Command.TheVariants.{Arm, Tick}
use Rattle.fh_event.specs.declared.reply.Reply.{Reply}
use Rattle.fh_event.specs.declared.reply.Reply.TheVariants.{PastDue, Ticked}
use Rattle.fh_ncrontab.specs.Schedule.{is_in}
use Rattle.fh_dispatch.specs.declared.timer.Timer.{Timer}
use Rattle.fh_dispatch.specs.InWork.{runs_in}
use Rattle.fh_dispatch.specs.Timers.{timer_of}
use Rattle.fh_hub.specs.Stores.{Parts}
use Rattle.fh_hub.specs.Replay.{Entry, Event, trace, replay}

-- the timer that a command is about
abbrev pub timer_in : Parts → Command → Option Timer
timer_in parts (Arm function) = timer_of function parts.work.functions
timer_in parts (Tick function) = timer_of function parts.work.functions
timer_in parts command = None

-- the due time of the run that a reply tells, on time or past due
abbrev pub due_told : Reply → Option ℕ
due_told (PastDue due next) = Some due
due_told (Ticked due next) = Some due
due_told reply = None

abbrev pub due_if : ℕ → Option Timer → Option ℕ → Option ℕ
due_if f None due = None
due_if f (Some timer) due = if timer.function == f then due else None

-- the due time that the event tells of the function of number f
abbrev pub due_of : ℕ → Event → Option ℕ
due_of f e = due_if f (timer_in e.before.parts e.command) (due_told e.reply)

-- whether the due times told so far rose, each above the one before, and the last of them
pub record DueTimes : Type 0 where
  pub last : Option ℕ
  pub rose : Bool

abbrev pub is_above : ℕ → Option ℕ → Bool
is_above due None = true
is_above due (Some last) = nat_lt last due

abbrev pub and_then : DueTimes → Option ℕ → DueTimes
and_then times None = times
and_then times (Some due) = record { last = Some due; rose = times.rose && is_above due times.last }

abbrev pub due_times : ℕ → List Event → DueTimes
due_times f events = fold (λ times e. and_then times (due_of f e)) (record { last = None; rose = true }) events

-- the time is one of the timer's schedule
pub record IsScheduled (timer : Timer) (time : ℕ) : Type 0 where
  pub second : ℕ
  pub at : time ≡ second * 1000
  pub scheduled : is_in timer.schedule (pos second) ≡ true

-- a due time that the event tells is one of the schedule in force
abbrev pub IsDueInTime : Event → Type 0
IsDueInTime e = IfSome (timer_in e.before.parts e.command) (λ timer. IfSome (due_told e.reply) (IsScheduled timer))

-- of the function of this number the due times rise, and one run at most is ready
pub record RunsInTurn (history : List Entry) (f : ℕ) : Type 0 where
  pub rise : (due_times f (trace history)).rose ≡ true
  pub one : runs_in f (replay history).parts.work ≤ 1
