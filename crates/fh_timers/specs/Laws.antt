-- What holds of each ask that changes something.
use Rattle.std.specs.Prelude.{◌≡◌, ⊤, ℕ, ◌*◌, ◌<◌, ◌≤◌, ◌==◌, Bool, true, false, ◌⊎◌, if◌then◌else◌, Option, Some, None, IfSome, pos}
use Rattle.fh_base.specs.Moments.{greatest_moment}
use Rattle.fh_event.specs.Judging.{Makes}
use Rattle.fh_ncrontab.specs.declared.schedule.Schedule.{Schedule}
use Rattle.fh_ncrontab.specs.Schedule.{is_in}
use Rattle.fh_timers.specs.declared.row.TimerRow.{TimerRow}
use Rattle.fh_timers.specs.declared.ask.TimerAsk.{TimerAsk}
use Rattle.fh_timers.specs.declared.ask.TimerAsk.TheVariants.{Arm, Tick, Remove, Nothing}
use Rattle.fh_timers.specs.declared.done.TimerDone.{TimerDone}
use Rattle.fh_timers.specs.declared.done.TimerDone.TheVariants.{PastDue, Armed, Ticked, Removed}
use Rattle.fh_timers.specs.declared.done.TimerDone.TheVariants as done
use Rattle.fh_timers.specs.Part.{TimerPart, row_of}
use Rattle.fh_timers.specs.Outcome.{outcome}
use Rattle.fh_timers.specs.Runs.{run_of}

-- the last due time wasn't after the moment at which the row was set, and the next one is
pub record IsRising (row : TimerRow) : Type 0 where
  pub past : IfSome row.last (λ last. last ≤ row.updated)
  pub future : IfSome row.next (λ next. row.updated < next)

-- so it is with the row of each function
abbrev pub IsWhole : TimerPart → Type 0
IsWhole part = (f : ℕ) → IfSome (row_of f part.timers) IsRising

-- what holds of each ask that changes a whole part, by the part before, the moment, the part after and the answer
abbrev pub OfEachAsk : (TimerPart → ℕ → TimerAsk → TimerPart → TimerDone → Type 0) → Type 0
OfEachAsk Holds =
    (part : TimerPart) (ask : TimerAsk) (m : ℕ) (after : TimerPart) (answer : TimerDone)
    → IsWhole part → m ≤ greatest_moment → outcome part ask m ≡ Makes after answer → Holds part m ask after answer

abbrev pub StaysWhole : TimerPart → ℕ → TimerAsk → TimerPart → TimerDone → Type 0
StaysWhole part m ask after answer = IsWhole after

-- the function that an ask is about
abbrev pub is_about : ℕ → TimerAsk → Bool
is_about f (Arm function schedule startup monitor busy) = function == f
is_about f (Tick function schedule busy) = function == f
is_about f (Remove function) = function == f
is_about f Nothing = false

-- the schedule that an ask gives this function
abbrev pub schedule_given : ℕ → TimerAsk → Option Schedule
schedule_given f (Arm function schedule startup monitor busy) = if function == f then Some schedule else None
schedule_given f (Tick function schedule busy) = if function == f then Some schedule else None
schedule_given f ask = None

-- the due time that is answered
abbrev pub due_time : TimerDone → Option ℕ
due_time (PastDue due next) = Some due
due_time (Ticked due next) = Some due
due_time answer = None

-- the due time is the stored next one, after the last one, and has come; then it is the last one, and the next one
-- is after the moment
pub record IsDueAt (m due : ℕ) (row later : TimerRow) : Type 0 where
  pub stored : row.next ≡ Some due
  pub rises : IfSome row.last (λ last. last < due)
  pub come : due ≤ m
  pub kept : later.last ≡ Some due
  pub goes_on : IfSome later.next (λ next. m < next)

abbrev pub IsDueBetween : ℕ → ℕ → Option TimerRow → Option TimerRow → Type 0
IsDueBetween m due (Some row) (Some later) = IsDueAt m due row later
IsDueBetween m due row later = ⊥

-- what a due time that is answered is for the function's row, before and after
abbrev pub RaisesDueTimes : TimerPart → ℕ → TimerAsk → TimerPart → TimerDone → Type 0
RaisesDueTimes part m ask after answer =
    (f due : ℕ) → is_about f ask ≡ true → due_time answer ≡ Some due
    → IsDueBetween m due (row_of f part.timers) (row_of f after.timers)

-- the time is one of the schedule, after the moment
pub record IsTimeOf (schedule : Schedule) (m time : ℕ) : Type 0 where
  pub second : ℕ
  pub at : time ≡ second * 1000
  pub scheduled : is_in schedule (pos second) ≡ true
  pub later : m < time

abbrev pub IsTimeGiven : Option Schedule → ℕ → ℕ → Type 0
IsTimeGiven None m time = ⊥
IsTimeGiven (Some schedule) m time = IsTimeOf schedule m time

abbrev pub next_of : Option TimerRow → Option ℕ
next_of None = None
next_of (Some row) = row.next

-- a next time is as before, or one of the schedule that the ask gives
abbrev pub KeepsSchedules : TimerPart → ℕ → TimerAsk → TimerPart → TimerDone → Type 0
KeepsSchedules part m ask after answer =
    (f time : ℕ) → next_of (row_of f after.timers) ≡ Some time
    → (next_of (row_of f part.timers) ≡ Some time) ⊎ IsTimeGiven (schedule_given f ask) m time

-- a time that is over at the moment and is before the next one is so afterwards too, also where a row is made anew
abbrev pub KeepsLater : TimerPart → ℕ → TimerAsk → TimerPart → TimerDone → Type 0
KeepsLater part m ask after answer =
    (f time : ℕ) → time ≤ m → IfSome (next_of (row_of f part.timers)) (λ next. time < next)
    → IfSome (next_of (row_of f after.timers)) (λ next. time < next)

-- the row of a function that the ask isn't about stays as it is
abbrev pub KeepsOthers : TimerPart → ℕ → TimerAsk → TimerPart → TimerDone → Type 0
KeepsOthers part m ask after answer =
    (f : ℕ) → is_about f ask ≡ false → row_of f after.timers ≡ row_of f part.timers

-- the answer is one to this ask
abbrev pub answers : TimerAsk → TimerDone → Bool
answers (Arm function schedule startup monitor busy) (PastDue due next) = true
answers (Arm function schedule startup monitor busy) (Armed next ready) = true
answers (Tick function schedule busy) (Ticked due next) = true
answers (Remove function) Removed = true
answers Nothing done.Nothing = true
answers ask answer = false

-- an ask that changes something has its own answer, whatever the part before
abbrev pub AnswersTheAsk : Type 0
AnswersTheAsk =
    (part : TimerPart) (ask : TimerAsk) (m : ℕ) (after : TimerPart) (answer : TimerDone)
    → outcome part ask m ≡ Makes after answer → answers ask answer ≡ true

-- a job of the asked function is in work
abbrev pub is_busy : TimerAsk → Bool
is_busy (Arm function schedule startup monitor busy) = busy
is_busy (Tick function schedule busy) = busy
is_busy ask = false

-- a run is made ready where no job of the function is in work
abbrev pub RunsWhereIdle : Type 0
RunsWhereIdle =
    (part : TimerPart) (ask : TimerAsk) (m : ℕ) (after : TimerPart) (answer : TimerDone)
    → outcome part ask m ≡ Makes after answer → IfSome (run_of answer) (λ run. is_busy ask ≡ false)

-- a function whose row is removed has none
abbrev pub RemovesRows : TimerPart → ℕ → TimerAsk → TimerPart → TimerDone → Type 0
RemovesRows part m (Remove function) after answer = row_of function after.timers ≡ None
RemovesRows part m ask after answer = ⊤
