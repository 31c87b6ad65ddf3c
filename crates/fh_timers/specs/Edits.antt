-- Changes of the timers, planned and staged.
use Rattle.std.specs.Prelude.{◌≡◌, ℕ, ◌≤◌, Result, Ok, Err}
use Rattle.fh_event.specs.declared.faults.PlanFault.{PlanFault}
use Rattle.fh_event.specs.Judging.{Quiets, Makes}
use Rattle.fh_timers.specs.declared.act.Act.{Act}
use Rattle.fh_timers.specs.declared.done.TimerDone.{TimerDone}
use Rattle.fh_timers.specs.declared.done.TimerDone.TheVariants.{Running, Same, Unarmed, NotDue}
use Rattle.fh_timers.specs.Part.{TimerPart}
use Rattle.fh_timers.specs.Acts.{acted}
use Rattle.fh_timers.specs.Outcome.{Outcome}

-- what the timers hold: their part of the world, and for how many more rows there is room
pub record TimerState : Type 0 where
  pub part : TimerPart
  pub room : ℕ

-- the act of a change, and its answer
pub record Change : Type 0 where
  pub act : Act
  pub done : TimerDone

pub record Staged : Type 0 where
  pub act : Act
  pub done : TimerDone

-- what a change comes to: four answers are quiet
abbrev pub judged : TimerPart → Act → TimerDone → Outcome
judged part act Running = Quiets Running
judged part act Same = Quiets Same
judged part act Unarmed = Quiets Unarmed
judged part act NotDue = Quiets NotDue
judged part act answer = Makes (acted part act) answer

abbrev pub planned : TimerPart → Change → Outcome
planned part change = judged part change.act change.done

-- the change comes to this outcome of the part; no ask is refused, and planning takes no memory
abbrev pub IsPlanOf : TimerPart → Outcome → Result Change PlanFault → Type 0
IsPlanOf part outcome (Ok change) = outcome ≡ planned part change
IsPlanOf part outcome (Err fault) = ⊥

-- what settling a staged change makes
abbrev pub made : TimerState → Staged → TimerPart × TimerDone
made state staged = (acted state.part staged.act, staged.done)

-- no change is staged: the timers keep nothing of one
abbrev pub IsIdle : TimerState → Type 0
IsIdle state = Unit {0}

-- there is room for the row that it may add
abbrev pub IsStaged : TimerState → Staged → Type 0
IsStaged state staged = 1 ≤ state.room
