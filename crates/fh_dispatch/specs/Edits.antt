-- Changes of the work, planned and staged.
use Rattle.std.specs.Prelude.{ℕ, ◌<◌, ◌≤◌, ◌^◌, Bool, if◌then◌else◌, List, length}
use Rattle.fh_event.specs.Judging.{Quiets, Makes}
use Rattle.fh_dispatch.specs.declared.act.Act.{Act}
use Rattle.fh_dispatch.specs.declared.done.WorkDone.{WorkDone}
use Rattle.fh_dispatch.specs.Part.{WorkPart}
use Rattle.fh_dispatch.specs.Acts.{by_acts}
use Rattle.fh_dispatch.specs.Outcome.{Outcome}

-- what the work holds: its part of the world, and for how many more functions, ready jobs and invocations there is room
pub record WorkState : Type 0 where
  pub part : WorkPart
  pub room : ℕ
  pub job_room : ℕ
  pub run_room : ℕ

-- the acts of a change, and its answer; a quiet one changes nothing
pub record Change : Type 0 where
  pub quiet : Bool
  pub acts : List Act
  pub done : WorkDone

pub record Staged : Type 0 where
  pub acts : List Act
  pub done : WorkDone

abbrev pub planned : WorkPart → Change → Outcome
planned part change =
    if change.quiet then Quiets change.done else Makes (by_acts part change.acts) change.done

-- what settling a staged change makes
abbrev pub made : WorkState → Staged → WorkPart × WorkDone
made state staged = (by_acts state.part staged.acts, staged.done)

-- the counters are far from their ends
abbrev pub HasNumbers : WorkPart → Type 0
HasNumbers part =
    (part.next_function < 2 ^ 63) × (part.next_invocation < 2 ^ 63) × (part.session < 2 ^ 63)

-- no change is staged: the work keeps nothing of one
abbrev pub IsIdle : WorkState → Type 0
IsIdle state = Unit {0}

-- there is room for what it adds
pub record IsStaged (state : WorkState) (staged : Staged) : Type 0 where
  pub numbers : HasNumbers state.part
  pub few : length staged.acts < 2 ^ 63
  pub room : length staged.acts ≤ state.room
  pub job_room : length staged.acts ≤ state.job_room
  pub run_room : length staged.acts ≤ state.run_room
