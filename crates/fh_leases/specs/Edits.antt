-- Changes of the leases, planned and staged.
use Rattle.std.specs.Prelude.{◌≡◌, ℕ, ◌≤◌, List, length}
use Rattle.fh_event.specs.Judging.{Makes}
use Rattle.fh_leases.specs.declared.act.Act.{Act}
use Rattle.fh_leases.specs.declared.done.LeaseDone.{LeaseDone}
use Rattle.fh_leases.specs.Part.{LeasePart}
use Rattle.fh_leases.specs.Acts.{by_acts}
use Rattle.fh_leases.specs.Outcome.{Outcome}

-- what the leases hold: their part of the world, and for how many more there is room
pub record LeaseState : Type 0 where
  pub part : LeasePart
  pub room : ℕ

-- the acts of a change, and its answer
pub record Change : Type 0 where
  pub acts : List Act
  pub done : LeaseDone

pub record Staged : Type 0 where
  pub acts : List Act
  pub done : LeaseDone

-- what a change comes to: none is quiet
abbrev pub planned : LeasePart → Change → Outcome
planned part change = Makes (by_acts part change.acts) change.done

-- what settling a staged change makes
abbrev pub made : LeaseState → Staged → LeasePart × LeaseDone
made state staged = (by_acts state.part staged.acts, staged.done)

-- no change is staged: the leases keep nothing of one
abbrev pub IsIdle : LeaseState → Type 0
IsIdle state = Unit {0}

-- there is room for what it adds
abbrev pub IsStaged : LeaseState → Staged → Type 0
IsStaged state staged = length staged.acts ≤ state.room
