-- What turns make of a hub.
use Rattle.std.specs.Prelude.{◌≡◌, ◌⊎◌, true, List, [], ◌∷◌, ◌++◌}
use Rattle.fh_disk.specs.declared.disk.Disk.{Ghosts}
use Rattle.fh_hub.specs.declared.hub.Hub.{Hub}
use Rattle.fh_hub.specs.State.{world_of, IsFaithful}
use Rattle.fh_hub.specs.Hub.{KeepsIn, faults_of}
use Rattle.fh_hub.specs.Replay.{Entry}
use Rattle.fh_hub.specs.Turns.{Turn, AreLegal, world_behind, count_behind, recorded, failed}

abbrev pub IsOneOf : Entry → List Entry → Type 0
IsOneOf e [] = ⊥
IsOneOf e (x ∷ entries) = (e ≡ x) ⊎ IsOneOf e entries

-- where its disk tells, a hub keeps its history, and where it is torn one of these entries perhaps behind it
pub record KeepsOneIn {D : Type 0} {J : Ghosts D} (hub : Hub D J) (entries : List Entry) : Type 0 where
  pub entry : Entry
  pub one : hub.journal.torn ≡ true → IsOneOf entry entries
  pub keeps : KeepsIn hub entry

-- The turns are legal in the world and with the count of the old hub. The new one has the old one's history with the
-- recorded ones behind it, their world and their count, and its file may keep one at which the disk failed. The disk
-- that it was lent is the same.
pub record Made {D : Type 0} {J : Ghosts D} (old : Hub D J) (turns : List Turn) (new : Hub D J) : Type 0 where
  pub legal : AreLegal (world_of old.state) (faults_of old) turns
  pub world : world_of new.state ≡ world_behind (world_of old.state) turns
  pub history : new.state.history ≡ old.state.history ++ recorded (world_of old.state) turns
  pub faithful : IsFaithful old.state → IsFaithful new.state
  pub count : faults_of new ≡ count_behind (faults_of old) turns
  pub keeps : (entries : List Entry) → KeepsOneIn old entries
      → KeepsOneIn new (entries ++ failed (world_of old.state) turns)
  pub same : new.journal.disk.ghost_name ≡ old.journal.disk.ghost_name
