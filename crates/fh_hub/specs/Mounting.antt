-- How mounting ends, and which entries are refused.
use Rattle.std.specs.Prelude.{◌≡◌, ⊤, ℕ, List, ◌∷◌, ◌++◌, length, Option, Some, None, Result, Ok, Err}
use Rattle.fh_base.specs.Faults.{Rose}
use Rattle.fh_event.specs.declared.faults.PlanFault.{PlanFault}
use Rattle.fh_event.specs.declared.faults.PlanFault.TheVariants as plans
use Rattle.fh_event.specs.Reading.{entry_read}
use Rattle.fh_journal.specs.Journal.{opened, Stands}
use Rattle.fh_journal.specs.Mounting.{BreaksAt, IsForeign, IsLeft, mounted_file}
use Rattle.fh_journal.specs.declared.faults.MountFault.{MountFault}
use Rattle.fh_journal.specs.declared.faults.MountFault.TheVariants as mounts
use Rattle.fh_hub.specs.World.{World}
use Rattle.fh_hub.specs.Replay.{Entry, payloads_of, replay, IsLegal, IsNext}
use Rattle.fh_hub.specs.Hub.{StandsForHistory}
use Rattle.fh_hub.specs.declared.faults.HubFault.{HubFault}
use Rattle.fh_hub.specs.declared.faults.HubFault.TheVariants.{BadHeader, BadFrame, DiskFault, NoMemory}
use Rattle.fh_hub.specs.declared.faults.HubRule.{HubRule}
use Rattle.fh_hub.specs.declared.faults.HubRule.TheVariants.{Frame, Event, Refused}
use Rattle.fh_hub.specs.declared.faults.EntryFault.{EntryFault}
use Rattle.fh_hub.specs.declared.faults.EntryFault.TheVariants as entries

-- the bytes are an entry that isn't recorded behind this history at its own moment
pub record IsNotRecorded (history : List Entry) (payload : List ℕ) : Type 0 where
  pub entry : Entry
  pub read : entry_read payload ≡ Ok (entry.moment, entry.command)
  pub refused : IsNext (replay history) entry → ⊥

-- why a payload can't stand behind a history: its bytes are no entry, or the machine refuses what they say
abbrev pub IsRefusedBy : HubRule → List Entry → List ℕ → Type 0
IsRefusedBy (Frame rule) history payload = ⊥
IsRefusedBy (Event fault) history payload = entry_read payload ≡ Err fault
IsRefusedBy Refused history payload = IsNotRecorded history payload

-- whole frames come first that are the entries of a legal history, and the frame at this place is refused
pub record IsRefusedAt (payloads : List (List ℕ)) (at : ℕ) (rule : HubRule) : Type 0 where
  pub history : List Entry
  pub legal : IsLegal history
  pub payload : List ℕ
  pub more : List (List ℕ)
  pub whole : payloads ≡ payloads_of history ++ payload ∷ more
  pub place : at ≡ length (opened (payloads_of history))
  pub refused : IsRefusedBy rule history payload

-- all frames of the file are whole, and one of them is refused
pub record BreaksEntryAt (file : List ℕ) (at : ℕ) (rule : HubRule) : Type 0 where
  pub payloads : List (List ℕ)
  pub gate : ℕ
  pub stands : Stands file payloads gate
  pub refused : IsRefusedAt payloads at rule

-- the file is broken first at this place: faults of frames come before those of entries
abbrev pub IsBrokenAt : List ℕ → ℕ → HubRule → Type 0
IsBrokenAt file at (Frame rule) = BreaksAt file at rule
IsBrokenAt file at (Event fault) = BreaksEntryAt file at (Event fault)
IsBrokenAt file at Refused = BreaksEntryAt file at Refused

-- the file stands for no legal history
abbrev pub StandsForNone : List ℕ → Type 0
StandsForNone file = (history : List Entry) → IsLegal history → StandsForHistory history file → ⊥

-- why the payloads of a journal aren't replayed
abbrev pub HasReplayReason : List (List ℕ) → HubFault → Type 0
HasReplayReason payloads BadHeader = ⊥
HasReplayReason payloads (BadFrame at rule) = IsRefusedAt payloads at rule
HasReplayReason payloads DiskFault = ⊥
HasReplayReason payloads NoMemory = ⊤

-- why one payload isn't replayed behind a history
abbrev pub HasEntryReason : List Entry → List ℕ → EntryFault → Type 0
HasEntryReason history payload (entries.Event fault) = entry_read payload ≡ Err fault
HasEntryReason history payload entries.Refused = IsNotRecorded history payload
HasEntryReason history payload entries.NoMemory = ⊤

-- why bytes aren't read as an entry
abbrev pub HasReadReason : List ℕ → EntryFault → Type 0
HasReadReason bytes (entries.Event fault) = entry_read bytes ≡ Err fault
HasReadReason bytes entries.Refused = ⊥
HasReadReason bytes entries.NoMemory = ⊤

-- why an entry has no change
abbrev pub HasPlanReason : World → Entry → EntryFault → Type 0
HasPlanReason w e (entries.Event fault) = ⊥
HasPlanReason w e entries.Refused = IsNext w e → ⊥
HasPlanReason w e entries.NoMemory = ⊤

abbrev pub fault_of_plan : PlanFault → EntryFault
fault_of_plan (plans.Rule rule) = entries.Refused
fault_of_plan plans.NoMemory = entries.NoMemory

abbrev pub fault_of_entry : ℕ → EntryFault → HubFault
fault_of_entry at (entries.Event fault) = BadFrame at (Event fault)
fault_of_entry at entries.Refused = BadFrame at Refused
fault_of_entry at entries.NoMemory = NoMemory

abbrev pub fault_of_mount : MountFault → HubFault
fault_of_mount mounts.BadHeader = BadHeader
fault_of_mount (mounts.BadFrame at rule) = BadFrame at (Frame rule)
fault_of_mount mounts.DiskFault = DiskFault
fault_of_mount mounts.NoMemory = NoMemory

-- What a mount leaves of the bytes, and why it refuses a file. A file that is refused stands for no legal history, and
-- stays.
abbrev pub MountsBytes : List ℕ → List ℕ → Option HubFault → Type 0
MountsBytes was now None = now ≡ mounted_file was
MountsBytes was now (Some BadHeader) = (now ≡ was) × IsForeign was × StandsForNone was
MountsBytes was now (Some (BadFrame at rule)) = (now ≡ was) × IsBrokenAt was at rule × StandsForNone was
MountsBytes was now (Some DiskFault) = IsLeft was now
MountsBytes was now (Some NoMemory) = IsLeft was now

-- the same where the bytes are told, which they stay
abbrev pub MountsHistory : Option (List ℕ) → Option (List ℕ) → Option HubFault → Type 0
MountsHistory None now fault = now ≡ None
MountsHistory (Some was) None fault = ⊥
MountsHistory (Some was) (Some now) fault = MountsBytes was now fault

-- the count of the disk's faults rose at a disk fault, and stays at any other end of a mount
abbrev pub CountsFaults : {T : Type 0} → ℕ → ℕ → Result T HubFault → Type 0
CountsFaults before now (Ok made) = now ≡ before
CountsFaults before now (Err BadHeader) = now ≡ before
CountsFaults before now (Err (BadFrame at rule)) = now ≡ before
CountsFaults before now (Err DiskFault) = Rose before now
CountsFaults before now (Err NoMemory) = now ≡ before

-- at any end of a mount but a disk fault
abbrev pub UnlessDiskFault : {T : Type 0} → Type 0 → Result T HubFault → Type 0
UnlessDiskFault P (Ok made) = P
UnlessDiskFault P (Err BadHeader) = P
UnlessDiskFault P (Err (BadFrame at rule)) = P
UnlessDiskFault P (Err DiskFault) = ⊤
UnlessDiskFault P (Err NoMemory) = P
