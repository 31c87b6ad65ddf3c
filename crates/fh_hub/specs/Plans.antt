-- What planning a command comes to.
use Rattle.std.specs.Prelude.{◌≡◌, ⊤, ℕ, ◌≤◌, length}
use Rattle.fh_event.specs.declared.command.Command.{Command}
use Rattle.fh_event.specs.declared.faults.PlanFault.{PlanFault}
use Rattle.fh_event.specs.declared.faults.PlanFault.TheVariants.{Rule as OfRule, NoMemory}
use Rattle.fh_event.specs.Entries.{entry, IsEntry}
use Rattle.fh_hub.specs.Stores.{Asks, outcomes, too_full}
use Rattle.fh_hub.specs.StoreEdits.{parts_of, changed, answered}
use Rattle.fh_hub.specs.StoreEdits as store_edits
use Rattle.fh_hub.specs.World.{Stepped, Refused, Read, Quieted, recorded, judged, effective_moment}
use Rattle.fh_hub.specs.Replay.{Entry, bytes_of, entry_for}
use Rattle.fh_hub.specs.State.{HubState, world_of, IsPlanned}
use Rattle.fh_hub.specs.declared.plan.Change.{Change}
use Rattle.fh_hub.specs.declared.plan.Staged.{Staged}
use Rattle.fh_hub.specs.declared.plan.Plan.{Plan}
use Rattle.fh_hub.specs.declared.plan.Plan.TheVariants.{Reads, Quiet, Records}

-- the entry of a command at the effective moment
abbrev pub entry_at : HubState → Command → ℕ → Entry
entry_at s command now = entry_for command (effective_moment (world_of s) now)

-- the step that asks of the stores come to, by a command that acts at this moment
abbrev pub step_of_asks : HubState → Command → Asks → ℕ → Stepped
step_of_asks s command asks m =
    judged (world_of s) m (length (entry m command)) (too_full (parts_of s.stores) asks m)
    (outcomes (parts_of s.stores) asks m)

-- the change is what the machine makes of this entry
abbrev pub IsPlannedAs : HubState → Change → Entry → Type 0
IsPlannedAs s change e = IsPlanned s (changed (parts_of s.stores) change.stores) (answered change.stores) e

-- the change is recorded, as this entry
pub record IsChangeFor (s : HubState) (stepped : Stepped) (e : Entry) (change : Change) : Type 0 where
  pub steps :
      stepped
      ≡ recorded (world_of s) e.moment (length (bytes_of e)) (changed (parts_of s.stores) change.stores)
      (answered change.stores)
  pub moment : change.moment ≡ e.moment
  pub planned : IsPlannedAs s change e

-- the plan of a step with this answer, whose entry is this one where it is recorded
abbrev pub IsPlanFor : HubState → Stepped → Entry → Plan → Type 0
IsPlanFor s stepped e (Reads reply) = stepped ≡ Read reply
IsPlanFor s stepped e (Quiet reply) = stepped ≡ Quieted reply
IsPlanFor s stepped e (Records change) = IsChangeFor s stepped e change

-- a rule is the machine's; want of memory says nothing
abbrev pub IsFaultOfStep : PlanFault → Stepped → Type 0
IsFaultOfStep (OfRule rule) stepped = stepped ≡ Refused rule
IsFaultOfStep NoMemory stepped = ⊤

-- a staged change is what the machine makes of an entry, and has its memory
pub record IsStaged (s : HubState) (staged : Staged) (e : Entry) : Type 0 where
  pub planned : IsPlanned s (store_edits.made s.stores staged.stores) (store_edits.made_done s.stores staged.stores) e
  pub moment : staged.moment ≡ e.moment
  pub spelled : IsEntry staged.payload e.moment e.command
  pub stores : store_edits.IsStaged s.stores staged.stores
  pub room : 1 ≤ s.room
