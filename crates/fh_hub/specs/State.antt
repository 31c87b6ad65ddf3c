-- What a hub keeps in memory, and the changes that it makes.
use Rattle.std.specs.Prelude.{◌≡◌, ℕ, ◌*◌, ◌≤◌, List, length, None}
use Rattle.fh_base.specs.Moments.{greatest_moment}
use Rattle.fh_base.specs.Limits.{longest_payload}
use Rattle.fh_event.specs.Entries.{HasShortTexts, GivesGoodMasks, GivesShortList}
use Rattle.fh_journal.specs.Journal.{opened, full_at, most_bytes}
use Rattle.fh_hub.specs.Stores.{Parts, Done}
use Rattle.fh_hub.specs.StoreEdits.{StoresState, parts_of}
use Rattle.fh_hub.specs.StoreEdits as store_edits
use Rattle.fh_hub.specs.World.{World, recorded, step}
use Rattle.fh_hub.specs.Replay.{Entry, bytes_of, payloads_of, replay, IsLegal}

-- the stores, the last moment, the place of the next gate, and the history with the room that was reserved in it
pub record HubState : Type 0 where
  pub stores : StoresState
  pub last : ℕ
  pub gate : ℕ
  pub history : List Entry
  pub room : ℕ

abbrev pub world_of : HubState → World
world_of s = record { parts = parts_of s.stores; gate = s.gate; last = s.last }

-- the gate stands behind the history's frames, in a journal that isn't too long, and no counter is near its end
pub record IsBounded (s : HubState) : Type 0 where
  pub place : s.gate ≡ length (opened (payloads_of s.history))
  pub within : s.gate ≤ most_bytes
  pub timed : s.last ≤ greatest_moment
  pub number : s.stores.queues.part.next_number ≤ s.gate
  pub receipt : s.stores.queues.part.next_receipt ≤ s.gate * s.gate
  pub version : s.stores.blobs.part.next_version ≤ s.gate
  pub function : s.stores.work.part.next_function ≤ s.gate
  pub invocation : s.stores.work.part.next_invocation ≤ s.gate
  pub session : s.stores.work.part.session ≤ s.gate

-- the world is that of the history, which is legal
pub record IsFaithful (s : HubState) : Type 0 where
  pub world : world_of s ≡ replay s.history
  pub legal : IsLegal s.history

-- no change is staged
abbrev pub IsIdle : HubState → Type 0
IsIdle s = store_edits.IsIdle s.stores

-- world and history are the same
pub record IsUnchanged (old new : HubState) : Type 0 where
  pub world : world_of new ≡ world_of old
  pub history : new.history ≡ old.history

-- these parts and answers are what the machine makes of the entry, and the entry fits
pub record IsPlanned (s : HubState) (made : Parts) (done : Done) (e : Entry) : Type 0 where
  pub steps : step (world_of s) e.command e.moment ≡ recorded (world_of s) e.moment (length (bytes_of e)) made done
  pub own_moment : s.last ≤ e.moment
  pub outcome : store_edits.IsOutcome (parts_of s.stores) made done
  pub texts : HasShortTexts e.command
  pub masks : GivesGoodMasks e.command
  pub list : GivesShortList e.command
  pub short : length (bytes_of e) ≤ longest_payload
  pub room : full_at s.gate (length (bytes_of e)) ≡ None
