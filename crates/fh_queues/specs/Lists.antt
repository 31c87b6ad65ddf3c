-- The part that the lists are, what holds of them at all times, and the room that acts need.
use Rattle.std.specs.Prelude.{◌≡◌, ⊤, ℕ, ◌+◌, ◌≤◌, Bool, List, [], ◌∷◌, length, map, Option, Some, None, vec_len, vec_capacity}
use Rattle.fh_queues.specs.declared.lists.Lists.{Lists}
use Rattle.fh_queues.specs.declared.row.Message.{Message}
use Rattle.fh_queues.specs.declared.done.Ending.{Ending}
use Rattle.fh_queues.specs.declared.act.Act.{Act}
use Rattle.fh_queues.specs.declared.act.Act.TheVariants.{AddQueue, AddRow, ChangeRow, EndRows}
use Rattle.fh_queues.specs.Part.{QueuePart}
use Rattle.fh_queues.specs.Lanes.{LaneValue, lane_of, queues_of, IsReady}
use Rattle.fh_queues.specs.Index.{kept, ends_of, ended_slot, IsIndexed}

abbrev pub part_of : Lists → QueuePart
part_of lists = record {
  queues = queues_of lists.lanes;
  rows = kept lists.slots.items;
  ends = ends_of lists.slots.items;
  next_number = length lists.slots.items + 1;
  next_receipt = lists.next_receipt;
}

abbrev pub lanes_in : Lists → List ℕ → LaneValue
lanes_in lists name = lane_of name lists.lanes

pub record IsSound (lists : Lists) : Type 0 where
  pub indexed : IsIndexed (lanes_in lists) lists.slots.items lists.expiries
  pub count : lists.count ≡ length (kept lists.slots.items)

-- there is room for so many more rows
pub record HasRoom (lists : Lists) (more : ℕ) : Type 0 where
  pub slots : vec_len lists.slots + more ≤ vec_capacity lists.slots
  pub expiries : length lists.slots.items + more ≤ length lists.expiries

-- the lane that the act needs has room for so many more messages
abbrev pub IsReadyFor : List LaneValue → ℕ → Act → Type 0
IsReadyFor lanes more (AddQueue queue) = IsReady more (lane_of queue lanes)
IsReadyFor lanes more (AddRow new) = IsReady more (lane_of new.queue lanes)
IsReadyFor lanes more (ChangeRow number change) = ⊤
IsReadyFor lanes more (EndRows which ending) = ⊤

abbrev pub AreReady : List LaneValue → ℕ → List Act → Type 0
AreReady lanes more [] = ⊤
AreReady lanes more (act ∷ acts) = IsReadyFor lanes more act × AreReady lanes more acts

-- the acts have all their memory
pub record Fits (lists : Lists) (acts : List Act) : Type 0 where
  pub room : HasRoom lists (length acts)
  pub ready : AreReady lists.lanes (length acts) acts

abbrev pub FitsAhead : Lists → Option (List Act) → Type 0
FitsAhead lists None = ⊤
FitsAhead lists (Some acts) = Fits lists acts

-- the same queues, counters, numbers and room; keys may differ
pub record Stays (old new : Lists) : Type 0 where
  pub queues : queues_of new.lanes ≡ queues_of old.lanes
  pub receipt : new.next_receipt ≡ old.next_receipt
  pub numbers : (name : List ℕ) → (lanes_in new name).numbers ≡ (lanes_in old name).numbers
  pub keys : (name : List ℕ) → length (lanes_in new name).keys ≡ length (lanes_in old name).keys
  pub spare : (name : List ℕ) → (lanes_in new name).room ≡ (lanes_in old name).room
  pub room : (k : ℕ) → HasRoom old k → HasRoom new k

-- the rows that pass the test have ended so, and nothing else changed but keys
pub record Ends (test : Message → Bool) (ending : Ending) (old new : Lists) : Type 0 where
  pub slots : new.slots.items ≡ map (ended_slot test ending) old.slots.items
  pub sound : IsSound new
  pub stays : Stays old new
