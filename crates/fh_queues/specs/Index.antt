-- How rows are found: by number, by the moment from which on they are visible, and by their expiry.
use Rattle.std.specs.Prelude.{◌≡◌, ⊤, ℕ, ◌+◌, ◌-◌, ◌<◌, ◌≤◌, ◌^◌, ◌⊎◌, Bool, false, ◌&&◌, if◌then◌else◌, List, [], ◌∷◌, length, get_or, map, slice_index, Option, Some, None}
use Rattle.fh_minima.specs.Tower.{AreAbove}
use Rattle.fh_queues.specs.declared.row.Message.{Message}
use Rattle.fh_queues.specs.declared.done.Ending.{Ending}
use Rattle.fh_queues.specs.declared.done.Ending.TheVariants.{Expired}
use Rattle.fh_queues.specs.declared.slot.Slot.{Slot}
use Rattle.fh_queues.specs.declared.slot.Slot.TheVariants.{Row, Ended}
use Rattle.fh_queues.specs.Rows.{is_of, is_live}
use Rattle.fh_queues.specs.Lanes.{LaneValue}

-- the rows that stand at numbers, in order
abbrev pub kept : List Slot → List Message
kept [] = []
kept (Row row place ∷ slots) = row ∷ kept slots
kept (Ended ending ∷ slots) = kept slots

abbrev pub ending_of : Slot → Option Ending
ending_of (Row row place) = None
ending_of (Ended ending) = Some ending

-- how the message of each number went, or none where it stands
abbrev pub ends_of : List Slot → List (Option Ending)
ends_of slots = map ending_of slots

abbrev pub slot_at : List Slot → ℕ → Slot
slot_at slots i = get_or slots i (Ended Expired)

-- the row has ended so, where it passes the test
abbrev pub ended_slot : (Message → Bool) → Ending → Slot → Slot
ended_slot test ending (Row row place) = if test row then Ended ending else Row row place
ended_slot test ending (Ended end) = Ended end

-- in this queue, and live
abbrev pub live_of : List ℕ → ℕ → Message → Bool
live_of queue m row = is_of queue row && is_live m row

-- the key is no later than the expiry
abbrev pub IsNoLater : ℕ → Option ℕ → Type 0
IsNoLater key None = ⊤
IsNoLater key (Some expiry) = key ≤ expiry

-- a row has its number, its place in its queue's lane, a key there that comes and is no later than the row is visible,
-- and one no later than its expiry
pub record IsListed (lane : LaneValue) (expiries : List ℕ) (i : ℕ) (row : Message) (place : ℕ) : Type 0 where
  pub numbered : row.number ≡ i + 1
  pub within : place < length lane.numbers
  pub listed : slice_index lane.numbers place ≡ i + 1
  pub shown : slice_index lane.keys place ≤ row.visible_at
  pub comes : slice_index lane.keys place < 2 ^ 64 - 1
  pub expires : IsNoLater (slice_index expiries i) row.expiry

-- the numbers of a lane rise up to the last one, and each has a key
pub record IsLane (last : ℕ) (lane : LaneValue) : Type 0 where
  pub keyed : length lane.numbers ≤ length lane.keys
  pub rising :
      (i j : ℕ) → i < j → j < length lane.numbers → slice_index lane.numbers i < slice_index lane.numbers j
  pub within :
      (i : ℕ) → i < length lane.numbers
      → (1 ≤ slice_index lane.numbers i) × (slice_index lane.numbers i ≤ last)

-- each row is found; what the index has besides is passed over
pub record IsIndexed (lane : List ℕ → LaneValue) (slots : List Slot) (expiries : List ℕ) : Type 0 where
  pub rows :
      (i : ℕ) (row : Message) (place : ℕ) → slot_at slots i ≡ Row row place
      → IsListed (lane row.queue) expiries i row place
  pub lanes : (name : List ℕ) → IsLane (length slots) (lane name)
  pub keyed : length slots ≤ length expiries

-- the slot of a number stands one place before it
abbrev pub IsSlotOf : ℕ → ℕ → Option ℕ → Type 0
IsSlotOf number len None = (number ≡ 0) ⊎ (len < number)
IsSlotOf number len (Some at) = (at + 1 ≡ number) × (at < len)

-- the first slot from there on whose row may have expired
abbrev pub IsNextDue : List ℕ → ℕ → ℕ → ℕ → Option ℕ → Type 0
IsNextDue expiries len from m None = AreAbove expiries from len m
IsNextDue expiries len from m (Some at) = (from ≤ at) × (at < len) × AreAbove expiries from at m

-- no row of these slots passes
abbrev pub Skips : (Message → Bool) → List Slot → ℕ → ℕ → Type 0
Skips test slots from to =
    (i : ℕ) (row : Message) (place : ℕ) → from ≤ i → i < to → slot_at slots i ≡ Row row place → test row ≡ false
