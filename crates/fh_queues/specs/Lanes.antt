-- Lanes: by queue, the numbers that were ever put in it, and a key for each.
use Rattle.std.specs.Prelude.{◌≡◌, ℕ, ◌+◌, ◌-◌, ◌<◌, ◌≤◌, Bool, true, false, if◌then◌else◌, List, [], ◌∷◌, length, slice_index, Option, Some, None, Result, Ok, Err}
use Rattle.std.specs.List.{AllWithin, HoldsAt}
use Rattle.std.specs.Str.{bytes_eq}
use Rattle.fh_minima.specs.Tower.{AreAbove}
use Rattle.fh_queues.specs.declared.lanes.Listed.{Listed}
use Rattle.fh_queues.specs.Order.{comes_before}

-- a lane: its queue's name, whether that queue is made, the numbers in order, a key for each place and maybe more,
-- and for how many more numbers there is room
pub record LaneValue : Type 0 where
  pub name : List ℕ
  pub made : Bool
  pub numbers : List ℕ
  pub keys : List ℕ
  pub room : ℕ

abbrev pub no_lane : LaneValue
no_lane = record { name = []; made = false; numbers = []; keys = []; room = 0 }

abbrev pub name_of : LaneValue → List ℕ
name_of lane = lane.name

-- the lane of this name
abbrev pub lane_of : List ℕ → List LaneValue → LaneValue
lane_of name [] = no_lane
lane_of name (lane ∷ lanes) = if bytes_eq lane.name name then lane else lane_of name lanes

-- the names of those that are made
abbrev pub queues_of : List LaneValue → List (List ℕ)
queues_of [] = []
queues_of (lane ∷ lanes) = if lane.made then lane.name ∷ queues_of lanes else queues_of lanes

-- the lane of the name stands there, or belongs there
abbrev pub IsSought : List ℕ → List LaneValue → Result ℕ ℕ → Type 0
IsSought name lanes (Ok place) = (place < length lanes) × HoldsAt (λ lane. lane.name ≡ name) lanes place
IsSought name lanes (Err place) =
    (place ≤ length lanes) × AllWithin (λ lane. comes_before lane.name name ≡ true) lanes 0 place
    × AllWithin (λ lane. comes_before name lane.name ≡ true) lanes place (length lanes)

-- the keys are the same, and there may be more
pub record KeepsKeys (old new : List ℕ) : Type 0 where
  pub longer : length old ≤ length new
  pub same : (i : ℕ) → i < length old → slice_index new i ≡ slice_index old i

-- the lane has the same numbers and keys, and maybe more room
pub record GrowsLane (old new : LaneValue) : Type 0 where
  pub name : new.name ≡ old.name
  pub made : new.made ≡ old.made
  pub numbers : new.numbers ≡ old.numbers
  pub keys : KeepsKeys old.keys new.keys
  pub room : old.room ≤ new.room

-- the same numbers, keys and room
pub record SameKeys (old new : LaneValue) : Type 0 where
  pub numbers : new.numbers ≡ old.numbers
  pub keys : new.keys ≡ old.keys
  pub room : new.room ≡ old.room

-- each lane has the same numbers and keys, and maybe more room; the same queues are made
pub record Grows (old new : List LaneValue) : Type 0 where
  pub queues : queues_of new ≡ queues_of old
  pub numbers : (name : List ℕ) → (lane_of name new).numbers ≡ (lane_of name old).numbers
  pub keys : (name : List ℕ) → KeepsKeys (lane_of name old).keys (lane_of name new).keys
  pub room : (name : List ℕ) → (lane_of name old).room ≤ (lane_of name new).room

-- there is room for so many more messages
pub record IsReady (more : ℕ) (lane : LaneValue) : Type 0 where
  pub room : more ≤ lane.room
  pub keys : length lane.numbers + more ≤ length lane.keys

-- the first place from there on whose key is at most the bound, and the slot of its number
abbrev pub IsNextIn : LaneValue → ℕ → ℕ → Option Listed → Type 0
IsNextIn lane from most None = AreAbove lane.keys from (length lane.numbers) most
IsNextIn lane from most (Some next) =
    (from ≤ next.place) × (next.place < length lane.numbers)
    × (next.slot ≡ slice_index lane.numbers next.place - 1) × AreAbove lane.keys from next.place most
