-- Where each message stands, by the events of a trace, the world and a moment.
use Rattle.std.specs.Prelude.{◌≡◌, ℕ, ◌+◌, nat_le, nat_lt, Bool, true, false, not, ◌&&◌, ◌||◌, ◌↔◌, List, [], fold, find, Option, Some, None, is_some}
use Rattle.std.specs.List.{list_any}
use Rattle.fh_event.specs.declared.reply.Place.{Place}
use Rattle.fh_event.specs.declared.reply.Place.TheVariants as place
use Rattle.fh_queues.specs.declared.row.Message.{Message}
use Rattle.fh_queues.specs.Rows.{is_before, live_row}
use Rattle.fh_queues.specs.Places.{place_of}
use Rattle.fh_queues.specs.Tellings.{held_after}
use Rattle.fh_hub.specs.World.{World}
use Rattle.fh_hub.specs.Replay.{Entry, Event, trace, replay}
use Rattle.fh_hub.specs.Signs.{signs, bears}
use Rattle.fh_hub.specs.Laws.{births}

-- the event in which the message of this number was born
abbrev pub birth_of : ℕ → List Event → Option Event
birth_of n events = find (λ e. bears n e.reply) events

abbrev pub expiry_by : Option Event → Option ℕ
expiry_by None = None
expiry_by (Some e) = (signs e).expiry

abbrev pub queue_by : Option Event → List ℕ
queue_by None = []
queue_by (Some e) = (signs e).queue

-- the expiry of the message of this number; none where it has none, or isn't born
abbrev pub expiry_of : ℕ → List Event → Option ℕ
expiry_of n events = expiry_by (birth_of n events)

-- the queue of the message of this number
abbrev pub queue_of : ℕ → List Event → List ℕ
queue_of n events = queue_by (birth_of n events)

-- the end of the last hold of the message
abbrev pub last_hold : ℕ → List Event → Option ℕ
last_hold n events = fold (λ held e. held_after held ((signs e).hold n)) None events

abbrev pub ends_after : ℕ → Option ℕ → Bool
ends_after t None = false
ends_after t (Some end) = nat_lt t end

abbrev pub waits : ℕ → Option Message → Bool
waits t None = false
waits t (Some row) = not row.held || nat_le row.visible_at t

-- a live row that isn't held, or whose hidden time is over
abbrev pub is_waiting : ℕ → World → ℕ → Bool
is_waiting n w t = waits t (live_row n t w.parts.queues.rows)

-- a live row whose last hold ends later
abbrev pub is_held : ℕ → List Event → World → ℕ → Bool
is_held n events w t = is_some (live_row n t w.parts.queues.rows) && ends_after t (last_hold n events)

-- some event removed the message
abbrev pub was_removed : ℕ → List Event → Bool
was_removed n events = list_any (λ e. (signs e).removes n) events

-- the expiry has come, and nothing removed the message
abbrev pub has_expired : ℕ → List Event → ℕ → Bool
has_expired n events t = not (is_before t (expiry_of n events)) && not (was_removed n events)

abbrev pub one_if : Bool → ℕ
one_if true = 1
one_if false = 0

-- in how many of the four places the message is
abbrev pub places : ℕ → List Event → World → ℕ → ℕ
places n events w t =
    one_if (is_waiting n w t) + one_if (is_held n events w t) + one_if (was_removed n events) + one_if
    (has_expired n events t)

-- a message that was born is in exactly one place, and one without expiry has never expired; what isn't born
-- is nowhere
pub record IsInOnePlace (history : List Entry) (n t : ℕ) : Type 0 where
  pub born : births n (trace history) ≡ 1 → places n (trace history) (replay history) t ≡ 1
  pub unborn : births n (trace history) ≡ 0 → places n (trace history) (replay history) t ≡ 0
  pub lasting : expiry_of n (trace history) ≡ None → has_expired n (trace history) t ≡ false

-- this answer says exactly where the message is: in its queue, waiting or held until the end of its last hold,
-- or how it went, or that it isn't born
pub record IsPlace (n : ℕ) (events : List Event) (w : World) (t : ℕ) (answer : Place) : Type 0 where
  pub waiting : (is_waiting n w t ≡ true) ↔ (answer ≡ place.Waiting (queue_of n events))
  pub held : (end : ℕ) → ((is_held n events w t ≡ true) × (last_hold n events ≡ Some end)) ↔
      (answer ≡ place.Held (queue_of n events) end)
  pub removed : (was_removed n events ≡ true) ↔ (answer ≡ place.Deleted)
  pub expired : (has_expired n events t ≡ true) ↔ (answer ≡ place.Expired)
  pub unknown : (births n events ≡ 0) ↔ (answer ≡ place.Unknown)

-- what is answered by the world's rows and ends is the place by the events
abbrev pub IsLocated : List Entry → ℕ → ℕ → Type 0
IsLocated history n t = IsPlace n (trace history) (replay history) t (place_of (replay history).parts.queues n t)
