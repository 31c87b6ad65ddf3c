-- Histories, the world that they give, and their traces.
use Rattle.std.specs.Prelude.{◌≡◌, ◌≤◌, ⊤, ℕ, List, [], ◌∷◌, ◌++◌, map}
use Rattle.fh_event.specs.declared.command.Command.{Command}
use Rattle.fh_event.specs.declared.reply.Reply.{Reply}
use Rattle.fh_event.specs.Entries.{entry, IsEntry}
use Rattle.fh_hub.specs.World.{World, empty, Stepped, Refused, Read, Quieted, Recorded, step, effective_moment}

-- a recorded command with its effective moment
pub record Entry : Type 0 where
  pub command : Command
  pub moment : ℕ

-- the entry of a command that acts at this moment
abbrev pub entry_for : Command → ℕ → Entry
entry_for command m = record { command = command; moment = m }

-- the bytes by which the journal keeps it
abbrev pub bytes_of : Entry → List ℕ
bytes_of e = entry e.moment e.command

-- moment and numbers fit their fields, and texts are texts: what is written of it is read as the same
abbrev pub IsWritten : Entry → Type 0
IsWritten e = IsEntry (bytes_of e) e.moment e.command

abbrev pub payloads_of : List Entry → List (List ℕ)
payloads_of history = map bytes_of history

-- the world that a step leaves
abbrev pub world_after : World → Stepped → World
world_after w (Refused rule) = w
world_after w (Read reply) = w
world_after w (Quieted reply) = w
world_after w (Recorded new reply) = new

abbrev pub after : World → Entry → World
after w e = world_after w (step w e.command e.moment)

abbrev pub replay_from : World → List Entry → World
replay_from w [] = w
replay_from w (e ∷ entries) = replay_from (after w e) entries

-- the world that a history gives
abbrev pub replay : List Entry → World
replay history = replay_from empty history

-- the entry is recorded in this world, at its own effective moment
pub record IsNext (w : World) (e : Entry) : Type 0 where
  pub new : World
  pub reply : Reply
  pub records : step w e.command e.moment ≡ Recorded new reply
  pub own_moment : w.last ≤ e.moment

abbrev pub IsLegalFrom : World → List Entry → Type 0
IsLegalFrom w [] = ⊤
IsLegalFrom w (e ∷ entries) = (IsWritten e × IsNext w e) × IsLegalFrom (after w e) entries

-- each entry can be written, and is recorded in the world that the entries before it give
abbrev pub IsLegal : List Entry → Type 0
IsLegal history = IsLegalFrom empty history

-- a recorded command, its moment and its reply, with the worlds before and after
pub record Event : Type 0 where
  pub before : World
  pub command : Command
  pub moment : ℕ
  pub reply : Reply
  pub after : World

abbrev pub event_of : World → Command → ℕ → Stepped → List Event
event_of w command m (Refused rule) = []
event_of w command m (Read reply) = []
event_of w command m (Quieted reply) = []
event_of w command m (Recorded new reply) =
    record { before = w; command = command; moment = m; reply = reply; after = new } ∷ []

abbrev pub trace_from : World → List Entry → List Event
trace_from w [] = []
trace_from w (e ∷ entries) = event_of w e.command e.moment (step w e.command e.moment) ++ trace_from (after w e) entries

-- what a history recorded, in order
abbrev pub trace : List Entry → List Event
trace history = trace_from empty history

-- what a step adds to the history: the command with its effective moment, where it is recorded
abbrev pub noted_of : Command → ℕ → Stepped → List Entry
noted_of command m (Refused rule) = []
noted_of command m (Read reply) = []
noted_of command m (Quieted reply) = []
noted_of command m (Recorded new reply) = entry_for command m ∷ []

abbrev pub noted : World → Command → ℕ → List Entry
noted w command now = noted_of command (effective_moment w now) (step w command now)
