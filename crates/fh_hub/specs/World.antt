-- The world, and one step of it. A step is judged in this order: the moment, the names, the rules of the
-- stores, the answers that change nothing, the size of the entry, what a store is too full for, and the room in the
-- journal. What is left then is recorded.
use Rattle.std.specs.Prelude.{ℕ, ◌-◌, ◌^◌, min, max, nat_le, nat_lt, if◌then◌else◌, [], ◌∷◌, length, Option, Some, None, option_map}
use Rattle.fh_base.specs.Limits.{longest_payload}
use Rattle.fh_base.specs.Moments.{greatest_moment}
use Rattle.fh_base.specs.declared.rule.Rule.{Rule}
use Rattle.fh_base.specs.declared.rule.Rule.TheVariants.{MomentTooLate, TooLarge, JournalFull}
use Rattle.fh_event.specs.declared.command.Command.{Command}
use Rattle.fh_event.specs.declared.reply.Reply.{Reply}
use Rattle.fh_event.specs.Entries.{entry}
use Rattle.fh_event.specs.Judging.{Judged}
use Rattle.fh_event.specs.Judging as judging
use Rattle.fh_queues.specs.Rules.{first_broken}
use Rattle.fh_journal.specs.Journal.{first_gate, gate_behind, full_at}
use Rattle.fh_hub.specs.Stores.{Parts, no_parts, Done, outcomes, too_full}
use Rattle.fh_hub.specs.Asked.{Asked, Refuses, Reads, AsksAll, asked}
use Rattle.fh_hub.specs.Replies.{reply_of}

-- the stores' parts, the place of the journal's next gate, and the moment of the last entry
pub record World : Type 0 where
  pub parts : Parts
  pub gate : ℕ
  pub last : ℕ

-- before the first entry
abbrev pub empty : World
empty = record { parts = no_parts; gate = first_gate; last = 0 }

-- a command acts at the greater of the moment handed in and that of the last entry
abbrev pub effective_moment : World → ℕ → ℕ
effective_moment w now = max now w.last

-- what a step answers: only a recorded one changes the world
pub data Stepped : Type 0 where
  Refused : Rule → Stepped
  Read : Reply → Stepped
  Quieted : Reply → Stepped
  Recorded : World → Reply → Stepped

-- an entry has at most as many bytes as a frame's payload may have
abbrev pub size_rule : ℕ → Option Rule
size_rule size = if nat_lt longest_payload size then Some (TooLarge (min size (2 ^ 64 - 1)) longest_payload) else None

-- the journal has room for the entry and the gate behind it, or is full
abbrev pub room_rule : ℕ → ℕ → Option Rule
room_rule gate size = option_map (λ length. JournalFull length) (full_at gate size)

-- what an entry of so many bytes is too large for, or its stores or the journal too full for
abbrev pub full_rule : ℕ → ℕ → Option Rule → Option Rule
full_rule gate size full = first_broken (size_rule size ∷ full ∷ room_rule gate size ∷ [])

-- the world with the stores as an entry of so many bytes left them
abbrev pub world_with : World → Parts → ℕ → ℕ → World
world_with w parts m size = record { parts = parts; gate = gate_behind w.gate size; last = m }

-- the recorded step of what the stores make, by the moment and the size of its entry
abbrev pub recorded : World → ℕ → ℕ → Parts → Done → Stepped
recorded w m size parts answer = Recorded (world_with w parts m size) (reply_of answer)

abbrev pub unless_full : Option Rule → Stepped → Stepped
unless_full None stepped = stepped
unless_full (Some rule) stepped = Refused rule

-- refused by the first rule of the stores, answered without an entry where nothing changes, refused where the entry is
-- too large or a store or the journal is too full, and else recorded
abbrev pub judged : World → ℕ → ℕ → Option Rule → Judged Parts Done → Stepped
judged w m size full (judging.Refuses rule) = Refused rule
judged w m size full (judging.Quiets answer) = Quieted (reply_of answer)
judged w m size full (judging.Makes parts answer) =
    unless_full (full_rule w.gate size full) (recorded w m size parts answer)

-- the step that a command makes from what it asks
abbrev pub stepped_by : World → ℕ → ℕ → Asked → Stepped
stepped_by w m size (Refuses rule) = Refused rule
stepped_by w m size (Reads reply) = Read reply
stepped_by w m size (AsksAll asks) = judged w m size (too_full w.parts asks m) (outcomes w.parts asks m)

-- one step, by a command that acts at this moment
unfoldable pub step_at : World → Command → ℕ → Stepped
step_at w command m = stepped_by w m (length (entry m command)) (asked w.parts command m)

-- one step, by a command and the moment handed in
unfoldable pub step : World → Command → ℕ → Stepped
step w command now =
    if nat_le now greatest_moment then step_at w command (effective_moment w now) else Refused MomentTooLate
