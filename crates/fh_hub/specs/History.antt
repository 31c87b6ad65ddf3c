-- Entries, as the bytes that a history keeps.
use Rattle.std.specs.Prelude.{◌≡◌, ℕ, List, Result, Ok, Err}
use Rattle.fh_event.specs.declared.command.Command.{Command}
use Rattle.fh_event.specs.declared.command.Command.TheVariants.{Locate}
use Rattle.fh_event.specs.declared.faults.EventFault.{EventFault}
use Rattle.fh_event.specs.Reading.{entry_read}
use Rattle.fh_hub.specs.Replay.{Entry, bytes_of}

-- the entries, and for how many more there is room
pub record HistoryState : Type 0 where
  pub entries : List Entry
  pub room : ℕ

-- what was read; a history keeps no bytes that can't be read
abbrev pub entry_or_none : Result (ℕ × Command) EventFault → Entry
entry_or_none (Ok x) = record { command = x.1; moment = x.0 }
entry_or_none (Err fault) = record { command = Locate 0; moment = 0 }

unfoldable pub entry_of : List ℕ → Entry
entry_of bytes = entry_or_none (entry_read bytes)

-- the bytes spell the entry that is read of them
abbrev pub IsSpelled : List ℕ → Type 0
IsSpelled bytes = bytes ≡ bytes_of (entry_of bytes)
