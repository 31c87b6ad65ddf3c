-- The entry that bytes spell.
use Rattle.std.proofs.Common.{◌≡◌, ℕ, List, sym, ap, ◌∙◌}
use Rattle.fh_event.specs.Entries.{IsEntry}
use Rattle.fh_event.proofs.EntryLaws.{read_again}
use Rattle.fh_hub.specs.Replay.{Entry, bytes_of}
use Rattle.fh_hub.specs.History.{entry_of, entry_or_none, IsSpelled}

pub entry_is : (bytes : List ℕ) (e : Entry) → IsEntry bytes e.moment e.command → entry_of bytes ≡ e
unfolding entry_of
entry_is bytes e is = ap entry_or_none (read_again bytes e.moment e.command is)

pub is_spelled : (bytes : List ℕ) (e : Entry) → IsEntry bytes e.moment e.command → IsSpelled bytes
is_spelled bytes e is = is.spelling ∙ sym (ap bytes_of (entry_is bytes e is))
