-- How long entries are.
use Rattle.std.proofs.Common.{◌≡◌, refl, ℕ, ◌+◌, ◌≤◌, List, [], ◌∷◌, ◌++◌, length, Some, None, arith, length-append}
use Rattle.std.specs.Int.{w32, to_be_bytes}
use Rattle.std.specs.List.{flat_map, AllByRecursion}
use Rattle.fh_base.specs.Limits.{longest_payload}
use Rattle.fh_event.specs.declared.command.Command.{Command}
use Rattle.fh_event.specs.Fields.{Field, number, words, maybe_number, maybe_words, form, masks, flag, item_count, number_bytes, text_bytes, maybe_bytes, spelled, IsShort}
use Rattle.fh_event.specs.Kinds.{fields_of, kind_number, kind_of}
use Rattle.fh_event.specs.Entries.{entry, HasShortTexts}

pub ruleset adding = (length-append)

number_length : (n : ℕ) → length (number_bytes n) ≡ 8
unfolding number_bytes
number_length n = refl

pub entry_is : (moment : ℕ) (command : Command) → length (entry moment command) ≡ 9 + length (flat_map spelled (fields_of command))
entry_is moment command =
    let rest = kind_number (kind_of command) ∷ flat_map spelled (fields_of command) in
    omega (arith, length-append (number_bytes moment) rest, number_length moment)

-- a field that is short as a whole has a short text
short_field : (f : Field) → length (spelled f) ≤ longest_payload → IsShort f
unfolding text_bytes maybe_bytes
short_field (number n) few = tt
short_field (words text) few = omega (arith, few, length-append (to_be_bytes w32 (length text)) text)
short_field (maybe_number n) few = tt
short_field (form n) few = tt
short_field (masks times) few = tt
short_field (flag b) few = tt
short_field (item_count n) few = tt
short_field (maybe_words None) few = tt
short_field (maybe_words (Some text)) few = omega (arith, few, length-append (to_be_bytes w32 (length text)) text)

short_fields : (fields : List Field) → length (flat_map spelled fields) ≤ longest_payload → AllByRecursion IsShort fields
short_fields [] few = tt
short_fields (f ∷ fields) few =
    let parts = length-append (spelled f) (flat_map spelled fields) in
    (short_field f (omega (arith, few, parts)), short_fields fields (omega (arith, few, parts)))

-- so has an entry
pub short_texts : (command : Command) → 9 + length (flat_map spelled (fields_of command)) ≤ longest_payload → HasShortTexts command
short_texts command few = short_fields (fields_of command) (omega (arith, few))
