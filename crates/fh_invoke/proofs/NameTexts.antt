-- A queue's name has ASCII characters alone, so it is a text.
use Rattle.std.proofs.Common.{◌≡◌, ℕ, ◌<◌, true, List, [], ◌∷◌, ◌||◌, arith}
use Rattle.std.proofs.lemmas.Bool.Decides.{nat_tests}
use Rattle.std.proofs.lemmas.Str.{IsUtf8-from_ascii, is_utf8-from_IsUtf8}
use Rattle.std.proofs.lemmas.Str.Ascii.{IsAscii-from_all}
use Rattle.std.proofs.lemmas.List.Elements.{All-nil, All-cons}
use Rattle.std.specs.Prelude.{All}
use Rattle.std.specs.List.{list_all}
use Rattle.std.specs.Str.{is_utf8}
use Rattle.fh_base.specs.Names.{is_letter_or_digit, is_dash, is_queue_name}

abbrev Low : ℕ → Type 0
Low b = b < 128

all_low : (name : List ℕ) → list_all (λ c. is_letter_or_digit c || is_dash c) name ≡ true → All Low name
all_low [] plain = All-nil Low
all_low (b ∷ name) plain =
    All-cons Low b name (grind (arith, nat_tests)) (all_low name (grind (arith, nat_tests)))

pub is_text : (name : List ℕ) → is_queue_name name ≡ true → is_utf8 name ≡ true
is_text name named = is_utf8-from_IsUtf8 name
    (IsUtf8-from_ascii name (IsAscii-from_all name (all_low name (grind (arith, nat_tests)))))
