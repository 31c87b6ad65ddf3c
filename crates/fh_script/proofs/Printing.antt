-- That a text which an answer prints is one word of a line, and is read as the same text.
use Rattle.std.proofs.Common.{◌≡◌, ℕ, ◌<◌, ◌==◌, nat_eq, Bool, true, false, cond, List, [], ◌∷◌, ◌++◌, length, All, Ok, refl, sym, ap, ◌∙◌, arith}
use Rattle.std.specs.Prelude.{codes}
use Rattle.std.specs.List.{flat_map}
use Rattle.std.specs.Str.{IsUtf8, bytes_eq}
use Rattle.std.proofs.lemmas.Bool.Decides.{nat_tests}
use Rattle.std.proofs.lemmas.List.Elements.{All-nil, All-cons, All-head, All-tail, All-append, All-weaker}
use Rattle.std.proofs.lemmas.List.Splits.{slice_split_none}
use Rattle.percent_encoding.specs.Percent.{percent_decode, percent_encode_byte}
use Rattle.percent_encoding.proofs.PercentLemmas.{IsByte, IsEscapeByte, All-percent_encode_byte, percent_decode-nil, percent_decode-percent_encode_byte, percent_decode_not_percent}
use Rattle.fh_event.specs.Lines.{escaped, escaped_byte, is_escaped}
use Rattle.fh_script.specs.Forms.{text_of}
use Rattle.fh_script.specs.Words.{words}
use Rattle.fh_script.proofs.Decoding.{text_of-decoded}

-- what a byte is printed as, by whether it is escaped
abbrev printed : Bool → ℕ → List ℕ
printed t b = cond t (percent_encode_byte b) (b ∷ [])

first_decoded : (t : Bool) (b : ℕ) (rest : List ℕ) → is_escaped b ≡ t → b < 256
    → percent_decode (printed t b ++ rest) ≡ b ∷ percent_decode rest
first_decoded true b rest is small = percent_decode-percent_encode_byte b rest small
first_decoded false b rest is small = percent_decode_not_percent b rest (λ percent. grind (arith, nat_tests))

all_decoded : (bytes : List ℕ) → All IsByte bytes → percent_decode (flat_map escaped_byte bytes) ≡ bytes
all_decoded [] small = percent_decode-nil
all_decoded (b ∷ bytes) small =
    first_decoded (is_escaped b) b (flat_map escaped_byte bytes) refl (All-head IsByte b bytes small)
    ∙ ap (λ (x : List ℕ). b ∷ x) (all_decoded bytes (All-tail IsByte b bytes small))

-- a text that isn't empty isn't printed `%`
other_word : (t : Bool) (b : ℕ) (rest : List ℕ) → is_escaped b ≡ t → bytes_eq (printed t b ++ rest) (codes "%") ≡ false
unfolding percent_encode_byte
other_word true b rest is = refl
other_word false b rest is = let other : nat_eq b 37 ≡ false = grind (arith, nat_tests) in rw other refl

pub read_again : (text : List ℕ) → All IsByte text → IsUtf8 text → text_of (escaped text) ≡ Ok text
unfolding text_of escaped
read_again [] small utf8 = refl
read_again (b ∷ bytes) small utf8 =
    text_of-decoded _ (b ∷ bytes) (other_word (is_escaped b) b (flat_map escaped_byte bytes) refl)
    (sym (all_decoded (b ∷ bytes) small)) (b ∷ bytes) utf8 refl

abbrev IsNoSpace : ℕ → Type 0
IsNoSpace b = (b == 32) ≡ false

escape_is_no_space : (b : ℕ) → IsEscapeByte b → IsNoSpace b
escape_is_no_space b is = grind (arith, nat_tests)

first_has_no_space : (t : Bool) (b : ℕ) → is_escaped b ≡ t → All IsNoSpace (printed t b)
first_has_no_space true b is = All-weaker IsEscapeByte IsNoSpace escape_is_no_space (percent_encode_byte b)
    (All-percent_encode_byte b)
first_has_no_space false b is = All-cons IsNoSpace b [] (grind (arith, nat_tests)) (All-nil IsNoSpace)

has_no_space : (bytes : List ℕ) → All IsNoSpace (flat_map escaped_byte bytes)
has_no_space [] = All-nil IsNoSpace
has_no_space (b ∷ bytes) =
    All-append IsNoSpace (escaped_byte b) (flat_map escaped_byte bytes) (first_has_no_space (is_escaped b) b refl)
    (has_no_space bytes)

has_a_byte : (t : Bool) (b : ℕ) (rest : List ℕ) → 0 < length (printed t b ++ rest)
unfolding percent_encode_byte
has_a_byte true b rest = omega arith
has_a_byte false b rest = omega arith

one_part : (word : List ℕ) → All IsNoSpace word → 0 < length word → words word ≡ word ∷ []
one_part word plain some =
    let not_empty : (length word == 0) ≡ false = grind (arith, nat_tests) in
    rw (slice_split_none (λ b. b == 32) word plain, not_empty) refl

pub one_word : (text : List ℕ) → words (escaped text) ≡ escaped text ∷ []
unfolding escaped
one_word [] = refl
one_word (b ∷ bytes) =
    one_part (flat_map escaped_byte (b ∷ bytes)) (has_no_space (b ∷ bytes))
    (has_a_byte (is_escaped b) b (flat_map escaped_byte bytes))
