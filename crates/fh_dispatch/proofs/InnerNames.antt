-- The inner queue's name is a queue's name: letters, two dashes apart, and at most twenty digits.
use Rattle.std.proofs.Common.{◌≡◌, ℕ, ◌+◌, ◌-◌, ◌<◌, ◌≤◌, ◌^◌, Bool, true, false, leb, List, [], ◌∷◌, ◌++◌, length, get_or, refl, ap, ◌∙◌, arith, length-append}
use Rattle.std.specs.Prelude.{not, ◌&&◌, ◌||◌, nat_le, codes}
use Rattle.std.specs.List.{list_all}
use Rattle.std.specs.Fmt.{decimal}
use Rattle.std.specs.Str.Parse.{AllDigits}
use Rattle.std.proofs.lemmas.Bool.{le-leb}
use Rattle.std.proofs.lemmas.Bool.Decides.{nat_tests}
use Rattle.std.proofs.lemmas.Fmt.{decimal_is_IsNumeral, decimal_nonempty, length-decimal-le}
use Rattle.std.proofs.lemmas.List.{get_or-append-add}
use Rattle.std.proofs.lemmas.List.Folds.{list_all-append}
use Rattle.std.proofs.lemmas.Str.Parse.{digit_from_value, digit_at}
use Rattle.fh_base.specs.Names.{is_letter_or_digit, is_dash, begins_with_dash, has_two_dashes_together, has_queue_length, has_firm_ends, is_queue_name}
use Rattle.fh_dispatch.specs.Queues.{inner_queue}

abbrev front : List ℕ
front = codes "webjobs-blobtrigger-"

both_true : (a b : Bool) → a ≡ true → b ≡ true → (a && b) ≡ true
both_true a b p q = rw (p, q) refl

second_true : (a b : Bool) → b ≡ true → (a || b) ≡ true
second_true true b is = refl
second_true false b is = is

first_true : (a b : Bool) → a ≡ true → (a || b) ≡ true
first_true a b is = rw is refl

neither : (a b : Bool) → a ≡ false → b ≡ false → (a || b) ≡ false
neither a b p q = rw (p, q) refl

and_false : (a b : Bool) → a ≡ false → (a && b) ≡ false
and_false a b p = rw p refl

digit_is_firm : (c : ℕ) → 48 ≤ c → c ≤ 57 → is_letter_or_digit c ≡ true
digit_is_firm c low high = second_true (nat_le 97 c && nat_le c 122) (nat_le 48 c && nat_le c 57)
    (both_true (nat_le 48 c) (nat_le c 57) (le-leb 48 c low) (le-leb c 57 high))

digit_is_no_dash : (c : ℕ) → 48 ≤ c → is_dash c ≡ false
digit_is_no_dash c low = grind (arith, nat_tests, low)

digits-characters : (ds : List ℕ) → AllDigits 10 ds → list_all (λ c. is_letter_or_digit c || is_dash c) ds ≡ true
digits-characters [] all = refl
digits-characters (c ∷ ds) all =
    let range = digit_from_value c all.0 in
    both_true _ _ (first_true (is_letter_or_digit c) (is_dash c) (digit_is_firm c range.0 range.1))
    (digits-characters ds all.1)

digits-begin : (ds : List ℕ) → AllDigits 10 ds → begins_with_dash ds ≡ false
digits-begin [] all = refl
digits-begin (c ∷ ds) all = digit_is_no_dash c (digit_from_value c all.0).0

digits-dashes : (ds : List ℕ) → AllDigits 10 ds → has_two_dashes_together ds ≡ false
digits-dashes [] all = refl
digits-dashes (c ∷ ds) all = neither (is_dash c && begins_with_dash ds) (has_two_dashes_together ds)
    (and_false (is_dash c) (begins_with_dash ds) (digit_is_no_dash c (digit_from_value c all.0).0))
    (digits-dashes ds all.1)

digits-firm : (ds : List ℕ) (i : ℕ) → AllDigits 10 ds → i < length ds → is_letter_or_digit (get_or ds i 0) ≡ true
digits-firm ds i all within = let range = digit_at ds i all within in digit_is_firm (get_or ds i 0) range.0 range.1

front-dashes : (ds : List ℕ) → has_two_dashes_together (front ++ ds)
    ≡ (begins_with_dash ds || has_two_dashes_together ds)
front-dashes ds = refl

digits-name : (ds : List ℕ) → AllDigits 10 ds → 0 < length ds → length ds ≤ 20 → is_queue_name (front ++ ds) ≡ true
digits-name ds all some few =
    let long : length (front ++ ds) ≡ 20 + length ds = length-append front ds in
    let least : 3 ≤ length (front ++ ds) = omega (arith, long) in
    let most : length (front ++ ds) ≤ 63 = omega (arith, long, few) in
    let sized : has_queue_length (front ++ ds) ≡ true =
    both_true (leb 3 (length (front ++ ds))) (leb (length (front ++ ds)) 63)
    (le-leb 3 (length (front ++ ds)) least) (le-leb (length (front ++ ds)) 63 most) in
    let characters : list_all (λ c. is_letter_or_digit c || is_dash c) (front ++ ds) ≡ true =
    list_all-append (λ (c : ℕ). is_letter_or_digit c || is_dash c) front ds ∙ digits-characters ds all in
    let last-at : length (front ++ ds) - 1 ≡ 20 + (length ds - 1) = omega (arith, long, some) in
    let same-last : get_or (front ++ ds) (length (front ++ ds) - 1) 0 ≡ get_or ds (length ds - 1) 0 =
    ap (λ (i : ℕ). get_or (front ++ ds) i 0) last-at ∙ get_or-append-add front ds (length ds - 1) 0 in
    let before : length ds - 1 < length ds = omega (arith, some) in
    let firm : has_firm_ends (front ++ ds) ≡ true = both_true (is_letter_or_digit (get_or (front ++ ds) 0 0))
    (is_letter_or_digit (get_or (front ++ ds) (length (front ++ ds) - 1) 0)) refl
    (ap is_letter_or_digit same-last ∙ digits-firm ds (length ds - 1) all before) in
    let none : has_two_dashes_together (front ++ ds) ≡ false = front-dashes ds
    ∙ neither (begins_with_dash ds) (has_two_dashes_together ds) (digits-begin ds all) (digits-dashes ds all) in
    both_true _ _ (both_true _ _ (both_true _ _ sized characters) firm) (ap not none)

pub inner_queue-name : (number : ℕ) → number < 2 ^ 64 → is_queue_name (inner_queue number) ≡ true
inner_queue-name number fits =
    let most : number < 10 ^ 20 = omega (arith, fits) in
    digits-name (decimal number) (decimal_is_IsNumeral number fits).0.1 (decimal_nonempty number fits)
    (length-decimal-le 20 number (omega arith) most fits)
