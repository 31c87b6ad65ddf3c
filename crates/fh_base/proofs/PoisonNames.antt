-- A queue's name with the poison ending is a queue's name.
use Rattle.std.proofs.Common.{◌≡◌, ℕ, suc, ◌+◌, ◌-◌, ◌<◌, ◌≤◌, Bool, true, false, leb, ltb, eqb, Option, Some, None, List, [], ◌∷◌, ◌++◌, length, get_or, take, drop, refl, sym, ap, ◌∙◌, append_assoc, arith, length-append}
use Rattle.std.specs.Prelude.{not, ◌&&◌, ◌||◌, MatchOption}
use Rattle.std.specs.List.{list_all, ends_with}
use Rattle.std.proofs.lemmas.Bool.{leb-true, le-leb, le-ltb, eqb-true}
use Rattle.std.proofs.lemmas.List.{get_or_append_left, get_or-append-add, take_at}
use Rattle.std.proofs.lemmas.List.Folds.{list_all-append}
use Rattle.fh_base.specs.Names.{is_letter_or_digit, is_dash, begins_with_dash, has_two_dashes_together, has_queue_length, has_firm_ends, is_queue_name}
use Rattle.fh_base.specs.Poison.{poison_ending, poison_name}

first_true : (a b : Bool) → (a && b) ≡ true → a ≡ true
first_true true b both = refl
first_true false b both = both

second_true : (a b : Bool) → (a && b) ≡ true → b ≡ true
second_true true b both = both
second_true false b both = absurd cc

both_true : (a b : Bool) → a ≡ true → b ≡ true → (a && b) ≡ true
both_true a b p q = rw (p, q) refl

not_true : (a : Bool) → not a ≡ true → a ≡ false
not_true true h = absurd cc
not_true false h = refl

firm_or_dash : (c : ℕ) (b : Bool) → eqb c 45 ≡ b → is_letter_or_digit c ≡ true → b ≡ false
firm_or_dash c true e firm =
    let at : c ≡ 45 = eqb-true c 45 e in
    let dash : is_letter_or_digit 45 ≡ true = ap is_letter_or_digit (sym at) ∙ firm in
    absurd cc
firm_or_dash c false e firm = refl

-- a letter or digit is no dash
firm_is_no_dash : (c : ℕ) → is_letter_or_digit c ≡ true → is_dash c ≡ false
firm_is_no_dash c firm = firm_or_dash c (eqb c 45) refl firm

-- neither test holds
neither : (a b : Bool) → (a || b) ≡ false → (a ≡ false) × (b ≡ false)
neither true b h = absurd cc
neither false b h = (refl, h)

neither_both : (a b : Bool) → a ≡ false → b ≡ false → (a || b) ≡ false
neither_both a b p q = rw (p, q) refl

and_false : (a b : Bool) → a ≡ false → (a && b) ≡ false
and_false a b p = rw p refl

-- no two dashes come together where the ending is joined to a text that doesn't end in a dash
joined : (text : List ℕ) → 0 < length text → is_dash (get_or text (length text - 1) 0) ≡ false
    → has_two_dashes_together text ≡ false → has_two_dashes_together (text ++ poison_ending) ≡ false
joined [] some last none = absurd (omega arith)
joined (c ∷ []) some last none = neither_both (is_dash c && begins_with_dash poison_ending)
    (has_two_dashes_together poison_ending) (and_false (is_dash c) true last) refl
joined (c ∷ d ∷ rest) some last none =
    let parts = neither (is_dash c && is_dash d) (has_two_dashes_together (d ∷ rest)) none in
    let before : length (c ∷ d ∷ rest) - 1 ≡ suc (length (d ∷ rest) - 1) = omega arith in
    let same : get_or (c ∷ d ∷ rest) (length (c ∷ d ∷ rest) - 1) 0 ≡ get_or (d ∷ rest) (length (d ∷ rest) - 1) 0
    = ap (λ (i : ℕ). get_or (c ∷ d ∷ rest) i 0) before in
    let there : 0 < length (d ∷ rest) = omega arith in
    neither_both (is_dash c && is_dash d) (has_two_dashes_together ((d ∷ rest) ++ poison_ending)) parts.0
    (joined (d ∷ rest) there (ap is_dash (sym same) ∙ last) parts.1)

pub is_name : (text : List ℕ) → is_queue_name text ≡ true → length text ≤ 56
    → is_queue_name (text ++ poison_ending) ≡ true
is_name text name short =
    let abc = first_true (has_queue_length text && list_all (λ c. is_letter_or_digit c || is_dash c) text
    && has_firm_ends text) (not (has_two_dashes_together text)) name in
    let ab = first_true (has_queue_length text && list_all (λ c. is_letter_or_digit c || is_dash c) text)
    (has_firm_ends text) abc in
    let sized : has_queue_length text ≡ true = first_true (has_queue_length text)
    (list_all (λ c. is_letter_or_digit c || is_dash c) text) ab in
    let characters : list_all (λ c. is_letter_or_digit c || is_dash c) text ≡ true =
    second_true (has_queue_length text) (list_all (λ c. is_letter_or_digit c || is_dash c) text) ab in
    let firm : has_firm_ends text ≡ true = second_true
    (has_queue_length text && list_all (λ c. is_letter_or_digit c || is_dash c) text) (has_firm_ends text) abc in
    let none : has_two_dashes_together text ≡ false = not_true (has_two_dashes_together text)
    (second_true (has_queue_length text && list_all (λ c. is_letter_or_digit c || is_dash c) text
    && has_firm_ends text) (not (has_two_dashes_together text)) name) in
    let least : 3 ≤ length text = leb-true 3 (length text)
    (first_true (leb 3 (length text)) (leb (length text) 63) sized) in
    let there : 0 < length text = omega arith in
    let firm-first : is_letter_or_digit (get_or text 0 0) ≡ true =
    first_true (is_letter_or_digit (get_or text 0 0)) (is_letter_or_digit (get_or text (length text - 1) 0)) firm in
    let firm-last : is_letter_or_digit (get_or text (length text - 1) 0) ≡ true =
    second_true (is_letter_or_digit (get_or text 0 0)) (is_letter_or_digit (get_or text (length text - 1) 0))
    firm in
    let long : length (text ++ poison_ending) ≡ length text + 7 = length-append text poison_ending in
    let new-least : 3 ≤ length (text ++ poison_ending) = omega arith in
    let new-most : length (text ++ poison_ending) ≤ 63 = omega arith in
    let new-sized : has_queue_length (text ++ poison_ending) ≡ true
    = both_true (leb 3 (length (text ++ poison_ending))) (leb (length (text ++ poison_ending)) 63)
    (le-leb 3 (length (text ++ poison_ending)) new-least) (le-leb (length (text ++ poison_ending)) 63 new-most) in
    let new-characters : list_all (λ c. is_letter_or_digit c || is_dash c) (text ++ poison_ending) ≡ true
    = list_all-append (λ (c : ℕ). is_letter_or_digit c || is_dash c) text poison_ending
    ∙ both_true (list_all (λ c. is_letter_or_digit c || is_dash c) text) true characters refl in
    let same-first : get_or (text ++ poison_ending) 0 0 ≡ get_or text 0 0 =
    get_or_append_left text poison_ending 0 0 there in
    let last-at : length (text ++ poison_ending) - 1 ≡ length text + 6 = omega arith in
    let same-last : get_or (text ++ poison_ending) (length (text ++ poison_ending) - 1) 0 ≡ 110
    = ap (λ (i : ℕ). get_or (text ++ poison_ending) i 0) last-at ∙ get_or-append-add text poison_ending 6 0 in
    let new-firm : has_firm_ends (text ++ poison_ending) ≡ true
    = both_true (is_letter_or_digit (get_or (text ++ poison_ending) 0 0))
    (is_letter_or_digit (get_or (text ++ poison_ending) (length (text ++ poison_ending) - 1) 0))
    (ap is_letter_or_digit same-first ∙ firm-first) (ap is_letter_or_digit same-last) in
    let new-none : has_two_dashes_together (text ++ poison_ending) ≡ false
    = joined text there (firm_is_no_dash (get_or text (length text - 1) 0) firm-last) none in
    both_true _ _ (both_true _ _ (both_true _ _ new-sized new-characters) new-firm) (ap not new-none)

-- a name, and the ending behind it, put into zeros
pub put_in : (name ending zeros first second : List ℕ) → first ≡ take 0 zeros ++ (name ++ drop (0 + length name) zeros)
    → second ≡ take (length name) first ++ (ending ++ drop (length name + length ending) first)
    → take (length name + length ending) second ≡ name ++ ending
put_in name ending zeros first second e f =
    let front : take (length name) first ≡ name = ap (take (length name)) e
    ∙ take_at name (drop (0 + length name) zeros) (length name) refl in
    let behind = drop (length name + length ending) first in
    let whole : second ≡ (name ++ ending) ++ behind = f ∙ ap (λ (t : List ℕ). t ++ (ending ++ behind)) front
    ∙ sym (append_assoc name ending behind) in
    ap (take (length name + length ending)) whole ∙ take_at (name ++ ending) behind (length name + length ending)
    (length-append name ending)

-- what reading the joined text answers is the poison name
pub answers : (name text : List ℕ) (result : Option (List ℕ)) → length name ≤ 56
    → ends_with eqb name poison_ending ≡ false
    → is_queue_name name ≡ true → text ≡ name ++ poison_ending
    → MatchOption result (is_queue_name text ≡ false) (λ made. (is_queue_name text ≡ true) × (made ≡ text))
    → result ≡ poison_name name
answers name text None short fresh is joined-is no_name =
    let made : is_queue_name text ≡ true = ap is_queue_name joined-is ∙ is_name name is short in
    absurd (let clash : false ≡ true = sym no_name ∙ made in cc)
answers name text (Some made) short fresh is joined-is read =
    let few : ltb 56 (length name) ≡ false = le-ltb 56 (length name) short in
    rw (few, fresh) (ap (λ (t : List ℕ). Some t) (read.1 ∙ joined-is))
