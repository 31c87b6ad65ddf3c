-- The numbers of a part, added one after the other, and the parts of a field, one after the other.
use Rattle.std.proofs.Common.{◌≡◌, ℕ, ◌+◌, ◌-◌, ◌%◌, ◌<◌, ◌≤◌, List, [], ◌∷◌, length, length-drop, cond, Some, None, Ok, Err, inl, inr, ◌⊎◌, ◌≢◌, Bool, true, false, ◌&&◌, ◌||◌, nat_eq, nat_lt, refl, sym, ap, ◌∙◌, arith}
use Rattle.std.proofs.lemmas.Bool.Decides.{nat_tests}
use Rattle.fh_ncrontab.specs.declared.part.Part.{Part}
use Rattle.std.specs.List.{position_or_len, before_first, after_first}
use Rattle.std.proofs.lemmas.List.Splits.{slice_split_first, slice_split_none}
use Rattle.std.proofs.lemmas.List.Sums.{fails_before_first}
use Rattle.fh_ncrontab.specs.Fields.{part_of, part_has, result_has, fault_or, first_fault, some_part_has, cut_at, pieces}
use Rattle.fh_ncrontab.specs.declared.fault.FieldFault.{FieldFault}
use Rattle.fh_ncrontab.specs.Sets.{holds}
use Rattle.fh_ncrontab.proofs.SetLemmas.{holds-zero}
use native.Mathlib.Nat.{zero-mod}

-- one more number is tested, and is one of them
pub step_yes : (m h : Bool) (k n : ℕ) → (k ≡ n → h ≡ true)
    → ((m || (h && nat_lt k n)) || nat_eq k n) ≡ (m || (h && nat_lt k (n + 1)))
step_yes m h k n same = grind (arith, nat_tests)

-- or is none of them
pub step_no : (m h : Bool) (k n : ℕ) → (k ≡ n → h ≡ false) → (m || (h && nat_lt k n)) ≡ (m || (h && nat_lt k (n + 1)))
step_no m h k n other = grind (arith, nat_tests)

pub part_has-yes : (p : Part) (n : ℕ) → p.first ≤ n → n ≤ p.last → (n - p.first) % p.step ≡ 0 → part_has p n ≡ true
part_has-yes p n low high even = grind (arith, nat_tests)

cut_told : (t : Bool) (x y : List ℕ × List ℕ) → Some x ≡ cond t (Some y) None → (t ≡ true) × (x ≡ y)
cut_told true x y is = (refl, cc)
cut_told false x y is = absurd cc

uncut_told : (t : Bool) (y : List ℕ × List ℕ) → None ≡ cond t (Some y) None → t ≡ false
uncut_told true y is = absurd cc
uncut_told false y is = refl

-- the first piece, where the byte stands in the text
pub pieces-cut : (c : ℕ) (text before after : List ℕ) → Some (before, after) ≡ cut_at c text
    → (pieces c text ≡ before ∷ pieces c after) × (length after < length text)
pieces-cut c text before after is =
    let told = cut_told _ _ _ is in
    let test : nat_lt (position_or_len (λ b. nat_eq b c) text) (length text) ≡ true = told.0 in
    let found : position_or_len (λ b. nat_eq b c) text < length text = grind (arith, nat_tests) in
    let is_before : before ≡ before_first (λ b. nat_eq b c) text = ap (λ x. x.0) told.1 in
    let is_after : after ≡ after_first (λ b. nat_eq b c) text = ap (λ x. x.1) told.1 in (
      rw (is_before, is_after) (slice_split_first (λ b. nat_eq b c) text 0 found),
      rw is_after (omega (arith, length-drop (position_or_len (λ b. nat_eq b c) text + 1) text)),
    )

-- and where it doesn't
pub pieces-whole : (c : ℕ) (text : List ℕ) → None ≡ cut_at c text → pieces c text ≡ text ∷ []
pieces-whole c text is =
    let test : nat_lt (position_or_len (λ b. nat_eq b c) text) (length text) ≡ false = uncut_told _ _ is in
    let past : length text ≤ position_or_len (λ b. nat_eq b c) text = grind (arith, nat_tests) in
    slice_split_none (λ b. nat_eq b c) text (λ k d lt. fails_before_first (λ b. nat_eq b c) text k d (omega arith))

-- a part that is read has no fault, and its numbers
pub first_fault-ok : (lo hi : ℕ) (p : Part) (part : List ℕ) (more : List (List ℕ)) → Ok p ≡ part_of lo hi part
    → first_fault lo hi (part ∷ more) ≡ first_fault lo hi more
unfolding first_fault
first_fault-ok lo hi p part more is = ap (λ r. fault_or r (first_fault lo hi more)) (sym is)

pub first_fault-err : (lo hi : ℕ) (e : FieldFault) (part : List ℕ) (more : List (List ℕ)) → Err e ≡ part_of lo hi part
    → first_fault lo hi (part ∷ more) ≡ Some e
unfolding first_fault
first_fault-err lo hi e part more is = ap (λ r. fault_or r (first_fault lo hi more)) (sym is)

pub first_fault-none : (lo hi : ℕ) → first_fault lo hi [] ≡ None
unfolding first_fault
first_fault-none lo hi = refl

or_assoc : (a b c : Bool) → (a || (b || c)) ≡ ((a || b) || c)
or_assoc true b c = refl
or_assoc false b c = refl

or_false : (a : Bool) → (a || false) ≡ a
or_false true = refl
or_false false = refl

or_cases : (a b : Bool) → (a || b) ≡ true → (a ≡ true) ⊎ (b ≡ true)
or_cases true b h = inl refl
or_cases false b h = inr h

-- the numbers of the mask and of what is left, behind one more part
pub some_part_has-step : (lo hi : ℕ) (p : Part) (part : List ℕ) (more left : List (List ℕ)) (old new n : ℕ)
    → Ok p ≡ part_of lo hi part → left ≡ part ∷ more → holds new n ≡ (holds old n || part_has p n)
    → (holds old n || some_part_has lo hi left n) ≡ (holds new n || some_part_has lo hi more n)
unfolding some_part_has
some_part_has-step lo hi p part more left old new n is cut added =
    ap (λ ps. holds old n || some_part_has lo hi ps n) cut
    ∙ ap (λ r. holds old n || (result_has r n || some_part_has lo hi more n)) (sym is)
    ∙ or_assoc (holds old n) (part_has p n) (some_part_has lo hi more n)
    ∙ ap (λ b. b || some_part_has lo hi more n) (sym added)

pub some_part_has-none : (lo hi mask n : ℕ) → (holds mask n || some_part_has lo hi [] n) ≡ holds mask n
unfolding some_part_has
some_part_has-none lo hi mask n = or_false (holds mask n)

pub part_has-within : (p : Part) (n : ℕ) → part_has p n ≡ true → (p.first ≤ n) × (n ≤ p.last)
part_has-within p n h = grind (arith, nat_tests)

pub within-step : (lo hi : ℕ) (p : Part) (old new : ℕ) → lo ≤ p.first → p.last ≤ hi
    → ((n : ℕ) → holds new n ≡ (holds old n || part_has p n)) → ((n : ℕ) → holds old n ≡ true → (lo ≤ n) × (n ≤ hi))
    → (n : ℕ) → holds new n ≡ true → (lo ≤ n) × (n ≤ hi)
within-step lo hi p old new low high added before n held =
    elim (or_cases (holds old n) (part_has p n) (sym (added n) ∙ held)) [
      | inl was ↦ before n was
      | inr has ↦ let ends = part_has-within p n has in (omega (arith, ends.0), omega (arith, ends.1))
    ]

part_has-first : (p : Part) → p.first ≤ p.last → part_has p p.first ≡ true
part_has-first p order =
    let none : (p.first - p.first) % p.step ≡ 0 = let e : p.first - p.first ≡ 0 = omega arith in ap (λ n. n % p.step) e
    ∙ zero-mod p.step in
    part_has-yes p p.first (omega arith) order none

or_true : (a b : Bool) → b ≡ true → (a || b) ≡ true
or_true true b h = refl
or_true false b h = h

pub not_empty : (p : Part) (old new : ℕ) → p.first ≤ p.last → ((n : ℕ) → holds new n ≡ (holds old n || part_has p n))
    → new ≢ 0
not_empty p old new order added zero_is =
    let held : holds new p.first ≡ true = added p.first ∙ or_true (holds old p.first) _ (part_has-first p order) in
    let none : holds new p.first ≡ false = ap (λ mask. holds mask p.first) zero_is ∙ holds-zero p.first in
    cc

pub start_of : (lo hi : ℕ) (ps : List (List ℕ)) (n : ℕ)
    → some_part_has lo hi ps n ≡ (holds 0 n || some_part_has lo hi ps n)
start_of lo hi ps n = ap (λ b. b || some_part_has lo hi ps n) (sym (holds-zero n))
