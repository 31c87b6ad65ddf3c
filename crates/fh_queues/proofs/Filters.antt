-- Lists that a test divides.
use Rattle.std.proofs.Common.{◌≡◌, ℕ, suc, zero, ◌+◌, ◌<◌, ◌≤◌, Bool, true, false, not, List, [], ◌∷◌, ◌++◌, length, take, drop, filter, refl, sym, ap, ◌∙◌, arith}
use Rattle.std.specs.Prelude.{nat_le, None, ◌&&◌}
use Rattle.std.specs.List.{list_all}
use Rattle.std.proofs.lemmas.Bool.Decides.{nat_tests}
use Rattle.fh_queues.specs.Part.{QueuePart}
use Rattle.fh_queues.specs.Rules.{store_rule}
use Rattle.fh_queues.specs.declared.row.Message.{Message}
use Rattle.fh_queues.specs.Rows.{is_live, live, dead}
use Rattle.std.proofs.lemmas.Grind.{common_steps}
use Rattle.std.proofs.lemmas.List.{take-append-drop}

module _ {X : Type 0} (p : X → Bool) where
  -- what passes and what doesn't are all
  pub length-filter_not : (xs : List X) → length (filter p xs) + length (filter (λ x. not (p x)) xs) ≡ length xs
  length-filter_not [] = refl
  length-filter_not (x ∷ xs) = by_test (p x) refl (length-filter_not xs)
    where
      by_test : (b : Bool) → p x ≡ b → length (filter p xs) + length (filter (λ y. not (p y)) xs) ≡ length xs → length (filter p (x ∷ xs)) + length (filter (λ y. not (p y)) (x ∷ xs)) ≡ length (x ∷ xs)
      by_test true is more = rw is (omega (arith, more))
      by_test false is more = rw is (omega (arith, more))

  pub filter-append : (xs ys : List X) → filter p (xs ++ ys) ≡ filter p xs ++ filter p ys
  filter-append [] ys = refl
  filter-append (x ∷ xs) ys = by_test (p x) refl (filter-append xs ys)
    where
      by_test : (b : Bool) → p x ≡ b → filter p (xs ++ ys) ≡ filter p xs ++ filter p ys → filter p (x ∷ xs ++ ys) ≡ filter p (x ∷ xs) ++ filter p ys
      by_test true is more = rw is (ap (λ zs. x ∷ zs) more)
      by_test false is more = rw is more

  -- the first n that pass are among the first i, where n of these do
  pub take_filter-full : (n i : ℕ) (xs : List X) → length (filter p (take i xs)) ≡ n → take n (filter p xs) ≡ filter p (take i xs)
  take_filter-full n i xs full =
      ap (λ zs. take n (filter p zs)) (sym (take-append-drop i xs)) ∙ ap (take n) (filter-append (take i xs) (drop i xs))
      ∙ grind (arith, common_steps, full)

  pub list_all-filter : (q : X → Bool) (xs : List X) → list_all q xs ≡ true → list_all q (filter p xs) ≡ true
  list_all-filter q [] all = refl
  list_all-filter q (x ∷ xs) all = by_tests (p x) (q x) refl refl all (list_all-filter q xs)
    where
      by_tests : (b c : Bool) → p x ≡ b → q x ≡ c → list_all q (x ∷ xs) ≡ true → (list_all q xs ≡ true → list_all q (filter p xs) ≡ true) → list_all q (filter p (x ∷ xs)) ≡ true
      by_tests true true pass is all more = rw (pass, is) (more (grind (arith, common_steps, all, is)))
      by_tests false true pass is all more = rw pass (more (grind (arith, common_steps, all, is)))
      by_tests b false pass is all more = absurd (grind (arith, common_steps, all, is))

-- one test behind another
pub filter-both : {X : Type 0} (p q : X → Bool) (xs : List X) → filter p (filter q xs) ≡ filter (λ x. p x && q x) xs
filter-both p q [] = refl
filter-both p q (x ∷ xs) = by_tests (p x) (q x) refl refl (filter-both p q xs)
  where
    by_tests : (b c : Bool) → p x ≡ b → q x ≡ c → filter p (filter q xs) ≡ filter (λ y. p y && q y) xs → filter p (filter q (x ∷ xs)) ≡ filter (λ y. p y && q y) (x ∷ xs)
    by_tests true true is its more = rw (its, is) (ap (λ ys. x ∷ ys) more)
    by_tests false true is its more = rw (its, is) more
    by_tests true false is its more = rw (its, is) more
    by_tests false false is its more = rw (its, is) more

pub list_all-take : {X : Type 0} (q : X → Bool) (n : ℕ) (xs : List X) → list_all q xs ≡ true → list_all q (take n xs) ≡ true
list_all-take q zero xs all = refl
list_all-take q (suc n) [] all = refl
list_all-take q (suc n) (x ∷ xs) all = by_test (q x) refl all (list_all-take q n xs)
  where
    by_test : (b : Bool) → q x ≡ b → list_all q (x ∷ xs) ≡ true → (list_all q xs ≡ true → list_all q (take n xs) ≡ true) → list_all q (take (suc n) (x ∷ xs)) ≡ true
    by_test true is all more = rw is (more (grind (arith, common_steps, all, is)))
    by_test false is all more = absurd (grind (arith, common_steps, all, is))

pub live_and_dead : (m : ℕ) (rows : List Message) → length (live m rows) + length (dead m rows) ≡ length rows
live_and_dead m rows = length-filter_not (is_live m) rows

-- where all rows are live, none goes
pub live_all : (m : ℕ) (rows : List Message) → list_all (is_live m) rows ≡ true → (live m rows ≡ rows) × (dead m rows ≡ [])
live_all m [] all = (refl, refl)
live_all m (row ∷ rows) all = by_test (is_live m row) refl all (live_all m rows)
  where
    by_test : (b : Bool) → is_live m row ≡ b → list_all (is_live m) (row ∷ rows) ≡ true → (list_all (is_live m) rows ≡ true → (live m rows ≡ rows) × (dead m rows ≡ [])) → (live m (row ∷ rows) ≡ row ∷ rows) × (dead m (row ∷ rows) ≡ [])
    by_test true is all more =
        let rest = more (grind (arith, common_steps, all, is)) in
        (rw is (ap (λ more. row ∷ more) rest.0), rw is rest.1)
    by_test false is all more = absurd (grind (arith, common_steps, all, is))

-- fewer rows than the limit
pub store_rule-few : (part : QueuePart) (m : ℕ) → length part.rows < 100000 → store_rule part m ≡ None
store_rule-few part m few =
    let some : length (live m part.rows) ≤ length part.rows = omega (arith, live_and_dead m part.rows) in
    let below : nat_le 100000 (length (live m part.rows)) ≡ false = grind (arith, nat_tests, some, few) in
    rw below refl
