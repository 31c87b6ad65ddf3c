-- What a filter keeps of a list whose parts pass or fail as wholes.
use Rattle.std.proofs.Common.{◌≡◌, ℕ, zero, suc, ◌+◌, ◌-◌, ◌<◌, ◌≤◌, Bool, true, false, List, [], ◌∷◌, ◌++◌, length, take, drop, find, filter, map, Some, None, refl, ap, ◌∙◌, slice_index_or, slice_set, add-one, arith}
use Rattle.std.specs.Prelude.{remove, if◌then◌else◌}
use Rattle.std.specs.List.{AllWithin, HoldsAt}

no_less : (n : ℕ) → n ≡ n - 0
no_less n = omega arith

both_less : (m n : ℕ) → n - m ≡ suc n - suc m
both_less m n = omega arith

module _ {X : Type 0} (p : X → Bool) where
  -- each element from low on and below high is tested so
  abbrev pub Tests : Bool → List X → ℕ → ℕ → Type 0
  Tests b xs low high = AllWithin (λ x. p x ≡ b) xs low high

  behind : (b : Bool) (x : X) (xs : List X) (low high : ℕ) → Tests b (x ∷ xs) (suc low) (suc high) → Tests b xs low high
  behind b x xs low high tests k d from below = tests (suc k) d (omega (arith, from)) (omega (arith, below))

  from_start : (b : Bool) (x : X) (xs : List X) (high : ℕ) → Tests b (x ∷ xs) 0 (suc high) → Tests b xs 0 high
  from_start b x xs high tests k d from below = tests (suc k) d (omega arith) (omega (arith, below))

  first : (b : Bool) (x : X) (xs : List X) (high : ℕ) → Tests b (x ∷ xs) 0 (suc high) → p x ≡ b
  first b x xs high tests = tests 0 x (omega arith) (omega arith)

  -- none passes
  pub filter-none : (xs : List X) → Tests false xs 0 (length xs) → filter p xs ≡ []
  filter-none [] tests = refl
  filter-none (x ∷ xs) tests =
      rw (first false x xs (length xs) tests) (filter-none xs (from_start false x xs (length xs) tests))

  -- all pass
  pub filter-all : (xs : List X) → Tests true xs 0 (length xs) → filter p xs ≡ xs
  filter-all [] tests = refl
  filter-all (x ∷ xs) tests =
      rw (first true x xs (length xs) tests) (ap (λ more. x ∷ more) (filter-all xs (from_start true x xs
      (length xs) tests)))

  -- the first i pass
  pub filter-first : (xs : List X) (i : ℕ) → i ≤ length xs → Tests true xs 0 i → Tests false xs i (length xs)
      → filter p xs ≡ take i xs
  filter-first xs zero within passes fails = filter-none xs fails
  filter-first [] (suc i) within passes fails = refl
  filter-first (x ∷ xs) (suc i) within passes fails =
      rw (first true x xs i passes)
      (ap (λ more. x ∷ more) (filter-first xs i (omega (arith, within)) (from_start true x xs i passes)
      (behind false x xs i (length xs) fails)))

  -- those from i on pass
  pub filter-last : (xs : List X) (i : ℕ) → i ≤ length xs → Tests false xs 0 i → Tests true xs i (length xs)
      → filter p xs ≡ drop i xs
  filter-last xs zero within fails passes = filter-all xs passes
  filter-last [] (suc i) within fails passes = refl
  filter-last (x ∷ xs) (suc i) within fails passes =
      rw (first false x xs i fails)
      (filter-last xs i (omega (arith, within)) (from_start false x xs i fails) (behind true x xs i (length xs) passes))

  -- all but the one at i pass
  pub filter-but : (xs : List X) (i : ℕ) → i < length xs → Tests true xs 0 i → HoldsAt (λ x. p x ≡ false) xs i
      → Tests true xs (i + 1) (length xs) → filter p xs ≡ remove xs i
  filter-but [] i within before here after = absurd (omega (arith, within))
  filter-but (x ∷ xs) zero within before here after =
      rw (here x) (filter-all xs (λ k d low high. after (suc k) d (omega arith) (omega (arith, high))))
  filter-but (x ∷ xs) (suc i) within before here after =
      rw (first true x xs i before)
      (ap (λ more. x ∷ more) (filter-but xs i (omega (arith, within)) (from_start true x xs i before) here
      (λ k d low high. after (suc k) d (omega (arith, low)) (omega (arith, high)))))

  -- those from i on and below j pass
  pub filter-within : (xs : List X) (i j : ℕ) → i ≤ j → j ≤ length xs → Tests false xs 0 i → Tests true xs i j
      → Tests false xs j (length xs) → filter p xs ≡ take (j - i) (drop i xs)
  filter-within xs zero j order within before here after = filter-first xs j within here after
      ∙ ap (λ n. take n xs) (no_less j)
  filter-within [] (suc i) j order within before here after = absurd (omega (arith, order, within))
  filter-within (x ∷ xs) (suc i) zero order within before here after = absurd (omega (arith, order))
  filter-within (x ∷ xs) (suc i) (suc j) order within before here after =
      rw (first false x xs i before)
      (filter-within xs i j (omega (arith, order)) (omega (arith, within)) (from_start false x xs i before)
      (behind true x xs i j here) (behind false x xs j (length xs) after)
      ∙ ap (λ n. take n (drop i xs)) (both_less i j))

  -- those from i on and below j fail, and the others pass
  pub filter-without : (xs : List X) (i j : ℕ) → i ≤ j → j ≤ length xs → Tests true xs 0 i → Tests false xs i j
      → Tests true xs j (length xs) → filter p xs ≡ take i xs ++ drop j xs
  filter-without xs zero j order within before here after = filter-last xs j within here after
  filter-without [] (suc i) j order within before here after = absurd (omega (arith, order, within))
  filter-without (x ∷ xs) (suc i) zero order within before here after = absurd (omega (arith, order))
  filter-without (x ∷ xs) (suc i) (suc j) order within before here after =
      rw (first true x xs i before)
      (ap (λ more. x ∷ more) (filter-without xs i j (omega (arith, order)) (omega (arith, within))
      (from_start true x xs i before) (behind false x xs i j here) (behind true x xs j (length xs) after)))

  pub find-at : (xs : List X) (i : ℕ) (d : X) → i < length xs → Tests false xs 0 i
      → HoldsAt (λ x. p x ≡ true) xs i → find p xs ≡ Some (slice_index_or xs i d)
  find-at [] i d within before here = absurd (omega (arith, within))
  find-at (x ∷ xs) zero d within before here = rw (here x) refl
  find-at (x ∷ xs) (suc i) d within before here =
      rw (first false x xs i before) (find-at xs i d (omega (arith, within)) (from_start false x xs i before) here)

  pub find-none : (xs : List X) → Tests false xs 0 (length xs) → find p xs ≡ None
  find-none [] tests = refl
  find-none (x ∷ xs) tests = rw (first false x xs (length xs) tests) (find-none xs (from_start false x xs
      (length xs) tests))

module _ {X : Type 0} (p : X → Bool) (change : X → X) where
  abbrev changed : List X → List X
  changed xs = map (λ x. if p x then change x else x) xs

  -- none is changed
  pub map-same : (xs : List X) → Tests p false xs 0 (length xs) → changed xs ≡ xs
  map-same [] tests = refl
  map-same (x ∷ xs) tests =
      rw (first p false x xs (length xs) tests) (ap (λ more. x ∷ more) (map-same xs (from_start p false x xs
      (length xs) tests)))

  -- only the one at i is changed
  pub map-but : (xs : List X) (i : ℕ) (d : X) → i < length xs → Tests p false xs 0 i
      → HoldsAt (λ x. p x ≡ true) xs i → Tests p false xs (i + 1) (length xs)
      → changed xs ≡ slice_set xs i (change (slice_index_or xs i d))
  map-but [] i d within before here after = absurd (omega (arith, within))
  map-but (x ∷ xs) zero d within before here after =
      rw (here x) (ap (λ more. change x ∷ more) (map-same xs (λ k e low high. after (suc k) e (omega arith) (omega
      (arith, high)))))
  map-but (x ∷ xs) (suc i) d within before here after =
      rw (first p false x xs i before)
      (ap (λ more. x ∷ more) (map-but xs i d (omega (arith, within)) (from_start p false x xs i before) here
      (λ k e low high. after (suc k) e (omega (arith, low)) (omega (arith, high)))))

set_parts : {X : Type 0} (xs : List X) (i : ℕ) (new : X) → i < length xs
    → slice_set xs i new ≡ take i xs ++ new ∷ drop (suc i) xs
set_parts [] i new within = absurd (omega (arith, within))
set_parts (x ∷ xs) zero new within = refl
set_parts (x ∷ xs) (suc i) new within = ap (λ more. x ∷ more) (set_parts xs i new (omega (arith, within)))

-- a write is the elements before, the new one, and those behind
pub slice_set-parts : {X : Type 0} (xs : List X) (i : ℕ) (new : X) → i < length xs
    → slice_set xs i new ≡ take i xs ++ new ∷ drop (i + 1) xs
slice_set-parts xs i new within = rw add-one (set_parts xs i new within)
