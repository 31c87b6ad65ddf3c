-- What is filtered twice, changed, or found.
use Rattle.std.proofs.Common.{◌≡◌, Bool, true, false, List, [], ◌∷◌, find, filter, map, Option, Some, None, refl, ap, sym, ◌∙◌}
use Rattle.std.specs.Prelude.{if◌then◌else◌}
use Rattle.std.specs.List.{list_all}
use Rattle.fh_rows.proofs.Order.{first_of_both, second_of_both}

module _ {X : Type 0} (q keeps : X → Bool) where
  -- all that is sought is kept
  pub filter-kept : ((x : X) → q x ≡ true → keeps x ≡ true) → (xs : List X) → filter q (filter keeps xs) ≡ filter q xs
  filter-kept kept [] = refl
  filter-kept kept (x ∷ xs) = by_tests (q x) (keeps x) refl refl (filter-kept kept xs)
    where
      by_tests : (b k : Bool) → q x ≡ b → keeps x ≡ k → filter q (filter keeps xs) ≡ filter q xs
          → filter q (if k then x ∷ filter keeps xs else filter keeps xs) ≡ (if b then x ∷ filter q xs else filter q xs)
      by_tests true true is keep rest = rw is (ap (λ more. x ∷ more) rest)
      by_tests true false is keep rest = absurd (cc (kept x is))
      by_tests false true is keep rest = rw is rest
      by_tests false false is keep rest = rest

  -- nothing that is sought is kept
  pub filter-dropped : ((x : X) → keeps x ≡ true → q x ≡ false) → (xs : List X) → filter q (filter keeps xs) ≡ []
  filter-dropped dropped [] = refl
  filter-dropped dropped (x ∷ xs) = by_test (keeps x) refl (filter-dropped dropped xs)
    where
      by_test : (k : Bool) → keeps x ≡ k → filter q (filter keeps xs) ≡ []
          → filter q (if k then x ∷ filter keeps xs else filter keeps xs) ≡ []
      by_test true keep rest = rw (dropped x keep) rest
      by_test false keep rest = rest

  -- two filters in either order
  pub filter-filter : (xs : List X) → filter q (filter keeps xs) ≡ filter keeps (filter q xs)
  filter-filter [] = refl
  filter-filter (x ∷ xs) = by_tests (q x) (keeps x) refl refl (filter-filter xs)
    where
      by_tests : (b k : Bool) → q x ≡ b → keeps x ≡ k → filter q (filter keeps xs) ≡ filter keeps (filter q xs)
          → filter q (if k then x ∷ filter keeps xs else filter keeps xs)
          ≡ filter keeps (if b then x ∷ filter q xs else filter q xs)
      by_tests true true is keep rest = rw (is, keep) (ap (λ more. x ∷ more) rest)
      by_tests true false is keep rest = rw keep rest
      by_tests false true is keep rest = rw is rest
      by_tests false false is keep rest = rest

-- a change that a test doesn't see
pub filter-map : {X : Type 0} (p : X → Bool) (change : X → X) → ((x : X) → p (change x) ≡ p x) → (xs : List X)
    → filter p (map change xs) ≡ map change (filter p xs)
filter-map p change same [] = refl
filter-map p change same (x ∷ xs) = by_test (p x) (same x) (filter-map p change same xs)
  where
    by_test : (b : Bool) → p (change x) ≡ b → filter p (map change xs) ≡ map change (filter p xs)
        → filter p (change x ∷ map change xs) ≡ map change (if b then x ∷ filter p xs else filter p xs)
    by_test true is rest = rw is (ap (λ more. change x ∷ more) rest)
    by_test false is rest = rw is rest

abbrev pub head : {X : Type 0} → List X → Option X
head [] = None
head (x ∷ xs) = Some x

-- what is found is the first that passes
pub find-head : {X : Type 0} (p : X → Bool) (xs : List X) → find p xs ≡ head (filter p xs)
find-head p [] = refl
find-head p (x ∷ xs) = by_test (p x) (find-head p xs)
  where
    by_test : (b : Bool) → find p xs ≡ head (filter p xs)
        → (if b then Some x else find p xs) ≡ head (if b then x ∷ filter p xs else filter p xs)
    by_test true rest = refl
    by_test false rest = rest

-- tests that agree on all elements
module _ {X : Type 0} (known p q : X → Bool) (alike : (x : X) → known x ≡ true → p x ≡ q x) where
  pub filter-alike : (xs : List X) → list_all known xs ≡ true → filter p xs ≡ filter q xs
  filter-alike [] all = refl
  filter-alike (x ∷ xs) all = by_test (q x) (alike x (first_of_both _ _ all)) (filter-alike xs (second_of_both _ _ all))
    where
      by_test : (b : Bool) → p x ≡ b → filter p xs ≡ filter q xs
          → filter p (x ∷ xs) ≡ (if b then x ∷ filter q xs else filter q xs)
      by_test true is rest = rw is (ap (λ more. x ∷ more) rest)
      by_test false is rest = rw is rest

  pub find-alike : (xs : List X) → list_all known xs ≡ true → find p xs ≡ find q xs
  find-alike xs all = find-head p xs ∙ ap head (filter-alike xs all) ∙ sym (find-head q xs)

  pub map-alike : (change : X → X) (xs : List X) → list_all known xs ≡ true
      → map (λ x. if p x then change x else x) xs ≡ map (λ x. if q x then change x else x) xs
  map-alike change [] all = refl
  map-alike change (x ∷ xs) all =
      by_test (q x) (alike x (first_of_both _ _ all)) (map-alike change xs (second_of_both _ _ all))
    where
      by_test : (b : Bool) → p x ≡ b
          → map (λ x. if p x then change x else x) xs ≡ map (λ x. if q x then change x else x) xs
          → map (λ x. if p x then change x else x) (x ∷ xs)
          ≡ (if b then change x else x) ∷ map (λ x. if q x then change x else x) xs
      by_test true is rest = rw is (ap (λ more. change x ∷ more) rest)
      by_test false is rest = rw is (ap (λ more. x ∷ more) rest)
