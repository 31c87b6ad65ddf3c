-- The first broken rule of a list.
use Rattle.std.proofs.Common.{◌≡◌, ℕ, zero, suc, ◌<◌, List, [], ◌∷◌, ◌++◌, length, map, Option, Some, None, refl, slice_index_or, arith}
use Rattle.fh_base.specs.declared.rule.Rule.{Rule}
use Rattle.fh_queues.specs.Rules.{first_broken}

module _ {X : Type 0} (judge : X → Option Rule) where
  -- none is broken so far, and the next one is
  pub broken-push : (xs : List X) (x : X) → first_broken (map judge xs) ≡ None
      → first_broken (map judge (xs ++ x ∷ [])) ≡ judge x
  broken-push [] x none = by_rule (judge x)
    where
      by_rule : (rule : Option Rule) → first_broken (rule ∷ []) ≡ rule
      by_rule None = refl
      by_rule (Some rule) = refl
  broken-push (y ∷ xs) x none = by_rule (judge y) none (broken-push xs x)
    where
      by_rule : (rule : Option Rule) → first_broken (rule ∷ map judge xs) ≡ None
          → (first_broken (map judge xs) ≡ None → first_broken (map judge (xs ++ x ∷ [])) ≡ judge x)
          → first_broken (rule ∷ map judge (xs ++ x ∷ [])) ≡ judge x
      by_rule None none more = more none
      by_rule (Some rule) none more = absurd (cc)

  -- a rule that is broken stays the first one, whatever stands behind it
  pub broken-more : (xs ys : List X) (rule : Rule) → first_broken (map judge xs) ≡ Some rule
      → first_broken (map judge (xs ++ ys)) ≡ Some rule
  broken-more [] ys rule is = absurd (cc)
  broken-more (x ∷ xs) ys rule is = by_rule (judge x) is (broken-more xs ys rule)
    where
      by_rule : (first : Option Rule) → first_broken (first ∷ map judge xs) ≡ Some rule
          → (first_broken (map judge xs) ≡ Some rule → first_broken (map judge (xs ++ ys)) ≡ Some rule)
          → first_broken (first ∷ map judge (xs ++ ys)) ≡ Some rule
      by_rule None is more = more is
      by_rule (Some first) is more = is

  -- where none is broken, each item passes
  pub unbroken-at : (xs : List X) (i : ℕ) (d : X) → first_broken (map judge xs) ≡ None → i < length xs
      → judge (slice_index_or xs i d) ≡ None
  unbroken-at [] i d none within = absurd (omega (arith, within))
  unbroken-at (x ∷ xs) i d none within = by_rule (judge x) refl i none within (λ j. unbroken-at xs j d)
    where
      by_rule : (rule : Option Rule) → judge x ≡ rule → (i : ℕ) → first_broken (rule ∷ map judge xs) ≡ None
          → i < length (x ∷ xs)
          → ((j : ℕ) → first_broken (map judge xs) ≡ None → j < length xs → judge (slice_index_or xs j d) ≡ None)
          → judge (slice_index_or (x ∷ xs) i d) ≡ None
      by_rule None is zero none within more = is
      by_rule None is (suc i) none within more = more i none (omega (arith, within))
      by_rule (Some rule) is i none within more = absurd (cc)
