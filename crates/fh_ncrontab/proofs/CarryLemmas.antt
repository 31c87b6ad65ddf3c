-- The least number whose quotient by b is in P and whose remainder is in Q, from the least ones in P and in Q:
-- the carry of a clock.
use Rattle.std.proofs.Common.{◌≡◌, ℕ, ◌+◌, ◌*◌, ◌/◌, ◌%◌, ◌<◌, ◌≤◌, inl, inr, Some, None, sym, subst, arith}
use Rattle.std.proofs.lemmas.Bool.{cases_lt}
use Rattle.fh_ncrontab.specs.Search.{IsLeastFrom}

-- the least from n on in P, where the day's length is the literal 86400
abbrev pub InBoth : (ℕ → Type 0) → (ℕ → Type 0) → ℕ → Type 0
InBoth P Q x = P (x / 86400) × Q (x % 86400)

-- no upper number is left
pub carry-none : (P Q : ℕ → Type 0) (x : ℕ) → IsLeastFrom P (x / 86400) None → IsLeastFrom (InBoth P Q) x None
carry-none P Q x none k from (upper, lower) = none (k / 86400) (omega arith) upper

-- none but the upper number of x is left, and no lower number behind that of x
pub carry-none_on : (P Q : ℕ → Type 0) (x : ℕ) → IsLeastFrom Q (x % 86400) None → IsLeastFrom P (x / 86400 + 1) None
    → IsLeastFrom (InBoth P Q) x None
carry-none_on P Q x none_low none_high k from (upper, lower) =
    elim (cases_lt (x / 86400) (k / 86400)) [
      | inl lt ↦ none_high (k / 86400) (omega arith) upper
      | inr ge ↦ none_low (k % 86400) (omega arith) lower
    ]

joined : (P Q : ℕ → Type 0) (p u : ℕ) → u < 86400 → P p → Q u → InBoth P Q (p * 86400 + u)
joined P Q p u small upper lower =
    let high : (p * 86400 + u) / 86400 ≡ p = omega arith in
    let low : (p * 86400 + u) % 86400 ≡ u = omega arith in
    (subst P (sym high) upper, subst Q (sym low) lower)

-- the next upper number is p, behind that of x
pub carry-later : (P Q : ℕ → Type 0) (x p u : ℕ) → u < 86400 → x / 86400 < p
    → ((k : ℕ) → x ≤ k → k / 86400 < p → ¬ InBoth P Q k) → P p → IsLeastFrom Q 0 (Some u)
    → IsLeastFrom (InBoth P Q) x (Some (p * 86400 + u))
carry-later P Q x p u small later before upper (low, lower, least) = (
  omega arith,
  joined P Q p u small upper lower,
  λ k from below is.
      elim (cases_lt (k / 86400) p) [
        | inl lt ↦ before k from lt is
        | inr ge ↦ least (k % 86400) (omega arith) (omega arith) is.1
      ],
)

-- where the upper number of x isn't in P
pub carry-apart : (P Q : ℕ → Type 0) (x p : ℕ) → IsLeastFrom P (x / 86400) (Some p) → (k : ℕ) → x ≤ k → k / 86400 < p
    → ¬ InBoth P Q k
carry-apart P Q x p least k from below is = least.2 (k / 86400) (omega arith) below is.0

-- where no lower number from that of x on is in Q
pub carry-on : (P Q : ℕ → Type 0) (x p : ℕ) → IsLeastFrom Q (x % 86400) None → IsLeastFrom P (x / 86400 + 1) (Some p)
    → (k : ℕ) → x ≤ k → k / 86400 < p → ¬ InBoth P Q k
carry-on P Q x p none least k from below is =
    elim (cases_lt (x / 86400) (k / 86400)) [
      | inl lt ↦ least.2 (k / 86400) (omega arith) below is.0
      | inr ge ↦ none (k % 86400) (omega arith) is.1
    ]

-- the upper number of x is in P, and there is a lower one from that of x on
pub carry-here : (P Q : ℕ → Type 0) (x p u : ℕ) → u < 86400 → p ≡ x / 86400 → P p → IsLeastFrom Q (x % 86400) (Some u)
    → IsLeastFrom (InBoth P Q) x (Some (p * 86400 + u))
carry-here P Q x p u small same upper (low, lower, least) = (
  omega arith,
  joined P Q p u small upper lower,
  λ k from below is.
      least (k % 86400) (omega arith) (omega arith) is.1,
)
