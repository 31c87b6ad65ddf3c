-- Which numbers a mask holds: by the test on one bit, behind a shift, and after a bit is set.
use Rattle.std.proofs.Common.{◌≡◌, ◌≢◌, ℕ, ◌+◌, ◌-◌, ◌*◌, ◌/◌, ◌%◌, ◌^◌, ◌<◌, ◌≤◌, true, false, nat_eq, ◌||◌, Some, inl, inr, sym, ap, ◌∙◌, arith, bit_and, bit_or, w64}
use Rattle.std.specs.Int.{bit_at, trailing_zeros}
use Rattle.std.proofs.lemmas.Bool.Decides.{nat_tests}
use Rattle.std.proofs.lemmas.Bool.{cases_lt}
use Rattle.std.proofs.lemmas.Nat.{shr-shr}
use Rattle.std.proofs.lemmas.Nat.Bits.{shr_and_one, bit_at_above, bit_at-zero, bit_at-trailing_zeros, bit_at_set_same, bit_at_set_other}
use Rattle.fh_ncrontab.specs.Sets.{holds, IsSetWithin}
use Rattle.fh_ncrontab.specs.Search.{IsNextIn}

-- the code's test
pub holds-test : (set n : ℕ) → nat_eq (bit_and (set / 2 ^ n) 1) 1 ≡ holds set n
unfolding holds
holds-test set n = ap (λ b. nat_eq b 1) (shr_and_one set n)

pub holds-above : (set n : ℕ) → set < 2 ^ 64 → 64 ≤ n → holds set n ≡ false
unfolding holds
holds-above set n fits above = ap (λ b. nat_eq b 1) (bit_at_above set 64 n fits above)

pub holds-zero : (n : ℕ) → holds 0 n ≡ false
unfolding holds
holds-zero n = ap (λ b. nat_eq b 1) (bit_at-zero n)

-- a shift by n moves the numbers down by n
pub holds-shift : (set n k : ℕ) → holds (set / 2 ^ n) k ≡ holds set (n + k)
unfolding holds
holds-shift set n k = ap (λ b. nat_eq (b % 2) 1) (shr-shr set n k)

holds-one : (set n : ℕ) → bit_at set n ≡ 1 → holds set n ≡ true
unfolding holds
holds-one set n h = ap (λ b. nat_eq b 1) h

holds-none : (set n : ℕ) → bit_at set n ≡ 0 → holds set n ≡ false
unfolding holds
holds-none set n h = ap (λ b. nat_eq b 1) h

-- the least number of a mask that isn't 0
pub least-trailing_zeros : (set : ℕ) → 0 < set → set < 2 ^ 64
    → (trailing_zeros w64 set < 64) × IsNextIn set 0 (Some (trailing_zeros w64 set))
least-trailing_zeros set some fits =
    let h = bit_at-trailing_zeros w64 set some fits in (
      h.0,
      (
        omega arith,
        holds-one set _ h.1,
        λ k low below yes. absurd
            (let no : holds set k ≡ false = holds-none set k (h.2 k below) in cc),
      ),
    )

-- and the least one from n on, behind a shift
pub next-shift : (set n r : ℕ) → IsNextIn (set / 2 ^ n) 0 (Some r) → IsNextIn set n (Some (n + r))
next-shift set n r (low, is, before) = (
  omega arith,
  sym (holds-shift set n r) ∙ is,
  λ k from below yes. before (k - n) (omega arith) (omega arith)
      (holds-shift set n (k - n) ∙ (let e : n + (k - n) ≡ k = omega arith in rw e yes)),
)

-- where the shift leaves nothing there is none
pub none-shift : (set n : ℕ) → set / 2 ^ n ≡ 0 → (k : ℕ) → n ≤ k → ¬ (holds set k ≡ true)
none-shift set n empty k from held =
    let e : n + (k - n) ≡ k = omega arith in
    let shifted : holds (set / 2 ^ n) (k - n) ≡ true = holds-shift set n (k - n) ∙ (rw e held) in
    let none : holds (set / 2 ^ n) (k - n) ≡ false = rw empty (holds-zero (k - n)) in
    cc

set_test : (a b n k : ℕ) → (n ≡ k → a ≡ 1) → (n ≢ k → a ≡ b) → nat_eq a 1 ≡ (nat_eq b 1 || nat_eq n k)
set_test a b n k same other = grind (arith, nat_tests, same, other)

-- setting a bit adds its number and no other
pub holds-set : (set k n : ℕ) → k < 64 → holds (bit_or set (1 * 2 ^ k % 2 ^ 64)) n ≡ (holds set n || nat_eq n k)
unfolding holds
holds-set set k n within =
    set_test _ _ n k (λ e. rw e (bit_at_set_same w64 set k within)) (bit_at_set_other w64 set k within n)

-- a mask whose bits below 64 are within the field is a set of it
pub within-bits : (lo hi set n : ℕ) → set ≢ 0 → set < 2 ^ 64 → 64 ≤ n
    → ((k : ℕ) → k < n → holds set k ≡ true → (lo ≤ k) × (k ≤ hi)) → IsSetWithin lo hi set
within-bits lo hi set n some fits whole below =
    record {
      some = some;
      within = λ k held. elim (cases_lt k n) [
        | inl lt ↦ below k lt held
        | inr ge ↦ absurd (let no : holds set k ≡ false = holds-above set k fits (omega arith) in cc)
      ];
    }
