-- A mask is the sum of the bits that it has, and is one of a field exactly where all of them are within.
use Rattle.std.proofs.Common.{◌≡◌, ◌≢◌, ℕ, zero, suc, ◌+◌, ◌-◌, ◌*◌, ◌/◌, ◌%◌, ◌^◌, ◌<◌, ◌≤◌, Bool, true, false, ◌&&◌, not, nat_eq, nat_lt, cond, inl, inr, refl, sym, ap, ◌∙◌, arith}
use Rattle.std.specs.Int.{bit_at}
use Rattle.std.proofs.lemmas.Bool.{cases_lt, cases_Bool}
use Rattle.std.proofs.lemmas.Bool.Decides.{nat_tests}
use Rattle.std.proofs.Math.Nat.{mod-eq_of_lt, pow-succ'}
use Rattle.std.proofs.lemmas.Nat.{mod-pow-add, pow_pos, pow_below, le-div, div_below}
use Rattle.std.proofs.lemmas.Nat.Bits.{bit_at-lt, bit_at_above, bit_at_mask_above, bit_at_mask_below}
use Rattle.fh_ncrontab.specs.Sets.{holds, is_mask, all_numbers, mask_of, IsSetWithin}

pub both : (a b : Bool) → a ≡ true → b ≡ true → (a && b) ≡ true
both true b h k = k
both false b h k = absurd cc

pub each : (a b : Bool) → (a && b) ≡ true → (a ≡ true) × (b ≡ true)
each true b h = (refl, h)
each false b h = absurd cc

bit_value : (b p : ℕ) → b < 2 → cond (nat_eq b 1) p 0 ≡ b * p
bit_value zero p h = omega arith
bit_value (suc zero) p h = omega arith
bit_value (suc (suc b)) p h = absurd (omega arith)

-- the bits below n are the remainder by 2 ^ n
pub mask_of-holds : (set n : ℕ) → mask_of (holds set) n ≡ set % 2 ^ n
unfolding mask_of holds
mask_of-holds set zero = omega arith
mask_of-holds set (suc n) =
    let parts : set % 2 ^ (1 + n) ≡ (set / 2 ^ n % 2 ^ 1) * 2 ^ n + set % 2 ^ n = mod-pow-add set 1 n in
    let more : 1 + n ≡ suc n = omega arith in
    let here = bit_value (bit_at set n) (2 ^ n) (bit_at-lt set n) in
    let before = mask_of-holds set n in
    ap (λ m. m + cond (nat_eq (bit_at set n) 1) (2 ^ n) 0) before
    ∙ ap (λ m. set % 2 ^ n + m) here
    ∙ (let swap : set % 2 ^ n + bit_at set n * 2 ^ n ≡ bit_at set n * 2 ^ n + set % 2 ^ n = omega arith in swap)
    ∙ sym parts ∙ ap (λ k. set % 2 ^ k) more

pub mask_of-same : (p q : ℕ → Bool) (n : ℕ) → ((k : ℕ) → p k ≡ q k) → mask_of p n ≡ mask_of q n
unfolding mask_of
mask_of-same p q zero same = refl
mask_of-same p q (suc n) same =
    ap (λ m. m + cond (p n) (2 ^ n) 0) (mask_of-same p q n same) ∙ ap (λ b. mask_of q n + cond b (2 ^ n) 0) (same n)

-- a mask of 64 bits is that of the numbers that it holds
pub mask_is : (set : ℕ) (p : ℕ → Bool) → set < 2 ^ 64 → ((k : ℕ) → holds set k ≡ p k) → set ≡ mask_of p 64
mask_is set p fits same =
    let whole : set % 2 ^ 64 ≡ set = omega arith in
    sym whole ∙ sym (mask_of-holds set 64) ∙ mask_of-same (holds set) p 64 same

mask_of-none_below : (p : ℕ → Bool) (n : ℕ) → ((k : ℕ) → k < n → p k ≡ false) → mask_of p n ≡ 0
unfolding mask_of
mask_of-none_below p zero none = refl
mask_of-none_below p (suc n) none =
    ap (λ m. m + cond (p n) (2 ^ n) 0) (mask_of-none_below p n (λ k lt. none k (omega arith)))
    ∙ ap (λ b. 0 + cond b (2 ^ n) 0) (none n (omega arith))

mask_of-none_above : (p : ℕ → Bool) (n more : ℕ) → ((k : ℕ) → n ≤ k → p k ≡ false) → mask_of p (n + more) ≡ mask_of p n
unfolding mask_of
mask_of-none_above p n zero none = (let e : n + 0 ≡ n = omega arith in ap (mask_of p) e)
mask_of-none_above p n (suc more) none =
    let e : n + suc more ≡ suc (n + more) = omega arith in
    let last : p (n + more) ≡ false = none (n + more) (omega arith) in
    ap (mask_of p) e ∙ ap (λ b. mask_of p (n + more) + cond b (2 ^ (n + more)) 0) last
    ∙ (let zero_more : mask_of p (n + more) + 0 ≡ mask_of p (n + more) = omega arith in zero_more)
    ∙ mask_of-none_above p n more none

none_of_zero : (p : ℕ → Bool) (n k : ℕ) → mask_of p n ≡ 0 → k < n → p k ≡ false
unfolding mask_of
none_of_zero p zero k empty lt = absurd (omega arith)
none_of_zero p (suc n) k empty lt =
    let rest : mask_of p n ≡ 0 = omega arith in
    let last : cond (p n) (2 ^ n) 0 ≡ 0 = omega arith in
    elim (cases_lt k n) [
      | inl below ↦ none_of_zero p n k rest below
      | inr ge ↦
          let same : k ≡ n = omega arith in
          ap p same ∙ elim (cases_Bool (p n)) [
            | inl held ↦ absurd (let bit : 2 ^ n ≡ 0 = ap (λ b. cond b (2 ^ n) 0) (sym held) ∙ last in let positive =
                pow_pos n in omega arith)
            | inr out ↦ out
          ]
    ]

holds-outside : (lo hi set : ℕ) → IsSetWithin lo hi set → (k : ℕ) → ¬ ((lo ≤ k) × (k ≤ hi)) → holds set k ≡ false
holds-outside lo hi set is k out = elim (cases_Bool (holds set k)) [
  | inl held ↦ absurd (out (is.within k held))
  | inr apart ↦ apart
]

below_top : (lo hi set : ℕ) → set < 2 ^ 64 → IsSetWithin lo hi set → set % 2 ^ (hi + 1) ≡ set
below_top lo hi set fits is =
    elim (cases_lt hi 64) [
      | inl lt ↦
          let split : (hi + 1) + (63 - hi) ≡ 64 = omega arith in
          let whole : set % 2 ^ 64 ≡ set = omega arith in
          sym (mask_of-holds set (hi + 1))
          ∙ sym (mask_of-none_above (holds set) (hi + 1) (63 - hi)
          (λ k above. holds-outside lo hi set is k (λ within. absurd (omega (arith, within.1)))))
          ∙ ap (mask_of (holds set)) split ∙ mask_of-holds set 64 ∙ whole
      | inr ge ↦ let more : 2 ^ 64 < 2 ^ (hi + 1) = pow_below 64 (hi + 1) (omega arith) in mod-eq_of_lt (omega arith)
    ]

pub is_mask-from : (lo hi set : ℕ) → set < 2 ^ 64 → IsSetWithin lo hi set → is_mask lo hi set ≡ true
unfolding is_mask
is_mask-from lo hi set fits is =
    let low : set % 2 ^ lo ≡ 0 = sym (mask_of-holds set lo)
    ∙ mask_of-none_below (holds set) lo (λ k lt. holds-outside lo hi set is k
    (λ within. absurd (omega (arith, within.0)))) in
    let top : set < 2 ^ (hi + 1) = (let same = below_top lo hi set fits is in let positive = pow_pos (hi + 1) in
    omega arith) in
    let some = is.some in
    grind (arith, nat_tests)

filled : (set : ℕ) → not (nat_eq set 0) ≡ true → set ≢ 0
filled zero h = absurd cc
filled (suc n) h = λ none. absurd (omega arith)

equal : (a b : ℕ) → nat_eq a b ≡ true → a ≡ b
equal a b h = grind (arith, nat_tests)

less : (a b : ℕ) → nat_lt a b ≡ true → a < b
less a b h = grind (arith, nat_tests)

pub is_mask-within : (lo hi set : ℕ) → is_mask lo hi set ≡ true → IsSetWithin lo hi set
unfolding is_mask holds
is_mask-within lo hi set is =
    let halves = each _ _ is in
    let ends = each _ _ halves.1 in
    let low : set % 2 ^ lo ≡ 0 = equal (set % 2 ^ lo) 0 ends.0 in
    let top : set < 2 ^ (hi + 1) = less set (2 ^ (hi + 1)) ends.1 in
    record {
      some = filled set halves.0;
      within = λ n held. (
        elim (cases_lt n lo) [
          | inl lt ↦ absurd (let no : holds set n ≡ false = none_of_zero (holds set) lo n (mask_of-holds set lo ∙ low)
              lt in cc)
          | inr ge ↦ ge
        ],
        elim (cases_lt hi n) [
          | inl above ↦ absurd (let no : bit_at set n ≡ 0 = bit_at_above set (hi + 1) n top (omega arith) in
              let never : nat_eq 0 1 ≡ true = ap (λ b. nat_eq b 1) (sym no) ∙ held in cc)
          | inr le ↦ le
        ],
      );
    }

pub all_numbers-within : (lo hi : ℕ) → lo ≤ hi → IsSetWithin lo hi (all_numbers lo hi)
unfolding holds
all_numbers-within lo hi order = record {
  some = (let more : 2 ^ lo < 2 ^ (hi + 1) = pow_below lo (hi + 1) (omega arith) in λ none. absurd (omega arith));
  within = λ n held. (
    elim (cases_lt n lo) [
      | inl lt ↦ absurd (let no = bit_at_mask_below lo (hi + 1) n lt in let never : nat_eq 0 1 ≡ true =
          ap (λ b. nat_eq b 1) (sym no) ∙ held in cc)
      | inr ge ↦ ge
    ],
    elim (cases_lt hi n) [
      | inl above ↦ absurd (let no = bit_at_mask_above lo (hi + 1) n (omega arith) in let never : nat_eq 0 1 ≡ true =
          ap (λ b. nat_eq b 1) (sym no) ∙ held in cc)
      | inr le ↦ le
    ],
  );
}

-- the code's tests of a mask
pub one_bit : (k : ℕ) → k < 64 → 1 * 2 ^ k % 2 ^ 64 ≡ 2 ^ k
one_bit k lt =
    let once : 1 * 2 ^ k ≡ 2 ^ k = omega arith in
    ap (λ n. n % 2 ^ 64) once ∙ mod-eq_of_lt (pow_below k 64 lt)

doubled : (k : ℕ) → 2 ^ (k + 1) ≡ 2 * 2 ^ k
doubled k = (let more : k + 1 ≡ suc k = omega arith in ap (λ j. 2 ^ j) more) ∙ pow-succ' 2 k

is_mask-yes : (lo hi mask : ℕ) → mask ≢ 0 → mask % 2 ^ lo ≡ 0 → mask / 2 ^ hi ≤ 1 → is_mask lo hi mask ≡ true
unfolding is_mask
is_mask-yes lo hi mask some low high =
    let top : mask < 2 ^ (hi + 1) = elim (cases_lt mask (2 ^ (hi + 1))) [
      | inl lt ↦ lt
      | inr ge ↦ absurd (let two = le-div 2 mask (2 ^ hi) (pow_pos hi) (let twice = doubled hi in omega arith) in
          omega arith)
    ] in
    grind (arith, nat_tests)

pub not_zero : (lo hi mask : ℕ) → mask ≡ 0 → is_mask lo hi mask ≡ false
unfolding is_mask
not_zero lo hi mask none = ap (λ m. not (nat_eq m 0) && (nat_eq (m % 2 ^ lo) 0 && nat_lt m (2 ^ (hi + 1)))) none

pub not_low : (lo hi mask : ℕ) → mask % 2 ^ lo ≢ 0 → is_mask lo hi mask ≡ false
unfolding is_mask
not_low lo hi mask some = elim (cases_Bool (is_mask lo hi mask)) [
  | inl is ↦ absurd (some (equal _ _ (each _ _ (each _ _ is).1).0))
  | inr not_one ↦ not_one
]

pub not_high : (lo hi mask : ℕ) → 1 < mask / 2 ^ hi → is_mask lo hi mask ≡ false
unfolding is_mask
not_high lo hi mask more = elim (cases_Bool (is_mask lo hi mask)) [
  | inl is ↦ absurd (
      let top : mask < 2 ^ (hi + 1) = less mask (2 ^ (hi + 1)) (each _ _ (each _ _ is).1).1 in
      let twice = doubled hi in
      let few : mask / 2 ^ hi < 2 = div_below mask (2 ^ hi) 2 (pow_pos hi) (omega arith) in
      omega arith)
  | inr not_one ↦ not_one
]

pub passes : (lo hi mask : ℕ) → lo < 64 → mask ≢ 0 → mask % (1 * 2 ^ lo % 2 ^ 64) ≡ 0 → mask / 2 ^ hi ≤ 1
    → is_mask lo hi mask ≡ true
passes lo hi mask lt some low high =
    is_mask-yes lo hi mask some (ap (λ bit. mask % bit) (sym (one_bit lo lt)) ∙ low) high
