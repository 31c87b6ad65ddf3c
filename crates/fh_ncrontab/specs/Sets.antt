-- Sets of numbers below 64, each seen as a mask: the number n is in it where bit n is 1.
use Rattle.std.specs.Prelude.{◌≡◌, ◌≢◌, ℕ, zero, suc, ◌+◌, ◌-◌, ◌%◌, ◌^◌, ◌≤◌, Bool, true, not, ◌&&◌, ◌==◌, nat_lt, if◌then◌else◌}
use Rattle.std.specs.Int.{bit_at}

-- the number n is in the set
unfoldable pub holds : ℕ → ℕ → Bool
holds set n = bit_at set n == 1

-- the mask isn't 0, and has no bit below low and none above high
unfoldable pub is_mask : ℕ → ℕ → ℕ → Bool
is_mask low high mask = not (mask == 0) && ((mask % 2 ^ low == 0) && nat_lt mask (2 ^ (high + 1)))

-- the mask of all numbers from low to high
abbrev pub all_numbers : ℕ → ℕ → ℕ
all_numbers low high = 2 ^ (high + 1) - 2 ^ low

-- the mask of the numbers below n that pass
unfoldable pub mask_of : (ℕ → Bool) → ℕ → ℕ
mask_of p zero = 0
mask_of p (suc n) = mask_of p n + (if p n then 2 ^ n else 0)

-- the same as a fact: the set isn't empty, and has no number outside lo to hi
pub record IsSetWithin (lo hi set : ℕ) : Type 0 where
  pub some : set ≢ 0
  pub within : (n : ℕ) → holds set n ≡ true → (lo ≤ n) × (n ≤ hi)
