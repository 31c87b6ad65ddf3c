-- The masks of a schedule: bit n of a mask stands for the number n.
use Rattle.std.specs.Prelude.{ℕ, ◌+◌, ◌%◌, ◌^◌, Bool, true, false, not, ◌&&◌, ◌==◌, nat_lt, List, [], ◌∷◌}

-- the mask isn't 0, and has no number below low and none above high
unfoldable pub is_mask : ℕ → ℕ → ℕ → Bool
is_mask low high mask = not (mask == 0) && ((mask % 2 ^ low == 0) && nat_lt mask (2 ^ (high + 1)))

-- the least and the greatest second, minute, hour, day, month and day of the week
abbrev pub schedule_ranges : List (ℕ × ℕ)
schedule_ranges = (0, 59) ∷ (0, 59) ∷ (0, 23) ∷ (1, 31) ∷ (1, 12) ∷ (0, 6) ∷ []

-- there is one mask for each range, of numbers in this range
abbrev pub are_masks : List (ℕ × ℕ) → List ℕ → Bool
are_masks [] [] = true
are_masks (range ∷ ranges) (mask ∷ masks) = is_mask range.0 range.1 mask && are_masks ranges masks
are_masks ranges masks = false
