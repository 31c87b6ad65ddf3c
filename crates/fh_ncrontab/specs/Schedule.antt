-- When a schedule runs. Days are counted from 1970-01-01 and seconds from its midnight, and both are
-- negative before it. A second is one of a civil date and time: in UTC, or where a clock says otherwise.
use Rattle.std.specs.Prelude.{◌≡◌, ℕ, zero, suc, ◌+◌, ◌/◌, ◌%◌, ◌<◌, ◌≤◌, nat_le, Bool, true, false, ◌&&◌, ◌||◌, if◌then◌else◌, List, [], ◌∷◌, slice_index, Option, None, Some, option_map, ℤ, pos, ◌+ℤ◌, ◌-ℤ◌, unsigned_abs}
use Rattle.std.specs.Int.{int_div_euclid, int_rem_euclid}
use Rattle.std.specs.Ordering.{int_eq}
use Rattle.jiff_core.specs.Calendar.{days_from_civil, days_in_month, weekday_number}
use Rattle.fh_ncrontab.specs.declared.schedule.Schedule.{Schedule}
use Rattle.fh_ncrontab.specs.Sets.{holds, is_mask}

-- some number below n passes
unfoldable pub some_below : ℕ → (ℕ → Bool) → Bool
some_below zero p = false
some_below (suc n) p = p n || some_below n p

-- the calendar has this date
abbrev pub is_civil : ℕ → ℕ → ℕ → Bool
is_civil year month date =
    (nat_le 1 month && nat_le month 12) && (nat_le 1 date && nat_le date (days_in_month (pos year) month))

-- the month, the date and the day's weekday are in the sets, where Sunday is 0
abbrev pub has_date : Schedule → ℤ → ℕ → ℕ → Bool
has_date s day month date =
    holds s.month month && (holds s.day date && holds s.weekday ((weekday_number day + 1) % 7))

-- a day is in the schedule where its date, in a year from 0 to 9999, is
unfoldable pub is_day : Schedule → ℤ → Bool
is_day s day =
    some_below 10000 (λ year. some_below 13 (λ month. some_below 32 (λ date.
    is_civil year month date && (int_eq (days_from_civil (pos year) month date) day && has_date s day month date))))

-- a second of a day has its hour, its minute and its second in the sets
abbrev pub is_time : Schedule → ℕ → Bool
is_time s t = holds s.hour (t / 3600) && (holds s.minute (t % 3600 / 60) && holds s.second (t % 3600 % 60))

-- a second is in the schedule: its date and its time have all six numbers in the sets
abbrev pub is_in : Schedule → ℤ → Bool
is_in s x = is_day s (int_div_euclid x (pos 86400)) && is_time s (unsigned_abs (int_rem_euclid x (pos 86400)))

-- the first of n seconds from x on that passes
unfoldable pub first_of : (ℤ → Bool) → ℤ → ℕ → Option ℤ
first_of p x zero = None
first_of p x (suc n) = if p x then Some x else first_of p (x +ℤ pos 1) n

-- 9999-12-31T23:59:59
abbrev pub last_second : ℕ
last_second = 253402300799

-- the least second of the schedule from x on, up to the last one
unfoldable pub first_from : Schedule → ℤ → Option ℤ
first_from s x = first_of (is_in s) x (unsigned_abs (pos (last_second + 1) -ℤ x))

-- the least second of the schedule after x, which isn't before 1970
unfoldable pub next : Schedule → ℕ → Option ℕ
next s x = option_map unsigned_abs (first_from s (pos (x + 1)))

-- the same as a fact: the second is in the schedule, and no other after x and before it is
abbrev pub IsNext : Schedule → ℕ → Option ℕ → Type 0
IsNext s x None = (k : ℕ) → x < k → k ≤ last_second → is_in s (pos k) ≡ false
IsNext s x (Some n) =
    (x < n) × (n ≤ last_second) × (is_in s (pos n) ≡ true)
    × ((k : ℕ) → x < k → k < n → is_in s (pos k) ≡ false)

-- the sets as masks, in the order of the fields
abbrev pub masks_of : Schedule → List ℕ
masks_of s = s.second ∷ s.minute ∷ s.hour ∷ s.day ∷ s.month ∷ s.weekday ∷ []

-- each mask is one of its field
abbrev pub are_masks : List ℕ → Bool
are_masks masks =
    is_mask 0 59 (slice_index masks 0) && (is_mask 0 59 (slice_index masks 1)
    && (is_mask 0 23 (slice_index masks 2) && (is_mask 1 31 (slice_index masks 3)
    && (is_mask 1 12 (slice_index masks 4) && is_mask 0 6 (slice_index masks 5)))))

-- the schedule with these masks
abbrev pub with_masks : List ℕ → Schedule
with_masks masks = record {
  second = slice_index masks 0;
  minute = slice_index masks 1;
  hour = slice_index masks 2;
  day = slice_index masks 3;
  month = slice_index masks 4;
  weekday = slice_index masks 5;
}
