-- The least second, as the search finds it, is the one that the definitions give.
use Rattle.std.proofs.Common.{◌≡◌, ℕ, zero, suc, ◌+◌, ◌-◌, ◌/◌, ◌%◌, ◌<◌, ◌≤◌, inl, inr, Bool, true, false, ◌&&◌, ◌||◌, nat_le, cond, Option, Some, None, option_map, IfSome, refl, sym, ap, subst, ◌∙◌, arith, ℤ, pos, negsuc, neg_ℤ, ◌+ℤ◌, ◌-ℤ◌, ◌≤ℤ◌, unsigned_abs, to_z, of_z, w64}
use Rattle.std.specs.Int.{int_div_euclid, int_rem_euclid}
use Rattle.std.specs.Ordering.{int_eq}
use Rattle.std.proofs.lemmas.Bool.{cases_lt}
use Rattle.std.proofs.lemmas.Bool.Decides.{nat_tests}
use Rattle.std.proofs.lemmas.Int.{ints}
use Rattle.jiff_core.specs.declared.civil.date.Date.{Date}
use Rattle.jiff_core.specs.Calendar.{days_from_civil, days_in_month, weekday_number}
use Rattle.jiff_core.proofs.SignedLemmas.{signed_arith, back_small, one_part}
use Rattle.jiff_core.proofs.CalendarLemmas.{days_in_month_bounds}
use Rattle.fh_ncrontab.specs.declared.schedule.Schedule.{Schedule}
use Rattle.fh_ncrontab.specs.Sets.{holds}
use Rattle.fh_ncrontab.specs.Search.{IsLeastFrom, IsIn}
use Rattle.fh_ncrontab.specs.Dates.{DayIn}
use Rattle.fh_ncrontab.specs.Schedule.{some_below, is_civil, has_date, is_day, is_time, is_in, first_of, first_from, next, IsNext, last_second}
use Rattle.fh_ncrontab.proofs.DayLemmas.{year_of, counted}
use Rattle.fh_ncrontab.proofs.MaskLemmas.{both, each}

left_of : (a b : Bool) → a ≡ true → (a || b) ≡ true
left_of true b h = refl
left_of false b h = absurd cc

right_of : (a b : Bool) → b ≡ true → (a || b) ≡ true
right_of true b h = refl
right_of false b h = h

some_below-yes : (p : ℕ → Bool) (n k : ℕ) → k < n → p k ≡ true → some_below n p ≡ true
unfolding some_below
some_below-yes p zero k lt passes = absurd (omega arith)
some_below-yes p (suc n) k lt passes =
    elim (cases_lt k n) [
      | inl below ↦ right_of (p n) (some_below n p) (some_below-yes p n k below passes)
      | inr above ↦ let same : k ≡ n = omega arith in left_of (p n) (some_below n p)
          (subst (λ (j : ℕ). p j ≡ true) same passes)
    ]

found_step : (p : ℕ → Bool) (n : ℕ) (b : Bool) → p n ≡ b → (some_below n p ≡ true → (k : ℕ) × (k < n) × (p k ≡ true))
    → (b || some_below n p) ≡ true → (k : ℕ) × (k < suc n) × (p k ≡ true)
found_step p n true is more h = (n, omega arith, is)
found_step p n false is more h =
    let found = more h in
    (found.0, omega (arith, found.1), found.2)

some_below-found : (p : ℕ → Bool) (n : ℕ) → some_below n p ≡ true → (k : ℕ) × (k < n) × (p k ≡ true)
unfolding some_below
some_below-found p zero h = absurd cc
some_below-found p (suc n) h = found_step p n (p n) refl (some_below-found p n) h

-- the first of n numbers from `from` on that passes
first_number : (ℕ → Bool) → ℕ → ℕ → Option ℕ
first_number p from zero = None
first_number p from (suc n) = cond (p from) (Some from) (first_number p (from + 1) n)

abbrev IsFirstOf : (ℕ → Bool) → ℕ → ℕ → Option ℕ → Type 0
IsFirstOf p from n None = (k : ℕ) → from ≤ k → k < from + n → ¬ (p k ≡ true)
IsFirstOf p from n (Some r) = (from ≤ r) × (r < from + n) × (p r ≡ true) × ((k : ℕ) → from ≤ k → k < r → ¬ (p k ≡ true))

-- there is one answer at most
first_of_one : (p : ℕ → Bool) (from n : ℕ) (a b : Option ℕ) → IsFirstOf p from n a → IsFirstOf p from n b → a ≡ b
first_of_one p from n None None h k = refl
first_of_one p from n None (Some r) h k = absurd (h r k.0 k.1 k.2)
first_of_one p from n (Some r) None h k = absurd (k r h.0 h.1 h.2)
first_of_one p from n (Some r) (Some q) h k =
    elim (cases_lt r q) [
      | inl lt ↦ absurd (k.3 r h.0 lt h.2)
      | inr ge ↦ elim (cases_lt q r) [
        | inl lt ↦ absurd (h.3 q k.0 lt k.2)
        | inr le ↦ let same : r ≡ q = omega arith in ap Some same
      ]
    ]

first_step : (p : ℕ → Bool) (from n : ℕ) (b : Bool) (r : Option ℕ) → p from ≡ b → IsFirstOf p (from + 1) n r
    → IsFirstOf p from (suc n) (cond b (Some from) r)
first_step p from n true r is h = (omega arith, omega arith, is, λ k low high. absurd (omega arith))
first_step p from n false None is h = λ k low high passes.
    elim (cases_lt from k) [
      | inl lt ↦ h k (omega arith) (omega arith) passes
      | inr ge ↦ let same : k ≡ from = omega arith in let no : p k ≡ false = rw same is in absurd cc
    ]
first_step p from n false (Some r) is h = (
  omega (arith, h.0),
  omega (arith, h.1),
  h.2,
  λ k low high passes.
      elim (cases_lt from k) [
        | inl lt ↦ h.3 k (omega arith) high passes
        | inr ge ↦ let same : k ≡ from = omega arith in let no : p k ≡ false = rw same is in absurd cc
      ],
)

first_number-is : (p : ℕ → Bool) (from n : ℕ) → IsFirstOf p from n (first_number p from n)
unfolding first_number
first_number-is p from zero = λ k low high passes. absurd (omega arith)
first_number-is p from (suc n) = first_step p from n (p from) (first_number p (from + 1) n) refl
    (first_number-is p (from + 1) n)

le_yes : (a b : ℕ) → a ≤ b → nat_le a b ≡ true
le_yes a b h = grind (arith, nat_tests)

le_told : (a b : ℕ) → nat_le a b ≡ true → a ≤ b
le_told a b h = grind (arith, nat_tests)

same_yes : (a b : ℤ) → a ≡ b → int_eq a b ≡ true
same_yes a b h = grind (arith, ints)

same_told : (a b : ℤ) → int_eq a b ≡ true → a ≡ b
same_told a b h = grind (arith, ints)

-- numbers from the year 0 on, counted from 1970
abbrev day_at : ℕ → ℤ
day_at n = pos n -ℤ pos 719528

abbrev pub second_at : ℕ → ℤ
second_at n = pos n -ℤ pos 62167219200

abbrev is_date : Schedule → ℤ → ℕ → ℕ → ℕ → Bool
is_date s day y m d = is_civil y m d && (int_eq (days_from_civil (pos y) m d) day && has_date s day m d)

pub is_day-yes : (s : Schedule) (n : ℕ) → DayIn s n → is_day s (day_at n) ≡ true
unfolding is_day
is_day-yes s n h =
    let d = h.date in
    let year : d.year ≡ pos (unsigned_abs d.year) = year_of d n h.numbered in
    let y = unsigned_abs d.year in
    let small : y < 10000 = omega (arith, signed_arith, d.year_in, year) in
    let days = days_in_month_bounds d.year d.month in
    let civil : is_civil y d.month d.day ≡ true =
    both _ _ (both _ _ (le_yes _ _ d.month_in.0) (le_yes _ _ d.month_in.1))
    (both _ _ (le_yes _ _ d.day_in.0) (le_yes _ _
    (subst (λ (z : ℤ). d.day ≤ days_in_month z d.month) year d.day_in.1))) in
    let numbered : int_eq (days_from_civil (pos y) d.month d.day) (day_at n) ≡ true =
    same_yes _ _ (subst (λ (z : ℤ). days_from_civil z d.month d.day ≡ day_at n) year h.numbered) in
    let found : has_date s (day_at n) d.month d.day ≡ true =
    both _ _ h.found.month (both _ _ h.found.day
    (subst (λ (z : ℤ). holds s.weekday ((weekday_number z + 1) % 7) ≡ true) h.numbered h.found.weekday)) in
    let dated : is_date s (day_at n) y d.month d.day ≡ true = both _ _ civil (both _ _ numbered found) in
    some_below-yes _ 10000 y small (some_below-yes _ 13 d.month (omega (arith, d.month_in))
    (some_below-yes _ 32 d.day (omega (arith, d.day_in)) dated))

date_told : (s : Schedule) (n y m d : ℕ) → y < 10000 → is_date s (day_at n) y m d ≡ true → DayIn s n
date_told s n y m d small h =
    let halves = each _ _ h in
    let civil = each _ _ halves.0 in
    let month = each _ _ civil.0 in
    let day = each _ _ civil.1 in
    let rest = each _ _ halves.1 in
    let sets = each _ _ rest.1 in
    let in_sets = each _ _ sets.1 in
    let date : Date = record {
      year = pos y;
      month = m;
      day = d;
      year_in = omega (arith, signed_arith);
      month_in = (le_told _ _ month.0, le_told _ _ month.1);
      day_in = (le_told _ _ day.0, le_told _ _ day.1);
    } in
    let numbered : days_from_civil (pos y) m d ≡ day_at n = same_told _ _ rest.0 in
    record {
      date = date;
      numbered = numbered;
      found = record {
        month = sets.0;
        day = in_sets.0;
        weekday =
            subst (λ (z : ℤ). holds s.weekday ((weekday_number z + 1) % 7) ≡ true) (sym numbered) in_sets.1;
      };
    }

pub is_day-told : (s : Schedule) (n : ℕ) → is_day s (day_at n) ≡ true → DayIn s n
unfolding is_day
is_day-told s n h =
    let by_year = some_below-found _ 10000 h in
    let by_month = some_below-found _ 13 by_year.2 in
    let by_day = some_below-found _ 32 by_month.2 in
    date_told s n by_year.0 by_month.0 by_day.0 by_year.1 by_day.2

-- the date and the time of a second
day_of : (n : ℕ) → int_div_euclid (second_at n) (pos 86400) ≡ day_at (n / 86400)
day_of n = omega (arith, signed_arith)

time_of : (n : ℕ) → unsigned_abs (int_rem_euclid (second_at n) (pos 86400)) ≡ n % 86400
time_of n = omega (arith, signed_arith)

is_in-parts : (s : Schedule) (n : ℕ) → is_in s (second_at n) ≡ (is_day s (day_at (n / 86400)) && is_time s (n % 86400))
is_in-parts s n =
    ap (λ d. is_day s d && is_time s (unsigned_abs (int_rem_euclid (second_at n) (pos 86400)))) (day_of n)
    ∙ ap (λ t. is_day s (day_at (n / 86400)) && is_time s t) (time_of n)

is_in-yes : (s : Schedule) (n : ℕ) → IsIn s n → is_in s (second_at n) ≡ true
is_in-yes s n h = is_in-parts s n ∙ both _ _ (is_day-yes s (n / 86400) h.0) (both _ _ h.1.0 (both _ _ h.1.1.0 h.1.1.1))

is_in-told : (s : Schedule) (n : ℕ) → is_in s (second_at n) ≡ true → IsIn s n
is_in-told s n h =
    let halves = each _ _ (sym (is_in-parts s n) ∙ h) in
    let time = each _ _ halves.1 in
    let minute = each _ _ time.1 in
    (is_day-told s (n / 86400) halves.0, (time.0, (minute.0, minute.1)))

-- the search over seconds, in numbers from the year 0 on
first_branch : (at : ℕ → ℤ) (b : Bool) (from : ℕ) (later : Option ℕ)
    → cond b (Some (at from)) (option_map at later) ≡ option_map at (cond b (Some from) later)
first_branch at true from later = refl
first_branch at false from later = refl

first_of-along : (at : ℕ → ℤ) → ((n : ℕ) → at n +ℤ pos 1 ≡ at (n + 1)) → (p : ℤ → Bool) (from n : ℕ)
    → first_of p (at from) n ≡ option_map at (first_number (λ k. p (at k)) from n)
unfolding first_of first_number
first_of-along at on p from zero = refl
first_of-along at on p from (suc n) =
    ap (λ z. cond (p (at from)) (Some (at from)) (first_of p z n)) (on from)
    ∙ ap (λ r. cond (p (at from)) (Some (at from)) r) (first_of-along at on p (from + 1) n)
    ∙ first_branch at (p (at from)) from (first_number (λ k. p (at k)) (from + 1) n)

second_on : (n : ℕ) → second_at n +ℤ pos 1 ≡ second_at (n + 1)
second_on n = omega (arith, signed_arith)

pos_on : (n : ℕ) → pos n +ℤ pos 1 ≡ pos (n + 1)
pos_on n = omega (arith, signed_arith)

abbrev pub end : ℕ
end = 315569520000

told_first : (s : Schedule) (n : ℕ) (r : Option ℕ) → n ≤ end → IsLeastFrom (IsIn s) n r
    → IfSome r (λ k. k ≤ 315569519999)
    → IsFirstOf (λ k. is_in s (second_at k)) n (end - n) r
told_first s n None small h bound = λ k low high passes. h k low (is_in-told s k passes)
told_first s n (Some r) small h bound =
    (h.0, omega (arith, bound), is_in-yes s r h.1, λ k low high passes. h.2 k low high (is_in-told s k passes))

steps : (n : ℕ) → n ≤ end → unsigned_abs (pos (last_second + 1) -ℤ second_at n) ≡ end - n
steps n small =
    let same : pos (last_second + 1) -ℤ second_at n ≡ pos (end - n) = omega (arith, signed_arith) in
    ap unsigned_abs same

-- the least second from n on is the one that the function gives
pub first_from-is : (s : Schedule) (n : ℕ) (r : Option ℕ) → n ≤ end → IsLeastFrom (IsIn s) n r
    → IfSome r (λ k. k ≤ 315569519999)
    → option_map second_at r ≡ first_from s (second_at n)
unfolding first_from
first_from-is s n r small h bound =
    ap (option_map second_at) (first_of_one _ _ _ _ _ (told_first s n r small h bound)
    (first_number-is (λ k. is_in s (second_at k)) n (end - n)))
    ∙ sym (first_of-along second_at second_on (is_in s) n (end - n))
    ∙ ap (first_of (is_in s) (second_at n)) (sym (steps n small))

-- a second of the clock, seen from the year 0 on
pub back : (x : ℤ) → neg_ℤ (pos 62167219200) ≤ℤ x → second_at (unsigned_abs (x +ℤ pos 62167219200)) ≡ x
back x low = sym (counted x 0 62167219200 (omega (arith, signed_arith, low)))

pub within_end : (x : ℤ) → neg_ℤ (pos 62167219200) ≤ℤ x → x ≤ℤ pos 253402300800
    → unsigned_abs (x +ℤ pos 62167219200) ≤ end
within_end x low high =
    let same = back x low in
    omega (arith, signed_arith, same, low, high)

back_map : (r : Option ℕ) → option_map unsigned_abs (option_map pos r) ≡ r
back_map None = refl
back_map (Some n) = refl

-- a second after one that isn't before 1970 isn't either
later_steps : ℕ → ℕ
later_steps x = unsigned_abs (pos (last_second + 1) -ℤ pos (x + 1))

next-number : (s : Schedule) (x : ℕ) → next s x ≡ first_number (λ k. is_in s (pos k)) (x + 1) (later_steps x)
unfolding next first_from later_steps
next-number s x = ap (option_map unsigned_abs) (first_of-along pos pos_on (is_in s) (x + 1) (later_steps x))
    ∙ back_map _

pub next-is : (s : Schedule) (x : ℕ) → option_map pos (next s x) ≡ first_from s (pos (x + 1))
unfolding first_from later_steps
next-is s x = ap (option_map pos) (next-number s x) ∙ sym (first_of-along pos pos_on (is_in s) (x + 1) (later_steps x))

not_true : (b : Bool) → ¬ (b ≡ true) → b ≡ false
not_true true h = absurd (h refl)
not_true false h = refl

told_next : (s : Schedule) (x : ℕ) (r : Option ℕ) → x ≤ last_second
    → IsFirstOf (λ k. is_in s (pos k)) (x + 1) (last_second - x) r → IsNext s x r
told_next s x None small h = λ k low high. not_true (is_in s (pos k)) (h k (omega arith) (omega arith))
told_next s x (Some n) small h = (
  omega (arith, h.0),
  omega (arith, h.1),
  h.2,
  λ k low high. not_true (is_in s (pos k)) (h.3 k (omega arith) high),
)

count_later : (x : ℕ) → x ≤ last_second → later_steps x ≡ last_second - x
unfolding later_steps
count_later x small =
    let same : pos (last_second + 1) -ℤ pos (x + 1) ≡ pos (last_second - x) = omega (arith, signed_arith) in
    ap unsigned_abs same

-- and it is the least one
pub next-least : (s : Schedule) (x : ℕ) → x ≤ last_second → IsNext s x (next s x)
next-least s x small =
    let number : next s x ≡ first_number (λ k. is_in s (pos k)) (x + 1) (last_second - x) =
    next-number s x ∙ ap (first_number (λ k. is_in s (pos k)) (x + 1)) (count_later x small) in
    subst (λ (r : Option ℕ). IsNext s x r) (sym number)
    (told_next s x _ small (first_number-is (λ k. is_in s (pos k)) (x + 1) (last_second - x)))

-- numbers of this size come back from their bits
pub second_back : (k : ℕ) → k ≤ 315569519999 → to_z w64 (of_z w64 (second_at k)) ≡ second_at k
second_back k small = back_small w64 (second_at k) (omega (arith, signed_arith, one_part (second_at k)))

pub later_back : (x : ℤ) → pos 0 ≤ℤ x → x ≤ℤ pos 253402300799
    → to_z w64 (of_z w64 (x +ℤ pos 1)) ≡ pos (unsigned_abs x + 1)
later_back (pos n) low high = back_small w64 (pos (n + 1)) (omega (arith, signed_arith, high))
later_back (negsuc n) low high = absurd (omega (arith, signed_arith, low))

pub abs_within : (x : ℤ) → pos 0 ≤ℤ x → x ≤ℤ pos 253402300799 → unsigned_abs x ≤ last_second
abs_within (pos n) low high = omega (arith, signed_arith, high)
abs_within (negsuc n) low high = absurd (omega (arith, signed_arith, low))
