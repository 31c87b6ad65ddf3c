-- Dates by their places and by their numbers: where no date of a schedule lies, and the least one.
use Rattle.std.proofs.Common.{◌≡◌, ℕ, ◌+◌, ◌%◌, ◌<◌, ◌≤◌, inl, inr, Bool, true, false, ◌&&◌, Some, None, refl, sym, ap, subst, ◌∙◌, arith, rules, ℤ, pos, negsuc, ◌+ℤ◌, ◌-ℤ◌, ◌<ℤ◌, ◌≤ℤ◌, unsigned_abs}
use Rattle.std.proofs.lemmas.Bool.{cases_lt}
use Rattle.std.specs.Ordering.{int_cmp}
use Rattle.std.proofs.lemmas.Int.{by_lt_z, ints}
use Rattle.jiff_core.specs.declared.civil.date.Date.{Date}
use Rattle.jiff_core.specs.Date.{epoch_day, weekday_of}
use Rattle.jiff_core.specs.Calendar.{day_count, weekday_number, days_in_month}
use Rattle.jiff_core.proofs.SignedLemmas.{signed_arith}
use Rattle.jiff_core.proofs.CalendarLemmas.{days_from_civil-day_count, days_in_month_bounds}
use Rattle.jiff_core.proofs.MarchLemmas.{day_count-early}
use Rattle.jiff_core.proofs.DateLemmas.{epoch_day-lt, epoch_day_same, epoch_day_range, date_key, date_key-epoch_day}
use Rattle.fh_ncrontab.specs.declared.schedule.Schedule.{Schedule}
use Rattle.fh_ncrontab.specs.Sets.{holds}
use Rattle.fh_ncrontab.specs.Search.{IsLeastFrom, IsNextIn}
use Rattle.fh_ncrontab.specs.Dates.{DayIn, place, HasNoDate, IsFirstDate}

pub both_right : (a b : Bool) → (a && b) ≡ true → b ≡ true
both_right true b h = h
both_right false b h = absurd cc

pub both_hold : (a b : Bool) → a ≡ true → b ≡ true → (a && b) ≡ true
both_hold true b h k = k
both_hold false b h k = absurd cc

-- months begin with day 1, and years with month 1
pub no_day_zero : (s : Schedule) (y m : ℕ) → HasNoDate s (place y m 0) (place y m 1)
no_day_zero s y m d year is found from below =
    let days = days_in_month_bounds d.year d.month in
    omega (arith, d.day_in, d.month_in)

pub no_month_zero : (s : Schedule) (y : ℕ) → HasNoDate s (place y 0 0) (place y 1 0)
no_month_zero s y d year is found from below =
    let days = days_in_month_bounds d.year d.month in
    omega (arith, d.day_in, d.month_in)

-- a month that isn't in the set has no date
pub no_date_in_month : (s : Schedule) (y m day : ℕ) → m ≤ 12 → ¬ (holds s.month m ≡ true)
    → HasNoDate s (place y m day) (place y (m + 1) 0)
no_date_in_month s y m day within apart d year is found from below =
    let days = days_in_month_bounds d.year d.month in
    let same : d.month ≡ m = omega (arith, d.day_in, d.month_in) in
    apart (rw same at found.month)

-- nor have the days before the next one in the set
pub no_date_before : (s : Schedule) (low y m from day : ℕ) → m ≤ 12 → day ≤ 31 → HasNoDate s low (place y m from)
    → IsNextIn s.day from (Some day) → HasNoDate s low (place y m day)
no_date_before s low y m from day within small gap next d year is found above below =
    elim (cases_lt (place year d.month d.day) (place y m from)) [
      | inl lt ↦ gap d year is found above lt
      | inr ge ↦
          let days = days_in_month_bounds d.year d.month in
          let between : (from ≤ d.day) × (d.day < day) = omega (arith, d.day_in, d.month_in) in
          next.2 d.day between.0 between.1 found.day
    ]

-- nor has a month that ends before the next day in the set
pub no_date_past : (s : Schedule) (low y m from day : ℕ) → m ≤ 12 → HasNoDate s low (place y m from)
    → IsNextIn s.day from (Some day) → days_in_month (pos y) m < day → HasNoDate s low (place y (m + 1) 0)
no_date_past s low y m from day within gap next short d year is found above below =
    elim (cases_lt (place year d.month d.day) (place y m from)) [
      | inl lt ↦ gap d year is found above lt
      | inr ge ↦
          let days = days_in_month_bounds d.year d.month in
          let same : (year ≡ y) × (d.month ≡ m) × (from ≤ d.day) = omega (arith, d.day_in, d.month_in) in
          let same_year : d.year ≡ pos y = is ∙ ap pos same.0 in
          let within_month : d.day ≤ days_in_month (pos y) m = rw (same_year, same.1) at d.day_in.1 in
          next.2 d.day same.2 (omega (arith, within_month)) found.day
    ]

-- nor has a day of another weekday
pub no_date_on : (s : Schedule) (low y m : ℕ) (date : Date) → m ≤ 12 → date.year ≡ pos y → date.month ≡ m
    → HasNoDate s low (place y m date.day) → ¬ (holds s.weekday ((weekday_of date + 1) % 7) ≡ true)
    → HasNoDate s low (place y m (date.day + 1))
no_date_on s low y m date within is_y is_m gap apart d year is found above below =
    elim (cases_lt (place year d.month d.day) (place y m date.day)) [
      | inl lt ↦ gap d year is found above lt
      | inr ge ↦
          let days = days_in_month_bounds d.year d.month in
          let last = days_in_month_bounds date.year date.month in
          let same : (year ≡ y) × (d.month ≡ m) × (d.day ≡ date.day) =
          omega (arith, d.day_in, d.month_in, date.day_in) in
          let same_year : d.year ≡ date.year = is ∙ ap pos same.0 ∙ sym is_y in
          let same_month : d.month ≡ date.month = same.1 ∙ sym is_m in
          let number : epoch_day d ≡ epoch_day date = epoch_day_same d date same_year same_month same.2 in
          apart (subst (λ (n : ℤ). holds s.weekday ((weekday_number n + 1) % 7) ≡ true) number found.weekday)
    ]

-- the date that ends the search in a month
pub first_in_month : (s : Schedule) (y m start from : ℕ) (date : Date) → m ≤ 12 → start ≤ from → date.year ≡ pos y
    → date.month ≡ m → holds s.month m ≡ true → HasNoDate s (place y m start) (place y m from)
    → IsNextIn s.day from (Some date.day) → holds s.weekday ((weekday_of date + 1) % 7) ≡ true
    → IsFirstDate s (place y m start) (place y (m + 1) 0) date
first_in_month s y m start from date within later is_y is_m in_month gap next in_week =
    let last = days_in_month_bounds date.year date.month in
    record {
      year = y;
      is_year = is_y;
      found = record { month = rw is_m in_month; day = next.1; weekday = in_week };
      from = omega (arith, next.0);
      below = omega (arith, date.day_in);
      least = rw is_m (no_date_before s (place y m start) y m from date.day within (omega (arith, date.day_in))
          gap next);
    }

-- the first date behind two gaps
pub first_behind : (s : Schedule) (a b c high top : ℕ) (d : Date) → HasNoDate s a b → HasNoDate s b c → a ≤ c
    → high ≤ top → IsFirstDate s c high d → IsFirstDate s a top d
first_behind s a b c high top d gap next low up first =
    record {
      year = first.year;
      is_year = first.is_year;
      found = first.found;
      from = omega arith;
      below = omega arith;
      least = λ e year is found from below.
          elim (cases_lt (place year e.month e.day) b) [
            | inl lt ↦ gap e year is found from lt
            | inr ge ↦ elim (cases_lt (place year e.month e.day) c) [
              | inl lt ↦ next e year is found ge lt
              | inr from_c ↦ first.least e year is found from_c below
            ]
          ];
    }

-- a date's place is its key in the calendar, and keys are in the order of the days
key : (d : Date) (year : ℕ) → d.year ≡ pos year → date_key d ≡ pos (place year d.month d.day)
key d year is_year = rw is_year (omega (arith, signed_arith))

same_le : (a b x y : ℤ) → int_cmp a b ≡ int_cmp x y → a ≤ℤ b → x ≤ℤ y
same_le a b x y same le = grind (arith, ints)

same_lt : (a b x y : ℤ) → int_cmp a b ≡ int_cmp x y → a <ℤ b → x <ℤ y
same_lt a b x y same lt = grind (arith, ints)

pub epoch_day-le : (a b : Date) (x y : ℕ) → a.year ≡ pos x → b.year ≡ pos y
    → place x a.month a.day ≤ place y b.month b.day → epoch_day a ≤ℤ epoch_day b
epoch_day-le a b x y is_x is_y le =
    let first = key a x is_x in
    let second = key b y is_y in
    let keys : date_key a ≤ℤ date_key b = omega (arith, signed_arith, first, second) in
    same_le _ _ _ _ (date_key-epoch_day a b).0 keys

pub place-le : (a b : Date) (x y : ℕ) → a.year ≡ pos x → b.year ≡ pos y → epoch_day a ≤ℤ epoch_day b
    → place x a.month a.day ≤ place y b.month b.day
place-le a b x y is_x is_y le =
    let first = key a x is_x in
    let second = key b y is_y in
    let keys : date_key a ≤ℤ date_key b = same_le _ _ _ _ (sym (date_key-epoch_day a b).0) le in
    omega (arith, signed_arith, first, second, keys)

pub place-lt : (a b : Date) (x y : ℕ) → a.year ≡ pos x → b.year ≡ pos y → epoch_day a <ℤ epoch_day b
    → place x a.month a.day < place y b.month b.day
place-lt a b x y is_x is_y lt =
    let first = key a x is_x in
    let second = key b y is_y in
    let keys : date_key a <ℤ date_key b = same_lt _ _ _ _ (sym (date_key-epoch_day a b).0) lt in
    omega (arith, signed_arith, first, second, keys)

first : Date
first = record {
  year = pos 0;
  month = 1;
  day = 1;
  year_in = search rules;
  month_in = search rules;
  day_in =
      search rules;
}

-- 0000-01-01 is this long before 1970-01-01
epoch_day-first : epoch_day first +ℤ pos 719528 ≡ pos 0
unfolding first
epoch_day-first =
    let count : day_count (pos 0) 1 1 ≡ 3652425 = day_count-early (pos 0) 9999 1 1 refl (omega arith) (omega arith)
    (omega arith) in
    omega (arith, signed_arith, count, days_from_civil-day_count (pos 0) 1 1)

year-first : first.year ≡ pos 0
unfolding first
year-first = refl

not_negative : (y : ℤ) → pos 0 ≤ℤ y → y ≡ pos (unsigned_abs y)
not_negative (pos n) h = refl
not_negative (negsuc n) h = absurd (omega (arith, signed_arith, h))

-- a number that isn't before that of the year 0, counted from there
pub counted : (z : ℤ) (n base : ℕ) → (pos n -ℤ pos base) ≤ℤ z → z ≡ pos (unsigned_abs (z +ℤ pos base)) -ℤ pos base
counted z n base h =
    let shifted = not_negative (z +ℤ pos base) (omega (arith, signed_arith, h)) in
    omega (arith, signed_arith, shifted)

-- a date whose number isn't before that of the year 0 is of a year that isn't negative
pub year_of : (d : Date) (n : ℕ) → epoch_day d ≡ pos n -ℤ pos 719528 → d.year ≡ pos (unsigned_abs d.year)
year_of d n numbered =
    by_lt_z d.year (pos 0) (λ lt.
    let year : d.year <ℤ first.year = rw year-first (omega (arith, signed_arith, lt)) in
    let before = epoch_day-lt d first (inl year) in
    absurd (omega (arith, signed_arith, before, epoch_day-first, numbered))) (λ ge. not_negative d.year ge)

-- no date of the calendar has a number above that of 9999-12-31
pub day_in_range : (s : Schedule) (k : ℕ) → DayIn s k → k ≤ 3652424
day_in_range s k h =
    let last = (epoch_day_range h.date).1 in
    omega (arith, signed_arith, last, h.numbered)

-- the least date, as the least number of a day
pub day_found : (s : Schedule) (start date : Date) (n high : ℕ) → epoch_day start ≡ pos n -ℤ pos 719528
    → IsFirstDate s (place (unsigned_abs start.year) start.month start.day) high date
    → IsLeastFrom (DayIn s) n (Some (unsigned_abs (epoch_day date +ℤ pos 719528)))
day_found s start date n high numbered first =
    let begun = year_of start n numbered in
    let ordered = epoch_day-le start date _ first.year begun first.is_year first.from in
    let number = counted (epoch_day date) n 719528 (omega (arith, signed_arith, ordered, numbered)) in (
      omega (arith, signed_arith, ordered, numbered, number),
      record { date = date; numbered = number; found = first.found },
      λ k from below h.
          let year = year_of h.date k h.numbered in
          let above = place-le start h.date _ _ begun year (omega (arith, signed_arith, numbered, h.numbered)) in
          let under = place-lt h.date date _ _ year first.is_year (omega (arith, signed_arith, number, h.numbered)) in
          first.least h.date _ year h.found above under,
    )

pub day_none : (s : Schedule) (start : Date) (n : ℕ) → epoch_day start ≡ pos n -ℤ pos 719528
    → HasNoDate s (place (unsigned_abs start.year) start.month start.day) (place 10000 0 0)
    → IsLeastFrom (DayIn s) n None
day_none s start n numbered none k from h =
    let begun = year_of start n numbered in
    let year = year_of h.date k h.numbered in
    let above = place-le start h.date _ _ begun year (omega (arith, signed_arith, numbered, h.numbered)) in
    let days = days_in_month_bounds h.date.year h.date.month in
    let last : unsigned_abs h.date.year ≤ 9999 = omega (arith, signed_arith, h.date.year_in, year) in
    none h.date _ year h.found above (omega (arith, h.date.day_in, h.date.month_in))

pub no_date_empty : (s : Schedule) (low : ℕ) → HasNoDate s low low
no_date_empty s low d year is found from below = omega arith
