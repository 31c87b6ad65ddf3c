-- The calendar repeats after 400 years, so a schedule with no date in 400 years has none later.
use Rattle.std.proofs.Common.{◌≡◌, ℕ, zero, suc, ◌+◌, ◌-◌, ◌*◌, ◌%◌, ◌<◌, ◌≤◌, inl, inr, cond, true, refl, ap, subst, ◌∙◌, arith, pos, ◌+ℤ◌}
use Rattle.std.proofs.lemmas.Bool.{cases_lt}
use Rattle.jiff_core.specs.declared.civil.date.Date.{Date}
use Rattle.jiff_core.specs.Calendar.{is_leap_year, days_in_month, days_of_years, days_of_months, day_of_year, day_count, days_from_civil, weekday_number}
use Rattle.jiff_core.specs.Date.{weekday_of}
use Rattle.jiff_core.proofs.SignedLemmas.{signed_arith}
use Rattle.jiff_core.proofs.CalendarLemmas.{days_from_civil-day_count, days_in_month_bounds, weekday_number-add, weekday_number_bound}
use Rattle.jiff_core.proofs.MarchLemmas.{leap_day, days_of_years-march_days}
use Rattle.fh_ncrontab.specs.declared.schedule.Schedule.{Schedule}
use Rattle.fh_ncrontab.specs.Sets.{holds}
use Rattle.fh_ncrontab.specs.Dates.{place, DateIn, HasNoDate}

leap-back : (y : ℕ) → is_leap_year (pos (y + 400)) ≡ is_leap_year (pos y)
leap-back y =
    let four : (y + 400) % 4 ≡ y % 4 = omega arith in
    let hundred : (y + 400) % 100 ≡ y % 100 = omega arith in
    let cycle : (y + 400) % 400 ≡ y % 400 = omega arith in
    rw (four, hundred, cycle) refl

month-back : (y m : ℕ) → days_in_month (pos (y + 400)) m ≡ days_in_month (pos y) m
month-back y m = rw (leap-back y) refl

months-back : (y n : ℕ) → days_of_months (pos (y + 400)) n ≡ days_of_months (pos y) n
unfolding days_of_months
months-back y zero = refl
months-back y (suc n) = rw (months-back y n, month-back y (suc n)) refl

-- 400 years have 146097 days, which are whole weeks
years-back : (n : ℕ) → days_of_years (n + 400) ≡ days_of_years n + 146097
years-back n =
    let leap : leap_day (pos (n + 400)) ≡ leap_day (pos n) = ap (λ b. cond b 1 0) (leap-back n) in
    omega (arith, days_of_years-march_days (n + 400), days_of_years-march_days n, leap)

count-back : (y m d : ℕ) → day_count (pos (y + 400)) m d ≡ day_count (pos y) m d + 146097
unfolding day_count
count-back y m d =
    let shift : y + 400 + 10000 ≡ (y + 10000) + 400 = omega arith in
    ap (λ n. days_of_years n + (day_of_year (pos (y + 400)) m d - 1)) shift
    ∙ ap (λ n. days_of_years ((y + 10000) + 400) + ((n + d) - 1)) (months-back y (m - 1))
    ∙ ap (λ n. n + (day_of_year (pos y) m d - 1)) (years-back (y + 10000))
    ∙ (let swap : (days_of_years (y + 10000) + 146097) + (day_of_year (pos y) m d - 1)
    ≡ (days_of_years (y + 10000) + (day_of_year (pos y) m d - 1)) + 146097 = omega arith in swap)

days-back : (y m d : ℕ) → days_from_civil (pos (y + 400)) m d ≡ days_from_civil (pos y) m d +ℤ pos 146097
days-back y m d =
    omega (
      arith,
      signed_arith,
      count-back y m d,
      days_from_civil-day_count (pos (y + 400)) m d,
      days_from_civil-day_count (pos y) m d,
    )

weekday-back : (y m d : ℕ) → weekday_number (days_from_civil (pos (y + 400)) m d)
    ≡ weekday_number (days_from_civil (pos y) m d)
weekday-back y m d =
    let z = days_from_civil (pos y) m d in
    let small = weekday_number_bound z in
    let round : (weekday_number z + 146097) % 7 ≡ weekday_number z = omega arith in
    weekday_number-add z (days_from_civil (pos (y + 400)) m d) 146097 (days-back y m d) ∙ round

-- a date of the schedule has another 400 years before
earlier : (s : Schedule) (d : Date) (y : ℕ) → d.year ≡ pos (y + 400) → DateIn s d
    → (e : Date) × (e.year ≡ pos y) × DateIn s e
earlier s d y year found =
    let month : days_in_month d.year d.month ≡ days_in_month (pos y) d.month = ap (λ z. days_in_month z d.month) year
    ∙ month-back y d.month in
    let e : Date = record {
      year = pos y;
      month = d.month;
      day = d.day;
      year_in = omega (arith, signed_arith, d.year_in, year);
      month_in = d.month_in;
      day_in = (d.day_in.0, subst (λ (n : ℕ). d.day ≤ n) month d.day_in.1);
    } in
    let weekday : weekday_of d ≡ weekday_of e = ap (λ z. weekday_number (days_from_civil z d.month d.day)) year
    ∙ weekday-back y d.month d.day in (
      e,
      refl,
      record {
        month = found.month;
        day = found.day;
        weekday =
            subst (λ (w : ℕ). holds s.weekday ((w + 1) % 7) ≡ true) weekday found.weekday;
      },
    )

-- a date of the first 400 years behind the first year, and then any later one
none_near : (s : Schedule) (low first : ℕ) → low ≤ place (first + 1) 0 0 → HasNoDate s low (place (first + 401) 0 0)
    → (d : Date) (y : ℕ) → d.year ≡ pos y → first < y → y < first + 401 → ¬ DateIn s d
none_near s low first start gap d y year later within found =
    let days = days_in_month_bounds d.year d.month in
    gap d y year found (omega (arith, d.day_in, d.month_in)) (omega (arith, d.day_in, d.month_in))

none_later : (s : Schedule) (low first steps : ℕ) → low ≤ place (first + 1) 0 0
    → HasNoDate s low (place (first + 401) 0 0)
    → (d : Date) (y : ℕ) → d.year ≡ pos y → first < y → y < first + 401 + 400 * steps → ¬ DateIn s d
none_later s low first zero start gap d y year later within found =
    none_near s low first start gap d y year later (omega arith) found
none_later s low first (suc steps) start gap d y year later within found =
    elim (cases_lt y (first + 401)) [
      | inl lt ↦ none_near s low first start gap d y year later lt found
      | inr ge ↦
          let back : y ≡ (y - 400) + 400 = omega arith in
          let e = earlier s d (y - 400) (year ∙ ap pos back) found in
          none_later s low first steps start gap e.0 (y - 400) e.1 (omega arith) (omega arith) e.2
    ]

-- where 400 years have no date, no later one has
pub no_date_later : (s : Schedule) (low first high : ℕ) → low ≤ place (first + 1) 0 0
    → HasNoDate s low (place (first + 401) 0 0) → HasNoDate s low high
no_date_later s low first high start gap d y year found above below =
    elim (cases_lt first y) [
      | inl lt ↦ none_later s low first y start gap d y year lt (omega arith) found
      | inr le ↦
          let days = days_in_month_bounds d.year d.month in
          gap d y year found above (omega (arith, d.day_in, d.month_in))
    ]
