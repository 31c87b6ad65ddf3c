-- Going on from day to day reaches the date with that day number.
use Rattle.std.proofs.Common.{◌≡◌, ℕ, zero, suc, ◌+◌, ◌<◌, ◌≤◌, ◌⊎◌, inl, inr, refl, sym, ap, ◌∙◌, arith, cond, leb, ℤ, pos, neg_ℤ, ◌+ℤ◌, ◌<ℤ◌, ◌≤ℤ◌}
use Rattle.std.proofs.lemmas.Bool.Decides.{leb_tells}
use Rattle.std.proofs.lemmas.Int.{by_lt_z}
use Rattle.jiff_core.specs.declared.civil.date.Date.{Date}
use Rattle.jiff_core.specs.Calendar.{days_from_civil, days_in_month, IsYear}
use Rattle.jiff_core.specs.Date.{epoch_day}
use Rattle.jiff_core.proofs.CalendarLemmas.{days_from_civil-day_count, day_count-lt_year, days_in_month_bounds}
use Rattle.jiff_core.proofs.DateLemmas.{civil, epoch_day_injective, days_from_civil-day, days_from_civil-next_month, days_from_civil-next_year}
use Rattle.jiff_core.proofs.SignedLemmas.{signed_arith}
use Rattle.jiff_core.proofs.StandardFacts.{known_days}
use Rattle.fh_base.specs.declared.calendar.Civil.{Civil}
use Rattle.fh_base.specs.Calendar.{date_on, day_after}

pub record IsDay (n : ℕ) (c : Civil) : Type 0 where
  pub year : 1970 ≤ c.year
  pub month : (1 ≤ c.month) × (c.month ≤ 12)
  pub day : (1 ≤ c.day) × (c.day ≤ days_in_month (pos c.year) c.month)
  pub numbered : days_from_civil (pos c.year) c.month c.day ≡ pos n

same_month : (n : ℕ) (c : Civil) → IsDay n c → suc c.day ≤ days_in_month (pos c.year) c.month
    → IsDay (suc n) (record { year = c.year; month = c.month; day = c.day + 1 })
same_month n c is within = record {
  year = is.year;
  month = is.month;
  day = (omega arith, omega arith);
  numbered = omega (
    arith,
    signed_arith,
    is.numbered,
    days_from_civil-day (pos c.year) c.month (c.day + 1) c.day (omega arith) is.day.0,
  );
}

next_month : (n : ℕ) (c : Civil) → IsDay n c → c.day ≡ days_in_month (pos c.year) c.month → suc c.month ≤ 12
    → IsDay (suc n) (record { year = c.year; month = c.month + 1; day = 1 })
next_month n c is last within = record {
  year = is.year;
  month = (omega arith, omega arith);
  day = (omega arith, omega (arith, days_in_month_bounds (pos c.year) (c.month + 1)));
  numbered = omega (
    arith,
    signed_arith,
    is.numbered,
    days_from_civil-next_month (pos c.year) c.month c.day is.month.0 last,
  );
}

next_year : (n : ℕ) (c : Civil) → IsDay n c → c.day ≡ days_in_month (pos c.year) c.month → c.month ≡ 12
    → IsDay (suc n) (record { year = c.year + 1; month = 1; day = 1 })
next_year n c is last december =
    let thirty_one : c.day ≡ 31 = rw december at last in
    let counted : days_from_civil (pos c.year) 12 31 ≡ pos n = rw (← december, ← thirty_one) is.numbered in
    record {
      year = omega (arith, is.year);
      month = (omega arith, omega arith);
      day = (omega arith, omega (arith, days_in_month_bounds (pos (c.year + 1)) 1));
      numbered = omega (
        arith,
        signed_arith,
        counted,
        days_from_civil-next_year (pos c.year) (pos (c.year + 1))
            (omega (arith, signed_arith)) (omega (arith, signed_arith)),
      );
    }

after : (n : ℕ) (c : Civil) → IsDay n c → IsDay (suc n) (day_after c)
after n c is =
    elim (leb_tells (suc c.day) (days_in_month (pos c.year) c.month)) [
      | inl within ↦ rw within.0 (same_month n c is within.1)
      | inr last ↦ (let is_last : c.day ≡ days_in_month (pos c.year) c.month = omega (arith, last.1, is.day.1) in
          elim (leb_tells (suc c.month) 12) [
            | inl within ↦ rw (last.0, within.0) (next_month n c is is_last within.1)
            | inr december ↦ rw (last.0, december.0) (next_year n c is is_last (omega (arith, december.1, is.month.1)))
          ])
    ]

pub is_day : (n : ℕ) → IsDay n (date_on n)
unfolding date_on
is_day zero = record {
  year = omega arith;
  month = (omega arith, omega arith);
  day = (omega arith, omega (arith, days_in_month_bounds (pos 1970) 1));
  numbered = known_days.0;
}
is_day (suc n) = after n (date_on n) (is_day n)

pub record IsDate (c : Civil) (d : Date) : Type 0 where
  pub year : d.year ≡ pos c.year
  pub month : d.month ≡ c.month
  pub day : d.day ≡ c.day

-- a day has one date
pub date_is : (n : ℕ) (d : Date) → epoch_day d ≡ pos n → IsDate (date_on n) d
date_is n d numbered =
    let c = date_on n in
    let is = is_day n in
    let year_in : IsYear (pos c.year) = by_lt_z d.year (pos c.year)
    (λ later. absurd (omega (
      arith,
      signed_arith,
      days_from_civil-day_count,
      numbered,
      is.numbered,
      day_count-lt_year d.year d.month d.day (pos c.year) c.month c.day (civil d) is.day.0 later,
    )))
    (λ not_later. omega (arith, signed_arith, not_later, d.year_in, is.year)) in
    let own : Date = record {
      year = pos c.year;
      month = c.month;
      day = c.day;
      year_in = year_in;
      month_in =
          is.month;
      day_in = is.day;
    } in
    let same = epoch_day_injective d own (numbered ∙ sym is.numbered) in
    record { year = same.0; month = same.1; day = same.2 }
