use Rattle.std.proofs.Common.{◌≡◌, ◌+◌, ◌%◌, ◌≤◌, sym, ◌∙◌, Some, true, arith}
use Rattle.jiff_core.specs.Date.{weekday_of}
use Rattle.fh_ncrontab.specs.Sets.{holds}
use Rattle.fh_ncrontab.specs.Search.{IsNextIn}
use Rattle.fh_ncrontab.specs.Dates.{HasNoDate, place}
use Rattle.fh_ncrontab.proofs.DayLemmas.{both_right, both_hold, first_in_month, no_date_before, no_date_on, no_date_past}
use Rattle.fh_ncrontab.proofs.schedule.Schedule.date_in_month.Goals as goal

pub returns-then-has_day : goal.returns-then-has_day
returns-then-has_day c =
    let date = c.in-Some-date_of.ensures.value in
    let next : IsNextIn c.args.self.now.day c.loop-day.from (Some c.in-Some-date_of.date.day) =
    rw date.2 c.in-Some.ensures.least in
    first_in_month _ _ _ _ _ _ c.requires.month.1 c.loop-day.invariant.0 date.0 date.1 c.requires.in_set
    c.loop-day.invariant.2 next (both_right _ _ (sym c.has_day.ensures ∙ c.if-has_day.true))

pub loop-day-preserved : goal.loop-day-preserved
loop-day-preserved c =
    let date = c.in-Some-date_of.ensures.value in
    let small : c.in-Some.day ≤ 31 = (c.in-Some.ensures.within _ c.in-Some.ensures.least.1).1 in
    let gap : HasNoDate c.args.self.now (place c.args.year c.args.month c.args.day)
    (place c.args.year c.args.month c.in-Some-date_of.date.day) =
    rw date.2 (no_date_before _ _ _ _ _ _ c.requires.month.1 small c.loop-day.invariant.2 c.in-Some.ensures.least) in
    let other : ¬ (holds c.args.self.now.weekday ((weekday_of c.in-Some-date_of.date + 1) % 7) ≡ true) = λ yes.
    let in_set : holds c.args.self.now.day c.in-Some-date_of.date.day ≡ true = rw date.2 c.in-Some.ensures.least.1 in
    let no = sym c.has_day.ensures ∙ c.if-has_day.false in
    let both = both_hold _ _ in_set yes in
    cc (no, both) in (
      omega (arith, c.loop-day.invariant.0, c.in-Some.ensures.least.0),
      omega (arith, small),
      rw date.2 at (no_date_on _ _ _ _ c.in-Some-date_of.date c.requires.month.1 date.0 date.1 gap other),
    )

pub returns-in_default-date_of : goal.returns-in_default-date_of
returns-in_default-date_of c =
    no_date_past _ _ _ _ _ _ c.requires.month.1 c.loop-day.invariant.2 c.in-Some.ensures.least
    c.in_default-date_of.ensures.none
