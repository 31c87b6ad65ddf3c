use Rattle.std.proofs.Common.{unsigned_abs, Some, arith}
use Rattle.fh_ncrontab.specs.Search.{IsLeastFrom}
use Rattle.fh_ncrontab.specs.Dates.{DayIn, IsFirstDate, place}
use Rattle.fh_ncrontab.proofs.DayLemmas.{day_in_range, day_found, day_none}
use Rattle.fh_ncrontab.proofs.schedule.Schedule.day_from.Goals as goal

pub returns-in_default-clause-least : goal.returns-in_default-clause-least
returns-in_default-clause-least c k from is =
    let last = day_in_range _ k is in
    omega (arith, last, c.in_default.ensures.none)

pub returns-in_default-date_from-clause-least : goal.returns-in_default-date_from-clause-least
returns-in_default-date_from-clause-least c =
    day_none _ c.in-Some.start _ c.in-Some.ensures.value
    (rw (← c.year_number.ensures.value) c.in_default-date_from.ensures)

least_day : (c : goal.After-day_number) → IsLeastFrom (DayIn c.args.self.now) c.args.day (Some c.day_number.result)
least_day c =
    let start = c.in-Some.start in
    let first : IsFirstDate c.args.self.now (place (unsigned_abs start.year) start.month start.day) (place 10000 0 0)
    c.in-Some-date_from.date = rw (← c.year_number.ensures.value) c.in-Some-date_from.ensures in
    rw c.day_number.ensures (day_found _ start c.in-Some-date_from.date _ _ c.in-Some.ensures.value first)

pub returns-clause-least : goal.returns-clause-least
returns-clause-least c = least_day c

pub returns-clause-bound : goal.returns-clause-bound
returns-clause-bound c = day_in_range _ _ (least_day c).1
