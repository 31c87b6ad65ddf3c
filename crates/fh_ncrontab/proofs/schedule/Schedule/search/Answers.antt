use Rattle.std.proofs.Common.{◌≡◌, ◌/◌, arith}
use Rattle.fh_ncrontab.specs.Dates.{DayIn}
use Rattle.fh_ncrontab.specs.Search.{TimeIn}
use Rattle.fh_ncrontab.proofs.CarryLemmas.{carry-later, carry-apart, carry-on, carry-here, carry-none_on}
use Rattle.fh_ncrontab.proofs.schedule.Schedule.search.Goals as goal

pub returns-then-day-today-clause-least : goal.returns-then-day-today-clause-least
returns-then-day-today-clause-least c =
    let s = c.args.self.now in
    let x = c.args.second in
    carry-later (DayIn s) (TimeIn s) x _ _ c.first_time.ensures.bound c.if-day-today.true
    (carry-apart (DayIn s) (TimeIn s) x _ c.in-Some.ensures.least)
    c.in-Some.ensures.least.1 c.first_time.ensures.least

pub returns-in-Some-time_from-clause-least : goal.returns-in-Some-time_from-clause-least
returns-in-Some-time_from-clause-least c =
    let s = c.args.self.now in
    let x = c.args.second in
    let least = c.in-Some.ensures.least in
    let today : c.in-Some.day ≡ x / 86400 = omega (arith, least.0) in
    carry-here (DayIn s) (TimeIn s)
    x _ _ c.in-Some-time_from.ensures.bound today least.1 c.in-Some-time_from.ensures.least

pub returns-in_default-day_from-clause-least : goal.returns-in_default-day_from-clause-least
returns-in_default-day_from-clause-least c =
    let s = c.args.self.now in
    carry-none_on (DayIn s) (TimeIn s)
    c.args.second c.in_default-time_from.ensures.least c.in_default-day_from.ensures.least

pub returns-clause-least : goal.returns-clause-least
returns-clause-least c =
    let s = c.args.self.now in
    let x = c.args.second in
    let least = c.in-Some-day_from.ensures.least in
    carry-later (DayIn s) (TimeIn s) x _ _ c.first_time-2.ensures.bound (omega (arith, least.0))
    (carry-on (DayIn s) (TimeIn s) x _ c.in_default-time_from.ensures.least least)
    least.1 c.first_time-2.ensures.least
