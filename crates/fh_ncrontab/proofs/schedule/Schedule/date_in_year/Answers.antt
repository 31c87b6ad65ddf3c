use Rattle.std.proofs.Common.{◌+◌, arith}
use Rattle.fh_ncrontab.specs.Dates.{place}
use Rattle.fh_ncrontab.proofs.DayLemmas.{first_behind, no_day_zero}
use Rattle.fh_ncrontab.proofs.schedule.Schedule.date_in_year.Goals as goal

pub returns-in-loop-month : goal.returns-in-loop-month
returns-in-loop-month c =
    first_behind _ _ (place c.args.year c.loop-month.month 0) (place c.args.year c.loop-month.month 1)
    (place c.args.year (c.loop-month.month + 1) 0) _ _ c.loop-month.invariant (no_day_zero _ _ _) (omega arith)
    (omega arith) c.in-Some.ensures
