use Rattle.fh_ncrontab.specs.Dates.{HasNoDate, place}
use Rattle.fh_ncrontab.proofs.schedule.Schedule.date_from.Given as goal

abbrev pub invariant-loop-year : goal.invariant-loop-year
invariant-loop-year l = HasNoDate l.self (place l.fn.year l.month l.day) (place l.year 0 0)
