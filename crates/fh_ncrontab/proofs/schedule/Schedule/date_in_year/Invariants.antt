use Rattle.fh_ncrontab.specs.Dates.{HasNoDate, place}
use Rattle.fh_ncrontab.proofs.schedule.Schedule.date_in_year.Given as goal

abbrev pub invariant-loop-month : goal.invariant-loop-month
invariant-loop-month l = HasNoDate l.self (place l.year l.fn.month 0) (place l.year l.month 0)
