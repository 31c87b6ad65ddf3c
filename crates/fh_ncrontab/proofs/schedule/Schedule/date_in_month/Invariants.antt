use Rattle.std.proofs.Common.{◌-◌, ◌≤◌}
use Rattle.fh_ncrontab.specs.Dates.{HasNoDate, place}
use Rattle.fh_ncrontab.proofs.schedule.Schedule.date_in_month.Given as goal

abbrev pub invariant-loop-day : goal.invariant-loop-day
invariant-loop-day l =
    (l.fn.day ≤ l.from) × (l.from ≤ 32)
    × HasNoDate l.self (place l.year l.month l.fn.day) (place l.year l.month l.from)

abbrev pub decreases-loop-day : goal.decreases-loop-day
decreases-loop-day l = 32 - l.from
