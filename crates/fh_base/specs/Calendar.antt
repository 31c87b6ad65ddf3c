-- The date of a day, by going on from day to day.
use Rattle.std.specs.Prelude.{ℕ, zero, suc, ◌+◌, pos, nat_lt, if◌then◌else◌}
use Rattle.jiff_core.specs.Calendar.{days_in_month}
use Rattle.fh_base.specs.declared.calendar.Civil.{Civil}

abbrev pub day_after : Civil → Civil
day_after c =
    if nat_lt c.day (days_in_month (pos c.year) c.month) then record { year = c.year; month = c.month; day = c.day + 1 }
    else (if nat_lt c.month 12 then record { year = c.year; month = c.month + 1; day = 1 }
    else record { year = c.year + 1; month = 1; day = 1 })

-- the date so many days after 1 January 1970
unfoldable pub date_on : ℕ → Civil
date_on zero = record { year = 1970; month = 1; day = 1 }
date_on (suc n) = day_after (date_on n)
