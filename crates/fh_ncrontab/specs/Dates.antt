-- Dates in the order of the calendar, and the least one whose month, day and weekday are in three sets.
-- Only private functions cite this.
use Rattle.std.specs.Prelude.{◌≡◌, ℕ, ◌+◌, ◌*◌, ◌%◌, ◌<◌, ◌≤◌, pos, ◌-ℤ◌, IsTrue, Option, None, Some}
use Rattle.jiff_core.specs.declared.civil.date.Date.{Date}
use Rattle.jiff_core.specs.Date.{epoch_day, weekday_of}
use Rattle.fh_ncrontab.specs.declared.schedule.Schedule.{Schedule}
use Rattle.fh_ncrontab.specs.Sets.{holds}

-- the date has its month, its day and its weekday in the sets, where Sunday is 0
pub record DateIn (s : Schedule) (d : Date) : Type 0 where
  pub month : IsTrue (holds s.month d.month)
  pub day : IsTrue (holds s.day d.day)
  pub weekday : IsTrue (holds s.weekday ((weekday_of d + 1) % 7))

-- the day with this number, where 0000-01-01 is 0, has such a date
pub record DayIn (s : Schedule) (number : ℕ) : Type 0 where
  pub date : Date
  pub numbered : epoch_day date ≡ pos number -ℤ pos 719528
  pub found : DateIn s date

-- a number that grows with the date: months are below 16, and days below 32
abbrev pub place : ℕ → ℕ → ℕ → ℕ
place year month day = year * 512 + month * 32 + day

-- no date of the schedule, from the year 0 on, has a place from low on and below high
abbrev pub HasNoDate : Schedule → ℕ → ℕ → Type 0
HasNoDate s low high =
    (d : Date) (year : ℕ) → d.year ≡ pos year → DateIn s d
    → low ≤ place year d.month d.day → ¬ (place year d.month d.day < high)

-- d is the date of the schedule with the least place from low on, and that is below high
pub record IsFirstDate (s : Schedule) (low high : ℕ) (d : Date) : Type 0 where
  pub year : ℕ
  pub is_year : d.year ≡ pos year
  pub found : DateIn s d
  pub from : low ≤ place year d.month d.day
  pub below : place year d.month d.day < high
  pub least : HasNoDate s low (place year d.month d.day)

-- the least date of the schedule with a place from low on and below high, or none
abbrev pub IsLeastDate : Schedule → ℕ → ℕ → Option Date → Type 0
IsLeastDate s low high None = HasNoDate s low high
IsLeastDate s low high (Some d) = IsFirstDate s low high d
