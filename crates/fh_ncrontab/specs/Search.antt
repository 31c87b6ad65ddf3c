-- The least numbers, times and seconds of a schedule, as the search finds them. Seconds are counted
-- here from 0000-01-01T00:00:00. Only private functions cite this.
use Rattle.std.specs.Prelude.{◌≡◌, ℕ, ◌/◌, ◌%◌, ◌<◌, ◌≤◌, true, IsTrue, Option, None, Some}
use Rattle.fh_ncrontab.specs.declared.schedule.Schedule.{Schedule}
use Rattle.fh_ncrontab.specs.Sets.{holds}
use Rattle.fh_ncrontab.specs.Dates.{DayIn}

-- the least number from n on of which P says so, or none where it says so of no number from n on
abbrev pub IsLeastFrom : (ℕ → Type 0) → ℕ → Option ℕ → Type 0
IsLeastFrom P n None = (k : ℕ) → n ≤ k → ¬ P k
IsLeastFrom P n (Some r) = (n ≤ r) × P r × ((k : ℕ) → n ≤ k → k < r → ¬ P k)

-- the least number from n on that is in the set, or none
abbrev pub IsNextIn : ℕ → ℕ → Option ℕ → Type 0
IsNextIn set n r = IsLeastFrom (λ k. holds set k ≡ true) n r

-- a second of an hour has its minute and its second in the sets
abbrev pub MinuteIn : Schedule → ℕ → Type 0
MinuteIn s t = IsTrue (holds s.minute (t / 60)) × IsTrue (holds s.second (t % 60))

-- a second of a day has its hour, its minute and its second in the sets
abbrev pub TimeIn : Schedule → ℕ → Type 0
TimeIn s t = IsTrue (holds s.hour (t / 3600)) × MinuteIn s (t % 3600)

-- a second is in the schedule
abbrev pub IsIn : Schedule → ℕ → Type 0
IsIn s x = DayIn s (x / 86400) × TimeIn s (x % 86400)
