-- The next time of a schedule, and stored next times that are over or have come.
use Rattle.std.proofs.Common.{◌≡◌, ℕ, ◌*◌, ◌/◌, ◌<◌, ◌≤◌, Bool, true, false, Option, Some, None, refl, arith}
use Rattle.std.specs.Prelude.{nat_le, nat_lt, if◌then◌else◌, option_map, IfSome}
use Rattle.std.proofs.lemmas.Bool.Decides.{nat_tests}
use Rattle.fh_base.specs.Moments.{greatest_moment}
use Rattle.fh_ncrontab.specs.declared.schedule.Schedule.{Schedule}
use Rattle.fh_ncrontab.specs.Schedule.{next, IsNext}
use Rattle.fh_ncrontab.proofs.NextLemmas.{next-least}
use Rattle.fh_timers.specs.Outcome.{next_time, missed, due}
use Rattle.fh_timers.specs.Laws.{IsTimeOf}

-- a later second begins after the moment
after_second : (m n : ℕ) → m / 1000 < n → m < n * 1000
after_second m n later = omega (arith, later)

least : (s : Schedule) (m : ℕ) → m ≤ greatest_moment → IsNext s (m / 1000) (next s (m / 1000))
least s m within = next-least s (m / 1000) (omega (arith, within))

pub next_time-later : (s : Schedule) (m : ℕ) → m ≤ greatest_moment → IfSome (next_time s m) (λ time. m < time)
next_time-later s m within = by_found (next s (m / 1000)) (least s m within)
  where
    by_found : (found : Option ℕ) → IsNext s (m / 1000) found
        → IfSome (option_map (λ second. second * 1000) found) (λ time. m < time)
    by_found None is = tt
    by_found (Some n) is = after_second m n is.0

pub next_time-scheduled : (s : Schedule) (m time : ℕ) → m ≤ greatest_moment → next_time s m ≡ Some time
    → IsTimeOf s m time
next_time-scheduled s m time within = by_found (next s (m / 1000)) (least s m within)
  where
    by_found : (found : Option ℕ) → IsNext s (m / 1000) found → option_map (λ second. second * 1000) found ≡ Some time
        → IsTimeOf s m time
    by_found None next same = cc
    by_found (Some n) next same =
        let at : time ≡ n * 1000 = cc in
        record { second = n; at = at; scheduled = next.2; later = rw at (after_second m n next.0) }

pub missed-is : (m : ℕ) (stored : Option ℕ) (time : ℕ) → missed m stored ≡ Some time → (stored ≡ Some time) × (time ≤ m)
missed-is m None time is = cc
missed-is m (Some at) time is = by_test (nat_lt at m) refl is
  where
    by_test : (b : Bool) → nat_lt at m ≡ b → (if b then Some at else None) ≡ Some time
        → (Some at ≡ Some time) × (time ≤ m)
    by_test true over same = (same, let one : at ≡ time = cc in grind (arith, nat_tests, over, one))
    by_test false over same = cc

pub due-is : (m : ℕ) (stored : Option ℕ) (time : ℕ) → due m stored ≡ Some time → (stored ≡ Some time) × (time ≤ m)
due-is m None time is = cc
due-is m (Some at) time is = by_test (nat_le at m) refl is
  where
    by_test : (b : Bool) → nat_le at m ≡ b → (if b then Some at else None) ≡ Some time
        → (Some at ≡ Some time) × (time ≤ m)
    by_test true come same = (same, let one : at ≡ time = cc in grind (arith, nat_tests, come, one))
    by_test false come same = cc
