-- What each ask makes of the timers at a moment, and what it answers.
use Rattle.std.specs.Prelude.{ℕ, ◌*◌, ◌/◌, nat_le, nat_lt, Bool, true, false, if◌then◌else◌, Option, Some, None, option_map}
use Rattle.fh_event.specs.Judging.{Judged, Refuses, Quiets, Makes}
use Rattle.fh_ncrontab.specs.declared.schedule.Schedule.{Schedule}
use Rattle.fh_ncrontab.specs.Schedule.{next}
use Rattle.fh_timers.specs.declared.row.TimerRow.{TimerRow}
use Rattle.fh_timers.specs.declared.ask.TimerAsk.{TimerAsk}
use Rattle.fh_timers.specs.declared.ask.TimerAsk.TheVariants.{Arm, Tick, Remove, Nothing}
use Rattle.fh_timers.specs.declared.done.TimerDone.{TimerDone}
use Rattle.fh_timers.specs.declared.done.TimerDone.TheVariants as done
use Rattle.fh_timers.specs.declared.act.Act.{Act}
use Rattle.fh_timers.specs.declared.act.Act.TheVariants as acts
use Rattle.fh_timers.specs.Part.{TimerPart, row_of}
use Rattle.fh_timers.specs.Acts.{acted}

-- the least time of the schedule after the second of m, or none
abbrev pub next_time : Schedule → ℕ → Option ℕ
next_time schedule m = option_map (λ second. second * 1000) (next schedule (m / 1000))

-- the next time, where it is over at m
abbrev pub missed : ℕ → Option ℕ → Option ℕ
missed m None = None
missed m (Some time) = if nat_lt time m then Some time else None

-- the next time, where it has come at m
abbrev pub due : ℕ → Option ℕ → Option ℕ
due m None = None
due m (Some time) = if nat_le time m then Some time else None

-- a row that is made anew at m
abbrev pub new_row : ℕ → Schedule → ℕ → TimerRow
new_row function schedule m =
    record { function = function; last = None; next = next_time schedule m; updated = m }

-- the row behind a run that was due then
abbrev pub after_run : TimerRow → ℕ → Schedule → ℕ → TimerRow
after_run row time schedule m = record row { last = Some time; next = next_time schedule m; updated = m }

-- the act of an ask, and its answer
abbrev pub Acting : Type 0
Acting = Judged Act TimerDone

-- a row that counts, with its next time where that was missed: one run makes up for all times since
abbrev pub watching : TimerRow → Schedule → Bool → ℕ → Option ℕ → Acting
watching row schedule startup m (Some time) =
    Makes (acts.Set (after_run row time schedule m)) (done.PastDue time (next_time schedule m))
watching row schedule false m None = Quiets done.Same
watching row schedule true m None = Makes acts.Keep (done.Armed row.next true)

-- the function with its row, startup, monitor, and whether a job of it is ready or running
abbrev pub arming_found : ℕ → Option TimerRow → Schedule → Bool → Bool → Bool → ℕ → Acting
arming_found function row schedule startup monitor true m = Quiets done.Running
arming_found function (Some row) schedule startup true false m =
    watching row schedule startup m (missed m row.next)
arming_found function row schedule startup monitor false m =
    Makes (acts.Set (new_row function schedule m)) (done.Armed (next_time schedule m) startup)

abbrev pub arming : TimerPart → ℕ → Schedule → Bool → Bool → Bool → ℕ → Acting
arming part function schedule startup monitor busy m =
    arming_found function (row_of function part.timers) schedule startup monitor busy m

-- a row, with its next time where that has come
abbrev pub running : TimerRow → Schedule → ℕ → Option ℕ → Acting
running row schedule m None = Quiets done.NotDue
running row schedule m (Some time) =
    Makes (acts.Set (after_run row time schedule m)) (done.Ticked time (next_time schedule m))

abbrev pub ticking_found : Option TimerRow → Schedule → Bool → ℕ → Acting
ticking_found None schedule busy m = Quiets done.Unarmed
ticking_found (Some row) schedule true m = Quiets done.Running
ticking_found (Some row) schedule false m = running row schedule m (due m row.next)

abbrev pub ticking : TimerPart → ℕ → Schedule → Bool → ℕ → Acting
ticking part function schedule busy m = ticking_found (row_of function part.timers) schedule busy m

unfoldable pub acting : TimerPart → TimerAsk → ℕ → Acting
acting part (Arm function schedule startup monitor busy) m = arming part function schedule startup monitor busy m
acting part (Tick function schedule busy) m = ticking part function schedule busy m
acting part (Remove function) m = Makes (acts.Remove function) done.Removed
acting part Nothing m = Makes acts.Keep done.Nothing

-- the part after an ask, and what is answered
abbrev pub Outcome : Type 0
Outcome = Judged TimerPart TimerDone

abbrev pub made_by : TimerPart → Acting → Outcome
made_by part (Refuses rule) = Refuses rule
made_by part (Quiets answer) = Quiets answer
made_by part (Makes act answer) = Makes (acted part act) answer

unfoldable pub outcome : TimerPart → TimerAsk → ℕ → Outcome
outcome part ask m = made_by part (acting part ask m)
