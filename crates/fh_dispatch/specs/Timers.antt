-- The schedules of functions, and what the work asks of the timers.
use Rattle.std.specs.Prelude.{ℕ, Bool, if◌then◌else◌, List, Option, Some, None}
use Rattle.fh_event.specs.declared.settings.FunctionSettings.{FunctionSettings}
use Rattle.fh_event.specs.declared.settings.FunctionSettings.TheVariants.{Timer as OnTimer}
use Rattle.fh_ncrontab.specs.Schedule.{are_masks, with_masks}
use Rattle.fh_timers.specs.declared.ask.TimerAsk.{TimerAsk}
use Rattle.fh_timers.specs.declared.ask.TimerAsk.TheVariants.{Remove}
use Rattle.fh_dispatch.specs.declared.function.Function.{Function}
use Rattle.fh_dispatch.specs.declared.timer.Timer.{Timer}
use Rattle.fh_dispatch.specs.Part.{WorkPart, function_of, number_or}
use Rattle.fh_dispatch.specs.Settings.{has_other_trigger}
use Rattle.fh_dispatch.specs.Asks.{Ask, Configure}

-- the timer of the function of this number, by its settings
abbrev pub timer_by : ℕ → FunctionSettings → Option Timer
timer_by number (OnTimer masks startup monitor singleton) =
    if are_masks masks
    then Some (record { function = number; schedule = with_masks masks; startup = startup; monitor = monitor })
    else None
timer_by number settings = None

abbrev pub timer_found : Option Function → Option Timer
timer_found None = None
timer_found (Some function) = timer_by function.number function.settings

-- the timer of the function of this name, where it has one
abbrev pub timer_of : List ℕ → List Function → Option Timer
timer_of name functions = timer_found (function_of name functions)

-- a function that gets another trigger has no row
abbrev pub removing : ℕ → Bool → Option TimerAsk
removing number other_trigger = if other_trigger then Some (Remove number) else None

abbrev pub configuring_timers : WorkPart → FunctionSettings → Option Function → Option TimerAsk
configuring_timers part settings found =
    removing (number_or part.next_function found) (has_other_trigger settings found)

-- what an ask that is accepted asks of the timers, if it asks something of them
unfoldable pub asks_timers : WorkPart → Ask → Option TimerAsk
asks_timers part (Configure name settings) = configuring_timers part settings (function_of name part.functions)
asks_timers part ask = None
