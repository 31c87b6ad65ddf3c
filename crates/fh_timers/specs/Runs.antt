-- The run that an answer makes ready.
use Rattle.std.specs.Prelude.{true, false, Option, Some, None}
use Rattle.fh_timers.specs.declared.done.TimerRun.{TimerRun}
use Rattle.fh_timers.specs.declared.done.TimerDone.{TimerDone}
use Rattle.fh_timers.specs.declared.done.TimerDone.TheVariants.{PastDue, Armed, Ticked}

-- the run that was due then, past due or not, or one without due time at a startup
abbrev pub run_of : TimerDone → Option TimerRun
run_of (PastDue due next) = Some (record { due = Some due; past_due = true })
run_of (Ticked due next) = Some (record { due = Some due; past_due = false })
run_of (Armed next true) = Some (record { due = None; past_due = false })
run_of answer = None
