-- All stores as one value: their parts of the world, what is asked of them, and what they do.
use Rattle.std.specs.Prelude.{ℕ, Option, Some, None, unwrap_or}
use Rattle.fh_base.specs.declared.rule.Rule.{Rule}
use Rattle.fh_event.specs.Judging.{Judged, Refuses, Quiets, Makes, both}
use Rattle.fh_queues.specs.declared.done.QueueDone.{QueueDone}
use Rattle.fh_queues.specs.Asks as queue_asks
use Rattle.fh_queues.specs.Part.{QueuePart, no_queues}
use Rattle.fh_queues.specs.Outcome as queues
use Rattle.fh_blobs.specs.declared.done.BlobDone.{BlobDone}
use Rattle.fh_blobs.specs.Asks as blob_asks
use Rattle.fh_blobs.specs.Part.{BlobPart, no_blobs}
use Rattle.fh_blobs.specs.Outcome as blobs
use Rattle.fh_leases.specs.declared.done.LeaseDone.{LeaseDone}
use Rattle.fh_leases.specs.Asks as lease_asks
use Rattle.fh_leases.specs.Part.{LeasePart, no_leases}
use Rattle.fh_leases.specs.Outcome as leases
use Rattle.fh_timers.specs.declared.ask.TimerAsk.{TimerAsk}
use Rattle.fh_timers.specs.declared.ask.TimerAsk.TheVariants.{Arm, Tick, Remove, Nothing}
use Rattle.fh_timers.specs.declared.done.TimerDone.{TimerDone}
use Rattle.fh_timers.specs.declared.done.TimerRun.{TimerRun}
use Rattle.fh_timers.specs.Part.{TimerPart, no_timers}
use Rattle.fh_timers.specs.Outcome as timers
use Rattle.fh_timers.specs.Runs.{run_of}
use Rattle.fh_dispatch.specs.declared.done.WorkDone.{WorkDone}
use Rattle.fh_dispatch.specs.Asks as work_asks
use Rattle.fh_dispatch.specs.Asked.{asks_queues, asks_blobs, asks_leases}
use Rattle.fh_dispatch.specs.Part.{WorkPart, Others, no_work, others_with}
use Rattle.fh_dispatch.specs.Timers.{asks_timers}
use Rattle.fh_dispatch.specs.Outcome as work

pub record Parts : Type 0 where
  pub queues : QueuePart
  pub blobs : BlobPart
  pub leases : LeasePart
  pub timers : TimerPart
  pub work : WorkPart

abbrev pub no_parts : Parts
no_parts = record { queues = no_queues; blobs = no_blobs; leases = no_leases; timers = no_timers; work = no_work }

-- what a command asks of each store
pub record Asks : Type 0 where
  pub queues : queue_asks.Ask
  pub blobs : blob_asks.Ask
  pub leases : lease_asks.Ask
  pub timers : TimerAsk
  pub work : work_asks.Ask

-- what each store answers
pub record Done : Type 0 where
  pub queues : QueueDone
  pub blobs : BlobDone
  pub leases : LeaseDone
  pub timers : TimerDone
  pub work : WorkDone

-- the function whose timer an ask is about
abbrev pub function_asked : TimerAsk → ℕ
function_asked (Arm function schedule startup monitor busy) = function
function_asked (Tick function schedule busy) = function
function_asked (Remove function) = function
function_asked Nothing = 0

-- the run that the timers make, if they make one
abbrev pub run_made : Judged TimerPart TimerDone → Option TimerRun
run_made (Makes part done) = run_of done
run_made judged = None

-- a run that the timers make is made ready
abbrev pub ready_by : ℕ → Option TimerRun → work_asks.Ask
ready_by function None = work_asks.Nothing
ready_by function (Some run) = work_asks.Ready function run

-- each store is asked for what the work asks of it, and else for what the command does
abbrev pub asked_timers : Parts → Asks → TimerAsk
asked_timers parts asks = unwrap_or (asks_timers parts.work asks.work) asks.timers

-- the parts at which the work looks
abbrev pub others_of : Parts → Others
others_of parts = others_with parts.queues parts.blobs parts.leases parts.timers

abbrev pub asked_queues : Parts → Asks → ℕ → queue_asks.Ask
asked_queues parts asks m = unwrap_or (asks_queues parts.work (others_of parts) asks.work m) asks.queues

abbrev pub asked_blobs : Parts → Asks → ℕ → blob_asks.Ask
asked_blobs parts asks m = unwrap_or (asks_blobs parts.work (others_of parts) asks.work m) asks.blobs

abbrev pub asked_leases : Parts → Asks → ℕ → lease_asks.Ask
asked_leases parts asks m = unwrap_or (asks_leases parts.work (others_of parts) asks.work m) asks.leases

-- what all stores make, and what they answer, the work first, which asks others
abbrev pub AllParts : Type 0
AllParts = WorkPart × (TimerPart × (QueuePart × (BlobPart × LeasePart)))

abbrev pub AllDone : Type 0
AllDone = WorkDone × (TimerDone × (QueueDone × (BlobDone × LeaseDone)))

abbrev pub parts_with : AllParts → Parts
parts_with made = record {
  queues = made.1.1.0;
  blobs = made.1.1.1.0;
  leases = made.1.1.1.1;
  timers = made.1.0;
  work = made.0;
}

abbrev pub done_with : AllDone → Done
done_with done = record {
  queues = done.1.1.0;
  blobs = done.1.1.1.0;
  leases = done.1.1.1.1;
  timers = done.1.0;
  work = done.0;
}

abbrev pub of_all : Judged AllParts AllDone → Judged Parts Done
of_all (Refuses rule) = Refuses rule
of_all (Quiets done) = Quiets (done_with done)
of_all (Makes made done) = Makes (parts_with made) (done_with done)

-- what asks others is judged before them: its rule refuses whatever theirs is
abbrev pub led_by : {Part Other Done More : Type 0} → Judged Part Done → Judged Other More
    → Judged (Part × Other) (Done × More)
led_by (Refuses rule) others = Refuses rule
led_by judged others = both judged others

-- refused by the work's rule, or by the first of the others, quiet where a store is, and else a change of all
abbrev pub joined : Judged WorkPart WorkDone → Judged TimerPart TimerDone → Judged QueuePart QueueDone
    → Judged BlobPart BlobDone → Judged LeasePart LeaseDone → Judged Parts Done
joined of_work of_timers of_queues of_blobs of_leases =
    of_all (led_by of_work (both of_timers (both of_queues (both of_blobs of_leases))))

unfoldable pub outcomes : Parts → Asks → ℕ → Judged Parts Done
outcomes parts asks m =
    joined (work.outcome parts.work (others_of parts) asks.work m)
    (timers.outcome parts.timers (asked_timers parts asks) m)
    (queues.outcome parts.queues (asked_queues parts asks m) m)
    (blobs.outcome parts.blobs (asked_blobs parts asks m) m)
    (leases.outcome parts.leases (asked_leases parts asks m) m)

-- what a store would be too full for
unfoldable pub too_full : Parts → Asks → ℕ → Option Rule
too_full parts asks m = queues.too_full parts.queues asks.queues m
