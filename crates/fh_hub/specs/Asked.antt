-- What a command asks of the stores.
use Rattle.std.specs.Prelude.{ℕ, Bool, true, false, if◌then◌else◌, List, Option, Some, None, Result, Ok, Err}
use Rattle.fh_base.specs.declared.rule.Rule.{Rule}
use Rattle.fh_base.specs.declared.rule.Rule.TheVariants.{BadName, NoSuchFunction, BlobNotFound, NoSuchInvocation}
use Rattle.fh_event.specs.declared.command.Command.{Command}
use Rattle.fh_event.specs.declared.command.Command.TheVariants.{MakeQueue, Put, Take, Update, Delete, Clear, PutBlob, DeleteBlob, Note, Acquire, RenewLease, ReleaseLease, Configure, Session, Arm, Tick, Fetch, Begin, Finish, Renewals, Peek, GetBlob, Locate, Unnoted}
use Rattle.fh_event.specs.declared.settings.FunctionSettings.{FunctionSettings}
use Rattle.fh_event.specs.declared.settings.FunctionSettings.TheVariants as forms
use Rattle.fh_event.specs.declared.reply.Item.{Item}
use Rattle.fh_event.specs.declared.reply.Reply.{Reply}
use Rattle.fh_event.specs.declared.reply.Reply.TheVariants as replies
use Rattle.fh_event.specs.declared.begun.About.{About}
use Rattle.fh_queues.specs.Asks as queues
use Rattle.fh_queues.specs.Outcome.{peeked}
use Rattle.fh_queues.specs.Places.{place_of}
use Rattle.fh_blobs.specs.declared.blob.BlobRow.{BlobRow}
use Rattle.fh_blobs.specs.Asks as blobs
use Rattle.fh_blobs.specs.Part.{BlobPart, blob_of, unnoted}
use Rattle.fh_leases.specs.Asks as leases
use Rattle.fh_timers.specs.declared.ask.TimerAsk.{TimerAsk}
use Rattle.fh_timers.specs.declared.ask.TimerAsk.TheVariants as timers
use Rattle.fh_timers.specs.Outcome as timer_outcome
use Rattle.fh_dispatch.specs.declared.function.Function.{Function}
use Rattle.fh_dispatch.specs.declared.timer.Timer.{Timer}
use Rattle.fh_dispatch.specs.Asks as work
use Rattle.fh_dispatch.specs.Notes.{note_text}
use Rattle.fh_dispatch.specs.Part.{WorkPart, function_of, number_or}
use Rattle.fh_dispatch.specs.Queues.{inner_queue}
use Rattle.fh_dispatch.specs.InWork.{is_busy}
use Rattle.fh_dispatch.specs.Timers.{timer_of}
use Rattle.fh_hub.specs.Stores.{Parts, Asks, function_asked, run_made, ready_by}
use Rattle.fh_hub.specs.Names.{has_good_names}

-- what a command asks: it is refused or answered at once, or it asks all stores
pub data Asked : Type 0 where
  Refuses : Rule → Asked
  Reads : Reply → Asked
  AsksAll : Asks → Asked

-- the number of a function; 0 where there is none of this name
abbrev pub number_in : WorkPart → List ℕ → ℕ
number_in part name = number_or 0 (function_of name part.functions)

abbrev pub version_or_none : Option BlobRow → ℕ
version_or_none None = 0
version_or_none (Some row) = row.version

-- the version of a blob; 0 where there is none of this name
abbrev pub version_in : BlobPart → List ℕ → List ℕ → ℕ
version_in part container blob = version_or_none (blob_of container blob part.blobs)

abbrev pub blob_as_it_is : BlobPart → List ℕ → List ℕ → About
blob_as_it_is part container blob =
    record { container = container; blob = blob; version = version_in part container blob }

-- a note puts a message that tells the function of the blob as it is, into the function's own queue
abbrev pub message_of : Parts → List ℕ → List ℕ → List ℕ → queues.Ask
message_of parts function container blob =
    queues.Put (inner_queue (number_in parts.work function)) 0 None
    (note_text function container blob (version_in parts.blobs container blob))
    (Some (blob_as_it_is parts.blobs container blob))

-- the queues let go what has expired, whatever the command
abbrev pub queue_ask : Command → queues.Ask
queue_ask (MakeQueue queue) = queues.Make queue
queue_ask (Put queue delay ttl text) = queues.Put queue delay ttl text None
queue_ask (Take queue count hold) = queues.Take queue count hold
queue_ask (Update queue number receipt hold text) = queues.Update queue number receipt hold text
queue_ask (Delete queue number receipt) = queues.Delete queue number receipt
queue_ask (Clear queue) = queues.Clear queue
queue_ask command = queues.Sweep

abbrev pub blob_ask : Command → blobs.Ask
blob_ask (PutBlob container blob text) = blobs.Put container blob text
blob_ask (DeleteBlob container blob) = blobs.Remove container blob
blob_ask command = blobs.Nothing

abbrev pub lease_ask : Command → leases.Ask
lease_ask (Acquire lease holder seconds) = leases.Acquire lease holder seconds
lease_ask (RenewLease lease holder) = leases.Renew lease holder
lease_ask (ReleaseLease lease holder) = leases.Release lease holder
lease_ask command = leases.Nothing

abbrev pub work_ask : Command → work.Ask
work_ask (Configure function settings) = work.Configure function settings
work_ask Session = work.Session
work_ask (Fetch function) = work.Fetch function
work_ask command = work.Nothing

-- what a command asks of each store by itself
abbrev pub asks_of_command : Command → Asks
asks_of_command command = record {
  queues = queue_ask command;
  blobs = blob_ask command;
  leases = lease_ask command;
  timers = timers.Nothing;
  work = work_ask command;
}

-- and what it asks in a world
abbrev pub queue_ask_in : Parts → Command → queues.Ask
queue_ask_in parts (Note function container blob) = message_of parts function container blob
queue_ask_in parts command = queue_ask command

abbrev pub blob_ask_in : Parts → Command → blobs.Ask
blob_ask_in parts (Note function container blob) = blobs.Note (number_in parts.work function) container blob
blob_ask_in parts command = blob_ask command

-- an arm and a tick ask for the timer of their function, and tell whether a job of it is in work
abbrev pub arming : WorkPart → Option Timer → TimerAsk
arming part None = timers.Nothing
arming part (Some timer) =
    timers.Arm timer.function timer.schedule timer.startup timer.monitor (is_busy timer.function part)

abbrev pub ticking : WorkPart → Option Timer → TimerAsk
ticking part None = timers.Nothing
ticking part (Some timer) = timers.Tick timer.function timer.schedule (is_busy timer.function part)

abbrev pub timer_ask_in : Parts → Command → TimerAsk
timer_ask_in parts (Arm function) = arming parts.work (timer_of function parts.work.functions)
timer_ask_in parts (Tick function) = ticking parts.work (timer_of function parts.work.functions)
timer_ask_in parts command = timers.Nothing

-- who asks for a timer asks that a run which it makes be ready
abbrev pub asks_of_timer : Parts → TimerAsk → ℕ → Asks
asks_of_timer parts ask m = record {
  queues = queues.Sweep;
  blobs = blobs.Nothing;
  leases = leases.Nothing;
  timers = ask;
  work = ready_by (function_asked ask) (run_made (timer_outcome.outcome parts.timers ask m));
}

-- what a command asks of all stores at this moment
abbrev pub asks_in : Parts → Command → ℕ → Asks
asks_in parts (Arm function) m = asks_of_timer parts (arming parts.work (timer_of function parts.work.functions)) m
asks_in parts (Tick function) m = asks_of_timer parts (ticking parts.work (timer_of function parts.work.functions)) m
asks_in parts command m = record {
  queues = queue_ask_in parts command;
  blobs = blob_ask_in parts command;
  leases = lease_ask command;
  timers = timers.Nothing;
  work = work_ask command;
}

-- a peek answers the items that it finds, or the rule of the queues that refuses it
abbrev pub reads_items : Result (List Item) Rule → Asked
reads_items (Ok items) = Reads (replies.Peeked items)
reads_items (Err rule) = Refuses rule

abbrev pub reads_blob : Option BlobRow → Asked
reads_blob None = Refuses BlobNotFound
reads_blob (Some row) = Reads (replies.Got row.version row.text)

abbrev pub takes_blobs : FunctionSettings → Bool
takes_blobs (forms.Blob batch threshold limit retry singleton) = true
takes_blobs settings = false

abbrev pub works_on_blobs : Option Function → Bool
works_on_blobs None = false
works_on_blobs (Some function) = takes_blobs function.settings

-- a function that isn't there, or doesn't work on blobs, is refused
abbrev pub unless_strange : Bool → Asked → Asked
unless_strange true given = given
unless_strange false given = Refuses NoSuchFunction

abbrev pub unless_missing : Option BlobRow → Asked → Asked
unless_missing None given = Refuses BlobNotFound
unless_missing (Some row) given = given

-- what is asked by the name of a blob function
abbrev pub asked_by : Parts → List ℕ → Asked → Asked
asked_by parts function given =
    unless_strange (works_on_blobs (function_of function parts.work.functions)) given

-- a function that isn't there, or doesn't run by a schedule, is refused
abbrev pub unless_untimed : Option Timer → Asked → Asked
unless_untimed None given = Refuses NoSuchFunction
unless_untimed (Some timer) given = given

-- what a command with good names asks
abbrev pub asked_of : Parts → Command → ℕ → Asked
asked_of parts (Note function container blob) m =
    asked_by parts function
    (unless_missing (blob_of container blob parts.blobs.blobs)
    (AsksAll (asks_in parts (Note function container blob) m)))
asked_of parts (Unnoted function container) m =
    asked_by parts function (Reads (replies.Unnoted (unnoted parts.blobs (number_in parts.work function) container)))
asked_of parts (Arm function) m =
    unless_untimed (timer_of function parts.work.functions) (AsksAll (asks_in parts (Arm function) m))
asked_of parts (Tick function) m =
    unless_untimed (timer_of function parts.work.functions) (AsksAll (asks_in parts (Tick function) m))
-- no invocation runs yet
asked_of parts (Begin function high low) m = Refuses NoSuchFunction
asked_of parts (Finish invocation outcome) m = Refuses NoSuchInvocation
asked_of parts Renewals m = Reads replies.NothingDue
asked_of parts (Peek queue count) m = reads_items (peeked parts.queues queue count m)
asked_of parts (GetBlob container blob) m = reads_blob (blob_of container blob parts.blobs.blobs)
asked_of parts (Locate number) m = Reads (replies.Located (place_of parts.queues number m))
asked_of parts command m = AsksAll (asks_in parts command m)

-- the names are tested before all else that the command says
abbrev pub unless_misnamed : Command → Asked → Asked
unless_misnamed command given = if has_good_names command then given else Refuses BadName

unfoldable pub asked : Parts → Command → ℕ → Asked
asked parts command m = unless_misnamed command (asked_of parts command m)
