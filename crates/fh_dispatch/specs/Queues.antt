-- The queues on whose messages functions work, and what the work asks of the queues.
use Rattle.std.specs.Prelude.{ℕ, nat_lt, Bool, if◌then◌else◌, List, ◌++◌, codes, Option, Some, None}
use Rattle.std.specs.Fmt.{decimal}
use Rattle.fh_base.specs.Names.{is_queue_name}
use Rattle.fh_event.specs.declared.settings.FunctionSettings.{FunctionSettings}
use Rattle.fh_event.specs.declared.settings.FunctionSettings.TheVariants.{Queue, Blob, Timer}
use Rattle.fh_queues.specs.Asks as queues
use Rattle.fh_queues.specs.Part.{QueuePart, has_queue}
use Rattle.fh_dispatch.specs.declared.function.Function.{Function}
use Rattle.fh_dispatch.specs.declared.trigger.Trigger.{Trigger}
use Rattle.fh_dispatch.specs.Part.{WorkPart, function_of, number_or}
use Rattle.fh_dispatch.specs.InWork.{in_work}
use Rattle.fh_dispatch.specs.Settings.{is_as}

-- the queue of a blob function's own, by the function's number
abbrev pub inner_queue : ℕ → List ℕ
inner_queue number = codes "webjobs-blobtrigger-" ++ decimal number

-- the queue on whose messages the function of this number works; a timer has none
abbrev pub queue_of : ℕ → FunctionSettings → Option (List ℕ)
queue_of number (Queue queue batch threshold limit retry singleton) = Some queue
queue_of number (Blob batch threshold limit retry singleton) = Some (inner_queue number)
queue_of number (Timer masks startup monitor singleton) = None

-- the queue is made where it is missing
abbrev pub made_where_missing : QueuePart → Option (List ℕ) → Option queues.Ask
made_where_missing part None = None
made_where_missing part (Some queue) = if has_queue part.queues queue then None else Some (queues.Make queue)

-- a function that gets new settings has its queue
abbrev pub configuring_queue_of : WorkPart → QueuePart → FunctionSettings → Option Function → Option queues.Ask
configuring_queue_of part queues settings found =
    if is_as settings found then None
    else made_where_missing queues (queue_of (number_or part.next_function found) settings)

abbrev pub configuring_queues : WorkPart → QueuePart → List ℕ → FunctionSettings → Option queues.Ask
configuring_queues part queues name settings =
    configuring_queue_of part queues settings (function_of name part.functions)

-- what makes messages the jobs of the function of this number; a timer makes none
abbrev pub trigger_on : ℕ → List ℕ → ℕ → ℕ → Trigger
trigger_on number queue batch threshold =
    record { function = number; queue = queue; batch = batch; threshold = threshold }

abbrev pub trigger_by : ℕ → FunctionSettings → Option Trigger
trigger_by number (Queue queue batch threshold limit retry singleton) =
    if is_queue_name queue then Some (trigger_on number queue batch threshold) else None
trigger_by number (Blob batch threshold limit retry singleton) =
    Some (trigger_on number (inner_queue number) batch threshold)
trigger_by number (Timer masks startup monitor singleton) = None

abbrev pub trigger_found : Option Function → Option Trigger
trigger_found None = None
trigger_found (Some function) = trigger_by function.number function.settings

-- the trigger of the function of this name, where it works on messages
abbrev pub trigger_of : List ℕ → List Function → Option Trigger
trigger_of name functions = trigger_found (function_of name functions)

-- too many jobs of the function are in work for it to fetch more
abbrev pub is_full : WorkPart → Trigger → Bool
is_full part trigger = nat_lt trigger.threshold (in_work trigger.function part)

-- the next messages of the queue, held for ten minutes
abbrev pub batch_of : Trigger → queues.Ask
batch_of trigger = queues.Take trigger.queue trigger.batch 600

abbrev pub unless_full : Bool → Trigger → Option queues.Ask
unless_full full trigger = if full then None else Some (batch_of trigger)

-- a function that isn't full takes the next messages of its queue
abbrev pub fetching_queue : WorkPart → Option Trigger → Option queues.Ask
fetching_queue part None = None
fetching_queue part (Some trigger) = unless_full (is_full part trigger) trigger
