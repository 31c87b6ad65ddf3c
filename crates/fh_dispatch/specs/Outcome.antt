-- What each ask makes of the work, and what it answers.
use Rattle.std.specs.Prelude.{ℕ, ◌+◌, Bool, if◌then◌else◌, List, [], ◌∷◌, map, Option, Some, None}
use Rattle.fh_base.specs.declared.rule.Rule.TheVariants.{NoSuchFunction}
use Rattle.fh_event.specs.declared.settings.FunctionSettings.{FunctionSettings}
use Rattle.fh_event.specs.declared.reply.FetchedJob.{FetchedJob}
use Rattle.fh_event.specs.declared.reply.Item.{Item}
use Rattle.fh_event.specs.declared.reply.Reply.TheVariants as replies
use Rattle.fh_event.specs.Judging.{Judged, Refuses, Quiets, Makes, unless_refused}
use Rattle.fh_queues.specs.declared.done.QueueDone.{QueueDone}
use Rattle.fh_queues.specs.Outcome as queue_outcome
use Rattle.fh_queues.specs.Part.{QueuePart}
use Rattle.fh_queues.specs.Tellings.{items_in}
use Rattle.fh_dispatch.specs.declared.function.Function.{Function}
use Rattle.fh_dispatch.specs.declared.ready.Job.TheVariants.{Message, Timer}
use Rattle.fh_dispatch.specs.declared.ready.ReadyJob.{ReadyJob}
use Rattle.fh_dispatch.specs.declared.trigger.Trigger.{Trigger}
use Rattle.fh_dispatch.specs.declared.done.WorkDone.{WorkDone}
use Rattle.fh_dispatch.specs.declared.done.WorkDone.TheVariants as done
use Rattle.fh_dispatch.specs.declared.act.Act.{Act}
use Rattle.fh_dispatch.specs.declared.act.Act.TheVariants.{Set, AddJob, DropJobs, BeginSession}
use Rattle.fh_dispatch.specs.Part.{WorkPart, Others, function_of, number_or}
use Rattle.fh_dispatch.specs.InWork.{in_work}
use Rattle.fh_dispatch.specs.Settings.{is_as, has_other_trigger}
use Rattle.fh_dispatch.specs.Asks.{Ask, Configure, Ready, Session, Fetch, Begin, Finish, Renewals, Nothing}
use Rattle.fh_dispatch.specs.Rules.{settings_rule}
use Rattle.fh_dispatch.specs.Acts.{by_acts}
use Rattle.fh_dispatch.specs.Rulings.{Acting, ruled}
use Rattle.fh_dispatch.specs.Begin.{begin_of}
use Rattle.fh_dispatch.specs.Finish.{finish_of}
use Rattle.fh_dispatch.specs.Renewals.{renewals_of}
use Rattle.fh_dispatch.specs.Queues.{trigger_of, is_full, batch_of}

abbrev pub configured : ℕ → List ℕ → FunctionSettings → Function
configured number name settings = record { number = number; name = name; settings = settings }

-- where the trigger is another, the jobs go that the old one made ready
abbrev pub dropping : ℕ → Bool → List Act
dropping number other_trigger = if other_trigger then DropJobs number ∷ [] else []

-- the function has this number and these settings
abbrev pub configuring_as : ℕ → List ℕ → FunctionSettings → Bool → Acting
configuring_as number name settings other_trigger =
    Makes (Set (configured number name settings) ∷ dropping number other_trigger) (done.Configured number)

-- where it has these settings, nothing changes
abbrev pub configuring_found : WorkPart → List ℕ → FunctionSettings → Option Function → Acting
configuring_found part name settings found =
    if is_as settings found then Quiets done.Same
    else configuring_as (number_or part.next_function found) name settings (has_other_trigger settings found)

abbrev pub configuring : WorkPart → List ℕ → FunctionSettings → Acting
configuring part name settings =
    unless_refused (settings_rule settings) (configuring_found part name settings (function_of name part.functions))

-- a message that was taken becomes a job of the function
abbrev pub message_job : ℕ → Item → ReadyJob
message_job function item = record { function = function; job = Message item.number item.receipt }

abbrev pub adding : ℕ → List Item → List Act
adding function items = map (λ item. AddJob (message_job function item)) items

abbrev pub fetched_job : Item → FetchedJob
fetched_job item = record { number = item.number; receipt = item.receipt; count = item.count }

-- the messages become jobs in the order in which they were taken
abbrev pub fetched : ℕ → List Item → Acting
fetched function items = Makes (adding function items) (done.Told (replies.Fetched (map fetched_job items)))

-- what the queues make of the take decides
abbrev pub fetching_by : ℕ → Judged QueuePart QueueDone → Acting
fetching_by function (Refuses rule) = Refuses rule
fetching_by function (Quiets answer) = Quiets (done.Told replies.Empty)
fetching_by function (Makes part answer) = fetched function (items_in answer)

abbrev pub busy : ℕ → Acting
busy in_work = Quiets (done.Told (replies.Busy in_work))

-- a function of this name that works on messages fetches the next ones, unless it is full
abbrev pub fetching : WorkPart → Others → Option Trigger → ℕ → Acting
fetching part others None m = Refuses NoSuchFunction
fetching part others (Some trigger) m =
    if is_full part trigger then busy (in_work trigger.function part)
    else fetching_by trigger.function (queue_outcome.outcome others.queues (batch_of trigger) m)

-- a session that begins drops what was ready before it
abbrev pub beginning : ℕ → Acting
beginning session = Makes (BeginSession ∷ []) (done.Told (replies.SessionBegun session))

unfoldable pub acting : WorkPart → Others → Ask → ℕ → Acting
acting part others (Configure name settings) m = configuring part name settings
acting part others (Ready function run) m =
    Makes (AddJob (record { function = function; job = Timer run }) ∷ []) done.Ready
acting part others Session m = beginning (part.session + 1)
acting part others (Fetch name) m = fetching part others (trigger_of name part.functions) m
acting part others (Begin name high low) m = ruled others m (begin_of part others name high low m)
acting part others (Finish invocation outcome) m = ruled others m (finish_of part others invocation outcome m)
acting part others Renewals m = ruled others m (renewals_of part others m)
acting part others Nothing m = Makes [] done.Nothing

-- the part after an ask, and what is answered
abbrev pub Outcome : Type 0
Outcome = Judged WorkPart WorkDone

abbrev pub made_by : WorkPart → Acting → Outcome
made_by part (Refuses rule) = Refuses rule
made_by part (Quiets answer) = Quiets answer
made_by part (Makes acts answer) = Makes (by_acts part acts) answer

unfoldable pub outcome : WorkPart → Others → Ask → ℕ → Outcome
outcome part others ask m = made_by part (acting part others ask m)
