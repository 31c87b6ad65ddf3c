-- What holds of each ask that changes something.
use Rattle.std.specs.Prelude.{◌≡◌, ⊤, ℕ, ◌+◌, ◌<◌, ◌≤◌, ◌==◌, Bool, true, false, if◌then◌else◌, ◌↔◌, ◌⊎◌, List, [], ◌∷◌, ◌++◌, map, Option, Some, None, option_map, IfSome}
use Rattle.std.specs.Str.{bytes_eq}
use Rattle.fh_event.specs.declared.settings.FunctionSettings.{FunctionSettings}
use Rattle.fh_event.specs.declared.settings.FunctionSettings.TheVariants.{Timer}
use Rattle.fh_event.specs.declared.reply.FetchedJob.{FetchedJob}
use Rattle.fh_event.specs.declared.reply.Reply.TheVariants.{SessionBegun, Fetched, JobDropped, JobPoisoned, Begun, JobLost, JobDone, JobFailed, JobReleased, HoldsRenewed}
use Rattle.fh_event.specs.Judging.{Makes}
use Rattle.fh_ncrontab.specs.Schedule.{are_masks}
use Rattle.fh_queues.specs.declared.done.QueueDone.{QueueDone}
use Rattle.fh_queues.specs.Asks as queues
use Rattle.fh_queues.specs.Outcome as queue_outcome
use Rattle.fh_queues.specs.Part.{QueuePart}
use Rattle.fh_queues.specs.Tellings.{items_in}
use Rattle.fh_timers.specs.declared.ask.TimerAsk.TheVariants.{Remove}
use Rattle.fh_dispatch.specs.declared.done.WorkDone.{WorkDone}
use Rattle.fh_dispatch.specs.declared.done.WorkDone.TheVariants as done
use Rattle.fh_dispatch.specs.declared.ready.Job.TheVariants.{Message, Timer as OfTimer}
use Rattle.fh_dispatch.specs.declared.ready.ReadyJob.{ReadyJob}
use Rattle.fh_dispatch.specs.declared.trigger.Trigger.{Trigger}
use Rattle.fh_dispatch.specs.InWork.{in_work, is_busy, runs_in}
use Rattle.fh_dispatch.specs.Ready.{jobs_of, without_first}
use Rattle.fh_dispatch.specs.Part.{WorkPart, Others, function_of, number_or}
use Rattle.fh_dispatch.specs.declared.timer.Timer.{Timer as FunctionTimer}
use Rattle.fh_dispatch.specs.Settings.{same_settings, has_other_trigger}
use Rattle.fh_dispatch.specs.Asks.{Ask, Configure, Ready, Session, Fetch, Begin, Finish, Renewals, Nothing}
use Rattle.fh_dispatch.specs.Outcome.{configured, fetched_job, outcome}
use Rattle.fh_dispatch.specs.Queues.{trigger_of, batch_of}
use Rattle.fh_dispatch.specs.Asked.{asks_queues}
use Rattle.fh_dispatch.specs.Timers.{timer_of, asks_timers}

-- the number of the function of this name
abbrev pub number_of : WorkPart → List ℕ → Option ℕ
number_of part name = option_map (λ function. function.number) (function_of name part.functions)

-- where settings name a schedule there is one
abbrev pub HasSchedule : FunctionSettings → Type 0
HasSchedule (Timer masks startup monitor singleton) = are_masks masks ≡ true
HasSchedule settings = ⊤

-- numbers of functions were given, from 1 on, two functions with one number are one, and a timer has a schedule
pub record IsWhole (part : WorkPart) : Type 0 where
  pub begun : 1 ≤ part.next_function
  pub given :
      (name : List ℕ) (number : ℕ)
      → number_of part name ≡ Some number → (1 ≤ number) × (number < part.next_function)
  pub apart :
      (name other : List ℕ) (number : ℕ)
      → number_of part name ≡ Some number → number_of part other ≡ Some number → name ≡ other
  pub scheduled : (name : List ℕ) → IfSome (function_of name part.functions) (λ function. HasSchedule function.settings)

-- what holds of each ask that changes a whole part, by the part before, the moment, the part after and the answer
abbrev pub OfEachAsk : (WorkPart → ℕ → Ask → WorkPart → WorkDone → Type 0) → Type 0
OfEachAsk Holds =
    (part : WorkPart) (others : Others) (ask : Ask) (m : ℕ) (after : WorkPart) (answer : WorkDone)
    → IsWhole part → outcome part others ask m ≡ Makes after answer → Holds part m ask after answer

abbrev pub StaysWhole : WorkPart → ℕ → Ask → WorkPart → WorkDone → Type 0
StaysWhole part m ask after answer = IsWhole after

-- who has a number keeps it
abbrev pub KeepsNumbers : WorkPart → ℕ → Ask → WorkPart → WorkDone → Type 0
KeepsNumbers part m ask after answer =
    (name : List ℕ) (number : ℕ) → number_of part name ≡ Some number → number_of after name ≡ Some number

-- the ask configures the function of this name
abbrev pub is_named : List ℕ → Ask → Bool
is_named x (Configure name settings) = bytes_eq name x
is_named x ask = false

-- a function that had no number gets the next one, and then the next one is the one behind that; where the function
-- has a number, the next one stays
pub record GivesNumbersInTurn (part : WorkPart) (m : ℕ) (ask : Ask) (after : WorkPart) (answer : WorkDone) :
    Type 0 where
  pub new :
      (name : List ℕ) (number : ℕ)
      → number_of part name ≡ None → number_of after name ≡ Some number
      → (number ≡ part.next_function) × (after.next_function ≡ part.next_function + 1)
  pub stays :
      (name : List ℕ) (number : ℕ)
      → number_of part name ≡ Some number → is_named name ask ≡ true → after.next_function ≡ part.next_function

-- the function has these settings, and the number of the answer
abbrev pub IsAsConfigured : WorkPart → ℕ → Ask → WorkPart → WorkDone → Type 0
IsAsConfigured part m (Configure name settings) after (done.Configured number) =
    function_of name after.functions ≡ Some (configured number name settings)
IsAsConfigured part m (Configure name settings) after answer = ⊥
IsAsConfigured part m Nothing after answer = after ≡ part
IsAsConfigured part m ask after answer = after.functions ≡ part.functions

-- a function that the ask doesn't name stays as it is
abbrev pub KeepsUnnamed : WorkPart → ℕ → Ask → WorkPart → WorkDone → Type 0
KeepsUnnamed part m ask after answer =
    (x : List ℕ) → is_named x ask ≡ false → function_of x after.functions ≡ function_of x part.functions

-- the number of the function of this name, as it is or as it is given next
abbrev pub number_for : WorkPart → List ℕ → ℕ
number_for part name = number_or part.next_function (function_of name part.functions)

-- the messages that an answer tells as fetched
abbrev pub fetched_in : WorkDone → List FetchedJob
fetched_in (done.Told (Fetched jobs)) = jobs
fetched_in answer = []

-- and the jobs that they are
abbrev pub jobs_told : ℕ → WorkDone → List ReadyJob
jobs_told function answer =
    map (λ told. record { function = function; job = Message told.number told.receipt }) (fetched_in answer)

-- a run that is made ready is the last of its function's jobs, and messages that are fetched are the last ones, as they
-- are told; a function that is configured keeps its jobs, and has none where it gets another trigger; a session begins
-- without jobs; a job that begins is the first of its function's, and is ready no more
abbrev pub HasJobsAsAsked : WorkPart → ℕ → Ask → WorkPart → WorkDone → Type 0
HasJobsAsAsked part m (Configure name settings) after answer =
    jobs_of (number_for part name) after.ready
    ≡ (if has_other_trigger settings (function_of name part.functions) then [] else jobs_of (number_for part name)
    part.ready)
HasJobsAsAsked part m (Ready function run) after answer =
    jobs_of function after.ready ≡ jobs_of function part.ready ++ record { function = function; job = OfTimer run } ∷ []
HasJobsAsAsked part m Session after answer = (after.ready ≡ []) × (after.session ≡ part.session + 1)
HasJobsAsAsked part m (Fetch name) after answer =
    jobs_of (number_for part name) after.ready
    ≡ jobs_of (number_for part name) part.ready ++ jobs_told (number_for part name) answer
HasJobsAsAsked part m (Begin name high low) after answer =
    after.ready ≡ without_first (number_for part name) part.ready
HasJobsAsAsked part m (Finish invocation outcome) after answer = after.ready ≡ part.ready
HasJobsAsAsked part m Renewals after answer = after.ready ≡ part.ready
HasJobsAsAsked part m Nothing after answer = after ≡ part

-- the ask is about the function of this number; a session is about all
abbrev pub is_about : WorkPart → ℕ → Ask → Bool
is_about part f (Configure name settings) = number_for part name == f
is_about part f (Ready function run) = function == f
is_about part f Session = true
is_about part f (Fetch name) = number_for part name == f
is_about part f (Begin name high low) = number_for part name == f
is_about part f ask = false

-- the jobs of a function that the ask isn't about stay as they are
abbrev pub KeepsOtherJobs : WorkPart → ℕ → Ask → WorkPart → WorkDone → Type 0
KeepsOtherJobs part m ask after answer =
    (f : ℕ) → is_about part f ask ≡ false → jobs_of f after.ready ≡ jobs_of f part.ready

-- a run is made ready where no job of the function is in work
abbrev pub FindsNoJob : WorkPart → Ask → Type 0
FindsNoJob part (Ready function run) = is_busy function part ≡ false
FindsNoJob part ask = ⊤

-- then a function that had one run in work at most has no more
abbrev pub KeepsOneRun : WorkPart → ℕ → Ask → WorkPart → WorkDone → Type 0
KeepsOneRun part m ask after answer =
    FindsNoJob part ask → (f : ℕ) → runs_in f part ≤ 1 → runs_in f after ≤ 1

-- the ask may bring the function of this number jobs; what begins was ready before
abbrev pub brings_jobs : WorkPart → ℕ → Ask → Bool
brings_jobs part f (Ready function run) = function == f
brings_jobs part f (Fetch name) = number_for part name == f
brings_jobs part f ask = false

-- a function that works on messages has no more of them in work than a batch beside its threshold
abbrev pub IsWithin : WorkPart → Option Trigger → Type 0
IsWithin after None = ⊥
IsWithin after (Some trigger) = in_work trigger.function after ≤ trigger.batch + trigger.threshold

-- so it is behind each fetch
abbrev pub KeepsToTheBound : WorkPart → ℕ → Ask → WorkPart → WorkDone → Type 0
KeepsToTheBound part m (Fetch name) after answer = IsWithin after (trigger_of name part.functions)
KeepsToTheBound part m ask after answer = ⊤

-- and a function to which the ask brings no jobs has no more of them than before
abbrev pub BringsNoOthers : WorkPart → ℕ → Ask → WorkPart → WorkDone → Type 0
BringsNoOthers part m ask after answer =
    (f : ℕ) → brings_jobs part f ask ≡ false → in_work f after ≤ in_work f part

-- the answer is one to this ask
abbrev pub answers : Ask → WorkDone → Bool
answers (Configure name settings) (done.Configured number) = true
answers (Ready function run) done.Ready = true
answers Session (done.Told (SessionBegun session)) = true
answers (Fetch name) (done.Told (Fetched jobs)) = true
answers (Begin name high low) (done.Told (JobDropped number)) = true
answers (Begin name high low) (done.Told (JobPoisoned copy broken)) = true
answers (Begin name high low) (done.Told (Begun begun)) = true
answers (Finish invocation outcome) (done.Told JobLost) = true
answers (Finish invocation outcome) (done.Told JobDone) = true
answers (Finish invocation outcome) (done.Told (JobFailed broken)) = true
answers (Finish invocation outcome) (done.Told (JobPoisoned copy broken)) = true
answers (Finish invocation outcome) (done.Told (JobReleased visible_at broken)) = true
answers Renewals (done.Told (HoldsRenewed parts)) = true
answers Nothing done.Nothing = true
answers ask answer = false

-- an ask that changes something has its own answer, whatever the part before
abbrev pub AnswersTheAsk : Type 0
AnswersTheAsk =
    (part : WorkPart) (others : Others) (ask : Ask) (m : ℕ) (after : WorkPart) (answer : WorkDone)
    → outcome part others ask m ≡ Makes after answer → answers ask answer ≡ true

-- one number of a function and one of an invocation are given at most, and one session begins, whatever the part before
abbrev pub MovesNumbers : Type 0
MovesNumbers =
    (part : WorkPart) (others : Others) (ask : Ask) (m : ℕ) (after : WorkPart) (answer : WorkDone)
    → outcome part others ask m ≡ Makes after answer
    → (after.next_function ≤ part.next_function + 1) × (after.next_invocation ≤ part.next_invocation + 1)
    × (after.session ≤ part.session + 1)

abbrev pub is_configure : Ask → Bool
is_configure (Configure name settings) = true
is_configure ask = false

-- a job that begins is moved or asks for nothing, and at an end the message is moved, released or removed
abbrev pub MayMove : Option queues.Ask → Type 0
MayMove None = ⊤
MayMove (Some (queues.Poison message queue)) = ⊤
MayMove (Some ask) = ⊥

abbrev pub MayEnd : ℕ → Option queues.Ask → Type 0
MayEnd invocation None = ⊤
MayEnd invocation (Some (queues.Poison message queue)) = ⊤
MayEnd invocation (Some (queues.Release message delay)) = ⊤
MayEnd invocation (Some (queues.Complete ended message outputs)) = ⊤
MayEnd invocation (Some ask) = ⊥

abbrev pub MayRenew : Option queues.Ask → Type 0
MayRenew None = ⊤
MayRenew (Some (queues.Renew messages hold)) = ⊤
MayRenew (Some ask) = ⊥

-- where a function is configured, the queues are asked to make a queue at most, where it fetches, for its batch, and
-- what a job asks is as above
abbrev pub AsksForQueues : WorkPart → Ask → Option queues.Ask → Type 0
AsksForQueues part (Configure name settings) asked =
    (asked ≡ None) ⊎ ((queue : List ℕ) × (asked ≡ Some (queues.Make queue)))
AsksForQueues part (Fetch name) asked =
    (asked ≡ None)
    ⊎ ((trigger : Trigger) × (trigger_of name part.functions ≡ Some trigger) × (asked ≡ Some (batch_of trigger)))
AsksForQueues part (Begin name high low) asked = MayMove asked
AsksForQueues part (Finish invocation outcome) asked = MayEnd invocation asked
AsksForQueues part Renewals asked = MayRenew asked
AsksForQueues part ask asked = asked ≡ None

abbrev pub AsksAsItSays : Type 0
AsksAsItSays =
    (part : WorkPart) (others : Others) (ask : Ask) (m : ℕ) → AsksForQueues part ask (asks_queues part others ask m)

-- the timers are asked to remove a row or nothing, and only where a function is configured
abbrev pub AsksOnlyToRemove : Type 0
AsksOnlyToRemove =
    (part : WorkPart) (ask : Ask)
    → (asks_timers part ask ≡ None)
    ⊎ ((function : ℕ) × (asks_timers part ask ≡ Some (Remove function)) × (is_configure ask ≡ true))

-- the function has a timer of this number and schedule
pub record HasTimer (part : WorkPart) (name : List ℕ) (timer : FunctionTimer) : Type 0 where
  pub before : FunctionTimer
  pub there : timer_of name part.functions ≡ Some before
  pub function : before.function ≡ timer.function
  pub schedule : before.schedule ≡ timer.schedule

-- a timer afterwards was there with its number and schedule, or its function is new, or its row is removed
abbrev pub KeepsTimers : WorkPart → ℕ → Ask → WorkPart → WorkDone → Type 0
KeepsTimers part m ask after answer =
    (name : List ℕ) (timer : FunctionTimer) → timer_of name after.functions ≡ Some timer
    → HasTimer part name timer ⊎ ((timer.function ≡ part.next_function)
    ⊎ (asks_timers part ask ≡ Some (Remove timer.function)))

-- settings count as the same exactly where they are equal
abbrev pub ComparesSettings : Type 0
ComparesSettings = (one other : FunctionSettings) → (same_settings one other ≡ true) ↔ (one ≡ other)

-- a fetch that changes something asks for its function's batch, and tells what the queues take for it
pub record IsFetch (part : WorkPart) (others : Others) (name : List ℕ) (m : ℕ) (answer : WorkDone) : Type 0 where
  pub trigger : Trigger
  pub found : trigger_of name part.functions ≡ Some trigger
  pub asks : asks_queues part others (Fetch name) m ≡ Some (batch_of trigger)
  pub told :
      (taken : QueuePart) (given : QueueDone) → queue_outcome.outcome others.queues (batch_of trigger) m
      ≡ Makes taken given
      → answer ≡ done.Told (Fetched (map fetched_job (items_in given)))

abbrev pub FetchesAsTold : Type 0
FetchesAsTold =
    (part : WorkPart) (others : Others) (name : List ℕ) (m : ℕ) (after : WorkPart) (answer : WorkDone)
    → outcome part others (Fetch name) m ≡ Makes after answer → IsFetch part others name m answer
