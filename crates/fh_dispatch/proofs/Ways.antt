-- The ways in which an ask changes something, and what becomes of the functions in each.
use Rattle.std.proofs.Common.{◌≡◌, inl, inr, ℕ, ◌+◌, ◌<◌, ◌≤◌, Bool, true, false, List, [], ◌∷◌, length, map, Option, Some, None, refl, sym, ap, ◌∙◌, subst, arith}
use Rattle.std.specs.Prelude.{◌==◌, if◌then◌else◌, option_map}
use Rattle.std.specs.Str.{bytes_eq}
use Rattle.std.proofs.lemmas.Bool.Decides.{nat_tests}
use Rattle.fh_base.specs.declared.rule.Rule.{Rule}
use Rattle.fh_event.specs.declared.settings.FunctionSettings.{FunctionSettings}
use Rattle.fh_event.specs.declared.reply.Item.{Item}
use Rattle.fh_event.specs.declared.reply.Reply.TheVariants as replies
use Rattle.fh_event.specs.Judging.{Judged, Refuses, Quiets, Makes, unless_refused}
use Rattle.fh_timers.specs.declared.done.TimerRun.{TimerRun}
use Rattle.fh_queues.specs.declared.done.QueueDone.{QueueDone}
use Rattle.fh_queues.specs.Outcome as queue_outcome
use Rattle.fh_queues.specs.Part.{QueuePart}
use Rattle.fh_queues.specs.Tellings.{items_in}
use Rattle.fh_queues.proofs.Lawful.{takes_few}
use Rattle.fh_dispatch.specs.declared.function.Function.{Function}
use Rattle.fh_dispatch.specs.declared.act.Act.{Act}
use Rattle.fh_dispatch.specs.declared.act.Act.TheVariants.{Set, AddJob, EndRunning, RenewRunning, BeginSession}
use Rattle.fh_dispatch.specs.declared.ready.Job.TheVariants as jobs
use Rattle.fh_dispatch.specs.declared.ready.ReadyJob.{ReadyJob}
use Rattle.fh_dispatch.specs.declared.done.WorkDone.{WorkDone}
use Rattle.fh_dispatch.specs.declared.done.WorkDone.TheVariants as done
use Rattle.fh_dispatch.specs.declared.trigger.Trigger.{Trigger}
use Rattle.fh_dispatch.specs.Part.{WorkPart, Others, function_of, number_or}
use Rattle.fh_dispatch.specs.InWork.{in_work}
use Rattle.fh_dispatch.specs.Ready.{first_job, without_jobs_of}
use Rattle.fh_dispatch.specs.Invocations.{without_runs_of}
use Rattle.fh_dispatch.specs.Settings.{is_as, has_other_trigger}
use Rattle.fh_event.specs.declared.outcome.Outcome.{Outcome as Finished}
use Rattle.fh_event.specs.declared.reply.RenewalPart.{RenewalPart}
use Rattle.fh_event.specs.declared.reply.Reply.{Reply}
use Rattle.fh_dispatch.specs.Asks.{Ask, Configure, Ready, Session, Fetch, Begin, Finish, Renewals, Nothing}
use Rattle.fh_dispatch.specs.Rulings.{Acting, Ruling, Refused, Unchanged, Changed, ruled}
use Rattle.fh_dispatch.specs.Begin.{begin_of}
use Rattle.fh_dispatch.specs.Finish.{finish_of}
use Rattle.fh_dispatch.specs.Renewals.{Due, receipt_after, receipt_for, due_next, renewing_acts, renewals_of}
use Rattle.fh_dispatch.proofs.Ruled.{IsBeginning, OfEffect, BeginsSo, EndsSo, RenewsSo, effected, begin_acts, finish_acts, renewal_acts}
use Rattle.fh_dispatch.specs.Rules.{settings_rule}
use Rattle.fh_dispatch.specs.Acts.{next_after, with_function, acted, by_acts}
use Rattle.fh_dispatch.specs.Queues.{trigger_of, is_full, batch_of}
use Rattle.fh_dispatch.specs.Outcome.{configured, dropping, configuring_as, message_job, adding, fetched_job, fetching_by, busy, fetching, acting, made_by, outcome}
use Rattle.fh_dispatch.specs.Laws.{number_of, number_for, is_configure, answers}
use Rattle.fh_dispatch.proofs.Naming.{function_of-set}

abbrev pub function_for : WorkPart → List ℕ → FunctionSettings → Function
function_for part name settings = configured (number_for part name) name settings

abbrev pub gets_other_trigger : WorkPart → List ℕ → FunctionSettings → Bool
gets_other_trigger part name settings = has_other_trigger settings (function_of name part.functions)

-- the acts of a configure
abbrev pub sets : WorkPart → List ℕ → FunctionSettings → List Act
sets part name settings =
    Set (function_for part name settings) ∷ dropping (number_for part name) (gets_other_trigger part name settings)

abbrev pub job_for : ℕ → TimerRun → ReadyJob
job_for function run = record { function = function; job = jobs.Timer run }

-- what holds of each way in which an ask changes something
pub record Ways (P : Ask → List Act → WorkDone → Type 0) (part : WorkPart) : Type 0 where
  pub configures : (name : List ℕ) (settings : FunctionSettings) → settings_rule settings ≡ None
      → P (Configure name settings) (sets part name settings) (done.Configured (number_for part name))
  pub readies : (function : ℕ) (run : TimerRun) → P (Ready function run) (AddJob (job_for function run) ∷ []) done.Ready
  pub sessions : P Session (BeginSession ∷ []) (done.Told (replies.SessionBegun (part.session + 1)))
  pub fetches :
      (name : List ℕ) (trigger : Trigger) → trigger_of name part.functions ≡ Some trigger
      → is_full part trigger ≡ false → (items : List Item) → length items ≤ trigger.batch
      → P (Fetch name) (adding trigger.function items) (done.Told (replies.Fetched (map fetched_job items)))
  pub begins :
      (name : List ℕ) (high low : ℕ) (job : ReadyJob) → first_job (number_for part name) part.ready ≡ Some job
      → (acts : List Act) → IsBeginning (number_for part name) job acts
      → (told : Reply) → answers (Begin name high low) (done.Told told) ≡ true
      → P (Begin name high low) acts (done.Told told)
  pub finishes :
      (invocation : ℕ) (outcome : Finished) (told : Reply)
      → answers (Finish invocation outcome) (done.Told told) ≡ true → (ended : ℕ)
      → P (Finish invocation outcome) (EndRunning ended ∷ []) (done.Told told)
  pub renews :
      (receipt m : ℕ) (dues : List Due) (parts : List RenewalPart)
      → P Renewals (renewing_acts receipt m dues) (done.Told (replies.HoldsRenewed parts))
  pub nothing : P Nothing [] done.Nothing

pub record Way (P : Ask → List Act → WorkDone → Type 0) (part : WorkPart) (ask : Ask) (after : WorkPart)
    (answer : WorkDone) : Type 0 where
  pub acts : List Act
  pub made : by_acts part acts ≡ after
  pub holds : P ask acts answer

module _ (P : Ask → List Act → WorkDone → Type 0) (part : WorkPart) (ways : Ways P part) (others : Others) (m : ℕ)
    (after_ask : WorkPart)
    (answer : WorkDone) where
  accepted : (rule : Option Rule) (judged : Acting) → made_by part (unless_refused rule judged)
      ≡ Makes after_ask answer → (rule ≡ None) × (made_by part judged ≡ Makes after_ask answer)
  accepted None judged is = (refl, is)
  accepted (Some rule) judged is = absurd (cc)

  loud : (quiet : Bool) (judged : Acting) → made_by part (if quiet then Quiets done.Same else judged)
      ≡ Makes after_ask answer → made_by part judged ≡ Makes after_ask answer
  loud true judged is = absurd (cc)
  loud false judged is = is

  way : (ask : Ask) (acts : List Act) (given : WorkDone) → P ask acts given
      → made_by part (Makes acts given) ≡ Makes after_ask answer → Way P part ask after_ask answer
  way ask acts given holds is =
      let made : by_acts part acts ≡ after_ask = cc in
      let same : given ≡ answer = cc in
      record { acts = acts; made = made; holds = subst (λ (d : WorkDone). P ask acts d) same holds }

  by_taken : (name : List ℕ) (trigger : Trigger) → trigger_of name part.functions ≡ Some trigger
      → is_full part trigger ≡ false → (taken : Judged QueuePart QueueDone)
      → queue_outcome.outcome others.queues (batch_of trigger) m ≡ taken
      → made_by part (fetching_by trigger.function taken) ≡ Makes after_ask answer
      → Way P part (Fetch name) after_ask answer
  by_taken name trigger found room (Refuses rule) takes is = absurd (cc)
  by_taken name trigger found room (Quiets given) takes is = absurd (cc)
  by_taken name trigger found room (Makes after given) takes is =
      way (Fetch name) _ _
      (ways.fetches name trigger found room (items_in given)
      (takes_few others.queues (batch_of trigger) m after given takes))
      is

  by_room : (name : List ℕ) (trigger : Trigger) → trigger_of name part.functions ≡ Some trigger
      → (full : Bool) → is_full part trigger ≡ full
      → made_by part
      (if full then busy (in_work trigger.function part)
      else fetching_by trigger.function (queue_outcome.outcome others.queues (batch_of trigger) m))
      ≡ Makes after_ask answer
      → Way P part (Fetch name) after_ask answer
  by_room name trigger found true room is = absurd (cc)
  by_room name trigger found false room is =
      by_taken name trigger found room (queue_outcome.outcome others.queues (batch_of trigger) m) refl is

  by_trigger : (name : List ℕ) (found : Option Trigger) → trigger_of name part.functions ≡ found
      → made_by part (fetching part others found m) ≡ Makes after_ask answer → Way P part (Fetch name) after_ask answer
  by_trigger name None found is = absurd (cc)
  by_trigger name (Some trigger) found is = by_room name trigger found (is_full part trigger) refl is

  begun : (name : List ℕ) (high low : ℕ) (ruling : Ruling) → OfEffect (BeginsSo part name) ruling
      → made_by part (ruled others m ruling) ≡ Makes after_ask answer → Way P part (Begin name high low) after_ask answer
  begun name high low (Refused rule) so is = absurd (cc)
  begun name high low (Unchanged reply) so is = absurd (cc)
  begun name high low (Changed effect) so is =
      way (Begin name high low) _ _
      (ways.begins name high low so.job so.first effect.acts so.acts effect.told (so.told high low))
      (effected part others m effect after_ask answer is)

  finished : (invocation : ℕ) (outcome : Finished) (ruling : Ruling) → OfEffect EndsSo ruling
      → made_by part (ruled others m ruling) ≡ Makes after_ask answer
      → Way P part (Finish invocation outcome) after_ask answer
  finished invocation outcome (Refused rule) so is = absurd (cc)
  finished invocation outcome (Unchanged reply) so is = absurd (cc)
  finished invocation outcome (Changed effect) so is =
      way (Finish invocation outcome) _ _
      (subst (λ (acts : List Act). P (Finish invocation outcome) acts (done.Told effect.told)) (sym so.acts)
      (ways.finishes invocation outcome effect.told (so.told invocation outcome) so.ended))
      (effected part others m effect after_ask answer is)

  renewed : (ruling : Ruling) → OfEffect RenewsSo ruling
      → made_by part (ruled others m ruling) ≡ Makes after_ask answer → Way P part Renewals after_ask answer
  renewed (Refused rule) so is = absurd (cc)
  renewed (Unchanged reply) so is = absurd (cc)
  renewed (Changed effect) so is =
      way Renewals _ _
      (subst (λ (acts : List Act). P Renewals acts (done.Told effect.told)) (sym so.acts)
      (subst (λ (r : Reply). P Renewals (renewing_acts so.receipt so.moment so.dues) (done.Told r)) (sym so.told)
      (ways.renews so.receipt so.moment so.dues so.parts)))
      (effected part others m effect after_ask answer is)

  by_acting : (ask : Ask) → made_by part (acting part others ask m) ≡ Makes after_ask answer
      → Way P part ask after_ask answer
  unfolding acting
  by_acting (Configure name settings) is =
      let quiet = is_as settings (function_of name part.functions) in
      let fits = accepted (settings_rule settings) _ is in
      way (Configure name settings) _ _ (ways.configures name settings fits.0)
      (loud quiet (configuring_as (number_for part name) name settings (gets_other_trigger part name settings)) fits.1)
  by_acting (Ready function run) is = way (Ready function run) _ _ (ways.readies function run) is
  by_acting Session is = way Session _ _ ways.sessions is
  by_acting (Fetch name) is = by_trigger name (trigger_of name part.functions) refl is
  by_acting (Begin name high low) is =
      begun name high low (begin_of part others name high low m) (begin_acts part others name high low m) is
  by_acting (Finish invocation outcome) is =
      finished invocation outcome (finish_of part others invocation outcome m)
      (finish_acts part others invocation outcome m) is
  by_acting Renewals is = renewed (renewals_of part others m) (renewal_acts part others m) is
  by_acting Nothing is = way Nothing _ _ ways.nothing is

  pub by_ways : (ask : Ask) → outcome part others ask m ≡ Makes after_ask answer → Way P part ask after_ask answer
  unfolding outcome
  by_ways ask is = by_acting ask is

-- ---- the number of a function that is configured

pub number_for-known : (part : WorkPart) (name : List ℕ) (number : ℕ) → number_of part name ≡ Some number
    → number_for part name ≡ number
number_for-known part name number is = by_found (function_of name part.functions) is
  where
    by_found : (found : Option Function) → option_map (λ (f : Function). f.number) found ≡ Some number
        → number_or part.next_function found ≡ number
    by_found None is = cc
    by_found (Some function) is = cc

pub number_for-new : (part : WorkPart) (name : List ℕ) → number_of part name ≡ None
    → number_for part name ≡ part.next_function
number_for-new part name is = by_found (function_of name part.functions) is
  where
    by_found : (found : Option Function) → option_map (λ (f : Function). f.number) found ≡ None
        → number_or part.next_function found ≡ part.next_function
    by_found None is = refl
    by_found (Some function) is = cc

pub next_after-next : (next number : ℕ) → number ≡ next → next_after next number ≡ next + 1
next_after-next next number is = by_test (number == next) refl
  where
    by_test : (b : Bool) → (number == next) ≡ b → (if b then next + 1 else next) ≡ next + 1
    by_test true same = refl
    by_test false apart = absurd (grind (arith, nat_tests, apart, is))

pub next_after-given : (next number : ℕ) → number < next → next_after next number ≡ next
next_after-given next number before = by_test (number == next) refl
  where
    by_test : (b : Bool) → (number == next) ≡ b → (if b then next + 1 else next) ≡ next
    by_test true same = absurd (grind (arith, nat_tests, same, before))
    by_test false apart = refl

pub next_after-least : (next number : ℕ) → next ≤ next_after next number
next_after-least next number = by_test (number == next)
  where
    by_test : (b : Bool) → next ≤ (if b then next + 1 else next)
    by_test true = omega arith
    by_test false = omega arith

-- a function that is set, with its jobs dropped or not
module _ (function : Function) (part : WorkPart) where
  functions-set : (drops : Bool) → (by_acts part (Set function ∷ dropping function.number drops)).functions
      ≡ (with_function function part).functions
  unfolding acted
  functions-set true = refl
  functions-set false = refl

  next-set : (drops : Bool) → (by_acts part (Set function ∷ dropping function.number drops)).next_function
      ≡ next_after part.next_function function.number
  unfolding acted
  next-set true = refl
  next-set false = refl

  pub session-set : (drops : Bool)
      → (by_acts part (Set function ∷ dropping function.number drops)).session ≡ part.session
  unfolding acted
  session-set true = refl
  session-set false = refl

  pub ready-set : (drops : Bool) → (by_acts part (Set function ∷ dropping function.number drops)).ready
      ≡ (if drops then without_jobs_of function.number part.ready else part.ready)
  unfolding acted
  ready-set true = refl
  ready-set false = refl

  pub invocations-set : (drops : Bool)
      → (by_acts part (Set function ∷ dropping function.number drops)).next_invocation ≡ part.next_invocation
  unfolding acted
  invocations-set true = refl
  invocations-set false = refl

  pub running-set : (drops : Bool) → (by_acts part (Set function ∷ dropping function.number drops)).running
      ≡ (if drops then without_runs_of function.number part.running else part.running)
  unfolding acted
  running-set true = refl
  running-set false = refl

module _ (part : WorkPart) where
  abbrev pub after_set : List ℕ → FunctionSettings → WorkPart
  after_set name settings = by_acts part (sets part name settings)

  pub function-after_set : (name : List ℕ) (settings : FunctionSettings) (x : List ℕ)
      → function_of x (after_set name settings).functions
      ≡ (if bytes_eq name x then Some (function_for part name settings) else function_of x part.functions)
  function-after_set name settings x =
      ap (function_of x) (functions-set (function_for part name settings) part (gets_other_trigger part name settings))
      ∙ function_of-set (function_for part name settings) part x

  pub numbers_after : (name : List ℕ) (settings : FunctionSettings) (x : List ℕ)
      → number_of (after_set name settings) x ≡
      (if bytes_eq name x then Some (number_for part name) else number_of part x)
  numbers_after name settings x = ap (option_map (λ (f : Function). f.number)) (function-after_set name settings x)
      ∙ by_test (bytes_eq name x)
    where
      by_test : (b : Bool) → option_map (λ (f : Function). f.number)
          (if b then Some (function_for part name settings) else function_of x part.functions)
          ≡ (if b then Some (number_for part name) else number_of part x)
      by_test true = refl
      by_test false = refl

  pub next-after_set : (name : List ℕ) (settings : FunctionSettings)
      → (after_set name settings).next_function ≡ next_after part.next_function (number_for part name)
  next-after_set name settings = next-set (function_for part name settings) part (gets_other_trigger part name settings)

pub next_after-most : (next number : ℕ) → next_after next number ≤ next + 1
next_after-most next number = by_test (number == next)
  where
    by_test : (b : Bool) → (if b then next + 1 else next) ≤ next + 1
    by_test true = omega arith
    by_test false = omega arith

-- the functions are as they were
pub record SameFunctions (part after : WorkPart) : Type 0 where
  pub functions : after.functions ≡ part.functions
  pub next : after.next_function ≡ part.next_function

pub same-ready : (part : WorkPart) (function : ℕ) (run : TimerRun)
    → SameFunctions part (by_acts part (AddJob (job_for function run) ∷ []))
unfolding acted
same-ready part function run = record { functions = refl; next = refl }

pub same-session : (part : WorkPart) → SameFunctions part (by_acts part (BeginSession ∷ []))
unfolding acted
same-session part = record { functions = refl; next = refl }

same-job : (part : WorkPart) (job : ReadyJob) → SameFunctions part (acted part (AddJob job))
unfolding acted
same-job part job = record { functions = refl; next = refl }

pub same-added : (function : ℕ) (items : List Item) (part : WorkPart)
    → SameFunctions part (by_acts part (adding function items))
same-added function [] part = record { functions = refl; next = refl }
same-added function (item ∷ items) part =
    let one = same-job part (message_job function item) in
    let rest = same-added function items (acted part (AddJob (message_job function item))) in
    record { functions = rest.functions ∙ one.functions; next = rest.next ∙ one.next }

invocations-job : (part : WorkPart) (job : ReadyJob) → (acted part (AddJob job)).next_invocation ≡ part.next_invocation
unfolding acted
invocations-job part job = refl

pub invocations-added : (function : ℕ) (items : List Item) (part : WorkPart)
    → (by_acts part (adding function items)).next_invocation ≡ part.next_invocation
invocations-added function [] part = refl
invocations-added function (item ∷ items) part =
    invocations-added function items (acted part (AddJob (message_job function item)))
    ∙ invocations-job part (message_job function item)

session-job : (part : WorkPart) (job : ReadyJob) → (acted part (AddJob job)).session ≡ part.session
unfolding acted
session-job part job = refl

pub session-added : (function : ℕ) (items : List Item) (part : WorkPart)
    → (by_acts part (adding function items)).session ≡ part.session
session-added function [] part = refl
session-added function (item ∷ items) part =
    session-added function items (acted part (AddJob (message_job function item)))
    ∙ session-job part (message_job function item)

-- the acts of a job's begin and end, and of renewals, keep the functions and the sessions, and give one invocation's
-- number at most
pub record KeepsCounters (part after : WorkPart) : Type 0 where
  pub same : SameFunctions part after
  pub session : after.session ≡ part.session
  pub invocations : after.next_invocation ≤ part.next_invocation + 1

pub kept-begun : (part : WorkPart) (f : ℕ) (job : ReadyJob) (acts : List Act) → IsBeginning f job acts
    → KeepsCounters part (by_acts part acts)
unfolding acted
kept-begun part f job acts (inl is) =
    subst (λ (made : List Act). KeepsCounters part (by_acts part made)) (sym is)
    (record { same = record { functions = refl; next = refl }; session = refl; invocations = omega arith })
kept-begun part f job acts (inr so) =
    subst (λ (made : List Act). KeepsCounters part (by_acts part made)) (sym so.acts_are)
    (record { same = record { functions = refl; next = refl }; session = refl; invocations = omega arith })

pub kept-ended : (part : WorkPart) (ended : ℕ) → KeepsCounters part (by_acts part (EndRunning ended ∷ []))
unfolding acted
kept-ended part ended =
    record { same = record { functions = refl; next = refl }; session = refl; invocations = omega arith }

-- the functions, counters and ready jobs are as they were
pub record KeepsAll (part after : WorkPart) : Type 0 where
  pub functions : after.functions ≡ part.functions
  pub next : after.next_function ≡ part.next_function
  pub session : after.session ≡ part.session
  pub invocations : after.next_invocation ≡ part.next_invocation
  pub ready : after.ready ≡ part.ready

kept-one : (part : WorkPart) (invocation receipt due : ℕ)
    → KeepsAll part (acted part (RenewRunning invocation receipt due))
unfolding acted
kept-one part invocation receipt due =
    record { functions = refl; next = refl; session = refl; invocations = refl; ready = refl }

pub kept-renewed : (receipt m : ℕ) (dues : List Due) (part : WorkPart)
    → KeepsAll part (by_acts part (renewing_acts receipt m dues))
kept-renewed receipt m [] part =
    record { functions = refl; next = refl; session = refl; invocations = refl; ready = refl }
kept-renewed receipt m (due ∷ dues) part =
    let one = kept-one part due.run.invocation (receipt_for receipt due.run.job due.due_row) (due_next m due) in
    let rest = kept-renewed (receipt_after receipt due.due_row) m dues
    (acted part (RenewRunning due.run.invocation (receipt_for receipt due.run.job due.due_row) (due_next m due))) in
    record {
      functions = rest.functions ∙ one.functions;
      next = rest.next ∙ one.next;
      session = rest.session ∙ one.session;
      invocations = rest.invocations ∙ one.invocations;
      ready = rest.ready ∙ one.ready;
    }

pub kept-counters : (part after : WorkPart) → KeepsAll part after → KeepsCounters part after
kept-counters part after all = record {
  same = record { functions = all.functions; next = all.next };
  session = all.session;
  invocations = let is = all.invocations in omega (arith, is);
}

-- each ask but a configure keeps the functions, so that what holds of a configure and of equal functions holds of all
module _ (Q : Ask → WorkPart → WorkDone → Type 0) (part : WorkPart)
    (configures : (name : List ℕ) (settings : FunctionSettings) → settings_rule settings ≡ None
    → Q (Configure name settings) (after_set part name settings) (done.Configured (number_for part name)))
    (plain : (ask : Ask) (after : WorkPart) (answer : WorkDone) → is_configure ask ≡ false → SameFunctions part after
    → Q ask after answer) where
  pub ways_by_functions : Ways (λ ask acts answer. Q ask (by_acts part acts) answer) part
  ways_by_functions = record {
    configures = configures;
    readies = λ function run. plain (Ready function run) _ _ refl (same-ready part function run);
    sessions = plain Session _ _ refl (same-session part);
    fetches = λ name trigger found room items few. plain (Fetch name) _ _ refl (same-added trigger.function items part);
    begins = λ name high low job first acts so told answered.
        plain (Begin name high low) _ _ refl (kept-begun part (number_for part name) job acts so).same;
    finishes = λ invocation outcome told answered ended.
        plain (Finish invocation outcome) _ _ refl (kept-ended part ended).same;
    renews = λ receipt m dues parts.
        plain Renewals _ _ refl (kept-counters part _ (kept-renewed receipt m dues part)).same;
    nothing = plain Nothing _ _ refl (record { functions = refl; next = refl });
  }
