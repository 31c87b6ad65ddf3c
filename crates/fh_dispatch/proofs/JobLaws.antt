-- What becomes of the ready jobs of each function.
use Rattle.std.proofs.Common.{◌≡◌, inl, inr, ℕ, ◌+◌, ◌≤◌, Bool, true, false, List, [], ◌∷◌, ◌++◌, length, map, filter, Option, Some, None, refl, sym, ap, ◌∙◌, subst, arith, length-append, append_assoc}
use Rattle.std.specs.Prelude.{◌==◌, if◌then◌else◌}
use Rattle.std.proofs.lemmas.Bool.{eqb-true}
use Rattle.std.proofs.lemmas.Bool.Decides.{nat_tests}
use Rattle.std.proofs.lemmas.List.{length-map, append-nil}
use Rattle.std.proofs.lemmas.List.Elements.{filter-append}
use Rattle.fh_event.specs.declared.settings.FunctionSettings.{FunctionSettings}
use Rattle.fh_base.specs.Names.{is_queue_name}
use Rattle.fh_event.specs.declared.settings.FunctionSettings.TheVariants as forms
use Rattle.fh_event.specs.declared.reply.Item.{Item}
use Rattle.fh_event.specs.declared.reply.Reply.TheVariants as replies
use Rattle.fh_timers.specs.declared.done.TimerRun.{TimerRun}
use Rattle.fh_dispatch.specs.declared.act.Act.{Act}
use Rattle.fh_dispatch.specs.declared.act.Act.TheVariants.{AddJob, EndRunning, BeginSession}
use Rattle.fh_dispatch.specs.declared.function.Function.{Function}
use Rattle.fh_dispatch.specs.declared.ready.ReadyJob.{ReadyJob}
use Rattle.fh_dispatch.specs.declared.done.WorkDone.{WorkDone}
use Rattle.fh_dispatch.specs.declared.done.WorkDone.TheVariants as done
use Rattle.fh_dispatch.specs.declared.trigger.Trigger.{Trigger}
use Rattle.fh_dispatch.specs.Part.{WorkPart, function_of, number_or}
use Rattle.fh_dispatch.specs.InWork.{in_work, is_busy, runs_in}
use Rattle.fh_dispatch.specs.Ready.{jobs_of, is_run, with_job, without_first, without_jobs_of}
use Rattle.fh_dispatch.specs.Invocations.{runs_of}
use Rattle.fh_dispatch.specs.declared.ready.Job.{Job}
use Rattle.fh_dispatch.specs.Asks.{Ask, Configure, Session}
use Rattle.fh_dispatch.specs.Acts.{acted, by_acts}
use Rattle.fh_dispatch.specs.Queues.{inner_queue, trigger_on, trigger_by, trigger_found, trigger_of, is_full}
use Rattle.fh_dispatch.specs.Outcome.{message_job, adding, fetched_job}
use Rattle.fh_dispatch.specs.Laws.{OfEachAsk, number_for, jobs_told, HasJobsAsAsked, KeepsOtherJobs, FindsNoJob, KeepsOneRun, brings_jobs, IsWithin, KeepsToTheBound, BringsNoOthers}
use Rattle.fh_dispatch.proofs.Naming.{own_number}
use Rattle.fh_dispatch.proofs.Jobs.{jobs_of-with_own, jobs_of-with_other, jobs_of-without_own, jobs_of-without_other}
use Rattle.fh_dispatch.specs.Renewals.{renewing_acts}
use Rattle.fh_dispatch.proofs.Ruled.{IsBeginning}
use Rattle.fh_dispatch.proofs.InWork.{first-other, SeesKinds, job_passes, running_passing, passing, passing-set, passing-beginning, passing-ended, passing-renewed, all_passing, runs_within}
use Rattle.fh_dispatch.proofs.Ways.{function_for, gets_other_trigger, job_for, sets, Ways, by_ways, ready-set, running-set, after_set, kept-renewed}

-- ---- jobs that come

ready-job : (part : WorkPart) (job : ReadyJob) → (acted part (AddJob job)).ready ≡ with_job job part.ready
unfolding acted
ready-job part job = refl

-- messages that are added to a function's jobs are its last ones
jobs-added : (f : ℕ) (items : List Item) (part : WorkPart)
    → jobs_of f (by_acts part (adding f items)).ready ≡ jobs_of f part.ready ++ map (message_job f) items
jobs-added f [] part = sym (append-nil (jobs_of f part.ready))
jobs-added f (item ∷ items) part =
    let job = message_job f item in
    jobs-added f items (acted part (AddJob job))
    ∙ ap (λ (js : List ReadyJob). js ++ map (message_job f) items)
    (ap (jobs_of f) (ready-job part job) ∙ jobs_of-with_own f job part.ready (own_number f))
    ∙ append_assoc (jobs_of f part.ready) (job ∷ []) (map (message_job f) items)

-- and no other function has more
jobs-added_other : (f g : ℕ) → (g == f) ≡ false → (items : List Item) (part : WorkPart)
    → jobs_of f (by_acts part (adding g items)).ready ≡ jobs_of f part.ready
jobs-added_other f g other [] part = refl
jobs-added_other f g other (item ∷ items) part =
    let job = message_job g item in
    jobs-added_other f g other items (acted part (AddJob job))
    ∙ ap (jobs_of f) (ready-job part job) ∙ jobs_of-with_other f job part.ready other

-- what is told of the messages is the jobs that they are
told_jobs : (f : ℕ) (items : List Item)
    → jobs_told f (done.Told (replies.Fetched (map fetched_job items))) ≡ map (message_job f) items
told_jobs f [] = refl
told_jobs f (item ∷ items) = ap (λ (js : List ReadyJob). message_job f item ∷ js) (told_jobs f items)

-- ---- the number of a trigger's function

trigger-number : (number : ℕ) (settings : FunctionSettings) (trigger : Trigger)
    → trigger_by number settings ≡ Some trigger → trigger.function ≡ number
trigger-number number settings trigger is = by_form settings is
  where
    by_form : (given : FunctionSettings) → trigger_by number given ≡ Some trigger → trigger.function ≡ number
    by_form (forms.Queue queue batch threshold limit retry singleton) found = by_name (is_queue_name queue) found
      where
        by_name : (good : Bool) → (if good then Some (trigger_on number queue batch threshold) else None) ≡ Some trigger
            → trigger.function ≡ number
        by_name false none = absurd (cc)
        by_name true some =
            let same : trigger_on number queue batch threshold ≡ trigger = cc in
            ap (λ (t : Trigger). t.function) (sym same)
    by_form (forms.Blob batch threshold limit retry singleton) found =
        let same : trigger_on number (inner_queue number) batch threshold ≡ trigger = cc in
        ap (λ (t : Trigger). t.function) (sym same)
    by_form (forms.Timer masks startup monitor singleton) found = absurd (cc)

-- the function of the trigger that is found by a name is the one of this name
pub trigger-named : (part : WorkPart) (name : List ℕ) (trigger : Trigger)
    → trigger_of name part.functions ≡ Some trigger → trigger.function ≡ number_for part name
trigger-named part name trigger is = by_found (function_of name part.functions) refl is
  where
    by_found : (found : Option Function) → function_of name part.functions ≡ found
        → trigger_found found ≡ Some trigger → trigger.function ≡ number_for part name
    by_found None found none = absurd (cc)
    by_found (Some function) found some =
        trigger-number function.number function.settings trigger some
        ∙ sym (ap (number_or part.next_function) found)

-- ---- jobs as asked

module _ (part : WorkPart) where
  jobs-set : (name : List ℕ) (settings : FunctionSettings) (f : ℕ)
      → jobs_of f (after_set part name settings).ready
      ≡ jobs_of f (if gets_other_trigger part name settings then without_jobs_of (number_for part name)
      part.ready else part.ready)
  jobs-set name settings f =
      ap (jobs_of f) (ready-set (function_for part name settings) part (gets_other_trigger part name settings))

  jobs-ready : (function : ℕ) (run : TimerRun) (f : ℕ)
      → jobs_of f (by_acts part (AddJob (job_for function run) ∷ [])).ready
      ≡ jobs_of f (with_job (job_for function run) part.ready)
  jobs-ready function run f = ap (jobs_of f) (ready-job part (job_for function run))

  begun : HasJobsAsAsked part 0 Session (by_acts part (BeginSession ∷ [])) done.Nothing
  unfolding acted
  begun = (refl, refl)

  ready-begun : (f : ℕ) (job : ReadyJob) (acts : List Act) → IsBeginning f job acts
      → (by_acts part acts).ready ≡ without_first f part.ready
  unfolding acted
  ready-begun f job acts (inl is) = ap (λ (made : List Act). (by_acts part made).ready) is
  ready-begun f job acts (inr so) = ap (λ (made : List Act). (by_acts part made).ready) so.acts_are

  ready-ended : (ended : ℕ) → (by_acts part (EndRunning ended ∷ [])).ready ≡ part.ready
  unfolding acted
  ready-ended ended = refl

  fetched : (name : List ℕ) (trigger : Trigger) → trigger_of name part.functions ≡ Some trigger → (items : List Item)
      → jobs_of (number_for part name) (by_acts part (adding trigger.function items)).ready
      ≡ jobs_of (number_for part name) part.ready
      ++ jobs_told (number_for part name) (done.Told (replies.Fetched (map fetched_job items)))
  fetched name trigger found items =
      let own = trigger-named part name trigger found in
      subst (λ (g : ℕ). jobs_of g (by_acts part (adding trigger.function items)).ready
      ≡ jobs_of g part.ready ++ jobs_told g (done.Told (replies.Fetched (map fetched_job items)))) own
      (jobs-added trigger.function items part
      ∙ ap (λ (js : List ReadyJob). jobs_of trigger.function part.ready ++ js) (sym (told_jobs trigger.function items)))

  job_ways : Ways (λ ask acts answer. HasJobsAsAsked part 0 ask (by_acts part acts) answer) part
  job_ways = record {
    configures = λ name settings fits.
        jobs-set name settings (number_for part name) ∙ own (number_for part name)
        (gets_other_trigger part name settings);
    readies = λ function run.
        jobs-ready function run function
        ∙ jobs_of-with_own function (job_for function run) part.ready (own_number function);
    sessions = begun;
    fetches = λ name trigger found room items few. fetched name trigger found items;
    begins = λ name high low job first acts so told answered. ready-begun (number_for part name) job acts so;
    finishes = λ invocation outcome told answered ended. ready-ended ended;
    renews = λ receipt m dues parts. (kept-renewed receipt m dues part).ready;
    nothing = refl;
  }
    where
      own : (f : ℕ) (drops : Bool)
          → jobs_of f (if drops then without_jobs_of f part.ready else part.ready)
          ≡ (if drops then [] else jobs_of f part.ready)
      own f true = jobs_of-without_own f f part.ready (own_number f)
      own f false = refl

  other_ways : Ways (λ ask acts answer. KeepsOtherJobs part 0 ask (by_acts part acts) answer) part
  other_ways = record {
    configures = λ name settings fits f other.
        jobs-set name settings f ∙ others f (number_for part name) other (gets_other_trigger part name settings);
    readies = λ function run f other.
        jobs-ready function run f ∙ jobs_of-with_other f (job_for function run) part.ready other;
    sessions = λ f other. absurd (cc);
    fetches = λ name trigger found room items few f other.
        jobs-added_other f trigger.function
        (ap (λ g. g == f) (trigger-named part name trigger found) ∙ other) items part;
    begins = λ name high low job first acts so told answered f other.
        ap (jobs_of f) (ready-begun (number_for part name) job acts so)
        ∙ first-other f (number_for part name) other part.ready;
    finishes = λ invocation outcome told answered ended f other. ap (jobs_of f) (ready-ended ended);
    renews = λ receipt m dues parts f other. ap (jobs_of f) (kept-renewed receipt m dues part).ready;
    nothing = λ f other. refl;
  }
    where
      others : (f g : ℕ) → (g == f) ≡ false → (drops : Bool)
          → jobs_of f (if drops then without_jobs_of g part.ready else part.ready) ≡ jobs_of f part.ready
      others f g other true = jobs_of-without_other f g part.ready other
      others f g other false = refl

pub jobs_as_asked : OfEachAsk HasJobsAsAsked
jobs_as_asked part others ask m after answer h is =
    let by = by_ways _ part (job_ways part) others m after answer ask is in
    subst (λ (p : WorkPart). HasJobsAsAsked part m ask p answer) by.made by.holds

pub keeps_other_jobs : OfEachAsk KeepsOtherJobs
keeps_other_jobs part others ask m after answer h is =
    let by = by_ways _ part (other_ways part) others m after answer ask is in
    subst (λ (p : WorkPart). KeepsOtherJobs part m ask p answer) by.made by.holds

-- ---- what else becomes of running invocations

module _ (part : WorkPart) where
  running-ready : (job : ReadyJob) → (by_acts part (AddJob job ∷ [])).running ≡ part.running
  unfolding acted
  running-ready job = refl

  session-empties : (q : Job → Bool) (f : ℕ) → passing q f (by_acts part (BeginSession ∷ [])) ≡ 0
  unfolding acted
  session-empties q f = refl

running-job : (part : WorkPart) (job : ReadyJob) → (acted part (AddJob job)).running ≡ part.running
unfolding acted
running-job part job = refl

running-added : (function : ℕ) (items : List Item) (part : WorkPart)
    → (by_acts part (adding function items)).running ≡ part.running
running-added function [] part = refl
running-added function (item ∷ items) part =
    running-added function items (acted part (AddJob (message_job function item)))
    ∙ running-job part (message_job function item)

-- ---- one run at most

same_kinds : SeesKinds is_run
same_kinds one other same = same

all_alike : SeesKinds (λ job. true)
all_alike one other same = refl

-- messages are no runs
no_runs : (f : ℕ) (items : List Item) → filter (λ (job : ReadyJob). is_run job.job) (map (message_job f) items) ≡ []
no_runs f [] = refl
no_runs f (item ∷ items) = no_runs f items

module _ (part : WorkPart) where
  abbrev StaysOne : Ask → List Act → WorkDone → Type 0
  StaysOne ask acts answer =
      FindsNoJob part ask → (f : ℕ) → runs_in f part ≤ 1 → runs_in f (by_acts part acts) ≤ 1

  no_more : (ask : Ask) (acts : List Act) (answer : WorkDone)
      → ((f : ℕ) → runs_in f (by_acts part acts) ≤ runs_in f part) → StaysOne ask acts answer
  no_more ask acts answer fewer none f one = let less = fewer f in omega (arith, less, one)

  run_made_ready : (function : ℕ) (run : TimerRun) → is_busy function part ≡ false → (f : ℕ) → runs_in f part ≤ 1
      → runs_in f (by_acts part (AddJob (job_for function run) ∷ [])) ≤ 1
  run_made_ready function run idle f one = by_test (function == f) refl
    where
      running : running_passing is_run f (by_acts part (AddJob (job_for function run) ∷ [])).running
          ≡ running_passing is_run f part.running
      running = ap (running_passing is_run f) (running-ready part (job_for function run))

      by_test : (b : Bool) → (function == f) ≡ b → runs_in f (by_acts part (AddJob (job_for function run) ∷ [])) ≤ 1
      by_test true own =
          let none : in_work function part ≡ 0 = grind (arith, nat_tests, idle) in
          let none_here : in_work f part ≡ 0 = subst (λ (g : ℕ). in_work g part ≡ 0) (eqb-true _ _ own) none in
          let within = runs_within f part in
          let more = ap (λ js. length (filter (job_passes is_run) js))
          (jobs-ready part function run f ∙ jobs_of-with_own f (job_for function run) part.ready own)
          ∙ ap length (filter-append (job_passes is_run) (jobs_of f part.ready) (job_for function run ∷ []))
          ∙ length-append (filter (job_passes is_run) (jobs_of f part.ready)) (job_for function run ∷ []) in
          omega (arith, none_here, within, more, running)
      by_test false other =
          let same = ap (λ js. length (filter (job_passes is_run) js))
          (jobs-ready part function run f ∙ jobs_of-with_other f (job_for function run) part.ready other) in
          omega (arith, same, running, one)

  fetched_runs : (trigger : Trigger) (items : List Item) (f : ℕ)
      → runs_in f (by_acts part (adding trigger.function items)) ≤ runs_in f part
  fetched_runs trigger items f = by_test (trigger.function == f) refl
    where
      running : running_passing is_run f (by_acts part (adding trigger.function items)).running
          ≡ running_passing is_run f part.running
      running = ap (running_passing is_run f) (running-added trigger.function items part)

      by_test : (b : Bool) → (trigger.function == f) ≡ b
          → runs_in f (by_acts part (adding trigger.function items)) ≤ runs_in f part
      by_test true own =
          subst (λ (g : ℕ). runs_in g (by_acts part (adding trigger.function items)) ≤ runs_in g part)
          (eqb-true _ _ own)
          (let jobs = ap (λ js. length (filter (job_passes is_run) js)) (jobs-added trigger.function items part)
          ∙ ap length (filter-append (job_passes is_run) (jobs_of trigger.function part.ready)
          (map (message_job trigger.function) items))
          ∙ length-append (filter (job_passes is_run) (jobs_of trigger.function part.ready))
          (filter (job_passes is_run) (map (message_job trigger.function) items)) in
          let none = ap length (no_runs trigger.function items) in
          let run_rows = ap (running_passing is_run trigger.function) (running-added trigger.function items part) in
          omega (arith, jobs, none, run_rows))
      by_test false other =
          let same = ap (λ js. length (filter (job_passes is_run) js))
          (jobs-added_other f trigger.function other items part) in
          omega (arith, same, running)

  one_ways : Ways StaysOne part
  one_ways = record {
    configures = λ name settings fits.
        no_more (Configure name settings) (sets part name settings) (done.Configured (number_for part name)) (λ f. passing-set is_run f
        (number_for part name) (gets_other_trigger part name settings) part (after_set part name settings)
        (ready-set (function_for part name settings) part (gets_other_trigger part name settings))
        (running-set (function_for part name settings) part (gets_other_trigger part name settings)));
    readies = λ function run idle f one. run_made_ready function run idle f one;
    sessions = λ none f one. let all = session-empties part is_run f in omega (arith, all);
    fetches = λ name trigger found room items few none f one.
        let fewer = fetched_runs trigger items f in omega (arith, fewer, one);
    begins = λ name high low job first acts so told answered none f one.
        let fewer = passing-beginning is_run same_kinds f (number_for part name) part job acts first so in
        omega (arith, fewer, one);
    finishes = λ invocation outcome told answered ended none f one.
        let fewer = passing-ended is_run same_kinds f ended part in omega (arith, fewer, one);
    renews = λ receipt m dues parts none f one.
        let same = passing-renewed is_run same_kinds f receipt m dues part in omega (arith, same, one);
    nothing = λ none f one. one;
  }

pub keeps_one_run : OfEachAsk KeepsOneRun
keeps_one_run part others ask m after answer h is =
    let by = by_ways _ part (one_ways part) others m after answer ask is in
    subst (λ (p : WorkPart). FindsNoJob part ask → (f : ℕ) → runs_in f part ≤ 1 → runs_in f p ≤ 1) by.made by.holds

-- ---- the bound of a fetch

module _ (part : WorkPart) where
  work-added : (function : ℕ) (items : List Item)
      → in_work function (by_acts part (adding function items)) ≡ in_work function part + length items
  work-added function items =
      let all = ap length (jobs-added function items part) in
      let long = length-append (jobs_of function part.ready) (map (message_job function) items) in
      let running = ap (λ rs. length (runs_of function rs)) (running-added function items part) in
      omega (arith, all, long, length-map items (message_job function), running)

  within : (name : List ℕ) (trigger : Trigger) → trigger_of name part.functions ≡ Some trigger
      → is_full part trigger ≡ false → (items : List Item) → length items ≤ trigger.batch
      → IsWithin (by_acts part (adding trigger.function items)) (trigger_of name part.functions)
  within name trigger found room items few =
      let least : in_work trigger.function part ≤ trigger.threshold = grind (arith, nat_tests, room) in
      subst (IsWithin (by_acts part (adding trigger.function items))) (sym found)
      (omega (arith, work-added trigger.function items, least, few))

  bound_ways : Ways (λ ask acts answer. KeepsToTheBound part 0 ask (by_acts part acts) answer) part
  bound_ways = record {
    configures = λ name settings fits. tt;
    readies = λ function run. tt;
    sessions = tt;
    fetches = within;
    begins = λ name high low job first acts so told answered. tt;
    finishes = λ invocation outcome told answered ended. tt;
    renews = λ receipt m dues parts. tt;
    nothing = tt;
  }

pub keeps_to_the_bound : OfEachAsk KeepsToTheBound
keeps_to_the_bound part others ask m after answer h is =
    let by = by_ways _ part (bound_ways part) others m after answer ask is in
    subst (λ (p : WorkPart). KeepsToTheBound part m ask p answer) by.made by.holds

-- ---- who else brings jobs

module _ (part : WorkPart) where
  abbrev NoMore : Ask → List Act → WorkDone → Type 0
  NoMore ask acts answer =
      (f : ℕ) → brings_jobs part f ask ≡ false → in_work f (by_acts part acts) ≤ in_work f part

  by_passing : (after : WorkPart) (f : ℕ) → passing (λ job. true) f after ≤ passing (λ job. true) f part
      → in_work f after ≤ in_work f part
  by_passing after f fewer =
      let now = all_passing f after in let before = all_passing f part in omega (arith, now, before, fewer)

  other_work : (function : ℕ) (run : TimerRun) (f : ℕ) → (function == f) ≡ false
      → in_work f (by_acts part (AddJob (job_for function run) ∷ [])) ≤ in_work f part
  other_work function run f other =
      let jobs = ap length (jobs-ready part function run f
      ∙ jobs_of-with_other f (job_for function run) part.ready other) in
      let running = ap (λ rs. length (runs_of f rs)) (running-ready part (job_for function run)) in
      omega (arith, jobs, running)

  other_fetch : (trigger : Trigger) (items : List Item) (f : ℕ) → (trigger.function == f) ≡ false
      → in_work f (by_acts part (adding trigger.function items)) ≤ in_work f part
  other_fetch trigger items f other =
      let jobs = ap length (jobs-added_other f trigger.function other items part) in
      let running = ap (λ rs. length (runs_of f rs)) (running-added trigger.function items part) in
      omega (arith, jobs, running)

  bring_ways : Ways NoMore part
  bring_ways = record {
    configures = λ name settings fits f apart.
        by_passing (after_set part name settings) f (passing-set (λ job. true) f (number_for part name)
        (gets_other_trigger part name settings) part (after_set part name settings)
        (ready-set (function_for part name settings) part (gets_other_trigger part name settings))
        (running-set (function_for part name settings) part (gets_other_trigger part name settings)));
    readies = λ function run f apart. other_work function run f apart;
    sessions = λ f apart.
        by_passing (by_acts part (BeginSession ∷ [])) f
        (let all = session-empties part (λ job. true) f in omega (arith, all));
    fetches = λ name trigger found room items few f apart.
        other_fetch trigger items f (ap (λ g. g == f) (trigger-named part name trigger found) ∙ apart);
    begins = λ name high low job first acts so told answered f apart.
        by_passing (by_acts part acts) f (passing-beginning (λ job. true) all_alike f (number_for part name) part job acts first so);
    finishes = λ invocation outcome told answered ended f apart.
        by_passing (by_acts part (EndRunning ended ∷ [])) f (passing-ended (λ job. true) all_alike f ended part);
    renews = λ receipt m dues parts f apart.
        by_passing (by_acts part (renewing_acts receipt m dues)) f
        (let same = passing-renewed (λ job. true) all_alike f receipt m dues part in omega (arith, same));
    nothing = λ f apart. omega arith;
  }

pub brings_no_others : OfEachAsk BringsNoOthers
brings_no_others part others ask m after answer h is =
    let by = by_ways _ part (bring_ways part) others m after answer ask is in
    subst (λ (p : WorkPart). (f : ℕ) → brings_jobs part f ask ≡ false → in_work f p ≤ in_work f part) by.made by.holds
