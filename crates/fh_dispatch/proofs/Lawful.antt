-- What every layer above may cite: one lemma for each law of the work.
use Rattle.std.proofs.Common.{◌≡◌, ◌⊎◌, inl, inr, ℕ, ◌+◌, ◌<◌, ◌≤◌, Bool, true, false, List, [], ◌∷◌, Option, Some, None, refl, sym, ap, ◌∙◌, subst, arith}
use Rattle.std.specs.Prelude.{not, if◌then◌else◌, option_map, IfSome}
use Rattle.std.specs.Str.{bytes_eq}
use Rattle.fh_event.specs.declared.settings.FunctionSettings.{FunctionSettings}
use Rattle.fh_event.specs.declared.settings.FunctionSettings.TheVariants.{Queue, Blob, Timer}
use Rattle.fh_ncrontab.specs.Schedule.{are_masks, with_masks}
use Rattle.fh_timers.specs.declared.ask.TimerAsk.TheVariants.{Remove}
use Rattle.fh_queues.specs.Asks as queues
use Rattle.fh_queues.specs.Part.{has_queue}
use Rattle.fh_dispatch.specs.declared.function.Function.{Function}
use Rattle.fh_dispatch.specs.declared.act.Act.{Act}
use Rattle.fh_dispatch.specs.declared.act.Act.TheVariants.{AddJob, BeginSession}
use Rattle.fh_dispatch.specs.declared.ready.ReadyJob.{ReadyJob}
use Rattle.fh_dispatch.specs.declared.done.WorkDone.{WorkDone}
use Rattle.fh_dispatch.specs.declared.done.WorkDone.TheVariants as done
use Rattle.fh_dispatch.specs.Settings.{is_as, same_trigger, has_other_trigger}
use Rattle.fh_dispatch.specs.Asks.{Ask, Configure, Ready, Session, Fetch, Begin, Finish, Renewals, Nothing}
use Rattle.fh_dispatch.specs.Rules.{settings_rule}
use Rattle.fh_dispatch.specs.Acts.{acted, by_acts}
use Rattle.fh_dispatch.specs.Part.{WorkPart, no_work, function_of, number_or}
use Rattle.fh_dispatch.specs.Outcome.{outcome}
use Rattle.fh_dispatch.specs.Queues.{queue_of, made_where_missing}
use Rattle.fh_dispatch.specs.Queues.{trigger_of, is_full, batch_of, unless_full, fetching_queue}
use Rattle.fh_dispatch.specs.Asked.{asks_queues}
use Rattle.fh_dispatch.specs.declared.trigger.Trigger.{Trigger}
use Rattle.fh_dispatch.specs.declared.timer.Timer.{Timer as FunctionTimer}
use Rattle.fh_dispatch.specs.Timers.{timer_by, timer_found, timer_of, removing, configuring_timers, asks_timers}
use Rattle.fh_dispatch.specs.Laws.{number_of, HasSchedule, IsWhole, OfEachAsk, StaysWhole, KeepsNumbers, GivesNumbersInTurn, IsAsConfigured, KeepsUnnamed, number_for, answers, AnswersTheAsk, MovesNumbers, is_configure, AsksAsItSays, AsksOnlyToRemove, HasTimer, KeepsTimers}
use Rattle.fh_dispatch.proofs.Naming.{same_name, own_name}
use Rattle.fh_dispatch.proofs.Scheduled.{is_scheduled}
use Rattle.fh_dispatch.proofs.Ways.{function_for, gets_other_trigger, job_for, Ways, by_ways, number_for-known, number_for-new, next_after-next, next_after-given, next_after-least, next_after-most, session-set, invocations-set, after_set, function-after_set, numbers_after, next-after_set, SameFunctions, same-ready, same-session, same-added, session-added, invocations-added, KeepsCounters, kept-begun, kept-ended, kept-renewed, kept-counters, ways_by_functions}
use Rattle.fh_dispatch.proofs.Asking.{begin_moves, finish_ends, renewals_renew}
pub use Rattle.fh_dispatch.proofs.FetchLaws.{fetches_as_told}
pub use Rattle.fh_dispatch.proofs.JobLaws.{jobs_as_asked, keeps_other_jobs, keeps_one_run, keeps_to_the_bound, brings_no_others}

-- ---- answers

module _ (part : WorkPart) where
  abbrev Answers : Ask → List Act → WorkDone → Type 0
  Answers ask acts answer = answers ask answer ≡ true

  answer_ways : Ways Answers part
  answer_ways = record {
    configures = λ name settings fits. refl;
    readies = λ function run. refl;
    sessions = refl;
    fetches = λ name trigger found room items few. refl;
    begins = λ name high low job first acts so told answered. answered;
    finishes = λ invocation outcome told answered ended. answered;
    renews = λ receipt m dues parts. refl;
    nothing = refl;
  }

  abbrev MovesLittle : WorkPart → Type 0
  MovesLittle after =
      (after.next_function ≤ part.next_function + 1) × (after.next_invocation ≤ part.next_invocation + 1)
      × (after.session ≤ part.session + 1)

  same_little : (after : WorkPart) → SameFunctions part after → after.next_invocation ≤ part.next_invocation + 1
      → after.session ≤ part.session + 1 → MovesLittle after
  same_little after same begun few = (omega (arith, same.next), begun, few)

  kept_little : (after : WorkPart) → KeepsCounters part after → MovesLittle after
  kept_little after kept = same_little after kept.same kept.invocations (omega (arith, kept.session))

  session-ready : (job : ReadyJob) → (by_acts part (AddJob job ∷ [])).session ≡ part.session
  unfolding acted
  session-ready job = refl

  invocations-ready : (job : ReadyJob) → (by_acts part (AddJob job ∷ [])).next_invocation ≡ part.next_invocation
  unfolding acted
  invocations-ready job = refl

  session-begun : (by_acts part (BeginSession ∷ [])).session ≡ part.session + 1
  unfolding acted
  session-begun = refl

  invocations-kept : (by_acts part (BeginSession ∷ [])).next_invocation ≡ part.next_invocation
  unfolding acted
  invocations-kept = refl

  little_ways : Ways (λ ask acts answer. MovesLittle (by_acts part acts)) part
  little_ways = record {
    configures = λ name settings fits.
        let is = next-after_set part name settings in
        let most = next_after-most part.next_function (number_for part name) in
        let kept = session-set (function_for part name settings) part (gets_other_trigger part name settings) in
        let begun = invocations-set (function_for part name settings) part (gets_other_trigger part name settings) in
        (omega (arith, is, most), omega (arith, begun), omega (arith, kept));
    readies = λ function run. same_little _ (same-ready part function run)
        (omega (arith, invocations-ready (job_for function run)))
        (omega (arith, session-ready (job_for function run)));
    sessions = same_little _ (same-session part) (omega (arith, invocations-kept)) (omega (arith, session-begun));
    fetches = λ name trigger found room items few.
        same_little _ (same-added trigger.function items part)
        (omega (arith, invocations-added trigger.function items part))
        (omega (arith, session-added trigger.function items part));
    begins = λ name high low job first acts so told answered.
        kept_little _ (kept-begun part (number_for part name) job acts so);
    finishes = λ invocation outcome told answered ended. kept_little _ (kept-ended part ended);
    renews = λ receipt m dues parts. kept_little _ (kept-counters part _ (kept-renewed receipt m dues part));
    nothing = (omega arith, omega arith, omega arith);
  }

pub answers_the_ask : AnswersTheAsk
answers_the_ask part others ask m after answer is =
    (by_ways (Answers part) part (answer_ways part) others m after answer ask is).holds

pub moves_numbers : MovesNumbers
moves_numbers part others ask m after answer is =
    let by = by_ways _ part (little_ways part) others m after answer ask is in
    subst (MovesLittle part) by.made by.holds

-- ---- queues

pub asks_as_it_says : AsksAsItSays
unfolding asks_queues
asks_as_it_says part others Nothing m = refl
asks_as_it_says part others (Ready function run) m = refl
asks_as_it_says part others Session m = refl
asks_as_it_says part others (Begin name high low) m = begin_moves part others name high low m
asks_as_it_says part others (Finish invocation outcome) m = finish_ends part others invocation outcome m
asks_as_it_says part others Renewals m = renewals_renew part others m
asks_as_it_says part others (Fetch name) m = by_trigger (trigger_of name part.functions) refl
  where
    by_room : (trigger : Trigger) (full : Bool) → trigger_of name part.functions ≡ Some trigger
        → (unless_full full trigger ≡ None)
        ⊎ ((t : Trigger) × (trigger_of name part.functions ≡ Some t) × (unless_full full trigger ≡ Some (batch_of t)))
    by_room trigger true found = inl refl
    by_room trigger false found = inr (trigger, found, refl)

    by_trigger : (given : Option Trigger) → trigger_of name part.functions ≡ given
        → (fetching_queue part given ≡ None)
        ⊎ ((t : Trigger) × (trigger_of name part.functions ≡ Some t) × (fetching_queue part given ≡ Some (batch_of t)))
    by_trigger None found = inl refl
    by_trigger (Some trigger) found = by_room trigger (is_full part trigger) found
asks_as_it_says part others (Configure name settings) m =
    by_test (is_as settings (function_of name part.functions)) (queue_of (number_for part name) settings)
  where
    by_there : (queue : List ℕ) (there : Bool)
        → ((if there then None else Some (queues.Make queue)) ≡ None)
        ⊎ ((other : List ℕ) × ((if there then None else Some (queues.Make queue)) ≡ Some (queues.Make other)))
    by_there queue true = inl refl
    by_there queue false = inr (queue, refl)

    by_test : (same : Bool) (queue : Option (List ℕ))
        → ((if same then None else made_where_missing others.queues queue) ≡ None)
        ⊎ ((other : List ℕ) × ((if same then None else made_where_missing others.queues queue)
        ≡ Some (queues.Make other)))
    by_test true queue = inl refl
    by_test false None = inl refl
    by_test false (Some queue) = by_there queue (has_queue others.queues.queues queue)

-- ---- timers

pub asks_only_to_remove : AsksOnlyToRemove
unfolding asks_timers
asks_only_to_remove part Nothing = inl refl
asks_only_to_remove part (Ready function run) = inl refl
asks_only_to_remove part Session = inl refl
asks_only_to_remove part (Fetch name) = inl refl
asks_only_to_remove part (Begin name high low) = inl refl
asks_only_to_remove part (Finish invocation outcome) = inl refl
asks_only_to_remove part Renewals = inl refl
asks_only_to_remove part (Configure name settings) =
    by_test (has_other_trigger settings (function_of name part.functions))
  where
    by_test : (other : Bool)
        → ((if other then Some (Remove (number_for part name)) else None) ≡ None)
        ⊎ ((function : ℕ) × ((if other then Some (Remove (number_for part name)) else None) ≡ Some (Remove function))
        × (is_configure (Configure name settings) ≡ true))
    by_test true = inr (number_for part name, refl, refl)
    by_test false = inl refl

-- settings with the same trigger give timers of one schedule
record HasSame (number : ℕ) (old : FunctionSettings) (timer : FunctionTimer) : Type 0 where
  before : FunctionTimer
  there : timer_by number old ≡ Some before
  function : before.function ≡ timer.function
  schedule : before.schedule ≡ timer.schedule

abbrev timer_for : ℕ → List ℕ → Bool → Bool → FunctionTimer
timer_for number masks startup monitor =
    record { function = number; schedule = with_masks masks; startup = startup; monitor = monitor }

pub timer-number : (number : ℕ) (settings : FunctionSettings) (timer : FunctionTimer)
    → timer_by number settings ≡ Some timer → timer.function ≡ number
timer-number number (Timer masks startup monitor singleton) timer is = by_masks (are_masks masks) is
  where
    by_masks : (good : Bool) → (if good then Some (timer_for number masks startup monitor) else None) ≡ Some timer
        → timer.function ≡ number
    by_masks false is = absurd (cc)
    by_masks true is = let same : timer_for number masks startup monitor ≡ timer = cc in
        ap (λ (t : FunctionTimer). t.function) (sym same)
timer-number number settings timer is = absurd (cc)

same_timer : (number : ℕ) (old new : FunctionSettings) (timer : FunctionTimer) → same_trigger old new ≡ true
    → timer_by number new ≡ Some timer → HasSame number old timer
same_timer number (Timer ms u w s) (Timer masks startup monitor singleton) timer same is =
    by_masks (are_masks masks) refl is
  where
    by_masks : (good : Bool) → are_masks masks ≡ good →
        (if good then Some (timer_for number masks startup monitor) else None) ≡ Some timer
        → HasSame number (Timer ms u w s) timer
    by_masks false good is = absurd (cc)
    by_masks true good is =
        let timer_is : timer_for number masks startup monitor ≡ timer = cc in
        record {
          before = timer_for number masks u w;
          there = ap (λ (ks : List ℕ). timer_by number (Timer ks u w s)) (same_name ms masks same)
              ∙ ap (λ b. if b then Some (timer_for number masks u w) else None) good;
          function = ap (λ (t : FunctionTimer). t.function) timer_is;
          schedule = ap (λ (t : FunctionTimer). t.schedule) timer_is;
        }
same_timer number (Queue q b t l r s) (Queue queue batch threshold limit retry singleton) timer same is = absurd (cc)
same_timer number (Blob b t l r s) (Blob batch threshold limit retry singleton) timer same is = absurd (cc)
same_timer number old new timer same is = absurd (cc)

module _ (part : WorkPart) where
  unchanged : (x : List ℕ) (timer : FunctionTimer) → timer_of x part.functions ≡ Some timer → HasTimer part x timer
  unchanged x timer is = record { before = timer; there = is; function = refl; schedule = refl }

  abbrev Timed : List ℕ → FunctionSettings → List ℕ → FunctionTimer → Type 0
  Timed name settings x timer = HasTimer part x timer
      ⊎ ((timer.function ≡ part.next_function) ⊎
      (asks_timers part (Configure name settings) ≡ Some (Remove timer.function)))

  of_old : (name : List ℕ) (settings : FunctionSettings) (timer : FunctionTimer) (function : Function) (same : Bool)
      → function_of name part.functions ≡ Some function → same_trigger function.settings settings ≡ same
      → timer_by function.number settings ≡ Some timer → Timed name settings name timer
  unfolding asks_timers
  of_old name settings timer function true found same is =
      let old = same_timer function.number function.settings settings timer same is in
      inl (record {
        before = old.before;
        there = ap timer_found found ∙ old.there;
        function = old.function;
        schedule =
            old.schedule;
      })
  of_old name settings timer function false found same is =
      inr (inr (
      ap (λ f. configuring_timers part settings f) found
      ∙ ap (λ b. removing function.number (not b)) same
      ∙ ap (λ n. Some (Remove n)) (sym (timer-number function.number settings timer is))
      ))

  of_found : (name : List ℕ) (settings : FunctionSettings) (timer : FunctionTimer) (found : Option Function)
      → function_of name part.functions ≡ found
      → timer_by (number_or part.next_function found) settings ≡ Some timer → Timed name settings name timer
  of_found name settings timer None found is = inr (inl (timer-number part.next_function settings timer is))
  of_found name settings timer (Some function) found is =
      of_old name settings timer function (same_trigger function.settings settings) found refl is

  of_named : (name : List ℕ) (settings : FunctionSettings) (x : List ℕ) (timer : FunctionTimer) (same : Bool)
      → bytes_eq name x ≡ same
      → timer_found (if same then Some (function_for part name settings) else function_of x part.functions)
      ≡ Some timer → Timed name settings x timer
  of_named name settings x timer true same is =
      subst (λ (n : List ℕ). Timed name settings n timer) (same_name name x same)
      (of_found name settings timer (function_of name part.functions) refl is)
  of_named name settings x timer false apart is = inl (unchanged x timer is)

  timer_ways : Ways (λ ask acts answer. KeepsTimers part 0 ask (by_acts part acts) answer) part
  timer_ways = ways_by_functions (λ ask after answer. KeepsTimers part 0 ask after answer) part
      (λ name settings fits x timer is.
      of_named name settings x timer (bytes_eq name x) refl
      (sym (ap timer_found (function-after_set part name settings x)) ∙ is))
      (λ ask after answer plain same x timer is. inl (unchanged x timer (sym (ap (timer_of x) same.functions) ∙ is)))

pub keeps_timers : OfEachAsk KeepsTimers
keeps_timers part others ask m after answer h is =
    let by = by_ways _ part (timer_ways part) others m after answer ask is in
    subst (λ (p : WorkPart). KeepsTimers part m ask p answer) by.made by.holds

-- ---- numbers stay

-- equal functions have equal numbers
same_numbers : (part after : WorkPart) → SameFunctions part after → (x : List ℕ) → number_of after x ≡ number_of part x
same_numbers part after same x =
    ap (λ (fs : List Function). option_map (λ (f : Function). f.number) (function_of x fs)) same.functions

module _ (part : WorkPart) where
  keep_ways : Ways (λ ask acts answer. KeepsNumbers part 0 ask (by_acts part acts) answer) part
  keep_ways = ways_by_functions (λ ask after answer. KeepsNumbers part 0 ask after answer) part kept
      (λ ask after answer plain same x number is. same_numbers part after same x ∙ is)
    where
      kept : (name : List ℕ) (settings : FunctionSettings) → settings_rule settings ≡ None
          → KeepsNumbers part 0 (Configure name settings) (after_set part name settings)
          (done.Configured (number_for part name))
      kept name settings fits x number is = numbers_after part name settings x ∙ by_test (bytes_eq name x) refl
        where
          by_test : (b : Bool) → bytes_eq name x ≡ b
              → (if b then Some (number_for part name) else number_of part x) ≡ Some number
          by_test true same = ap (λ n. Some n) (number_for-known part name number
              (ap (number_of part) (same_name name x same) ∙ is))
          by_test false apart = is

pub numbers_kept : OfEachAsk KeepsNumbers
numbers_kept part others ask m after answer h is =
    let by = by_ways _ part (keep_ways part) others m after answer ask is in
    subst (λ (p : WorkPart). KeepsNumbers part m ask p answer) by.made by.holds

-- ---- numbers in turn

module _ (part : WorkPart) (h : IsWhole part) where
  turn_ways : Ways (λ ask acts answer. GivesNumbersInTurn part 0 ask (by_acts part acts) answer) part
  turn_ways = ways_by_functions (λ ask after answer. GivesNumbersInTurn part 0 ask after answer) part
      (λ name settings fits. record {
        new = λ x number none is. is_new name settings x number none is;
        stays =
            λ x number known is. is_old name settings x number known is;
      })
      (λ ask after answer plain same. record {
        new = λ x number none is. absurd (cc (none, same_numbers part after same x, is));
        stays = λ x number known is. same.next;
      })
    where
      is_new : (name : List ℕ) (settings : FunctionSettings) (x : List ℕ) (number : ℕ) → number_of part x ≡ None
          → number_of (after_set part name settings) x ≡ Some number
          → (number ≡ part.next_function) × ((after_set part name settings).next_function ≡ part.next_function + 1)
      is_new name settings x number none is = by_test (bytes_eq name x) refl
          (sym (numbers_after part name settings x) ∙ is)
        where
          by_test : (b : Bool) → bytes_eq name x ≡ b → (if b then Some (number_for part name) else number_of part x)
              ≡ Some number → (number ≡ part.next_function) ×
              ((after_set part name settings).next_function ≡ part.next_function + 1)
          by_test true same gives =
              let next = number_for-new part name (ap (number_of part) (same_name name x same) ∙ none) in
              let given : number_for part name ≡ number = cc in (
                sym given ∙ next,
                next-after_set part name settings
                    ∙ next_after-next part.next_function (number_for part name) next,
              )
          by_test false apart gives = absurd (cc (none, gives))

      is_old : (name : List ℕ) (settings : FunctionSettings) (x : List ℕ) (number : ℕ) → number_of part x ≡ Some number
          → bytes_eq name x ≡ true → (after_set part name settings).next_function ≡ part.next_function
      is_old name settings x number known same =
          let mine : number_of part name ≡ Some number = ap (number_of part) (same_name name x same) ∙ known in
          let before : number_for part name < part.next_function =
          subst (λ (n : ℕ). n < part.next_function) (sym (number_for-known part name number mine))
          (h.given name number mine).1 in
          next-after_set part name settings ∙ next_after-given part.next_function (number_for part name) before

pub numbers_in_turn : OfEachAsk GivesNumbersInTurn
numbers_in_turn part others ask m after answer h is =
    let by = by_ways _ part (turn_ways part h) others m after answer ask is in
    let holds = subst (λ (p : WorkPart). GivesNumbersInTurn part 0 ask p answer) by.made by.holds in
    record { new = holds.new; stays = holds.stays }

-- ---- what is stored

module _ (part : WorkPart) where
  store_ways : Ways (λ ask acts answer. IsAsConfigured part 0 ask (by_acts part acts) answer) part
  store_ways = record {
    configures = λ name settings fits.
        function-after_set part name settings name ∙ found name settings (bytes_eq name name) (own_name name);
    readies = λ function run. (same-ready part function run).functions;
    sessions = (same-session part).functions;
    fetches = λ name trigger given room items few. (same-added trigger.function items part).functions;
    begins = λ name high low job first acts so told answered.
        (kept-begun part (number_for part name) job acts so).same.functions;
    finishes = λ invocation outcome told answered ended. (kept-ended part ended).same.functions;
    renews = λ receipt m dues parts. (kept-renewed receipt m dues part).functions;
    nothing = refl;
  }
    where
      found : (name : List ℕ) (settings : FunctionSettings) (b : Bool) → b ≡ true
          → (if b then Some (function_for part name settings) else function_of name part.functions)
          ≡ Some (function_for part name settings)
      found name settings true is = refl
      found name settings false is = cc

  row_ways : Ways (λ ask acts answer. KeepsUnnamed part 0 ask (by_acts part acts) answer) part
  row_ways = ways_by_functions (λ ask after answer. KeepsUnnamed part 0 ask after answer) part
      (λ name settings fits x other. function-after_set part name settings x ∙ skipped (bytes_eq name x) _ _ other)
      (λ ask after answer plain same x other. ap (function_of x) same.functions)
    where
      skipped : (same : Bool) (new before : Option Function) → same ≡ false → (if same then new else before) ≡ before
      skipped true new before is = cc
      skipped false new before is = refl

pub as_configured : OfEachAsk IsAsConfigured
as_configured part others ask m after answer h is =
    let by = by_ways _ part (store_ways part) others m after answer ask is in
    subst (λ (p : WorkPart). IsAsConfigured part m ask p answer) by.made by.holds

pub keeps_unnamed : OfEachAsk KeepsUnnamed
keeps_unnamed part others ask m after answer h is =
    let by = by_ways _ part (row_ways part) others m after answer ask is in
    subst (λ (p : WorkPart). KeepsUnnamed part m ask p answer) by.made by.holds

-- ---- whole parts

pub Whole-none : IsWhole no_work
Whole-none = record {
  begun = omega arith;
  given = λ name number is. cc;
  apart =
      λ name other number mine theirs. cc;
  scheduled = λ name. tt;
}

module _ (part : WorkPart) (h : IsWhole part) (name : List ℕ) (settings : FunctionSettings)
    (fits : settings_rule settings ≡ None) where
  -- a number that is given is one that was given, or the next one
  was_given : (known : Option ℕ) → number_of part name ≡ known
      → (1 ≤ number_for part name) × (number_for part name < (after_set part name settings).next_function)
  was_given None is =
      let next = number_for-new part name is in
      let now = next-after_set part name settings ∙ next_after-next part.next_function (number_for part name) next in
      (omega (arith, next, h.begun), omega (arith, next, now))
  was_given (Some number) is =
      let mine = number_for-known part name number is in
      let range = h.given name number is in
      let least = next_after-least part.next_function (number_for part name) in
      let now = next-after_set part name settings in
      (omega (arith, mine, range.0), omega (arith, mine, range.1, least, now))

  -- no other function has the number that is given
  is_own : (known : Option ℕ) → number_of part name ≡ known → (x : List ℕ)
      → number_of part x ≡ Some (number_for part name) → name ≡ x
  is_own None is x theirs =
      let next = number_for-new part name is in
      let before = (h.given x (number_for part name) theirs).1 in
      absurd (omega (arith, next, before))
  is_own (Some number) is x theirs =
      let mine = number_for-known part name number is in
      h.apart name x number is (theirs ∙ ap (λ n. Some n) mine)

  set_given : (x : List ℕ) (number : ℕ) → number_of (after_set part name settings) x ≡ Some number
      → (1 ≤ number) × (number < (after_set part name settings).next_function)
  set_given x number is = by_test (bytes_eq name x) (sym (numbers_after part name settings x) ∙ is)
    where
      by_test : (b : Bool) → (if b then Some (number_for part name) else number_of part x) ≡ Some number
          → (1 ≤ number) × (number < (after_set part name settings).next_function)
      by_test true gives =
          let given : number_for part name ≡ number = cc in
          subst (λ (n : ℕ). (1 ≤ n) × (n < (after_set part name settings).next_function)) given
          (was_given (number_of part name) refl)
      by_test false gives =
          let range = h.given x number gives in
          let least = next_after-least part.next_function (number_for part name) in
          let now = next-after_set part name settings in
          (range.0, omega (arith, range.1, least, now))

  set_apart : (x y : List ℕ) (number : ℕ) → number_of (after_set part name settings) x ≡ Some number
      → number_of (after_set part name settings) y ≡ Some number → x ≡ y
  set_apart x y number first second = by_tests (bytes_eq name x) (bytes_eq name y) refl refl
      (sym (numbers_after part name settings x) ∙ first) (sym (numbers_after part name settings y) ∙ second)
    where
      by_tests : (b d : Bool) → bytes_eq name x ≡ b → bytes_eq name y ≡ d
          → (if b then Some (number_for part name) else number_of part x) ≡ Some number
          → (if d then Some (number_for part name) else number_of part y) ≡ Some number → x ≡ y
      by_tests true true mine theirs one other = sym (same_name name x mine) ∙ same_name name y theirs
      by_tests true false mine theirs one other = sym (same_name name x mine)
          ∙ is_own (number_of part name) refl y (other ∙ sym one)
      by_tests false true mine theirs one other = sym (is_own (number_of part name) refl x (one ∙ sym other))
          ∙ same_name name y theirs
      by_tests false false mine theirs one other = h.apart x y number one other

  set_scheduled : (x : List ℕ) → IfSome (function_of x (after_set part name settings).functions)
      (λ function. HasSchedule function.settings)
  set_scheduled x = rw (function-after_set part name settings x) (by_test (bytes_eq name x))
    where
      by_test : (b : Bool) → IfSome (if b then Some (function_for part name settings)
          else function_of x part.functions) (λ function. HasSchedule function.settings)
      by_test true = is_scheduled settings fits
      by_test false = h.scheduled x

  Whole-set : IsWhole (after_set part name settings)
  Whole-set = record {
    begun = let least = next_after-least part.next_function (number_for part name) in let now =
        next-after_set part name settings in omega (arith, h.begun, least, now);
    given = set_given;
    apart = set_apart;
    scheduled = set_scheduled;
  }

Whole-same : (part : WorkPart) → IsWhole part → (after : WorkPart) → SameFunctions part after → IsWhole after
Whole-same part h after same = record {
  begun = omega (arith, same.next, h.begun);
  given = λ name number is.
      let before = h.given name number (sym (same_numbers part after same name) ∙ is) in
      (before.0, omega (arith, same.next, before.1));
  apart = λ name other number mine theirs.
      h.apart name other number (sym (same_numbers part after same name) ∙ mine)
      (sym (same_numbers part after same other) ∙ theirs);
  scheduled = λ name. rw same.functions (h.scheduled name);
}

pub Whole-outcome : OfEachAsk StaysWhole
Whole-outcome part others ask m after answer h is =
    let ways = ways_by_functions (λ ask after answer. IsWhole after) part (Whole-set part h)
    (λ ask after answer plain same. Whole-same part h after same) in
    let by = by_ways _ part ways others m after answer ask is in
    subst IsWhole by.made by.holds
