-- What the work itself does by its rulings about jobs, and what is told.
use Rattle.std.proofs.Common.{◌≡◌, ◌⊎◌, inl, inr, ℕ, true, false, List, [], ◌∷◌, Option, Some, None, refl, sym, ap, ◌∙◌}
use Rattle.std.specs.Prelude.{⊤}
use Rattle.fh_base.specs.Limits.{seconds_of_week}
use Rattle.fh_base.specs.declared.rule.Rule.{Rule}
use Rattle.fh_event.specs.declared.begun.BegunJob.{BegunJob}
use Rattle.fh_event.specs.declared.outcome.Outcome.{Outcome}
use Rattle.fh_event.specs.declared.reply.RenewalPart.{RenewalPart}
use Rattle.fh_event.specs.declared.reply.Reply.TheVariants as replies
use Rattle.fh_event.specs.Judging.{Judged, Refuses, Quiets, Makes}
use Rattle.fh_queues.specs.declared.row.Message.{Message as Row}
use Rattle.fh_queues.specs.Asks as queues
use Rattle.fh_queues.specs.Outcome as queue_outcome
use Rattle.fh_blobs.specs.Asks as blobs
use Rattle.fh_blobs.specs.Outcome as blob_outcome
use Rattle.fh_leases.specs.Asks as leases
use Rattle.fh_leases.specs.Outcome as lease_outcome
use Rattle.fh_dispatch.specs.declared.act.Act.{Act}
use Rattle.fh_dispatch.specs.declared.act.Act.TheVariants.{TakeFirst, AddRunning, EndRunning}
use Rattle.fh_dispatch.specs.declared.done.WorkDone.{WorkDone}
use Rattle.fh_dispatch.specs.declared.done.WorkDone.TheVariants as done
use Rattle.fh_dispatch.specs.declared.function.Function.{Function}
use Rattle.fh_dispatch.specs.declared.ready.Job.{Job}
use Rattle.fh_dispatch.specs.declared.ready.Job.TheVariants.{Message, Timer}
use Rattle.fh_dispatch.specs.declared.ready.ReadyJob.{ReadyJob}
use Rattle.fh_dispatch.specs.declared.running.NewRun.{NewRun}
use Rattle.fh_dispatch.specs.declared.running.Running.{Running}
use Rattle.fh_dispatch.specs.declared.terms.Terms.{Terms}
use Rattle.fh_dispatch.specs.Part.{WorkPart, Others, function_of, number_or}
use Rattle.fh_dispatch.specs.Asks.{Begin, Finish}
use Rattle.fh_dispatch.specs.Invocations.{run_of}
use Rattle.fh_dispatch.specs.Ready.{first_job, is_run}
use Rattle.fh_dispatch.specs.Terms.{terms_of, terms_in, poison_above, poison_from}
use Rattle.fh_dispatch.specs.Holds.{held_row, hidden_at, message_due, never}
use Rattle.fh_dispatch.specs.Outputs.{outcome_rule}
use Rattle.fh_dispatch.specs.Rules.{range_rule}
use Rattle.fh_dispatch.specs.Rulings.{Acting, Effect, Ruling, Refused, Unchanged, Changed, unless_refused_by, queues_accept, blobs_accept, leases_accept, effecting}
use Rattle.fh_dispatch.specs.Begin.{Start, begun_message, blocking, unless_blocked, starting, new_run, moving_or, beginning_row, beginning_job, beginning_first, beginning_found, begin_of}
use Rattle.fh_dispatch.specs.Finish.{Verdict, Succeeded, Broken, failing_to, finishing_by, finishing_row, finishing_timer, finishing_job, finishing_run, unless_refused, verdict_of, held_as, finish_of}
use Rattle.fh_dispatch.specs.Renewals.{Due, due_runs, renewing, renewing_acts, told_from, renewals_of}
use Rattle.fh_dispatch.specs.Outcome.{made_by}
use Rattle.fh_dispatch.specs.Laws.{number_for, answers}

-- what holds of the effect of a ruling, where it has one
abbrev pub OfEffect : (Effect → Type 0) → Ruling → Type 0
OfEffect Holds (Refused rule) = ⊤
OfEffect Holds (Unchanged reply) = ⊤
OfEffect Holds (Changed effect) = Holds effect

-- ---- an effect that is made

module _ {Part Done : Type 0} (judged : Judged Part Done) (acting : Acting) (part after : WorkPart) (answer : WorkDone) where
  accepted_by : made_by part (unless_refused_by judged acting) ≡ Makes after answer
      → made_by part acting ≡ Makes after answer
  accepted_by is = by_judged judged is
    where
      by_judged : (j : Judged Part Done) → made_by part (unless_refused_by j acting) ≡ Makes after answer
          → made_by part acting ≡ Makes after answer
      by_judged (Refuses rule) is = absurd (cc)
      by_judged (Quiets done) is = is
      by_judged (Makes part done) is = is

module _ (part : WorkPart) (others : Others) (m : ℕ) (effect : Effect) (after : WorkPart) (answer : WorkDone) where
  abbrev made_so : Acting → Type 0
  made_so acting = made_by part acting ≡ Makes after answer

  queues_accepted : (asked : Option queues.Ask) (acting : Acting) → made_so (queues_accept others m asked acting)
      → made_so acting
  queues_accepted None acting is = is
  queues_accepted (Some ask) acting is = accepted_by (queue_outcome.outcome others.queues ask m) acting part after answer is

  blobs_accepted : (asked : Option blobs.Ask) (acting : Acting) → made_so (blobs_accept others m asked acting)
      → made_so acting
  blobs_accepted None acting is = is
  blobs_accepted (Some ask) acting is = accepted_by (blob_outcome.outcome others.blobs ask m) acting part after answer is

  leases_accepted : (asked : Option leases.Ask) (acting : Acting) → made_so (leases_accept others m asked acting)
      → made_so acting
  leases_accepted None acting is = is
  leases_accepted (Some ask) acting is = accepted_by (lease_outcome.outcome others.leases ask m) acting part after answer is

  -- the work's own acts are made, and what the effect tells is answered
  pub effected : made_so (effecting others m effect) → made_so (Makes effect.acts (done.Told effect.told))
  effected is = leases_accepted effect.leases _ (blobs_accepted effect.blobs _ (queues_accepted effect.queues _ is))

-- ---- a begin

-- the first job of a function goes, and may become a running invocation of the same kind
pub record Starts (f : ℕ) (job : ReadyJob) (acts : List Act) : Type 0 where
  pub run : NewRun
  pub function : run.function ≡ f
  pub kind : is_run run.job ≡ is_run job.job
  pub acts_are : acts ≡ TakeFirst f ∷ AddRunning run ∷ []

abbrev pub IsBeginning : ℕ → ReadyJob → List Act → Type 0
IsBeginning f job acts = (acts ≡ TakeFirst f ∷ []) ⊎ Starts f job acts

pub record BeginsSo (part : WorkPart) (name : List ℕ) (effect : Effect) : Type 0 where
  pub job : ReadyJob
  pub first : first_job (number_for part name) part.ready ≡ Some job
  pub acts : IsBeginning (number_for part name) job effect.acts
  pub told : (high low : ℕ) → answers (Begin name high low) (done.Told effect.told) ≡ true

module _ (part : WorkPart) (others : Others) (name : List ℕ) (start : Start) (job : ReadyJob)
    (own : start.function.number ≡ number_for part name)
    (first : first_job (number_for part name) part.ready ≡ Some job) where
  abbrev Begins : Ruling → Type 0
  Begins ruling = OfEffect (BeginsSo part name) ruling

  goes : (effect : Effect) → effect.acts ≡ TakeFirst start.function.number ∷ []
      → ((high low : ℕ) → answers (Begin name high low) (done.Told effect.told) ≡ true)
      → BeginsSo part name effect
  goes effect acts told = record {
    job = job;
    first = first;
    acts = inl (acts ∙ ap (λ f. TakeFirst f ∷ []) own);
    told = told;
  }

  started : (begun : Job) (told : BegunJob) (due : ℕ) → is_run begun ≡ is_run job.job
      → Begins (starting part.next_invocation start begun told due)
  started begun told due kind = record {
    job = job;
    first = first;
    acts = inr (record {
      run = new_run start begun due;
      function = own;
      kind = kind;
      acts_are = ap (λ f. TakeFirst f ∷ AddRunning (new_run start begun due) ∷ []) own;
    });
    told = λ high low. refl;
  }

  unblocked : (found : Option (ℕ × ℕ)) (ruling : Ruling) → Begins ruling → Begins (unless_blocked found ruling)
  unblocked None ruling so = so
  unblocked (Some (holder, until)) ruling so = tt

  moved : (row : Row) (queue : Option (List ℕ)) (ruling : Ruling) → Begins ruling
      → Begins (moving_or others start row queue ruling)
  moved row None ruling so = so
  moved row (Some queue) ruling so = goes _ refl (λ high low. refl)

  by_row : (number : ℕ) (found : Option Row) → is_run job.job ≡ false → Begins (beginning_row part others start number found)
  by_row number None kind = goes _ refl (λ high low. refl)
  by_row number (Some row) kind =
      moved row (poison_above (terms_of start.function.settings) row.count) _
      (unblocked (blocking others start) _
      (started (Message row.number row.receipt) (begun_message others row) (message_due (Some row)) (sym kind)))

  by_job : (own_job : Job) → job.job ≡ own_job → Begins (beginning_job part others start own_job)
  by_job (Message number receipt) is =
      by_row number (hidden_at start.moment (held_row others.queues number receipt start.moment)) (ap is_run is)
  by_job (Timer run) is =
      unblocked (blocking others start) _ (started (Timer run) _ never (sym (ap is_run is)))

pub begin_acts : (part : WorkPart) (others : Others) (name : List ℕ) (high low m : ℕ)
    → OfEffect (BeginsSo part name) (begin_of part others name high low m)
unfolding begin_of
begin_acts part others name high low m = by_found (function_of name part.functions) refl
  where
    by_first : (function : Function) → function.number ≡ number_for part name → (found : Option ReadyJob)
        → first_job function.number part.ready ≡ found
        → OfEffect (BeginsSo part name)
        (beginning_first part others (record { function = function; high = high; low = low; moment = m }) found)
    by_first function own None is = tt
    by_first function own (Some job) is =
        by_job part others name (record { function = function; high = high; low = low; moment = m }) job own
        (ap (λ f. first_job f part.ready) (sym own) ∙ is) job.job refl

    by_found : (found : Option Function) → function_of name part.functions ≡ found
        → OfEffect (BeginsSo part name) (beginning_found part others high low m found)
    by_found None is = tt
    by_found (Some function) is =
        by_first function (sym (ap (number_or part.next_function) is)) (first_job function.number part.ready) refl

-- ---- an end

pub record EndsSo (effect : Effect) : Type 0 where
  pub ended : ℕ
  pub acts : effect.acts ≡ EndRunning ended ∷ []
  pub told : (invocation : ℕ) (outcome : Outcome) → answers (Finish invocation outcome) (done.Told effect.told) ≡ true

unless_refused_so : (rule : Option Rule) (ruling : Ruling) → OfEffect EndsSo ruling
    → OfEffect EndsSo (unless_refused rule ruling)
unless_refused_so None ruling so = so
unless_refused_so (Some rule) ruling so = tt

module _ (others : Others) (m : ℕ) (terms : Terms) (run : Running) where
  failed : (row : Row) (broken : Option ℕ) (queue : Option (List ℕ))
      → OfEffect EndsSo (failing_to others m terms run (held_as row) broken queue)
  failed row broken None =
      unless_refused_so (range_rule terms.retry 0 seconds_of_week) _
      (record { ended = run.invocation; acts = refl; told = λ invocation outcome. refl })
  failed row broken (Some queue) = record { ended = run.invocation; acts = refl; told = λ invocation outcome. refl }

  by_verdict : (row : Row) (verdict : Verdict) → OfEffect EndsSo (finishing_by others m terms run row verdict)
  by_verdict row (Succeeded outputs) =
      record { ended = run.invocation; acts = refl; told = λ invocation outcome. refl }
  by_verdict row (Broken broken) = failed row broken (poison_from terms row.count)

  by_held : (outcome : Outcome) (found : Option Row) → OfEffect EndsSo (finishing_row others m terms run outcome found)
  by_held outcome None = record { ended = run.invocation; acts = refl; told = λ invocation given. refl }
  by_held outcome (Some row) = by_verdict row (verdict_of others m (Some (held_as row)) outcome)

timer_ends : (others : Others) (run : Running) (verdict : Verdict) → OfEffect EndsSo (finishing_timer others run verdict)
timer_ends others run (Succeeded outputs) =
    record { ended = run.invocation; acts = refl; told = λ invocation outcome. refl }
timer_ends others run (Broken broken) =
    record { ended = run.invocation; acts = refl; told = λ invocation outcome. refl }

pub finish_acts : (part : WorkPart) (others : Others) (invocation : ℕ) (outcome : Outcome) (m : ℕ)
    → OfEffect EndsSo (finish_of part others invocation outcome m)
unfolding finish_of
finish_acts part others invocation outcome m = by_size (outcome_rule outcome)
  where
    by_job_of : (run : Running) (job : Job) → OfEffect EndsSo (finishing_job part others m run outcome job)
    by_job_of run (Message number receipt) =
        by_held others m (terms_in part run.name) run outcome (held_row others.queues number receipt m)
    by_job_of run (Timer timer) = timer_ends others run (verdict_of others m None outcome)

    by_run_of : (found : Option Running) → OfEffect EndsSo (finishing_run part others m outcome found)
    by_run_of None = tt
    by_run_of (Some run) = by_job_of run run.job

    by_size : (rule : Option Rule) → OfEffect EndsSo
        (unless_refused rule (finishing_run part others m outcome (run_of invocation part.running)))
    by_size None = by_run_of (run_of invocation part.running)
    by_size (Some rule) = tt

-- ---- renewals

pub record RenewsSo (effect : Effect) : Type 0 where
  pub receipt : ℕ
  pub moment : ℕ
  pub dues : List Due
  pub parts : List RenewalPart
  pub acts : effect.acts ≡ renewing_acts receipt moment dues
  pub told : effect.told ≡ replies.HoldsRenewed parts

pub renewal_acts : (part : WorkPart) (others : Others) (m : ℕ) → OfEffect RenewsSo (renewals_of part others m)
unfolding renewals_of
renewal_acts part others m = by_dues (due_runs part others m)
  where
    by_dues : (dues : List Due) → OfEffect RenewsSo (renewing others m dues)
    by_dues [] = tt
    by_dues (due ∷ dues) = record {
      receipt = others.queues.next_receipt;
      moment = m;
      dues = due ∷ dues;
      parts = told_from others.queues.next_receipt m (due ∷ dues);
      acts = refl;
      told = refl;
    }
