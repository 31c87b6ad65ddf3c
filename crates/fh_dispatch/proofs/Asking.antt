-- What rulings about jobs ask of the queues.
use Rattle.std.proofs.Common.{ℕ, List, [], ◌∷◌, Option, Some, None}
use Rattle.fh_base.specs.Limits.{seconds_of_week}
use Rattle.fh_base.specs.declared.rule.Rule.{Rule}
use Rattle.fh_event.specs.declared.outcome.Outcome.{Outcome}
use Rattle.fh_queues.specs.declared.held.HeldMessage.{HeldMessage}
use Rattle.fh_queues.specs.declared.row.Message.{Message as Row}
use Rattle.fh_dispatch.specs.declared.function.Function.{Function}
use Rattle.fh_dispatch.specs.declared.ready.Job.{Job}
use Rattle.fh_dispatch.specs.declared.ready.Job.TheVariants.{Message, Timer}
use Rattle.fh_dispatch.specs.declared.ready.ReadyJob.{ReadyJob}
use Rattle.fh_dispatch.specs.declared.running.Running.{Running}
use Rattle.fh_dispatch.specs.declared.terms.Terms.{Terms}
use Rattle.fh_dispatch.specs.Part.{WorkPart, Others, function_of}
use Rattle.fh_dispatch.specs.Invocations.{run_of}
use Rattle.fh_dispatch.specs.Ready.{first_job}
use Rattle.fh_dispatch.specs.Terms.{terms_of, terms_in, poison_above, poison_from}
use Rattle.fh_dispatch.specs.Holds.{held_row, hidden_at}
use Rattle.fh_dispatch.specs.Outputs.{outcome_rule}
use Rattle.fh_dispatch.specs.Rules.{range_rule}
use Rattle.fh_dispatch.specs.Rulings.{Ruling, queues_in}
use Rattle.fh_dispatch.specs.Begin.{Start, blocking, unless_blocked, moving_or, beginning_row, beginning_job, beginning_first, beginning_found, begin_of}
use Rattle.fh_dispatch.specs.Finish.{Verdict, Succeeded, Broken, failing_to, held_as, finishing_by, finishing_row, finishing_timer, finishing_job, finishing_run, unless_refused, verdict_of, finish_of}
use Rattle.fh_dispatch.specs.Renewals.{Due, due_runs, messages_of, renewing_messages, renewing, renewals_of}
use Rattle.fh_dispatch.specs.Laws.{MayMove, MayEnd, MayRenew}

-- ---- a begin

module _ (part : WorkPart) (others : Others) (start : Start) where
  unblocked : (found : Option (ℕ × ℕ)) (ruling : Ruling) → MayMove (queues_in ruling)
      → MayMove (queues_in (unless_blocked found ruling))
  unblocked None ruling may = may
  unblocked (Some (holder, until)) ruling may = tt

  moved : (row : Row) (queue : Option (List ℕ)) (ruling : Ruling) → MayMove (queues_in ruling)
      → MayMove (queues_in (moving_or others start row queue ruling))
  moved row None ruling may = may
  moved row (Some queue) ruling may = tt

  row_moves : (number : ℕ) (found : Option Row) → MayMove (queues_in (beginning_row part others start number found))
  row_moves number None = tt
  row_moves number (Some row) =
      moved row (poison_above (terms_of start.function.settings) row.count) _
      (unblocked (blocking others start) _ tt)

  job_moves : (job : Job) → MayMove (queues_in (beginning_job part others start job))
  job_moves (Message number receipt) =
      row_moves number (hidden_at start.moment (held_row others.queues number receipt start.moment))
  job_moves (Timer run) = unblocked (blocking others start) _ tt

  first_moves : (found : Option ReadyJob) → MayMove (queues_in (beginning_first part others start found))
  first_moves None = tt
  first_moves (Some job) = job_moves job.job

pub begin_moves : (part : WorkPart) (others : Others) (name : List ℕ) (high low m : ℕ)
    → MayMove (queues_in (begin_of part others name high low m))
unfolding begin_of
begin_moves part others name high low m = by_found (function_of name part.functions)
  where
    by_found : (found : Option Function) → MayMove (queues_in (beginning_found part others high low m found))
    by_found None = tt
    by_found (Some function) =
        first_moves part others (record { function = function; high = high; low = low; moment = m })
        (first_job function.number part.ready)

-- ---- an end

module _ (part : WorkPart) (others : Others) (m i : ℕ) where
  unless_refused_ends : (rule : Option Rule) (ruling : Ruling) → MayEnd i (queues_in ruling)
      → MayEnd i (queues_in (unless_refused rule ruling))
  unless_refused_ends None ruling ends = ends
  unless_refused_ends (Some rule) ruling ends = tt

  failing_ends : (terms : Terms) (run : Running) (message : HeldMessage) (broken : Option ℕ) (queue : Option (List ℕ))
      → MayEnd i (queues_in (failing_to others m terms run message broken queue))
  failing_ends terms run message broken None =
      unless_refused_ends (range_rule terms.retry 0 seconds_of_week) _ tt
  failing_ends terms run message broken (Some queue) = tt

  verdict_ends : (terms : Terms) (run : Running) (row : Row) (verdict : Verdict)
      → MayEnd i (queues_in (finishing_by others m terms run row verdict))
  verdict_ends terms run row (Succeeded outputs) = tt
  verdict_ends terms run row (Broken broken) =
      failing_ends terms run (held_as row) broken (poison_from terms row.count)

  row_ends : (terms : Terms) (run : Running) (outcome : Outcome) (found : Option Row)
      → MayEnd i (queues_in (finishing_row others m terms run outcome found))
  row_ends terms run outcome None = tt
  row_ends terms run outcome (Some row) =
      verdict_ends terms run row (verdict_of others m (Some (held_as row)) outcome)

  timer_ends : (run : Running) (verdict : Verdict) → MayEnd i (queues_in (finishing_timer others run verdict))
  timer_ends run (Succeeded outputs) = tt
  timer_ends run (Broken broken) = tt

  job_ends : (run : Running) (outcome : Outcome) (job : Job)
      → MayEnd i (queues_in (finishing_job part others m run outcome job))
  job_ends run outcome (Message number receipt) =
      row_ends (terms_in part run.name) run outcome (held_row others.queues number receipt m)
  job_ends run outcome (Timer timer) = timer_ends run (verdict_of others m None outcome)

  run_ends : (outcome : Outcome) (found : Option Running)
      → MayEnd i (queues_in (finishing_run part others m outcome found))
  run_ends outcome None = tt
  run_ends outcome (Some run) = job_ends run outcome run.job

pub finish_ends : (part : WorkPart) (others : Others) (invocation : ℕ) (outcome : Outcome) (m : ℕ)
    → MayEnd invocation (queues_in (finish_of part others invocation outcome m))
unfolding finish_of
finish_ends part others invocation outcome m = by_size (outcome_rule outcome)
  where
    by_size : (rule : Option Rule) → MayEnd invocation (queues_in
        (unless_refused rule (finishing_run part others m outcome (run_of invocation part.running))))
    by_size None = run_ends part others m invocation outcome (run_of invocation part.running)
    by_size (Some rule) = tt

-- ---- renewals

pub renewals_renew : (part : WorkPart) (others : Others) (m : ℕ) → MayRenew (queues_in (renewals_of part others m))
unfolding renewals_of
renewals_renew part others m = by_dues (due_runs part others m)
  where
    by_messages : (messages : List HeldMessage) → MayRenew (renewing_messages messages)
    by_messages [] = tt
    by_messages (message ∷ messages) = tt

    by_dues : (dues : List Due) → MayRenew (queues_in (renewing others m dues))
    by_dues [] = tt
    by_dues (due ∷ dues) = by_messages (messages_of (due ∷ dues))
