-- What a fetch asks of the queues is what it tells.
use Rattle.std.proofs.Common.{◌≡◌, ℕ, Bool, true, false, List, map, Option, Some, None, refl, sym, ap, ◌∙◌}
use Rattle.std.specs.Prelude.{if◌then◌else◌}
use Rattle.fh_event.specs.declared.reply.Reply.TheVariants.{Fetched}
use Rattle.fh_event.specs.Judging.{Judged, Refuses, Quiets, Makes}
use Rattle.fh_queues.specs.declared.done.QueueDone.{QueueDone}
use Rattle.fh_queues.specs.Outcome as queue_outcome
use Rattle.fh_queues.specs.Part.{QueuePart}
use Rattle.fh_queues.specs.Tellings.{items_in}
use Rattle.fh_dispatch.specs.declared.done.WorkDone.{WorkDone}
use Rattle.fh_dispatch.specs.declared.done.WorkDone.TheVariants as done
use Rattle.fh_dispatch.specs.declared.trigger.Trigger.{Trigger}
use Rattle.fh_dispatch.specs.Part.{WorkPart, Others}
use Rattle.fh_dispatch.specs.InWork.{in_work}
use Rattle.fh_dispatch.specs.Asks.{Fetch}
use Rattle.fh_dispatch.specs.Queues.{trigger_of, is_full, batch_of, unless_full, fetching_queue}
use Rattle.fh_dispatch.specs.Asked.{asks_queues}
use Rattle.fh_dispatch.specs.Outcome.{fetched_job, fetching_by, busy, fetching, acting, made_by, outcome}
use Rattle.fh_dispatch.specs.Laws.{IsFetch, FetchesAsTold}

module _ (part : WorkPart) (others : Others) (name : List ℕ) (m : ℕ) (after : WorkPart) (answer : WorkDone) where
  told_by : (trigger : Trigger) (taken : Judged QueuePart QueueDone)
      → queue_outcome.outcome others.queues (batch_of trigger) m ≡ taken
      → made_by part (fetching_by trigger.function taken) ≡ Makes after answer
      → (next : QueuePart) (given : QueueDone) → queue_outcome.outcome others.queues (batch_of trigger) m
      ≡ Makes next given
      → answer ≡ done.Told (Fetched (map fetched_job (items_in given)))
  told_by trigger (Refuses rule) takes is next given takes_so = absurd (cc)
  told_by trigger (Quiets quiet) takes is next given takes_so = absurd (cc)
  told_by trigger (Makes other done_so) takes is next given takes_so =
      let same : done_so ≡ given = cc (takes, takes_so) in
      let tells : done.Told (Fetched (map fetched_job (items_in done_so))) ≡ answer = cc in
      sym tells ∙ ap (λ (d : QueueDone). done.Told (Fetched (map fetched_job (items_in d)))) same

  by_room : (trigger : Trigger) (full : Bool) → trigger_of name part.functions ≡ Some trigger
      → is_full part trigger ≡ full
      → asks_queues part others (Fetch name) m ≡ unless_full full trigger
      → made_by part
      (if full then busy (in_work trigger.function part)
      else fetching_by trigger.function (queue_outcome.outcome others.queues (batch_of trigger) m)) ≡ Makes after answer
      → IsFetch part others name m answer
  by_room trigger true found room asks is = absurd (cc)
  by_room trigger false found room asks is = record {
    trigger = trigger;
    found = found;
    asks = asks;
    told = told_by trigger (queue_outcome.outcome others.queues (batch_of trigger) m) refl is;
  }

  by_trigger : (given : Option Trigger) → trigger_of name part.functions ≡ given
      → asks_queues part others (Fetch name) m ≡ fetching_queue part given
      → made_by part (fetching part others given m) ≡ Makes after answer → IsFetch part others name m answer
  by_trigger None found asks is = absurd (cc)
  by_trigger (Some trigger) found asks is = by_room trigger (is_full part trigger) found refl asks is

  pub fetch_told : outcome part others (Fetch name) m ≡ Makes after answer → IsFetch part others name m answer
  unfolding outcome acting asks_queues
  fetch_told is = by_trigger (trigger_of name part.functions) refl refl is

pub fetches_as_told : FetchesAsTold
fetches_as_told part others name m after answer is = fetch_told part others name m after answer is
