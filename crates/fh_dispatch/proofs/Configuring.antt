-- The plan of a function that gets new settings.
use Rattle.std.proofs.Common.{◌≡◌, ℕ, Bool, true, false, List, [], ◌∷◌, Option, refl}
use Rattle.std.specs.Prelude.{if◌then◌else◌}
use Rattle.fh_base.specs.declared.rule.Rule.{Rule}
use Rattle.fh_event.specs.declared.settings.FunctionSettings.{FunctionSettings}
use Rattle.fh_event.specs.Judging.{Refuses, Quiets, Makes}
use Rattle.fh_queues.specs.declared.act.Act.TheVariants.{AddQueue}
use Rattle.fh_queues.specs.declared.done.QueueDone.TheVariants.{There, Made}
use Rattle.fh_queues.specs.Asks as queues
use Rattle.fh_queues.specs.Part.{QueuePart, has_queue}
use Rattle.fh_queues.specs.Outcome as queue_outcome
use Rattle.fh_dispatch.specs.Part.{WorkPart, function_of}
use Rattle.fh_dispatch.specs.Settings.{is_as}
use Rattle.fh_dispatch.specs.Part.{number_or}
use Rattle.fh_dispatch.specs.Queues.{queue_of, made_where_missing, configuring_queues}

-- where the settings are new, what the queues are asked is to make the function's queue, where it is missing
pub set_asks : (part : WorkPart) (name : List ℕ) (settings : FunctionSettings) (number : ℕ)
    → is_as settings (function_of name part.functions) ≡ false
    → number ≡ number_or part.next_function (function_of name part.functions)
    → (kept : QueuePart) (queue : Option (List ℕ)) → queue ≡ queue_of number settings
    → configuring_queues part kept name settings ≡ made_where_missing kept queue
set_asks part name settings number loud numbered kept queue is = rw (loud, ← numbered, ← is) refl

-- no rule refuses that a queue is made
pub making_is_accepted : (part : QueuePart) (queue : List ℕ) (m : ℕ) (rule : Rule)
    → queue_outcome.outcome part (queues.Make queue) m ≡ Refuses rule → ⊥
unfolding queue_outcome.outcome queue_outcome.acting
making_is_accepted part queue m rule is = by_test (has_queue part.queues queue) is
  where
    by_test : (b : Bool) → queue_outcome.made_by part m (if b then Quiets There else Makes (AddQueue queue ∷ []) Made)
        ≡ Refuses rule → ⊥
    by_test true is = cc
    by_test false is = cc
