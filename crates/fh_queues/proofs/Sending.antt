-- What is sent and renewed, one by one.
use Rattle.std.proofs.Common.{◌≡◌, ℕ, ◌+◌, List, [], ◌∷◌, ◌++◌, length, refl, ap, ◌∙◌, arith}
use Rattle.fh_event.specs.declared.outcome.Output.{Output}
use Rattle.fh_event.specs.declared.outcome.Output.TheVariants.{Queue, Blob}
use Rattle.fh_queues.specs.declared.held.HeldMessage.{HeldMessage}
use Rattle.fh_queues.specs.declared.act.Act.{Act}
use Rattle.fh_queues.specs.Jobs.{renewed, send, sends, count_sent}

pub count_sent-push : (outputs : List Output) (output : Output)
    → count_sent (outputs ++ output ∷ []) ≡ count_sent outputs + count_sent (output ∷ [])
count_sent-push [] output = omega arith
count_sent-push (Queue queue text ∷ outputs) output = omega (arith, count_sent-push outputs output)
count_sent-push (Blob container blob text ∷ outputs) output = count_sent-push outputs output

pub sends-push : (m : ℕ) (outputs : List Output) (output : Output)
    → sends m (outputs ++ output ∷ []) ≡ sends m outputs ++ sends m (output ∷ [])
sends-push m [] output = refl
sends-push m (Queue queue text ∷ outputs) output =
    ap (λ (acts : List Act). send m queue text ++ acts) (sends-push m outputs output)
sends-push m (Blob container blob text ∷ outputs) output = sends-push m outputs output

-- one more message is renewed with the next receipt
pub renewed-push : (receipt : ℕ) (messages : List HeldMessage) (message : HeldMessage)
    → renewed receipt (messages ++ message ∷ [])
    ≡ renewed receipt messages ++ record { number = message.number; receipt = receipt + length messages } ∷ []
renewed-push receipt [] message =
    ap (λ n. record { number = message.number; receipt = n } ∷ []) (omega arith)
renewed-push receipt (first ∷ messages) message =
    ap (λ more. record { number = first.number; receipt = receipt } ∷ more)
    (renewed-push (receipt + 1) messages message
    ∙ ap (λ n. renewed (receipt + 1) messages ++ record { number = message.number; receipt = n } ∷ []) (omega arith))
