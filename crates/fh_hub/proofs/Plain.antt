-- The asks that the hub makes of the queues: none is about a held message of an invocation.
use Rattle.std.proofs.Common.{◌≡◌, inl, inr, ◌≤◌, Bool, true, false, Some, refl, ◌∙◌, ap, arith}
use Rattle.fh_event.specs.declared.command.Command.{Command}
use Rattle.fh_event.specs.declared.command.Command.TheVariants.{MakeQueue, Put, Take, Update, Delete, Clear, Note, Configure, Fetch}
use Rattle.fh_queues.specs.declared.done.Ending.{Ending}
use Rattle.fh_queues.specs.declared.done.Ending.TheVariants.{Deleted}
use Rattle.fh_queues.specs.declared.done.QueueDone.{QueueDone}
use Rattle.fh_queues.specs.declared.done.QueueDone.TheVariants as done
use Rattle.fh_queues.specs.declared.row.Message.{Message}
use Rattle.fh_queues.specs.Asks as queues
use Rattle.fh_queues.specs.Goings.{ends, ended_if}
use Rattle.fh_queues.specs.Laws.{answers, most_numbers, most_receipts}
use Rattle.fh_hub.specs.Stores.{Parts}
use Rattle.fh_hub.specs.Asked.{queue_ask_in}
use Rattle.fh_hub.proofs.Steps.{IsAskedOf}

abbrev pub is_plain : queues.Ask → Bool
is_plain (queues.Release message delay) = false
is_plain (queues.Renew messages hold) = false
is_plain (queues.Complete invocation message outputs) = false
is_plain (queues.Poison message queue) = false
is_plain ask = true

abbrev pub is_plain_answer : QueueDone → Bool
is_plain_answer (done.Released receipt visible_at) = false
is_plain_answer (done.Renewed messages) = false
is_plain_answer (done.Completed number receipt count) = false
is_plain_answer (done.Poisoned copy receipt) = false
is_plain_answer answer = true

plain_in : (parts : Parts) (command : Command) → is_plain (queue_ask_in parts command) ≡ true
plain_in parts (MakeQueue queue) = refl
plain_in parts (Put queue delay ttl text) = refl
plain_in parts (Take queue count hold) = refl
plain_in parts (Update queue number receipt hold text) = refl
plain_in parts (Delete queue number receipt) = refl
plain_in parts (Clear queue) = refl
plain_in parts (Note function container blob) = refl
plain_in parts command = refl

-- what the hub asks is plain
pub plain_asked : (parts : Parts) (command : Command) (ask : queues.Ask) → IsAskedOf parts command ask
    → is_plain ask ≡ true
plain_asked parts (Configure function settings) ask asked =
    elim asked [
      | inl is ↦ ap is_plain is
      | inr one ↦ ap is_plain one.1
    ]
plain_asked parts (Fetch function) ask asked = ap is_plain asked.2
plain_asked parts command ask asked = ap is_plain asked ∙ plain_in parts command

-- a plain ask gives one number and 32 receipts at most
pub few_numbers : (ask : queues.Ask) → is_plain ask ≡ true → most_numbers ask ≤ 1
few_numbers (queues.Complete invocation message outputs) plain = absurd (cc)
few_numbers ask plain = omega arith

pub few_receipts : (ask : queues.Ask) → is_plain ask ≡ true → most_receipts ask ≤ 32
few_receipts (queues.Complete invocation message outputs) plain = absurd (cc)
few_receipts (queues.Renew messages hold) plain = absurd (cc)
few_receipts ask plain = omega arith

-- it has a plain answer
pub answers_plainly : (ask : queues.Ask) (answer : QueueDone) → is_plain ask ≡ true → answers ask answer ≡ true
    → is_plain_answer answer ≡ true
answers_plainly (queues.Release message delay) answer plain is = absurd (cc)
answers_plainly (queues.Renew messages hold) answer plain is = absurd (cc)
answers_plainly (queues.Complete invocation message outputs) answer plain is = absurd (cc)
answers_plainly (queues.Poison message queue) answer plain is = absurd (cc)
answers_plainly (queues.Make queue) answer plain is = by_answer answer is
  where
    by_answer : (d : QueueDone) → answers (queues.Make queue) d ≡ true → is_plain_answer d ≡ true
    by_answer done.Made is = refl
    by_answer d is = absurd (cc)
answers_plainly (queues.Put queue delay ttl text about) answer plain is = by_answer answer is
  where
    by_answer : (d : QueueDone) → answers (queues.Put queue delay ttl text about) d ≡ true → is_plain_answer d ≡ true
    by_answer (done.Stored number receipt) is = refl
    by_answer d is = absurd (cc)
answers_plainly (queues.Take queue count hold) answer plain is = by_answer answer is
  where
    by_answer : (d : QueueDone) → answers (queues.Take queue count hold) d ≡ true → is_plain_answer d ≡ true
    by_answer (done.Taken items) is = refl
    by_answer d is = absurd (cc)
answers_plainly (queues.Update queue number receipt hold text) answer plain is = by_answer answer is
  where
    by_answer : (d : QueueDone) → answers (queues.Update queue number receipt hold text) d ≡ true
        → is_plain_answer d ≡ true
    by_answer (done.Updated newest) is = refl
    by_answer d is = absurd (cc)
answers_plainly (queues.Delete queue number receipt) answer plain is = by_answer answer is
  where
    by_answer : (d : QueueDone) → answers (queues.Delete queue number receipt) d ≡ true → is_plain_answer d ≡ true
    by_answer done.Deleted is = refl
    by_answer d is = absurd (cc)
answers_plainly (queues.Clear queue) answer plain is = by_answer answer is
  where
    by_answer : (d : QueueDone) → answers (queues.Clear queue) d ≡ true → is_plain_answer d ≡ true
    by_answer (done.Cleared count) is = refl
    by_answer d is = absurd (cc)
answers_plainly queues.Sweep answer plain is = by_answer answer is
  where
    by_answer : (d : QueueDone) → answers queues.Sweep d ≡ true → is_plain_answer d ≡ true
    by_answer done.Swept is = refl
    by_answer d is = absurd (cc)

deleted_if : (test : Bool) (ending : Ending) → ended_if test Deleted ≡ Some ending → ending ≡ Deleted
deleted_if true ending is = cc
deleted_if false ending is = absurd (cc)

-- a plain ask ends a message by deleting it
pub ends_plainly : (ask : queues.Ask) (answer : QueueDone) (row : Message) (ending : Ending) → is_plain ask ≡ true
    → ends ask answer row ≡ Some ending → ending ≡ Deleted
ends_plainly (queues.Complete invocation message outputs) answer row ending plain is = absurd (cc)
ends_plainly (queues.Poison message queue) answer row ending plain is = absurd (cc)
ends_plainly (queues.Delete queue number receipt) answer row ending plain is = deleted_if _ ending is
ends_plainly (queues.Clear queue) answer row ending plain is = deleted_if _ ending is
ends_plainly ask answer row ending plain is = absurd (cc)
