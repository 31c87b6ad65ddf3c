-- What is asked of the queues, with the texts themselves.
use Rattle.std.specs.Prelude.{ℕ, List, Option, option_map}
use Rattle.fh_event.specs.declared.outcome.Output.{Output}
use Rattle.fh_queues.specs.declared.held.HeldMessage.{HeldMessage}
use Rattle.fh_event.specs.declared.begun.About.{About}
use Rattle.fh_queues.specs.declared.ask.QueueAsk.{QueueAsk}
use Rattle.fh_queues.specs.declared.ask.QueueAsk.TheVariants as asks

pub data Ask : Type 0 where
  Make : List ℕ → Ask
  Put : List ℕ → ℕ → Option ℕ → List ℕ → Option About → Ask
  Take : List ℕ → ℕ → ℕ → Ask
  Update : List ℕ → ℕ → ℕ → ℕ → Option (List ℕ) → Ask
  Delete : List ℕ → ℕ → ℕ → Ask
  Clear : List ℕ → Ask
  Release : HeldMessage → ℕ → Ask
  Renew : List HeldMessage → ℕ → Ask
  Complete : ℕ → Option HeldMessage → List Output → Ask
  Poison : HeldMessage → List ℕ → Ask
  Sweep : Ask

abbrev pub ask_of : QueueAsk → Ask
ask_of (asks.Make queue) = Make queue
ask_of (asks.Put queue delay ttl text about) = Put queue delay ttl text.now (option_map (λ a. a.now) about)
ask_of (asks.Take queue count hold) = Take queue count hold
ask_of (asks.Update queue number receipt hold text) = Update queue number receipt hold (option_map (λ t. t.now) text)
ask_of (asks.Delete queue number receipt) = Delete queue number receipt
ask_of (asks.Clear queue) = Clear queue
ask_of (asks.Release message delay) = Release message delay
ask_of (asks.Renew messages hold) = Renew messages.now hold
ask_of (asks.Complete invocation message outputs) = Complete invocation message outputs.now
ask_of (asks.Poison message queue) = Poison message queue
ask_of asks.Sweep = Sweep
