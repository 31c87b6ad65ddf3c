-- Each ask keeps the queues whole.
use Rattle.std.proofs.Common.{◌≡◌, ℕ, ◌+◌, true, List, [], ◌∷◌, ◌++◌, Option, Some, None, map, refl, subst, arith}
use Rattle.std.specs.Prelude.{nat_le}
use Rattle.std.specs.List.{list_all}
use Rattle.std.proofs.lemmas.Bool.Decides.{nat_tests}
use Rattle.fh_event.specs.Judging.{Makes}
use Rattle.fh_event.specs.declared.outcome.Output.{Output}
use Rattle.fh_event.specs.declared.outcome.Output.TheVariants as outputs
use Rattle.fh_queues.specs.declared.held.HeldMessage.{HeldMessage}
use Rattle.fh_queues.specs.declared.row.Message.{Message}
use Rattle.fh_queues.specs.declared.done.QueueDone.{QueueDone}
use Rattle.fh_queues.specs.declared.act.Act.{Act}
use Rattle.fh_queues.specs.Asks.{Ask}
use Rattle.fh_queues.specs.Rows.{is_visible, visible}
use Rattle.fh_queues.specs.Part.{QueuePart}
use Rattle.fh_queues.specs.Acts.{sweep}
use Rattle.fh_queues.specs.Jobs.{holding_on, sends, end_job}
use Rattle.fh_queues.specs.Outcome.{after, taken_items, hold, outcome}
use Rattle.fh_queues.specs.Whole.{is_counted, IsWhole}
use Rattle.fh_queues.proofs.Finding.{list_all-filter, list_all-take}
use Rattle.fh_queues.proofs.Whole.{is_fair, Whole-by_acts}
use Rattle.fh_queues.proofs.Ways.{Ways, chosen, by_ways}

-- what is taken has counts at most one higher than before
all_fair : (next receipt until : ℕ) (rows : List Message) → list_all (is_counted next) rows ≡ true
    → list_all (is_fair next) (map (hold until) (taken_items receipt rows)) ≡ true
all_fair next receipt until [] counted = refl
all_fair next receipt until (row ∷ rows) counted =
    let here : nat_le (row.count + 1) next ≡ true = grind (arith, nat_tests) in
    grind (arith, nat_tests, here, all_fair next (receipt + 1) until rows)

renewals_fair : (next until : ℕ) (messages : List HeldMessage)
    → list_all (is_fair next) (map (holding_on until) messages) ≡ true
renewals_fair next until [] = refl
renewals_fair next until (message ∷ messages) =
    let here : nat_le 0 next ≡ true = grind (arith, nat_tests) in
    grind (arith, nat_tests, here, renewals_fair next until messages)

sends_fair : (next m : ℕ) (outputs : List Output) → list_all (is_fair next) (sends m outputs) ≡ true
sends_fair next m [] = refl
sends_fair next m (outputs.Queue queue text ∷ more) = sends_fair next m more
sends_fair next m (outputs.Blob container blob text ∷ more) = sends_fair next m more

completions_fair : (next m invocation : ℕ) (message : Option HeldMessage) (outputs : List Output)
    → list_all (is_fair next) (end_job invocation message ++ sends m outputs) ≡ true
completions_fair next m invocation None outputs = sends_fair next m outputs
completions_fair next m invocation (Some message) outputs = sends_fair next m outputs

fair_ways : (part : QueuePart) (m : ℕ) → IsWhole part
    → Ways (λ ask acts answer. list_all (is_fair part.next_receipt) acts ≡ true) part m
fair_ways part m h = record {
  makes = λ queue. refl;
  puts = λ queue delay ttl text about short. refl;
  takes = λ queue count seconds less.
      all_fair part.next_receipt part.next_receipt (after m seconds) (chosen part m queue count)
      (list_all-take (is_counted part.next_receipt) count (visible queue m part.rows)
      (list_all-filter (is_counted part.next_receipt) (is_visible queue m) part.rows h.counted));
  updates = λ queue number receipt seconds text short named. grind (arith, nat_tests);
  deletes = λ queue number receipt named. refl;
  clears = λ queue. refl;
  releases = λ message delay held. grind (arith, nat_tests);
  renews = λ messages seconds held. renewals_fair part.next_receipt (after m seconds) messages;
  completes = λ invocation message outputs job short. completions_fair part.next_receipt m invocation message outputs;
  poisons = λ message queue held. refl;
  sweeps = refl;
}

pub Whole-outcome : (part : QueuePart) (ask : Ask) (m : ℕ) (later : QueuePart) (answer : QueueDone) → IsWhole part
    → outcome part ask m ≡ Makes later answer → IsWhole later
Whole-outcome part ask m later answer h is =
    let way = by_ways _ part m (fair_ways part m h) later answer ask is in
    subst IsWhole way.made (Whole-by_acts part (sweep m ∷ way.acts) h (fair_sweep way.acts way.holds))
  where
    fair_sweep : (acts : List Act) → list_all (is_fair part.next_receipt) acts ≡ true
        → list_all (is_fair part.next_receipt) (sweep m ∷ acts) ≡ true
    fair_sweep acts fair = fair
