-- What every layer above may cite: one lemma for each law of the queues.
use Rattle.std.proofs.Common.{◌≡◌, ℕ, true, refl, sym, ◌∙◌, ap, subst, arith, length-take}
use Rattle.fh_event.specs.Judging.{Makes}
use Rattle.fh_queues.specs.declared.done.QueueDone.{QueueDone}
use Rattle.fh_queues.specs.Asks.{Ask}
use Rattle.fh_queues.specs.Rows.{visible}
use Rattle.fh_queues.specs.Part.{QueuePart}
use Rattle.fh_queues.specs.Outcome.{outcome}
use Rattle.fh_queues.specs.Seen.{seen}
use Rattle.fh_queues.specs.Whole.{IsWhole}
use Rattle.fh_queues.specs.Laws.{OfEachAsk, GoesOnAsAnswered, KeepsUntouched, RaisesReceipts, TakesVisible, HasShortTexts, MovesLittle, GivesNumbersInTurn, GivesReceiptsInTurn, answers, AnswersTheAsk, ListsFew, TakesFew}
use Rattle.fh_queues.specs.Goings.{goes_on}
use Rattle.fh_queues.proofs.Goings.{goings}
use Rattle.fh_queues.proofs.Guards.{stays, untouched_stands, raises, rises_by}
use Rattle.fh_queues.proofs.Numbers.{length-taken_items, givings}
use Rattle.fh_queues.proofs.Takes.{taken}
pub use Rattle.fh_queues.proofs.Goings.{row_seen}
pub use Rattle.fh_queues.proofs.Whole.{Whole-none}
pub use Rattle.fh_queues.proofs.Fairness.{Whole-outcome}
pub use Rattle.fh_queues.proofs.Telling.{tells, is_some-item_of}
pub use Rattle.fh_queues.proofs.Placing.{given_is_born}
use Rattle.fh_queues.proofs.Ways.{Ways, chosen, by_ways}

pub goes_as_answered : OfEachAsk GoesOnAsAnswered
goes_as_answered part ask m after answer h is n =
    let way = by_ways _ part m (goings part m h) after answer ask is in
    ap (seen n) (sym way.made) ∙ way.holds n

pub keeps_untouched : OfEachAsk KeepsUntouched
keeps_untouched part ask m after answer h is row stands alive untouched =
    let way = by_ways _ part m (stays part m h) after answer ask is in
    goes_as_answered part ask m after answer h is row.number
    ∙ ap (goes_on part m ask answer row.number) stands
    ∙ untouched_stands part m h ask answer row way.holds (row_seen row.number part row stands) alive untouched

pub raises_receipts : OfEachAsk RaisesReceipts
raises_receipts part ask m after answer h is n before later stands then =
    let way = by_ways _ part m (raises part m h) after answer ask is in
    rises_by part m h ask answer n before later way.holds (row_seen n part before stands)
    (sym (goes_as_answered part ask m after answer h is n ∙ ap (goes_on part m ask answer n) stands) ∙ then)

take_ways : (part : QueuePart) (m : ℕ) → IsWhole part
    → Ways (λ ask acts answer. (after : QueuePart) → TakesVisible part m ask after answer) part m
take_ways part m h = record {
  makes = λ queue after n. refl;
  puts = λ queue delay ttl text about short after n. refl;
  takes = λ queue count seconds less after n item found. (taken part m queue count n item h.rising found).from;
  updates = λ queue number receipt seconds text short named after n. refl;
  deletes = λ queue number receipt named after n. refl;
  clears = λ queue after n. refl;
  releases = λ message delay held after n. refl;
  renews = λ messages seconds held after n. refl;
  completes = λ invocation message outputs job short after n. refl;
  poisons = λ message queue held after n. refl;
  sweeps = λ after n. refl;
}

pub takes_visible : OfEachAsk TakesVisible
takes_visible part ask m after answer h is = (by_ways _ part m (take_ways part m h) after answer ask is).holds after

short_ways : (part : QueuePart) (m : ℕ)
    → Ways (λ ask acts answer. (after : QueuePart) → HasShortTexts part m ask after answer) part m
short_ways part m = record {
  makes = λ queue after. tt;
  puts = λ queue delay ttl text about short after. short;
  takes = λ queue count seconds less after. tt;
  updates = λ queue number receipt seconds text short named after. short;
  deletes = λ queue number receipt named after. tt;
  clears = λ queue after. tt;
  releases = λ message delay held after. tt;
  renews = λ messages seconds held after. tt;
  completes = λ invocation message outputs job short after. short;
  poisons = λ message queue held after. tt;
  sweeps = λ after. tt;
}

pub short_texts : OfEachAsk HasShortTexts
short_texts part ask m after answer h is = (by_ways _ part m (short_ways part m) after answer ask is).holds after

pub moves_little : (part : QueuePart) (ask : Ask) (m : ℕ) (after : QueuePart) (answer : QueueDone)
    → outcome part ask m ≡ Makes after answer → MovesLittle part m ask after answer
moves_little part ask m after answer is =
    let way = by_ways _ part m (givings part m) after answer ask is in
    subst (λ (p : QueuePart). MovesLittle part m ask p answer) way.made
    (record {
      numbers = way.holds.numbers;
      receipts = way.holds.receipts;
      number = way.holds.one;
      receipt = way.holds.few;
    })

pub gives_numbers : OfEachAsk GivesNumbersInTurn
gives_numbers part ask m after answer h is =
    let way = by_ways _ part m (givings part m) after answer ask is in
    subst (λ (p : QueuePart). GivesNumbersInTurn part m ask p answer) way.made way.holds.number

pub gives_receipts : OfEachAsk GivesReceiptsInTurn
gives_receipts part ask m after answer h is =
    let way = by_ways _ part m (givings part m) after answer ask is in
    subst (λ (p : QueuePart). GivesReceiptsInTurn part m ask p answer) way.made way.holds.receipt

answer_ways : (part : QueuePart) (m : ℕ) → Ways (λ ask acts answer. answers ask answer ≡ true) part m
answer_ways part m = record {
  makes = λ queue. refl;
  puts = λ queue delay ttl text about short. refl;
  takes = λ queue count seconds less. refl;
  updates = λ queue number receipt seconds text short named. refl;
  deletes = λ queue number receipt named. refl;
  clears = λ queue. refl;
  releases = λ message delay held. refl;
  renews = λ messages seconds held. refl;
  completes = λ invocation message outputs job short. refl;
  poisons = λ message queue held. refl;
  sweeps = refl;
}

pub answers_the_ask : AnswersTheAsk
answers_the_ask part ask m after answer is = (by_ways _ part m (answer_ways part m) after answer ask is).holds

few_ways : (part : QueuePart) (m : ℕ) → Ways (λ ask acts answer. ListsFew ask answer) part m
few_ways part m = record {
  makes = λ queue. tt;
  puts = λ queue delay ttl text about short. tt;
  takes = λ queue count seconds less.
      let listed = length-taken_items part.next_receipt (chosen part m queue count) in
      omega (arith, listed, length-take count (visible queue m part.rows));
  updates = λ queue number receipt seconds text short named. tt;
  deletes = λ queue number receipt named. tt;
  clears = λ queue. tt;
  releases = λ message delay held. tt;
  renews = λ messages seconds held. tt;
  completes = λ invocation message outputs job short. tt;
  poisons = λ message queue held. tt;
  sweeps = tt;
}

pub takes_few : TakesFew
takes_few part ask m after answer is = (by_ways _ part m (few_ways part m) after answer ask is).holds
