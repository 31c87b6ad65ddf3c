-- Numbers and receipts are given in turn.
use Rattle.std.proofs.Common.{◌≡◌, ℕ, suc, ◌+◌, ◌≤◌, false, cond, List, [], ◌∷◌, ◌++◌, Option, Some, None, length, map, refl, sym, ◌∙◌, ap, arith, length-take}
use Rattle.std.specs.Prelude.{◌==◌, ◌&&◌, nat_le, nat_lt, if◌then◌else◌, count_by}
use Rattle.std.proofs.lemmas.Bool.Decides.{nat_tests}
use Rattle.std.proofs.lemmas.List.Sums.{sum_by-cons}
use Rattle.fh_event.specs.declared.outcome.Output.{Output}
use Rattle.fh_event.specs.declared.outcome.Output.TheVariants as outputs
use Rattle.fh_event.specs.declared.reply.Item.{Item}
use Rattle.fh_queues.specs.declared.held.HeldMessage.{HeldMessage}
use Rattle.fh_queues.specs.declared.row.Message.{Message}
use Rattle.fh_queues.specs.declared.done.QueueDone.{QueueDone}
use Rattle.fh_queues.specs.declared.done.Ending.{Ending}
use Rattle.fh_queues.specs.declared.done.Ending.TheVariants.{Completed, Moved}
use Rattle.fh_queues.specs.declared.act.Which.TheVariants.{Numbered}
use Rattle.fh_queues.specs.declared.act.Act.{Act}
use Rattle.fh_queues.specs.declared.act.Act.TheVariants.{AddQueue, AddRow, ChangeRow, EndRows}
use Rattle.fh_queues.specs.Asks.{Ask, Make, Put, Take, Update, Delete, Clear, Release, Renew, Complete, Poison, Sweep}
use Rattle.fh_queues.specs.Rows.{visible, live_row}
use Rattle.fh_queues.specs.Part.{QueuePart}
use Rattle.fh_queues.specs.Acts.{acted, by_acts, sweep}
use Rattle.fh_queues.specs.Outcome.{after, taken_items, hold}
use Rattle.fh_queues.specs.Jobs.{holding_on, renewed, plain_message, sends, count_sent, end_job, text_of}
use Rattle.fh_queues.specs.Receipts.{born, given}
use Rattle.fh_queues.specs.Laws.{most_numbers, most_receipts}
use Rattle.fh_queues.proofs.Goings.{counters-sweep}
use Rattle.fh_queues.proofs.Ways.{Ways, chosen, listed}

-- so many numbers and receipts were given
record Counted (before later : QueuePart) (numbers receipts : ℕ) : Type 0 where
  pub number : later.next_number ≡ before.next_number + numbers
  pub receipt : later.next_receipt ≡ before.next_receipt + receipts

-- how many numbers and receipts an act gives
abbrev numbers_of : Act → ℕ
numbers_of (AddRow new) = 1
numbers_of act = 0

abbrev receipts_of : Act → ℕ
receipts_of (AddRow new) = 1
receipts_of (ChangeRow number change) = 1
receipts_of act = 0

counts : (part : QueuePart) (act : Act) → Counted part (acted part act) (numbers_of act) (receipts_of act)
unfolding acted
counts part (AddQueue queue) = record { number = omega arith; receipt = omega arith }
counts part (AddRow new) = record { number = refl; receipt = refl }
counts part (ChangeRow number change) = record { number = omega arith; receipt = refl }
counts part (EndRows which ending) = record { number = omega arith; receipt = omega arith }

counts_held : (until : ℕ) (items : List Item) (part : QueuePart)
    → Counted part (by_acts part (map (hold until) items)) 0 (length items)
counts_held until [] part = record { number = omega arith; receipt = omega arith }
counts_held until (item ∷ items) part =
    let one = counts part (hold until item) in
    let rest = counts_held until items (acted part (hold until item)) in
    record { number = omega (arith, one.number, rest.number); receipt = omega (arith, one.receipt, rest.receipt) }

counts_renewed : (until : ℕ) (messages : List HeldMessage) (part : QueuePart)
    → Counted part (by_acts part (map (holding_on until) messages)) 0 (length messages)
counts_renewed until [] part = record { number = omega arith; receipt = omega arith }
counts_renewed until (message ∷ messages) part =
    let one = counts part (holding_on until message) in
    let rest = counts_renewed until messages (acted part (holding_on until message)) in
    record { number = omega (arith, one.number, rest.number); receipt = omega (arith, one.receipt, rest.receipt) }

counts_sent : (m : ℕ) (outputs : List Output) (part : QueuePart)
    → Counted part (by_acts part (sends m outputs)) (count_sent outputs) (count_sent outputs)
counts_sent m [] part = record { number = omega arith; receipt = omega arith }
counts_sent m (outputs.Queue queue text ∷ more) part =
    let made = acted part (AddQueue queue) in
    let first = counts part (AddQueue queue) in
    let second = counts made (AddRow (plain_message m queue text)) in
    let rest = counts_sent m more (acted made (AddRow (plain_message m queue text))) in
    record {
      number = omega (arith, first.number, second.number, rest.number);
      receipt = omega (arith, first.receipt, second.receipt, rest.receipt);
    }
counts_sent m (outputs.Blob container blob text ∷ more) part = counts_sent m more part

-- behind an end, which gives none
counts_ended : (m number : ℕ) (ending : Ending) (outputs : List Output) (part : QueuePart)
    → Counted part (by_acts part (EndRows (Numbered number) ending ∷ sends m outputs)) (count_sent outputs)
    (count_sent outputs)
counts_ended m number ending outputs part =
    let one = counts part (EndRows (Numbered number) ending) in
    let rest = counts_sent m outputs (acted part (EndRows (Numbered number) ending)) in
    record { number = omega (arith, one.number, rest.number); receipt = omega (arith, one.receipt, rest.receipt) }

counts_completed : (m invocation : ℕ) (message : Option HeldMessage) (outputs : List Output) (part : QueuePart)
    → Counted part (by_acts part (end_job invocation message ++ sends m outputs)) (count_sent outputs)
    (count_sent outputs)
counts_completed m invocation None outputs part = counts_sent m outputs part
counts_completed m invocation (Some message) outputs part =
    counts_ended m message.number (Completed invocation) outputs part

pub length-taken_items : (receipt : ℕ) (rows : List Message) → length (taken_items receipt rows) ≡ length rows
length-taken_items receipt [] = refl
length-taken_items receipt (row ∷ rows) = ap suc (length-taken_items (receipt + 1) rows)

-- how often items list a receipt
abbrev with_receipt : ℕ → List Item → ℕ
with_receipt k items = count_by (λ item. item.receipt == k) items

with_receipt-cons : (k : ℕ) (item : Item) (items : List Item)
    → with_receipt k (item ∷ items) ≡ (if item.receipt == k then 1 else 0) + with_receipt k items
with_receipt-cons k item items = sum_by-cons (λ (i : Item). cond (i.receipt == k) 1 0) item items

-- what is taken has the next receipts, each once
listed_in_turn : (k receipt : ℕ) (rows : List Message)
    → with_receipt k (taken_items receipt rows)
    ≡ (if nat_le receipt k && nat_lt k (receipt + length rows) then 1 else 0)
listed_in_turn k receipt [] = grind (arith, nat_tests)
listed_in_turn k receipt (row ∷ rows) =
    let item : Item = record { number = row.number; receipt = receipt; count = row.count + 1; text = row.text } in
    grind (
      arith,
      nat_tests,
      with_receipt-cons k item (taken_items (receipt + 1) rows),
      listed_in_turn k (receipt + 1) rows,
    )

length-renewed : (receipt : ℕ) (messages : List HeldMessage) → length (renewed receipt messages) ≡ length messages
length-renewed receipt [] = refl
length-renewed receipt (message ∷ messages) = ap suc (length-renewed (receipt + 1) messages)

-- how often messages have a receipt
abbrev held_with : ℕ → List HeldMessage → ℕ
held_with k messages = count_by (λ message. message.receipt == k) messages

held_with-cons : (k : ℕ) (message : HeldMessage) (messages : List HeldMessage)
    → held_with k (message ∷ messages) ≡ (if message.receipt == k then 1 else 0) + held_with k messages
held_with-cons k message messages = sum_by-cons (λ (x : HeldMessage). cond (x.receipt == k) 1 0) message messages

-- what is renewed has the next receipts, each once
renewed_in_turn : (k receipt : ℕ) (messages : List HeldMessage)
    → held_with k (renewed receipt messages)
    ≡ (if nat_le receipt k && nat_lt k (receipt + length messages) then 1 else 0)
renewed_in_turn k receipt [] = grind (arith, nat_tests)
renewed_in_turn k receipt (message ∷ messages) =
    let first : HeldMessage = record { number = message.number; receipt = receipt } in
    grind (
      arith,
      nat_tests,
      held_with-cons k first (renewed (receipt + 1) messages),
      renewed_in_turn k (receipt + 1) messages,
    )

-- the answer gives the numbers and receipts by which the counters moved
pub record IsGiven (part : QueuePart) (ask : Ask) (later : QueuePart) (answer : QueueDone) : Type 0 where
  pub number : (n : ℕ) → born n answer ≡ (nat_le part.next_number n && nat_lt n later.next_number)
  pub receipt : (k : ℕ) → given k answer ≡ (if nat_le part.next_receipt k && nat_lt k later.next_receipt then 1 else 0)
  pub numbers : part.next_number ≤ later.next_number
  pub receipts : part.next_receipt ≤ later.next_receipt
  pub one : later.next_number ≤ part.next_number + most_numbers ask
  pub few : later.next_receipt ≤ part.next_receipt + most_receipts ask

module _ (part : QueuePart) (m : ℕ) where
  abbrev pub swept : QueuePart
  swept = acted part (sweep m)

  moved : (numbers receipts : ℕ) (later : QueuePart) → Counted swept later numbers receipts
      → Counted part later numbers receipts
  moved numbers receipts later counted =
      let same = counters-sweep part m in
      record { number = omega (arith, counted.number, same.0); receipt = omega (arith, counted.receipt, same.1) }

  gives : (ask : Ask) (numbers receipts : ℕ) (later : QueuePart) (answer : QueueDone)
      → Counted swept later numbers receipts → numbers ≤ most_numbers ask → receipts ≤ most_receipts ask
      → ((n : ℕ) → born n answer ≡ (nat_le part.next_number n && nat_lt n (part.next_number + numbers)))
      → ((k : ℕ) → given k answer
      ≡ (if nat_le part.next_receipt k && nat_lt k (part.next_receipt + receipts) then 1 else 0))
      → IsGiven part ask later answer
  gives ask numbers receipts later answer counted one few born_is given_is =
      let by = moved numbers receipts later counted in
      record {
        number = λ n. born_is n ∙ ap (λ k. nat_le part.next_number n && nat_lt n k) (sym by.number);
        receipt = λ k. given_is k
            ∙ ap (λ j. if nat_le part.next_receipt k && nat_lt k j then 1 else 0) (sym by.receipt);
        numbers = omega (arith, by.number);
        receipts = omega (arith, by.receipt);
        one = omega (arith, by.number, one);
        few = omega (arith, by.receipt, few);
      }

  none : (k next : ℕ) → false ≡ (nat_le next k && nat_lt k (next + 0))
  none k next = grind (arith, nat_tests)

  zero_times : (k next : ℕ) → ◌≡◌ {A = ℕ} 0 (if nat_le next k && nat_lt k (next + 0) then 1 else 0)
  zero_times k next = ap (λ b. if b then 1 else 0) (none k next)

  just_once : (k next : ℕ)
      → ◌≡◌ {A = ℕ} (if next == k then 1 else 0) (if nat_le next k && nat_lt k (next + 1) then 1 else 0)
  just_once k next = grind (arith, nat_tests)

  pub givings : Ways (λ ask acts answer. IsGiven part ask (by_acts swept acts) answer) part m
  givings = record {
    makes = λ queue. gives (Make queue) 0 0 _ _ (counts swept (AddQueue queue)) (omega arith) (omega arith)
        (λ n. none n part.next_number) (λ k. zero_times k part.next_receipt);
    puts = λ queue delay ttl text about short. gives (Put queue delay ttl text about) 1 1 _ _ (counts swept (AddRow _))
        (omega arith) (omega arith) (λ n. grind (arith, nat_tests)) (λ k. just_once k part.next_receipt);
    takes = λ queue count seconds less.
        let rows = chosen part m queue count in
        let items = listed part m queue count in
        let long : length items ≡ length rows = length-taken_items part.next_receipt rows in
        gives (Take queue count seconds) 0 (length items) _ _ (counts_held (after m seconds) items swept) (omega arith)
        (omega (arith, long, less, length-take count (visible queue m part.rows)))
        (λ n. none n part.next_number)
        (λ k. listed_in_turn k part.next_receipt rows
        ∙ ap (λ l. if nat_le part.next_receipt k && nat_lt k (part.next_receipt + l) then 1 else 0) (sym long));
    updates = λ queue number receipt seconds text short named. gives (Update queue number receipt seconds text) 0 1 _ _
        (counts swept (ChangeRow number _)) (omega arith) (omega arith) (λ n. none n part.next_number)
        (λ k. just_once k part.next_receipt);
    deletes = λ queue number receipt named. gives (Delete queue number receipt) 0 0 _ _ (counts swept (EndRows _ _))
        (omega arith) (omega arith) (λ n. none n part.next_number) (λ k. zero_times k part.next_receipt);
    clears = λ queue. gives (Clear queue) 0 0 _ _ (counts swept (EndRows _ _)) (omega arith) (omega arith)
        (λ n. none n part.next_number) (λ k. zero_times k part.next_receipt);
    releases = λ message delay held. gives (Release message delay) 0 1 _ _ (counts swept (ChangeRow message.number _))
        (omega arith) (omega arith) (λ n. none n part.next_number) (λ k. just_once k part.next_receipt);
    renews = λ messages seconds held.
        gives (Renew messages seconds) 0 (length messages) _ _ (counts_renewed (after m seconds) messages swept)
        (omega arith) (omega arith) (λ n. none n part.next_number)
        (λ k. renewed_in_turn k part.next_receipt messages);
    completes = λ invocation message outputs job short.
        gives (Complete invocation message outputs) (count_sent outputs) (count_sent outputs) _ _
        (counts_completed m invocation message outputs swept) (omega arith) (omega arith) (λ n. refl) (λ k. refl);
    poisons = λ message queue held.
        let text = text_of (live_row message.number m part.rows) in
        gives (Poison message queue) 1 1 _ _
        (counts_ended m message.number (Moved part.next_number) (outputs.Queue queue text ∷ []) swept) (omega arith)
        (omega arith) (λ n. grind (arith, nat_tests)) (λ k. just_once k part.next_receipt);
    sweeps = gives Sweep 0 0 swept _ (record { number = omega arith; receipt = omega arith }) (omega arith)
        (omega arith) (λ n. none n part.next_number) (λ k. zero_times k part.next_receipt);
  }
