-- Each message goes on as the ask and its answer say.
use Rattle.std.proofs.Common.{◌≡◌, ℕ, ◌+◌, ◌<◌, ◌≤◌, Bool, true, false, List, [], ◌∷◌, ◌++◌, length, map, Option, Some, None, refl, sym, ◌∙◌, ap, arith}
use Rattle.std.specs.Prelude.{◌==◌, nat_lt, if◌then◌else◌}
use Rattle.std.proofs.lemmas.Bool.Decides.{nat_tests}
use Rattle.fh_event.specs.declared.outcome.Output.{Output}
use Rattle.fh_event.specs.declared.outcome.Output.TheVariants as outputs
use Rattle.fh_event.specs.declared.reply.Item.{Item}
use Rattle.fh_queues.specs.declared.held.HeldMessage.{HeldMessage}
use Rattle.fh_queues.specs.declared.row.Message.{Message}
use Rattle.fh_event.specs.declared.begun.About.{About}
use Rattle.fh_queues.specs.declared.done.QueueDone.{QueueDone}
use Rattle.fh_queues.specs.declared.done.QueueDone.TheVariants as done
use Rattle.fh_queues.specs.declared.done.Ending.{Ending}
use Rattle.fh_queues.specs.declared.done.Ending.TheVariants.{Deleted, Completed, Moved, Expired}
use Rattle.fh_queues.specs.declared.act.NewMessage.{NewMessage}
use Rattle.fh_queues.specs.declared.act.RowChange.{RowChange}
use Rattle.fh_queues.specs.declared.act.Which.{Which}
use Rattle.fh_queues.specs.declared.act.Which.TheVariants.{Dead, InQueue, Numbered}
use Rattle.fh_queues.specs.declared.act.Act.TheVariants.{AddQueue, AddRow, ChangeRow, EndRows}
use Rattle.fh_queues.specs.Asks.{Ask, Make, Put, Take, Update, Delete, Clear, Release, Renew, Complete, Poison, Sweep}
use Rattle.fh_queues.specs.Rows.{is_dead, is_visible, visible, live, row_of, live_row}
use Rattle.fh_queues.specs.Order.{are_rising}
use Rattle.fh_queues.specs.Part.{QueuePart, end_of}
use Rattle.fh_queues.specs.Acts.{numbered, changed, is_one, acted, by_acts, sweep}
use Rattle.fh_queues.specs.Outcome.{after, new_message, taken_items, held_as, hold, renewal, rows_of}
use Rattle.fh_queues.specs.Jobs.{freed, held_on, holding_on, renewed, plain_message, sends, count_sent, end_job, move, text_of}
use Rattle.fh_queues.specs.Receipts.{item_of}
use Rattle.fh_queues.specs.Seen.{Seen, Unborn, Stands, Ended, seen_by, seen}
use Rattle.fh_queues.specs.Whole.{IsWhole}
use Rattle.fh_queues.specs.Goings.{held_by, held_again, ended_if, stands_if, sent, newly, ended_or, goes_on}
use Rattle.fh_queues.proofs.Finding.{row_of-number, are_rising-filter, are_rising-take}
use Rattle.fh_queues.proofs.Seen.{ended_by, with_row_of, seen-with_ends, seen-with_row_change, seen-with_row}
use Rattle.fh_queues.proofs.Whole.{all_given, row_of-new, seen-new, Whole-acted}
use Rattle.fh_queues.proofs.Takes.{item_of-above}
use Rattle.fh_queues.proofs.Ways.{Ways, chosen, listed}

-- a message that stands has a row
pub row_seen : (n : ℕ) (part : QueuePart) (row : Message) → seen n part ≡ Stands row → row_of n part.rows ≡ Some row
row_seen n part row is = by_found (row_of n part.rows) (end_of n part.ends) is
  where
    by_found : (found : Option Message) (end : Option Ending) → seen_by found end ≡ Stands row → found ≡ Some row
    by_found None None is = absurd (cc)
    by_found None (Some end) is = absurd (cc)
    by_found (Some r) end is = cc

seen-AddQueue : (n : ℕ) (part : QueuePart) (queue : List ℕ) → seen n (acted part (AddQueue queue)) ≡ seen n part
unfolding acted
seen-AddQueue n part queue = refl

seen-AddRow : (n : ℕ) (part : QueuePart) (new : NewMessage) → IsWhole part
    → seen n (acted part (AddRow new))
    ≡ (if n == part.next_number then Stands (numbered part.next_number part.next_receipt new) else seen n part)
unfolding acted
seen-AddRow n part new h = seen-with_row n part new (row_of-new part h part.next_number (omega arith))

seen-ChangeRow : (n : ℕ) (part : QueuePart) (number : ℕ) (change : RowChange)
    → seen n (acted part (ChangeRow number change))
    ≡ (if n == number then with_row_of (changed part.next_receipt change) (seen n part) else seen n part)
unfolding acted
seen-ChangeRow n part number change = seen-with_row_change n part number change

seen-EndRows : (n : ℕ) (part : QueuePart) (which : Which) (ending : Ending) → IsWhole part
    → seen n (acted part (EndRows which ending)) ≡ ended_by which ending (seen n part)
unfolding acted
seen-EndRows n part which ending h = seen-with_ends n part _ which ending h.rising (all_given part h) refl

receipt-ChangeRow : (part : QueuePart) (number : ℕ) (change : RowChange)
    → (acted part (ChangeRow number change)).next_receipt ≡ part.next_receipt + 1
unfolding acted
receipt-ChangeRow part number change = refl

pub counters-sweep : (part : QueuePart) (m : ℕ)
    → ((acted part (sweep m)).next_number ≡ part.next_number)
    × ((acted part (sweep m)).next_receipt ≡ part.next_receipt)
unfolding acted
counters-sweep part m = (refl, refl)

counters-EndRows : (part : QueuePart) (which : Which) (ending : Ending)
    → ((acted part (EndRows which ending)).next_number ≡ part.next_number)
    × ((acted part (EndRows which ending)).next_receipt ≡ part.next_receipt)
unfolding acted
counters-EndRows part which ending = (refl, refl)

pub same_number : (n k : ℕ) → (n == k) ≡ (k == n)
same_number n k = grind (arith, nat_tests)

pub Whole-sweep : (part : QueuePart) (m : ℕ) → IsWhole part → IsWhole (acted part (sweep m))
Whole-sweep part m h = Whole-acted part (sweep m) h refl

unheld : (until : ℕ) (s : Seen) → with_row_of (held_by until None) s ≡ s
unheld until Unborn = refl
unheld until (Stands row) = refl
unheld until (Ended ending) = refl

-- a message is held as it is listed
by_holds : (n until low receipt : ℕ) (rows : List Message) (part : QueuePart) → part.next_receipt ≡ receipt
    → are_rising low rows ≡ true
    → seen n (by_acts part (map (hold until) (taken_items receipt rows)))
    ≡ with_row_of (held_by until (item_of n (taken_items receipt rows))) (seen n part)
by_holds n until low receipt [] part next rising = sym (unheld until (seen n part))
by_holds n until low receipt (row ∷ rows) part next rising =
    by_holds n until row.number (receipt + 1) rows one
    (receipt-ChangeRow part row.number (held_as until first) ∙ ap (λ k. k + 1) next) later
    ∙ ap (with_row_of (held_by until (item_of n rest))) step
    ∙ by_test (row.number == n) refl
  where
    first : Item
    first = record { number = row.number; receipt = receipt; count = row.count + 1; text = row.text }

    rest : List Item
    rest = taken_items (receipt + 1) rows

    one : QueuePart
    one = acted part (hold until first)

    later : are_rising row.number rows ≡ true
    later = grind (arith, nat_tests)

    step : seen n one
        ≡ (if n == row.number then with_row_of (held_by until (Some first)) (seen n part) else seen n part)
    step = seen-ChangeRow n part row.number (held_as until first)
        ∙ ap (λ k. if n == row.number then with_row_of (changed k (held_as until first)) (seen n part)
        else seen n part) next

    by_test : (same : Bool) → (row.number == n) ≡ same
        → with_row_of (held_by until (item_of n rest))
        (if n == row.number then with_row_of (held_by until (Some first)) (seen n part) else seen n part)
        ≡ with_row_of (held_by until (if row.number == n then Some first else item_of n rest)) (seen n part)
    by_test true is =
        let same : (n == row.number) ≡ true = grind (arith, nat_tests) in
        let none : item_of n rest ≡ None =
        item_of-above n row.number (receipt + 1) rows (grind (arith, nat_tests)) later in
        ap (λ b. with_row_of (held_by until (item_of n rest))
        (if b then with_row_of (held_by until (Some first)) (seen n part) else seen n part)) same
        ∙ ap (λ i. with_row_of (held_by until i) (with_row_of (held_by until (Some first)) (seen n part))) none
        ∙ unheld until (with_row_of (held_by until (Some first)) (seen n part))
        ∙ ap (λ b. with_row_of (held_by until (if b then Some first else item_of n rest)) (seen n part)) (sym is)
    by_test false is =
        let other : (n == row.number) ≡ false = grind (arith, nat_tests) in
        ap (λ b. with_row_of (held_by until (item_of n rest))
        (if b then with_row_of (held_by until (Some first)) (seen n part) else seen n part)) other
        ∙ ap (λ b. with_row_of (held_by until (if b then Some first else item_of n rest)) (seen n part)) (sym is)

-- a message that stands has its number
number_of_seen : (n : ℕ) (part : QueuePart) (row : Message) → seen n part ≡ Stands row → row.number ≡ n
number_of_seen n part row is = row_of-number n part.rows row (row_seen n part row is)

-- a change of the row of a number, as the row itself tells it
changed_if : (n number : ℕ) (anew : Message → Message) (s : Seen) → ((row : Message) → s ≡ Stands row → row.number ≡ n)
    → (if n == number then with_row_of anew s else s)
    ≡ with_row_of (λ row. if row.number == number then anew row else row) s
changed_if n number anew Unborn own = by_test (n == number)
  where
    by_test : (same : Bool) → (if same then Unborn else Unborn) ≡ Unborn
    by_test true = refl
    by_test false = refl
changed_if n number anew (Ended ending) own = by_test (n == number)
  where
    by_test : (same : Bool) → (if same then Ended ending else Ended ending) ≡ Ended ending
    by_test true = refl
    by_test false = refl
changed_if n number anew (Stands row) own =
    by_test (n == number) ∙ ap (λ k. Stands (if k == number then anew row else row)) (sym (own row refl))
  where
    by_test : (same : Bool) → (if same then Stands (anew row) else Stands row) ≡ Stands (if same then anew row else row)
    by_test true = refl
    by_test false = refl

-- a message is held on once for each time that it is named
by_renewals : (n until receipt : ℕ) (messages : List HeldMessage) (part : QueuePart) → part.next_receipt ≡ receipt
    → seen n (by_acts part (map (holding_on until) messages))
    ≡ with_row_of (held_again until (renewed receipt messages)) (seen n part)
by_renewals n until receipt [] part next = same (seen n part)
  where
    same : (s : Seen) → s ≡ with_row_of (λ row. row) s
    same Unborn = refl
    same (Stands row) = refl
    same (Ended ending) = refl
by_renewals n until receipt (message ∷ messages) part next =
    by_renewals n until (receipt + 1) messages one
    (receipt-ChangeRow part message.number (held_on until) ∙ ap (λ k. k + 1) next)
    ∙ ap (with_row_of (held_again until rest)) step
    ∙ twice (seen n part)
  where
    rest : List HeldMessage
    rest = renewed (receipt + 1) messages

    one : QueuePart
    one = acted part (holding_on until message)

    first : Message → Message
    first row = if row.number == message.number then changed receipt (held_on until) row else row

    step : seen n one ≡ with_row_of first (seen n part)
    step =
        seen-ChangeRow n part message.number (held_on until)
        ∙ ap (λ k. if n == message.number then with_row_of (changed k (held_on until)) (seen n part)
        else seen n part) next
        ∙ changed_if n message.number (changed receipt (held_on until)) (seen n part) (number_of_seen n part)

    twice : (s : Seen)
        → with_row_of (held_again until rest) (with_row_of first s)
        ≡ with_row_of (λ row. held_again until rest (first row)) s
    twice Unborn = refl
    twice (Stands row) = refl
    twice (Ended ending) = refl

-- what is sent has no number below the first one
pub sent-below : (m n number receipt : ℕ) (outputs : List Output) → n < number
    → sent m n number receipt outputs ≡ Unborn
sent-below m n number receipt [] low = refl
sent-below m n number receipt (outputs.Queue queue text ∷ more) low =
    let other : (number == n) ≡ false = grind (arith, nat_tests) in
    ap (λ b. if b then Stands (numbered number receipt (plain_message m queue text))
    else sent m n (number + 1) (receipt + 1) more) other
    ∙ sent-below m n (number + 1) (receipt + 1) more (omega (arith, low))
sent-below m n number receipt (outputs.Blob container blob text ∷ more) low = sent-below m n number receipt more low

-- the first, unless it is unborn
abbrev born_or : Seen → Seen → Seen
born_or Unborn s = s
born_or (Stands row) s = Stands row
born_or (Ended ending) s = Ended ending

counters-AddQueue : (part : QueuePart) (queue : List ℕ)
    → ((acted part (AddQueue queue)).next_number ≡ part.next_number)
    × ((acted part (AddQueue queue)).next_receipt ≡ part.next_receipt)
unfolding acted
counters-AddQueue part queue = (refl, refl)

counters-AddRow : (part : QueuePart) (new : NewMessage)
    → ((acted part (AddRow new)).next_number ≡ part.next_number + 1)
    × ((acted part (AddRow new)).next_receipt ≡ part.next_receipt + 1)
unfolding acted
counters-AddRow part new = (refl, refl)

-- each message that is sent comes, and the others stay
by_sends : (m n number receipt : ℕ) (outputs : List Output) (part : QueuePart) → IsWhole part
    → part.next_number ≡ number → part.next_receipt ≡ receipt
    → seen n (by_acts part (sends m outputs)) ≡ born_or (sent m n number receipt outputs) (seen n part)
by_sends m n number receipt [] part h next_number next_receipt = refl
by_sends m n number receipt (outputs.Queue queue text ∷ more) part h next_number next_receipt =
    by_sends m n (number + 1) (receipt + 1) more two whole (counters.0 ∙ ap (λ k. k + 1) (made.0 ∙ next_number))
    (counters.1 ∙ ap (λ k. k + 1) (made.1 ∙ next_receipt))
    ∙ ap (born_or (sent m n (number + 1) (receipt + 1) more)) step
    ∙ by_test (number == n) refl
  where
    new : NewMessage
    new = plain_message m queue text

    one : QueuePart
    one = acted part (AddQueue queue)

    two : QueuePart
    two = acted one (AddRow new)

    made : (one.next_number ≡ part.next_number) × (one.next_receipt ≡ part.next_receipt)
    made = counters-AddQueue part queue

    counters : (two.next_number ≡ one.next_number + 1) × (two.next_receipt ≡ one.next_receipt + 1)
    counters = counters-AddRow one new

    whole_one : IsWhole one
    whole_one = Whole-acted part (AddQueue queue) h refl

    whole : IsWhole two
    whole = Whole-acted one (AddRow new) whole_one refl

    step : seen n two ≡ (if n == number then Stands (numbered number receipt new) else seen n part)
    step =
        seen-AddRow n one new whole_one
        ∙ ap (λ k. if n == k then Stands (numbered k one.next_receipt new) else seen n one) (made.0 ∙ next_number)
        ∙ ap (λ r. if n == number then Stands (numbered number r new) else seen n one) (made.1 ∙ next_receipt)
        ∙ ap (λ s. if n == number then Stands (numbered number receipt new) else s) (seen-AddQueue n part queue)

    by_test : (same : Bool) → (number == n) ≡ same
        → born_or (sent m n (number + 1) (receipt + 1) more)
        (if n == number then Stands (numbered number receipt new) else seen n part)
        ≡ born_or (if number == n then Stands (numbered number receipt new)
        else sent m n (number + 1) (receipt + 1) more) (seen n part)
    by_test true is =
        let same : (n == number) ≡ true = grind (arith, nat_tests) in
        let none = sent-below m n (number + 1) (receipt + 1) more (grind (arith, nat_tests)) in
        ap (λ s. born_or s (if n == number then Stands (numbered number receipt new) else seen n part)) none
        ∙ ap (λ b. if b then Stands (numbered number receipt new) else seen n part) same
        ∙ ap (λ b. born_or
        (if b then Stands (numbered number receipt new) else sent m n (number + 1) (receipt + 1) more)
        (seen n part)) (sym is)
    by_test false is =
        let other : (n == number) ≡ false = grind (arith, nat_tests) in
        ap (λ b. born_or (sent m n (number + 1) (receipt + 1) more)
        (if b then Stands (numbered number receipt new) else seen n part)) other
        ∙ ap (λ b. born_or
        (if b then Stands (numbered number receipt new) else sent m n (number + 1) (receipt + 1) more)
        (seen n part)) (sym is)
by_sends m n number receipt (outputs.Blob container blob text ∷ more) part h next_number next_receipt =
    by_sends m n number receipt more part h next_number next_receipt

module _ (part : QueuePart) (m : ℕ) (h : IsWhole part) where
  abbrev pub swept : QueuePart
  swept = acted part (sweep m)

  seen-swept : (n : ℕ) → seen n swept ≡ ended_by (Dead m) Expired (seen n part)
  seen-swept n = seen-EndRows n part (Dead m) Expired h

  number_seen : (n : ℕ) (row : Message) → seen n part ≡ Stands row → row.number ≡ n
  number_seen n row is = number_of_seen n part row is

  -- a row that isn't live expires, and another one is this
  abbrev expires_or : Message → Seen → Seen
  expires_or row s = if is_dead m row then Ended Expired else s

  -- nothing but the sweep
  only_swept : (ask : Ask) (answer : QueueDone) (n : ℕ) → newly part m ask answer n ≡ Unborn
      → ((row : Message) → goes_on part m ask answer n (Stands row) ≡ expires_or row (Stands row)) → (s : Seen)
      → ended_by (Dead m) Expired s ≡ goes_on part m ask answer n s
  only_swept ask answer n none same Unborn = sym none
  only_swept ask answer n none same (Stands row) = sym (same row)
  only_swept ask answer n none same (Ended ending) = refl

  put_goes : (queue : List ℕ) (delay : ℕ) (ttl : Option ℕ) (text : List ℕ) (about : Option About) (n : ℕ)
      → seen n (acted swept (AddRow (new_message m queue delay ttl text about)))
      ≡ goes_on part m (Put queue delay ttl text about) (done.Stored part.next_number part.next_receipt) n (seen n part)
  put_goes queue delay ttl text about n =
      let counters = counters-sweep part m in
      seen-AddRow n swept new (Whole-sweep part m h)
      ∙ ap (λ k. if n == k then Stands (numbered k swept.next_receipt new) else seen n swept) counters.0
      ∙ ap (λ r. if n == part.next_number then Stands (numbered part.next_number r new) else seen n swept) counters.1
      ∙ ap (λ s. if n == part.next_number then Stands row else s) (seen-swept n)
      ∙ by_test (n == part.next_number) refl
    where
      new : NewMessage
      new = new_message m queue delay ttl text about

      row : Message
      row = numbered part.next_number part.next_receipt new

      by_test : (same : Bool) → (n == part.next_number) ≡ same
          → (if same then Stands row else ended_by (Dead m) Expired (seen n part))
          ≡ goes_on part m (Put queue delay ttl text about) (done.Stored part.next_number part.next_receipt) n
          (seen n part)
      by_test true is =
          let same : (part.next_number == n) ≡ true = grind (arith, nat_tests) in
          let past : part.next_number ≤ n = grind (arith, nat_tests) in
          sym (ap (goes_on part m (Put queue delay ttl text about) (done.Stored part.next_number part.next_receipt) n)
          (seen-new part h n past) ∙ ap (λ b. stands_if b row) same)
      by_test false is =
          let other : (part.next_number == n) ≡ false = grind (arith, nat_tests) in
          only_swept (Put queue delay ttl text about) (done.Stored part.next_number part.next_receipt) n
          (ap (λ b. stands_if b row) other) (λ row. refl) (seen n part)

  -- rows change, and nothing else happens
  changed_goes : (ask : Ask) (answer : QueueDone) (anew : Message → Message) (n : ℕ)
      → newly part m ask answer n ≡ Unborn
      → ((row : Message) → goes_on part m ask answer n (Stands row) ≡ expires_or row (Stands (anew row)))
      → (s : Seen) → with_row_of anew (ended_by (Dead m) Expired s) ≡ goes_on part m ask answer n s
  changed_goes ask answer anew n none same Unborn = sym none
  changed_goes ask answer anew n none same (Stands row) = by_test (is_dead m row) ∙ sym (same row)
    where
      by_test : (dead : Bool)
          → with_row_of anew (if dead then Ended Expired else Stands row)
          ≡ (if dead then Ended Expired else Stands (anew row))
      by_test true = refl
      by_test false = refl
  changed_goes ask answer anew n none same (Ended ending) = refl

  -- the row of one number changes
  one_changes : (number : ℕ) (change : RowChange) (n : ℕ) → seen n (acted swept (ChangeRow number change))
      ≡ with_row_of (λ row. if row.number == number then changed part.next_receipt change row else row)
      (ended_by (Dead m) Expired (seen n part))
  one_changes number change n =
      seen-ChangeRow n swept number change
      ∙ ap (λ k. if n == number then with_row_of (changed k change) (seen n swept) else seen n swept)
      (counters-sweep part m).1
      ∙ changed_if n number (changed part.next_receipt change) (seen n swept) (number_of_seen n swept)
      ∙ ap (with_row_of (λ row. if row.number == number then changed part.next_receipt change row else row))
      (seen-swept n)

  update_goes : (queue : List ℕ) (number receipt seconds : ℕ) (text : Option (List ℕ)) (n : ℕ)
      → seen n (acted swept (ChangeRow number (renewal (after m seconds) text)))
      ≡ goes_on part m (Update queue number receipt seconds text) (done.Updated part.next_receipt) n (seen n part)
  update_goes queue number receipt seconds text n =
      one_changes number (renewal (after m seconds) text) n
      ∙ changed_goes (Update queue number receipt seconds text) (done.Updated part.next_receipt) _ n refl (λ row. refl)
      (seen n part)

  release_goes : (message : HeldMessage) (delay n : ℕ)
      → seen n (acted swept (ChangeRow message.number (freed (after m delay))))
      ≡ goes_on part m (Release message delay) (done.Released part.next_receipt (after m delay)) n (seen n part)
  release_goes message delay n =
      one_changes message.number (freed (after m delay)) n
      ∙ changed_goes (Release message delay) (done.Released part.next_receipt (after m delay)) _ n refl (λ row. refl)
      (seen n part)

  renew_goes : (messages : List HeldMessage) (seconds n : ℕ)
      → seen n (by_acts swept (map (holding_on (after m seconds)) messages))
      ≡ goes_on part m (Renew messages seconds) (done.Renewed (renewed part.next_receipt messages)) n (seen n part)
  renew_goes messages seconds n =
      by_renewals n (after m seconds) part.next_receipt messages swept (counters-sweep part m).1
      ∙ ap (with_row_of (held_again (after m seconds) (renewed part.next_receipt messages))) (seen-swept n)
      ∙ changed_goes (Renew messages seconds) (done.Renewed (renewed part.next_receipt messages)) _ n refl (λ row. refl)
      (seen n part)

  -- how rows end beside those that aren't live
  abbrev ended_rows : (Message → Option Ending) → Seen → Seen
  ended_rows gone Unborn = Unborn
  ended_rows gone (Stands row) = expires_or row (ended_or (gone row) (Stands row))
  ended_rows gone (Ended ending) = Ended ending

  -- those of one test end so
  which_end : (which : Which) (ending : Ending) (n : ℕ)
      → seen n (acted swept (EndRows which ending))
      ≡ ended_rows (λ row. ended_if (is_one which row) ending) (seen n part)
  which_end which ending n =
      seen-EndRows n swept which ending (Whole-sweep part m h) ∙ ap (ended_by which ending) (seen-swept n)
      ∙ by_seen (seen n part)
    where
      by_tests : (row : Message) (dead out : Bool) → is_one which row ≡ out
          → ended_by which ending (if dead then Ended Expired else Stands row)
          ≡ (if dead then Ended Expired else ended_or (ended_if out ending) (Stands row))
      by_tests row true out is = refl
      by_tests row false true is = ap (λ b. if b then Ended ending else Stands row) is
      by_tests row false false is = ap (λ b. if b then Ended ending else Stands row) is

      by_seen : (s : Seen)
          → ended_by which ending (ended_by (Dead m) Expired s)
          ≡ ended_rows (λ row. ended_if (is_one which row) ending) s
      by_seen Unborn = refl
      by_seen (Stands row) = by_tests row (is_dead m row) (is_one which row) refl
      by_seen (Ended end) = refl

  ended_goes : (ask : Ask) (answer : QueueDone) (gone : Message → Option Ending) (n : ℕ)
      → newly part m ask answer n ≡ Unborn
      → ((row : Message) → goes_on part m ask answer n (Stands row) ≡ expires_or row (ended_or (gone row) (Stands row)))
      → (s : Seen) → ended_rows gone s ≡ goes_on part m ask answer n s
  ended_goes ask answer gone n none same Unborn = sym none
  ended_goes ask answer gone n none same (Stands row) = sym (same row)
  ended_goes ask answer gone n none same (Ended ending) = refl

  delete_goes : (queue : List ℕ) (number receipt n : ℕ)
      → seen n (acted swept (EndRows (Numbered number) Deleted))
      ≡ goes_on part m (Delete queue number receipt) done.Deleted n (seen n part)
  delete_goes queue number receipt n = which_end (Numbered number) Deleted n
      ∙ ended_goes (Delete queue number receipt) done.Deleted _ n refl (λ row. refl) (seen n part)

  clear_goes : (queue : List ℕ) (count n : ℕ)
      → seen n (acted swept (EndRows (InQueue queue) Deleted))
      ≡ goes_on part m (Clear queue) (done.Cleared count) n (seen n part)
  clear_goes queue count n = which_end (InQueue queue) Deleted n
      ∙ ended_goes (Clear queue) (done.Cleared count) _ n refl (λ row. refl) (seen n part)

  -- messages are sent, behind the end of some
  sent_goes : (ended : QueuePart) (gone : Message → Option Ending) (outputs : List Output) (ask : Ask)
      (answer : QueueDone) → IsWhole ended
      → ended.next_number ≡ part.next_number → ended.next_receipt ≡ part.next_receipt
      → ((n : ℕ) → seen n ended ≡ ended_rows gone (seen n part))
      → ((n : ℕ) → newly part m ask answer n ≡ sent m n part.next_number part.next_receipt outputs)
      → ((n : ℕ) (row : Message)
      → goes_on part m ask answer n (Stands row) ≡ expires_or row (ended_or (gone row) (Stands row)))
      → (n : ℕ) → seen n (by_acts ended (sends m outputs)) ≡ goes_on part m ask answer n (seen n part)
  sent_goes ended gone outputs ask answer whole same_number same_receipt ends_so comes stands_so n =
      by_sends m n part.next_number part.next_receipt outputs ended whole same_number same_receipt
      ∙ ap (born_or (sent m n part.next_number part.next_receipt outputs)) (ends_so n)
      ∙ by_seen (seen n part) refl
    where
      -- a number that was given isn't sent
      old : (s : Seen) → seen n part ≡ s → (s ≡ Unborn → ⊥)
          → sent m n part.next_number part.next_receipt outputs ≡ Unborn
      old s is there = by_test (nat_lt n part.next_number) refl
        where
          by_test : (low : Bool) → nat_lt n part.next_number ≡ low
              → sent m n part.next_number part.next_receipt outputs ≡ Unborn
          by_test true low = sent-below m n part.next_number part.next_receipt outputs (grind (arith, nat_tests))
          by_test false low = absurd (there (sym is ∙ seen-new part h n (grind (arith, nat_tests))))

      alone : (s : Seen) → born_or s Unborn ≡ s
      alone Unborn = refl
      alone (Stands row) = refl
      alone (Ended ending) = refl

      by_seen : (s : Seen) → seen n part ≡ s
          → born_or (sent m n part.next_number part.next_receipt outputs) (ended_rows gone s)
          ≡ goes_on part m ask answer n s
      by_seen Unborn is = alone (sent m n part.next_number part.next_receipt outputs) ∙ sym (comes n)
      by_seen (Stands row) is = ap (λ s. born_or s (ended_rows gone (Stands row))) (old (Stands row) is (λ none. cc))
          ∙ sym (stands_so n row)
      by_seen (Ended ending) is = ap (λ s. born_or s (Ended ending)) (old (Ended ending) is (λ none. cc))

  -- the message of this number ends, and then messages are sent
  numbered_goes : (number : ℕ) (ending : Ending) (outputs : List Output) (ask : Ask) (answer : QueueDone)
      → ((n : ℕ) → newly part m ask answer n ≡ sent m n part.next_number part.next_receipt outputs)
      → ((n : ℕ) (row : Message)
      → goes_on part m ask answer n (Stands row)
      ≡ expires_or row (ended_or (ended_if (row.number == number) ending) (Stands row)))
      → (n : ℕ) → seen n (by_acts (acted swept (EndRows (Numbered number) ending)) (sends m outputs))
      ≡ goes_on part m ask answer n (seen n part)
  numbered_goes number ending outputs ask answer comes stands_so =
      let counters = counters-sweep part m in
      let same = counters-EndRows swept (Numbered number) ending in
      sent_goes (acted swept (EndRows (Numbered number) ending))
      (λ row. ended_if (row.number == number) ending) outputs ask answer
      (Whole-acted swept (EndRows (Numbered number) ending) (Whole-sweep part m h) refl) (same.0 ∙ counters.0)
      (same.1 ∙ counters.1)
      (which_end (Numbered number) ending) comes stands_so

  complete_goes : (invocation : ℕ) (message : Option HeldMessage) (outputs : List Output) (n : ℕ)
      → seen n (by_acts swept (end_job invocation message ++ sends m outputs))
      ≡ goes_on part m (Complete invocation message outputs)
      (done.Completed part.next_number part.next_receipt (count_sent outputs)) n (seen n part)
  complete_goes invocation None outputs n =
      let counters = counters-sweep part m in
      sent_goes swept (λ row. None) outputs (Complete invocation None outputs)
      (done.Completed part.next_number part.next_receipt (count_sent outputs))
      (Whole-sweep part m h) counters.0 counters.1
      (λ k. seen-swept k ∙ by_seen (seen k part)) (λ k. refl) (λ k row. refl) n
    where
      by_seen : (s : Seen) → ended_by (Dead m) Expired s ≡ ended_rows (λ row. None) s
      by_seen Unborn = refl
      by_seen (Stands row) = refl
      by_seen (Ended ending) = refl
  complete_goes invocation (Some message) outputs n =
      numbered_goes message.number (Completed invocation) outputs (Complete invocation (Some message) outputs)
      (done.Completed part.next_number part.next_receipt (count_sent outputs))
      (λ k. refl) (λ k row. ap (λ b. expires_or row (ended_or (ended_if b (Completed invocation)) (Stands row)))
      (same_number message.number row.number)) n

  poison_goes : (message : HeldMessage) (queue : List ℕ) (n : ℕ)
      → seen n (by_acts swept (move part.next_number m message queue (text_of (live_row message.number m part.rows))))
      ≡ goes_on part m (Poison message queue) (done.Poisoned part.next_number part.next_receipt) n (seen n part)
  poison_goes message queue n =
      let text = text_of (live_row message.number m part.rows) in
      numbered_goes message.number (Moved part.next_number) (outputs.Queue queue text ∷ []) (Poison message queue)
      (done.Poisoned part.next_number part.next_receipt)
      (λ k. refl) (λ k row. ap (λ b. expires_or row (ended_or (ended_if b (Moved part.next_number)) (Stands row)))
      (same_number message.number row.number)) n

  take_goes : (queue : List ℕ) (count seconds n : ℕ)
      → seen n (by_acts swept (map (hold (after m seconds)) (listed part m queue count)))
      ≡ goes_on part m (Take queue count seconds) (done.Taken (listed part m queue count)) n (seen n part)
  take_goes queue count seconds n =
      by_holds n (after m seconds) 0 part.next_receipt (chosen part m queue count) swept (counters-sweep part m).1
      (are_rising-take 0 count (visible queue m part.rows)
      (are_rising-filter 0 (is_visible queue m) part.rows h.rising))
      ∙ ap (with_row_of (held (item_of n (listed part m queue count)))) (seen-swept n)
      ∙ by_seen (seen n part) refl
    where
      held : Option Item → Message → Message
      held item = held_by (after m seconds) item

      by_test : (row : Message) (dead : Bool) (change : Message → Message)
          → with_row_of change (if dead then Ended Expired else Stands row)
          ≡ (if dead then Ended Expired else Stands (change row))
      by_test row true change = refl
      by_test row false change = refl

      by_seen : (s : Seen) → seen n part ≡ s
          → with_row_of (held (item_of n (listed part m queue count))) (ended_by (Dead m) Expired s)
          ≡ goes_on part m (Take queue count seconds) (done.Taken (listed part m queue count)) n s
      by_seen Unborn is = refl
      by_seen (Stands row) is =
          by_test row (is_dead m row) (held (item_of n (listed part m queue count)))
          ∙ ap (λ k. expires_or row (Stands (held (item_of k (listed part m queue count)) row)))
          (sym (number_seen n row is))
      by_seen (Ended ending) is = refl

  pub goings : Ways
      (λ ask acts answer. (n : ℕ) → seen n (by_acts swept acts) ≡ goes_on part m ask answer n (seen n part)) part m
  goings = record {
    makes = λ queue n. seen-AddQueue n swept queue ∙ seen-swept n
        ∙ only_swept (Make queue) done.Made n refl (λ row. refl) (seen n part);
    puts = λ queue delay ttl text about short n. put_goes queue delay ttl text about n;
    takes = λ queue count seconds less n. take_goes queue count seconds n;
    updates = λ queue number receipt seconds text short named n. update_goes queue number receipt seconds text n;
    deletes = λ queue number receipt named n. delete_goes queue number receipt n;
    clears = λ queue n. clear_goes queue (length (rows_of queue (live m part.rows))) n;
    releases = λ message delay held n. release_goes message delay n;
    renews = λ messages seconds held n. renew_goes messages seconds n;
    completes = λ invocation message outputs job short n. complete_goes invocation message outputs n;
    poisons = λ message queue held n. poison_goes message queue n;
    sweeps = λ n. seen-swept n ∙ only_swept Sweep done.Swept n refl (λ row. refl) (seen n part);
  }
