-- A message is changed only by who has its newest receipt, and its receipt only rises.
use Rattle.std.proofs.Common.{◌≡◌, ℕ, ◌+◌, ◌≤◌, ◌<◌, Bool, true, false, not, inl, inr, List, [], ◌∷◌, Option, Some, None, refl, sym, ◌∙◌, ap, subst, arith}
use Rattle.std.specs.Prelude.{◌&&◌, ◌==◌, if◌then◌else◌, is_some}
use Rattle.std.specs.List.{list_any}
use Rattle.std.proofs.lemmas.Bool.Decides.{nat_tests}
use Rattle.fh_event.specs.declared.reply.Item.{Item}
use Rattle.fh_queues.specs.declared.held.HeldMessage.{HeldMessage}
use Rattle.fh_queues.specs.declared.done.Ending.{Ending}
use Rattle.fh_queues.specs.declared.row.Message.{Message}
use Rattle.fh_queues.specs.declared.done.QueueDone.{QueueDone}
use Rattle.fh_queues.specs.declared.done.Ending.TheVariants.{Deleted, Completed, Moved, Expired}
use Rattle.fh_queues.specs.Asks.{Ask}
use Rattle.fh_queues.specs.Rows.{is_of, is_live, is_dead, is_visible, row_of, row_in}
use Rattle.fh_queues.specs.Order.{are_rising}
use Rattle.fh_queues.specs.Part.{QueuePart}
use Rattle.fh_queues.specs.Acts.{changed}
use Rattle.fh_queues.specs.Jobs.{freed, held_on, renewed}
use Rattle.fh_queues.specs.Outcome.{after, renewal}
use Rattle.fh_queues.specs.Receipts.{item_of, is_named, is_held_as, is_job_of, touches, Rises}
use Rattle.fh_queues.specs.Seen.{Stands, Ended}
use Rattle.fh_queues.specs.Whole.{is_counted, IsWhole}
use Rattle.fh_queues.specs.Goings.{held_by, held_again, answered, names, ended_if, ends, ended_or, goes_on}
use Rattle.fh_queues.proofs.Finding.{all_row_of, live_row-found}
use Rattle.fh_queues.proofs.Goings.{same_number}
use Rattle.fh_queues.proofs.Takes.{taken}
use Rattle.fh_queues.proofs.Ways.{IsNamed, IsHeld, AreHeld, IsJob, Ways, listed}

-- rows above a number don't have it, in any queue
pub row_in-above : (queue : List ℕ) (n m low : ℕ) (rows : List Message) → n ≤ low → are_rising low rows ≡ true
    → row_in queue n m rows ≡ None
row_in-above queue n m low [] less rising = refl
row_in-above queue n m low (row ∷ rows) less rising = grind (arith, nat_tests, row_in-above queue n m row.number rows)

-- the row of a number that is found by its queue too
row_in_is : (queue : List ℕ) (n m low : ℕ) (rows : List Message) (row found : Message) → are_rising low rows ≡ true
    → row_of n rows ≡ Some row → row_in queue n m rows ≡ Some found → found ≡ row
row_in_is queue n m low [] row found rising is other = absurd (cc)
row_in_is queue n m low (r ∷ rows) row found rising is other =
    grind (arith, nat_tests, row_in-above queue n m r.number rows, row_in_is queue n m r.number rows row found)

is_of-row_in : (queue : List ℕ) (n m : ℕ) (rows : List Message) (found : Message) → row_in queue n m rows ≡ Some found
    → is_of queue found ≡ true
is_of-row_in queue n m [] found is = absurd (cc)
is_of-row_in queue n m (r ∷ rows) found is = grind (arith, nat_tests, is_of-row_in queue n m rows found)

module _ (part : QueuePart) (m : ℕ) (h : IsWhole part) where
  -- the named message is another one, where this one isn't named with its newest receipt
  unnamed : (queue : List ℕ) (number receipt : ℕ) (row : Message) → IsNamed part m queue number receipt
      → row_of row.number part.rows ≡ Some row → is_named queue number receipt row ≡ false
      → (row.number == number) ≡ false
  unnamed queue number receipt row named found untouched = by_test (row.number == number) refl
    where
      all_three : (a b c : Bool) → a ≡ true → b ≡ true → c ≡ true → (a && b && c) ≡ false → ⊥
      all_three a b c x y z fails = grind (arith, nat_tests)

      by_test : (same : Bool) → (row.number == number) ≡ same → same ≡ false
      by_test false is = refl
      by_test true is =
          let same : number ≡ row.number = grind (arith, nat_tests) in
          let there : row_in queue row.number m part.rows ≡ Some named.row =
          subst (λ (n : ℕ). row_in queue n m part.rows ≡ Some named.row) same named.stands in
          let its : named.row ≡ row = row_in_is queue row.number m 0 part.rows row named.row h.rising found there in
          let mine : is_of queue row ≡ true =
          subst (λ (r : Message). is_of queue r ≡ true) its
          (is_of-row_in queue row.number m part.rows named.row there) in
          let newest : row.receipt ≡ receipt = subst (λ (r : Message). r.receipt ≡ receipt) its named.newest in
          absurd (all_three (is_of queue row) (row.number == number) (row.receipt == receipt) mine is
          (grind (arith, nat_tests)) untouched)

  -- a row that is listed is a visible one of the queue
  unlisted : (queue : List ℕ) (count : ℕ) (row : Message) → row_of row.number part.rows ≡ Some row
      → (is_visible queue m row && is_some (item_of row.number (listed part m queue count))) ≡ false
      → item_of row.number (listed part m queue count) ≡ None
  unlisted queue count row found untouched = by_item (item_of row.number (listed part m queue count)) refl
    where
      by_item : (item : Option Item) → item_of row.number (listed part m queue count) ≡ item → item ≡ None
      by_item None is = refl
      by_item (Some item) is =
          let from = taken part m queue count row.number item h.rising is in
          let its : row_of row.number part.rows ≡ Some from.from.row =
          subst (λ (k : ℕ). row_of k part.rows ≡ Some from.from.row) from.number from.from.stands in
          let same : from.from.row ≡ row = cc in
          let seen : is_visible queue m row ≡ true =
          subst (λ (r : Message). is_visible queue m r ≡ true) same from.from.visible in
          absurd (both (is_visible queue m row) (item_of row.number (listed part m queue count)) seen is untouched)
        where
          both : (a : Bool) (found : Option Item) → a ≡ true → found ≡ Some item → (a && is_some found) ≡ false → ⊥
          both a found x y fails = let some : is_some found ≡ true = ap is_some y in grind (arith, nat_tests)

  -- a held message is another one, where this one isn't named with its newest receipt
  unheld : (message : HeldMessage) (row : Message) → IsHeld part m message → row_of row.number part.rows ≡ Some row
      → is_held_as message row ≡ false → (row.number == message.number) ≡ false
  unheld message row held found untouched = by_test (row.number == message.number) refl
    where
      both : (a b : Bool) → a ≡ true → b ≡ true → (a && b) ≡ false → ⊥
      both a b x y fails = grind (arith, nat_tests)

      by_test : (same : Bool) → (row.number == message.number) ≡ same → same ≡ false
      by_test false is = refl
      by_test true is =
          let same : message.number ≡ row.number = grind (arith, nat_tests) in
          let there = (live_row-found message.number m part.rows held.row h.rising held.stands).0 in
          let here : row_of row.number part.rows ≡ Some held.row =
          subst (λ (n : ℕ). row_of n part.rows ≡ Some held.row) same there in
          let its : held.row ≡ row = cc in
          let newest : row.receipt ≡ message.receipt =
          subst (λ (r : Message). r.receipt ≡ message.receipt) its held.newest in
          absurd (both (row.number == message.number) (row.receipt == message.receipt) is
          (grind (arith, nat_tests)) untouched)

  -- so it isn't held on
  unrenewed : (until receipt : ℕ) (messages : List HeldMessage) (row : Message) → AreHeld part m messages
      → row_of row.number part.rows ≡ Some row → list_any (λ message. is_held_as message row) messages ≡ false
      → held_again until (renewed receipt messages) row ≡ row
  unrenewed until receipt [] row held found untouched = refl
  unrenewed until receipt (message ∷ messages) row held found untouched =
      let here : is_held_as message row ≡ false = grind (arith, nat_tests) in
      let rest : list_any (λ x. is_held_as x row) messages ≡ false = grind (arith, nat_tests) in
      ap (λ b. held_again until (renewed (receipt + 1) messages)
      (if b then changed receipt (held_on until) row else row))
      (unheld message row held.0 found here)
      ∙ unrenewed until (receipt + 1) messages row held.1 found rest

  uncompleted : (invocation : ℕ) (message : Option HeldMessage) (row : Message) → IsJob part m message
      → row_of row.number part.rows ≡ Some row → is_job_of message row ≡ false
      → ended_if (names message row.number) (Completed invocation) ≡ None
  uncompleted invocation None row job found untouched = refl
  uncompleted invocation (Some message) row job found untouched =
      let other = unheld message row job found untouched in
      ap (λ b. ended_if b (Completed invocation)) (same_number message.number row.number ∙ other)

  -- a live row that an ask doesn't touch stands unchanged
  abbrev pub Stays : Ask → QueueDone → Type 0
  Stays ask answer =
      (row : Message) → row_of row.number part.rows ≡ Some row → touches m ask answer row ≡ false
      → (ends ask answer row ≡ None) × (answered m ask answer row ≡ row)

  pub stays : Ways (λ ask acts answer. Stays ask answer) part m
  stays = record {
    makes = λ queue row found untouched. (refl, refl);
    puts = λ queue delay ttl text about short row found untouched. (refl, refl);
    takes = λ queue count seconds less row found untouched.
        (refl, ap (λ item. held_by (after m seconds) item row) (unlisted queue count row found untouched));
    updates = λ queue number receipt seconds text short named row found untouched. (
      refl,
      ap (λ b. if b then changed part.next_receipt (renewal (after m seconds) text) row else row)
          (unnamed queue number receipt row named found untouched),
    );
    deletes = λ queue number receipt named row found untouched.
        (ap (λ b. ended_if b Deleted) (unnamed queue number receipt row named found untouched), refl);
    clears = λ queue row found untouched. (ap (λ b. ended_if b Deleted) untouched, refl);
    releases = λ message delay held row found untouched. (
      refl,
      ap (λ b. if b then changed part.next_receipt (freed (after m delay)) row else row)
          (unheld message row held found untouched),
    );
    renews = λ messages seconds held row found untouched.
        (refl, unrenewed (after m seconds) part.next_receipt messages row held found untouched);
    completes = λ invocation message outputs job short row found untouched.
        (uncompleted invocation message row job found untouched, refl);
    poisons = λ message queue held row found untouched. (
      ap (λ b. ended_if b (Moved part.next_number))
          (same_number message.number row.number ∙ unheld message row held found untouched),
      refl,
    );
    sweeps = λ row found untouched. (refl, refl);
  }

  pub untouched_stands : (ask : Ask) (answer : QueueDone) (row : Message) → Stays ask answer
      → row_of row.number part.rows ≡ Some row → is_live m row ≡ true → touches m ask answer row ≡ false
      → goes_on part m ask answer row.number (Stands row) ≡ Stands row
  untouched_stands ask answer row stays found alive untouched =
      let both = stays row found untouched in
      ap (λ b. if not b then Ended Expired
      else ended_or (ends ask answer row) (Stands (answered m ask answer row))) alive
      ∙ ap (λ end. ended_or end (Stands (answered m ask answer row))) both.0
      ∙ ap (λ (r : Message). Stands r) both.1

  -- a row's receipt was given out
  below : (n : ℕ) (row : Message) → row_of n part.rows ≡ Some row → row.receipt < part.next_receipt
  below n row found =
      let is : is_counted part.next_receipt row ≡ true =
      all_row_of (is_counted part.next_receipt) n part.rows row h.counted found in
      grind (arith, nat_tests)

  held_rises : (until : ℕ) (item : Option Item) (row : Message) → ((i : Item) → item ≡ Some i → row.receipt < i.receipt)
      → Rises row (held_by until item row)
  held_rises until None row newer = inl refl
  held_rises until (Some item) row newer = inr (newer item refl)

  updated_rises : (until next : ℕ) (text : Option (List ℕ)) (row : Message) (same : Bool) → row.receipt < next
      → Rises row (if same then changed next (renewal until text) row else row)
  updated_rises until next text row true newer = inr newer
  updated_rises until next text row false newer = inl refl

  freed_rises : (at next : ℕ) (row : Message) (same : Bool) → row.receipt < next
      → Rises row (if same then changed next (freed at) row else row)
  freed_rises at next row true newer = inr newer
  freed_rises at next row false newer = inl refl

  -- each time that it is held on, its receipt rises
  renewed_rises : (until next : ℕ) (messages : List HeldMessage) (row : Message) → row.receipt < next
      → Rises row (held_again until (renewed next messages) row)
  renewed_rises until next [] row newer = inl refl
  renewed_rises until next (message ∷ messages) row newer =
      by_test (row.number == message.number) (λ r less. renewed_rises until (next + 1) messages r less)
    where
      later : (row anew last : Message) → row.receipt < anew.receipt → Rises anew last → Rises row last
      later row anew last first (inl same) = inr (subst (λ (r : Message). row.receipt < r.receipt) (sym same) first)
      later row anew last first (inr more) = inr (omega (arith, first, more))

      by_test : (same : Bool)
          → ((r : Message) → r.receipt < next + 1 → Rises r (held_again until (renewed (next + 1) messages) r))
          → Rises row (held_again until (renewed (next + 1) messages)
          (if same then changed next (held_on until) row else row))
      by_test true rest =
          let anew : Message = changed next (held_on until) row in
          later row anew (held_again until (renewed (next + 1) messages) anew) newer (rest anew (omega arith))
      by_test false rest = rest row (omega (arith, newer))

  abbrev pub RaisesIt : Ask → QueueDone → Type 0
  RaisesIt ask answer = (n : ℕ) (row : Message) → row_of n part.rows ≡ Some row → Rises row (answered m ask answer row)

  pub raises : Ways (λ ask acts answer. RaisesIt ask answer) part m
  raises = record {
    makes = λ queue n row found. inl refl;
    puts = λ queue delay ttl text about short n row found. inl refl;
    takes = λ queue count seconds less n row found.
        held_rises (after m seconds) (item_of row.number (listed part m queue count)) row
        (λ item is. omega (arith, below n row found, (taken part m queue count row.number item h.rising is).newer));
    updates = λ queue number receipt seconds text short named n row found. updated_rises
        (after m seconds) part.next_receipt text row (row.number == number) (below n row found);
    deletes = λ queue number receipt named n row found. inl refl;
    clears = λ queue n row found. inl refl;
    releases = λ message delay held n row found. freed_rises (after m delay) part.next_receipt row
        (row.number == message.number) (below n row found);
    renews = λ messages seconds held n row found. renewed_rises (after m seconds) part.next_receipt messages row
        (below n row found);
    completes = λ invocation message outputs job short n row found. inl refl;
    poisons = λ message queue held n row found. inl refl;
    sweeps = λ n row found. inl refl;
  }

  pub rises_by : (ask : Ask) (answer : QueueDone) (n : ℕ) (before later : Message) → RaisesIt ask answer
      → row_of n part.rows ≡ Some before → goes_on part m ask answer n (Stands before) ≡ Stands later
      → Rises before later
  rises_by ask answer n before later rises found goes = by_tests (is_dead m before) (ends ask answer before) goes
    where
      by_tests : (dead : Bool) (end : Option Ending)
          → (if dead then Ended Expired else ended_or end (Stands (answered m ask answer before))) ≡ Stands later
          → Rises before later
      by_tests true end is = absurd (cc)
      by_tests false (Some end) is = absurd (cc)
      by_tests false None is = let same : answered m ask answer before ≡ later = cc in
          subst (λ (r : Message). Rises before r) same (rises n before found)
