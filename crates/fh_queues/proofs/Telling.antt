-- What asks and answers tell of messages is what becomes of their rows.
use Rattle.std.proofs.Common.{◌≡◌, ℕ, ◌+◌, Bool, true, false, ◌⊎◌, inl, inr, List, [], ◌∷◌, Option, Some, None, is_some, refl, sym, ◌∙◌, ap, subst, arith}
use Rattle.std.specs.Prelude.{◌==◌, ◌&&◌, if◌then◌else◌}
use Rattle.std.specs.List.{list_any}
use Rattle.std.proofs.lemmas.Bool.Decides.{nat_tests}
use Rattle.fh_event.specs.declared.outcome.Output.{Output}
use Rattle.fh_event.specs.declared.outcome.Output.TheVariants as outputs
use Rattle.fh_event.specs.declared.reply.Item.{Item}
use Rattle.fh_queues.specs.declared.held.HeldMessage.{HeldMessage}
use Rattle.fh_queues.specs.declared.row.Message.{Message}
use Rattle.fh_event.specs.declared.begun.About.{About}
use Rattle.fh_queues.specs.declared.done.QueueDone.{QueueDone}
use Rattle.fh_queues.specs.declared.done.QueueDone.TheVariants as done
use Rattle.fh_queues.specs.declared.done.Ending.TheVariants.{Deleted, Completed, Moved}
use Rattle.fh_queues.specs.Asks.{Ask, Put, Take, Update, Release, Renew, Complete, Poison}
use Rattle.fh_queues.specs.Rows.{is_of, is_live, row_in, row_of, live_row}
use Rattle.fh_queues.specs.Order.{are_rising}
use Rattle.fh_queues.specs.Part.{QueuePart}
use Rattle.fh_queues.specs.Acts.{numbered, changed}
use Rattle.fh_queues.specs.Jobs.{freed, held_on, renewed, plain_message, count_sent, text_of}
use Rattle.fh_queues.specs.Outcome.{after, new_message, renewal}
use Rattle.fh_queues.specs.Receipts.{is_among, item_of, born}
use Rattle.fh_queues.specs.Seen.{Unborn, Stands}
use Rattle.fh_queues.specs.Whole.{IsWhole}
use Rattle.fh_queues.specs.Goings.{held_by, held_again, names, ended_if, stands_if, sent, newly}
use Rattle.fh_queues.specs.Tellings.{lists, queue_sent, Untold, held_if, freed_if, held_after, own_hold, hold_given, removes, moves, is_removal, is_move, IsUntold, IsNew, IsSame, IsPassedOver, TellsOfMessages}
use Rattle.fh_queues.specs.Laws.{OfEachAsk}
use Rattle.fh_queues.proofs.Finding.{row_of-number, live_row-found}
use Rattle.fh_queues.proofs.Guards.{row_in-above}
use Rattle.fh_queues.proofs.Takes.{taken}
use Rattle.fh_queues.proofs.Ways.{IsNamed, IsHeld, AreHeld, IsJob, Ways, listed, by_ways}

pub is_some-item_of : (n : ℕ) (items : List Item) → is_some (item_of n items) ≡ lists n items
is_some-item_of n [] = refl
is_some-item_of n (item ∷ items) = grind (arith, nat_tests, is_some-item_of n items)

-- a live row that is found in its queue is the row of its number
row_of-row_in : (queue : List ℕ) (n m low : ℕ) (rows : List Message) (row : Message) → are_rising low rows ≡ true
    → row_in queue n m rows ≡ Some row → row_of n rows ≡ Some row
row_of-row_in queue n m low [] row rising found = absurd (cc)
row_of-row_in queue n m low (r ∷ rows) row rising found =
    grind (arith, nat_tests, row_in-above queue n m r.number rows, row_of-row_in queue n m r.number rows row)

-- the row of a number is found in its queue where it is live
row_in-row_of : (queue : List ℕ) (n m low : ℕ) (rows : List Message) (row : Message) → are_rising low rows ≡ true
    → row_of n rows ≡ Some row → is_some (row_in queue n m rows) ≡ (is_of queue row && is_live m row)
row_in-row_of queue n m low [] row rising found = absurd (cc)
row_in-row_of queue n m low (r ∷ rows) row rising found =
    grind (arith, nat_tests, row_in-above queue n m r.number rows, row_in-row_of queue n m r.number rows row)

row_in-none : (queue : List ℕ) (n m : ℕ) (rows : List Message) → row_of n rows ≡ None → row_in queue n m rows ≡ None
row_in-none queue n m [] none = refl
row_in-none queue n m (r ∷ rows) none = grind (arith, nat_tests, row_in-none queue n m rows)

live-row_in : (queue : List ℕ) (n m : ℕ) (rows : List Message) (row : Message) → row_in queue n m rows ≡ Some row
    → is_live m row ≡ true
live-row_in queue n m [] row found = absurd (cc)
live-row_in queue n m (r ∷ rows) row found = grind (arith, nat_tests, live-row_in queue n m rows row)

module _ (part : QueuePart) (m : ℕ) (h : IsWhole part) where
  -- a message is new, or nothing is told of its number
  abbrev New : ℕ → Ask → QueueDone → Type 0
  New n ask answer = IsUntold part n m ask answer ⊎ ((row : Message) × IsNew part n m ask answer row)

  nothing_new : (ask : Ask) (answer : QueueDone) (n : ℕ) → newly part m ask answer n ≡ Unborn → born n answer ≡ false
      → New n ask answer
  nothing_new ask answer n none unborn = inl (record { comes = none; born = unborn })

  put_new : (queue : List ℕ) (delay : ℕ) (ttl : Option ℕ) (text : List ℕ) (about : Option About) (n number receipt : ℕ)
      (same : Bool) → (number == n) ≡ same
      → New n (Put queue delay ttl text about) (done.Stored number receipt)
  put_new queue delay ttl text about n number receipt true is =
      let row : Message = numbered number receipt (new_message m queue delay ttl text about) in
      inr (row, record { comes = ap (λ b. stands_if b row) is; born = is; queue = refl; expiry = refl; unheld = refl })
  put_new queue delay ttl text about n number receipt false is =
      inl (record {
        comes = ap
            (λ b. stands_if b (numbered number receipt (new_message m queue delay ttl text about))) is;
        born = is;
      })

  poisoned_new : (message : HeldMessage) (queue : List ℕ) (n copy receipt : ℕ) (same : Bool) → (copy == n) ≡ same
      → New n (Poison message queue) (done.Poisoned copy receipt)
  poisoned_new message queue n copy receipt true is =
      let row : Message =
      numbered copy receipt (plain_message m queue (text_of (live_row message.number m part.rows))) in
      inr (row, record { comes = ap (λ b. stands_if b row) is; born = is; queue = refl; expiry = refl; unheld = refl })
  poisoned_new message queue n copy receipt false is =
      inl (record {
        comes = ap
            (λ b. stands_if b
            (numbered copy receipt (plain_message m queue (text_of (live_row message.number m part.rows))))) is;
        born = is;
      })

  -- the message of a number among those that are sent
  record IsSent (n number receipt : ℕ) (outputs : List Output) (row : Message) : Type 0 where
    comes : sent m n number receipt outputs ≡ Stands row
    among : is_among number (count_sent outputs) n ≡ true
    queue : row.queue ≡ queue_sent n number outputs
    expiry : row.expiry ≡ None
    unheld : own_hold row ≡ None

  record IsUnsent (n number receipt : ℕ) (outputs : List Output) : Type 0 where
    comes : sent m n number receipt outputs ≡ Unborn
    among : is_among number (count_sent outputs) n ≡ false

  sent_or_not : (n number receipt : ℕ) (outputs : List Output)
      → IsUnsent n number receipt outputs ⊎ ((row : Message) × IsSent n number receipt outputs row)
  sent_or_not n number receipt [] = inl (record { comes = refl; among = grind (arith, nat_tests) })
  sent_or_not n number receipt (outputs.Queue queue text ∷ more) =
      by_test (number == n) refl (sent_or_not n (number + 1) (receipt + 1) more)
    where
      row : Message
      row = numbered number receipt (plain_message m queue text)

      by_test : (same : Bool) → (number == n) ≡ same
          → IsUnsent n (number + 1) (receipt + 1) more ⊎ ((r : Message) × IsSent n (number + 1) (receipt + 1) more r)
          → IsUnsent n number receipt (outputs.Queue queue text ∷ more)
          ⊎ ((r : Message) × IsSent n number receipt (outputs.Queue queue text ∷ more) r)
      by_test true is rest =
          inr (
            row,
            record {
              comes = ap (λ b. if b then Stands row else sent m n (number + 1) (receipt + 1) more) is;
              among = grind (arith, nat_tests);
              queue = sym (ap (λ b. if b then queue else queue_sent n (number + 1) more) is);
              expiry = refl;
              unheld = refl;
            },
          )
      by_test false is (inl not) =
          inl (record {
            comes = ap (λ b. if b then Stands row else sent m n (number + 1) (receipt + 1) more) is ∙ not.comes;
            among = grind (arith, nat_tests, not.among);
          })
      by_test false is (inr found) =
          let its = found.1 in
          inr (
            found.0,
            record {
              comes = ap (λ b. if b then Stands row else sent m n (number + 1) (receipt + 1) more) is ∙ its.comes;
              among = grind (arith, nat_tests, its.among);
              queue = its.queue ∙ sym (ap (λ b. if b then queue else queue_sent n (number + 1) more) is);
              expiry = its.expiry;
              unheld = its.unheld;
            },
          )
  sent_or_not n number receipt (outputs.Blob container blob text ∷ more) = by_rest (sent_or_not n number receipt more)
    where
      by_rest : IsUnsent n number receipt more ⊎ ((r : Message) × IsSent n number receipt more r)
          → IsUnsent n number receipt (outputs.Blob container blob text ∷ more)
          ⊎ ((r : Message) × IsSent n number receipt (outputs.Blob container blob text ∷ more) r)
      by_rest (inl not) = inl (record { comes = not.comes; among = not.among })
      by_rest (inr found) =
          let its = found.1 in
          inr (
            found.0,
            record {
              comes = its.comes;
              among = its.among;
              queue = its.queue;
              expiry = its.expiry;
              unheld = its.unheld;
            },
          )

  completed_new : (invocation : ℕ) (message : Option HeldMessage) (outputs : List Output) (n number receipt : ℕ)
      → New n (Complete invocation message outputs) (done.Completed number receipt (count_sent outputs))
  completed_new invocation message outputs n number receipt = by_sent (sent_or_not n number receipt outputs)
    where
      by_sent : IsUnsent n number receipt outputs ⊎ ((row : Message) × IsSent n number receipt outputs row)
          → New n (Complete invocation message outputs) (done.Completed number receipt (count_sent outputs))
      by_sent (inl not) = inl (record { comes = not.comes; born = not.among })
      by_sent (inr found) =
          let its = found.1 in
          inr (
            found.0,
            record {
              comes = its.comes;
              born = its.among;
              queue = its.queue;
              expiry = its.expiry;
              unheld = its.unheld;
            },
          )

  same_row : (n : ℕ) (ask : Ask) (answer : QueueDone) (row : Message) → hold_given n m ask answer ≡ Untold
      → IsSame n m ask answer row row
  same_row n ask answer row none =
      record { queue = refl; expiry = refl; hold = ap (held_after (own_hold row)) (sym none) }

  taken_row : (queue : List ℕ) (count seconds n : ℕ) (items : List Item) (row : Message) (item : Option Item)
      → row.number ≡ n → item_of row.number items ≡ item
      → IsSame n m (Take queue count seconds) (done.Taken items) row (held_by (after m seconds) item row)
  taken_row queue count seconds n items row None mine is =
      same_row n (Take queue count seconds) (done.Taken items) row
      (ap (λ b. held_if b (after m seconds))
      (sym (is_some-item_of n items) ∙ ap (λ k. is_some (item_of k items)) (sym mine) ∙ ap is_some is))
  taken_row queue count seconds n items row (Some item) mine is = record {
    queue = refl;
    expiry = refl;
    hold = ap (λ b. held_after (own_hold row) (held_if b (after m seconds)))
        (sym (sym (is_some-item_of n items) ∙ ap (λ k. is_some (item_of k items)) (sym mine) ∙ ap is_some is));
  }

  updated_row : (queue : List ℕ) (number receipt seconds n next : ℕ) (text : Option (List ℕ)) (row : Message)
      (same : Bool) → (number == n) ≡ same
      → IsSame n m (Update queue number receipt seconds text) (done.Updated next) row
      (if same then changed next (renewal (after m seconds) text) row else row)
  updated_row queue number receipt seconds n next text row true is = record {
    queue = refl;
    expiry = refl;
    hold = ap (λ b. held_after (own_hold row) (held_if b (after m seconds))) (sym is);
  }
  updated_row queue number receipt seconds n next text row false is =
      same_row n (Update queue number receipt seconds text) (done.Updated next) row
      (ap (λ b. held_if b (after m seconds)) is)

  released_row : (message : HeldMessage) (delay n next at : ℕ) (row : Message) (same : Bool)
      → (message.number == n) ≡ same
      → IsSame n m (Release message delay) (done.Released next at) row
      (if same then changed next (freed at) row else row)
  released_row message delay n next at row true is = record {
    queue = refl;
    expiry = refl;
    hold = ap (λ b. held_after (own_hold row) (freed_if b)) (sym is);
  }
  released_row message delay n next at row false is =
      same_row n (Release message delay) (done.Released next at) row (ap freed_if is)

  -- a row that is held on has its queue and its expiry, and the hold where it is named
  record IsHeldOn (until n : ℕ) (messages : List HeldMessage) (row later : Message) : Type 0 where
    queue : later.queue ≡ row.queue
    expiry : later.expiry ≡ row.expiry
    hold : own_hold later
        ≡ held_after (own_hold row) (held_if (list_any (λ message. message.number == n) messages) until)

  held_on_row : (until n next : ℕ) (messages : List HeldMessage) (row : Message) → row.number ≡ n
      → IsHeldOn until n messages row (held_again until (renewed next messages) row)
  held_on_row until n next [] row mine = record { queue = refl; expiry = refl; hold = refl }
  held_on_row until n next (message ∷ messages) row mine =
      by_test (row.number == message.number) (grind (arith, nat_tests))
      (held_on_row until n (next + 1) messages row mine)
      (held_on_row until n (next + 1) messages (changed next (held_on until) row) mine)
    where
      again : (told : Bool) → held_after (Some until) (held_if told until) ≡ Some until
      again true = refl
      again false = refl

      by_test : (same : Bool) → (message.number == n) ≡ same
          → IsHeldOn until n messages row (held_again until (renewed (next + 1) messages) row)
          → IsHeldOn until n messages (changed next (held_on until) row)
          (held_again until (renewed (next + 1) messages) (changed next (held_on until) row))
          → IsHeldOn until n (message ∷ messages) row
          (held_again until (renewed (next + 1) messages) (if same then changed next (held_on until) row else row))
      by_test true is rest anew = record {
        queue = anew.queue;
        expiry = anew.expiry;
        hold =
            anew.hold ∙ again (list_any (λ x. x.number == n) messages)
            ∙ sym (ap (λ b. held_after (own_hold row) (held_if b until)) (any_first is));
      }
        where
          any_first : (message.number == n) ≡ true → list_any (λ x. x.number == n) (message ∷ messages) ≡ true
          any_first same = grind (arith, nat_tests)
      by_test false is rest anew = record {
        queue = rest.queue;
        expiry = rest.expiry;
        hold = rest.hold ∙ sym (ap (λ b. held_after (own_hold row) (held_if b until)) (any_rest is));
      }
        where
          any_rest : (message.number == n) ≡ false
              → list_any (λ x. x.number == n) (message ∷ messages) ≡ list_any (λ x. x.number == n) messages
          any_rest other = grind (arith, nat_tests)

  renewed_row : (messages : List HeldMessage) (seconds n next : ℕ) (row : Message) → row.number ≡ n
      → IsSame n m (Renew messages seconds) (done.Renewed (renewed next messages)) row
      (held_again (after m seconds) (renewed next messages) row)
  renewed_row messages seconds n next row mine =
      let its = held_on_row (after m seconds) n next messages row mine in
      record { queue = its.queue; expiry = its.expiry; hold = its.hold }

  -- the named message has a row
  not_named : (queue : List ℕ) (number receipt n : ℕ) → IsNamed part m queue number receipt → row_of n part.rows ≡ None
      → (number == n) ≡ false
  not_named queue number receipt n named none = by_test (number == n) refl
    where
      by_test : (same : Bool) → (number == n) ≡ same → same ≡ false
      by_test false is = refl
      by_test true is =
          let same : number ≡ n = grind (arith, nat_tests) in
          let found : row_of number part.rows ≡ Some named.row =
          row_of-row_in queue number m 0 part.rows named.row h.rising named.stands in
          absurd (cc)

  -- and a live one
  not_dead : (queue : List ℕ) (number receipt n : ℕ) (row : Message) → IsNamed part m queue number receipt
      → row_of n part.rows ≡ Some row → is_live m row ≡ false → (number == n) ≡ false
  not_dead queue number receipt n row named found over = by_test (number == n) refl
    where
      by_test : (same : Bool) → (number == n) ≡ same → same ≡ false
      by_test false is = refl
      by_test true is =
          let same : number ≡ n = grind (arith, nat_tests) in
          let there : row_of number part.rows ≡ Some named.row =
          row_of-row_in queue number m 0 part.rows named.row h.rising named.stands in
          let its : named.row ≡ row = cc in
          let alive : is_live m row ≡ true =
          subst (λ (r : Message). is_live m r ≡ true) its
          (live-row_in queue number m part.rows named.row named.stands) in
          absurd (cc)

  -- so has a held one
  not_held : (message : HeldMessage) (n : ℕ) → IsHeld part m message → row_of n part.rows ≡ None
      → (message.number == n) ≡ false
  not_held message n held none = by_test (message.number == n) refl
    where
      by_test : (same : Bool) → (message.number == n) ≡ same → same ≡ false
      by_test false is = refl
      by_test true is =
          let same : message.number ≡ n = grind (arith, nat_tests) in
          let found : row_of message.number part.rows ≡ Some held.row =
          (live_row-found message.number m part.rows held.row h.rising held.stands).0 in
          absurd (cc)

  held_not_dead : (message : HeldMessage) (n : ℕ) (row : Message) → IsHeld part m message
      → row_of n part.rows ≡ Some row → is_live m row ≡ false → (message.number == n) ≡ false
  held_not_dead message n row held found over = by_test (message.number == n) refl
    where
      by_test : (same : Bool) → (message.number == n) ≡ same → same ≡ false
      by_test false is = refl
      by_test true is =
          let same : message.number ≡ n = grind (arith, nat_tests) in
          let there = live_row-found message.number m part.rows held.row h.rising held.stands in
          let stands : row_of message.number part.rows ≡ Some held.row = there.0 in
          let its : held.row ≡ row = cc in
          let alive : is_live m row ≡ true = subst (λ (r : Message). is_live m r ≡ true) its there.1 in
          absurd (cc)

  none_held : (messages : List HeldMessage) (n : ℕ) → AreHeld part m messages → row_of n part.rows ≡ None
      → list_any (λ message. message.number == n) messages ≡ false
  none_held [] n held none = refl
  none_held (message ∷ messages) n held none =
      let here = not_held message n held.0 none in
      let rest = none_held messages n held.1 none in
      grind (arith, nat_tests, here, rest)

  no_job : (message : Option HeldMessage) (n : ℕ) → IsJob part m message → row_of n part.rows ≡ None
      → names message n ≡ false
  no_job None n job none = refl
  no_job (Some message) n job none = not_held message n job none

  job_not_dead : (message : Option HeldMessage) (n : ℕ) (row : Message) → IsJob part m message
      → row_of n part.rows ≡ Some row → is_live m row ≡ false → names message n ≡ false
  job_not_dead None n row job found over = refl
  job_not_dead (Some message) n row job found over = held_not_dead message n row job found over

  -- what ends as deleted or completed is removed, and what is moved isn't
  removal_if : (test : Bool) → is_removal (ended_if test Deleted) ≡ test
  removal_if true = refl
  removal_if false = refl

  removal_unmoved : (test : Bool) → is_move (ended_if test Deleted) ≡ false
  removal_unmoved true = refl
  removal_unmoved false = refl

  completion_if : (invocation : ℕ) (test : Bool) → is_removal (ended_if test (Completed invocation)) ≡ test
  completion_if invocation true = refl
  completion_if invocation false = refl

  completion_unmoved : (invocation : ℕ) (test : Bool) → is_move (ended_if test (Completed invocation)) ≡ false
  completion_unmoved invocation true = refl
  completion_unmoved invocation false = refl

  move_if : (copy : ℕ) (test : Bool) → is_move (ended_if test (Moved copy)) ≡ test
  move_if copy true = refl
  move_if copy false = refl

  move_unremoved : (copy : ℕ) (test : Bool) → is_removal (ended_if test (Moved copy)) ≡ false
  move_unremoved copy true = refl
  move_unremoved copy false = refl

  not_listed : (queue : List ℕ) (count n : ℕ) → row_of n part.rows ≡ None → lists n (listed part m queue count) ≡ false
  not_listed queue count n none = sym (is_some-item_of n (listed part m queue count))
      ∙ by_item (item_of n (listed part m queue count)) refl
    where
      by_item : (item : Option Item) → item_of n (listed part m queue count) ≡ item → is_some item ≡ false
      by_item None is = refl
      by_item (Some item) is =
          let from = taken part m queue count n item h.rising is in
          let its : row_of n part.rows ≡ Some from.from.row =
          subst (λ (k : ℕ). row_of k part.rows ≡ Some from.from.row) from.number from.from.stands in
          absurd (cc)

  passed : (n : ℕ) (ask : Ask) (answer : QueueDone) → hold_given n m ask answer ≡ Untold
      → removes n m part.rows ask ≡ false → moves n ask ≡ false
      → IsPassedOver part n m ask answer
  passed n ask answer untold unremoved unmoved = record { hold = untold; removed = unremoved; moved = unmoved }

  tell_ways : Ways (λ ask acts answer. (after : QueuePart) → TellsOfMessages part m ask after answer) part m
  tell_ways = record {
    makes = λ queue later. record {
      none = λ n none. passed n _ _ refl refl refl;
      new = λ n. nothing_new _ _ n refl refl;
      same = λ n row found. same_row n _ _ row refl;
      removed = λ n row found alive. refl;
      moved = λ n row found alive. refl;
      dead = λ n row found over. (refl, refl);
    };
    puts = λ queue delay ttl text about short later. record {
      none = λ n none. passed n _ _ refl refl refl;
      new = λ n. put_new queue delay ttl text about n part.next_number part.next_receipt (part.next_number == n) refl;
      same = λ n row found. same_row n _ _ row refl;
      removed = λ n row found alive. refl;
      moved = λ n row found alive. refl;
      dead = λ n row found over. (refl, refl);
    };
    takes = λ queue count seconds less later. record {
      none = λ n none. passed n _ _ (ap (λ b. held_if b (after m seconds)) (not_listed queue count n none)) refl refl;
      new = λ n. nothing_new _ _ n refl refl;
      same = λ n row found. taken_row queue count seconds n (listed part m queue count) row
          (item_of row.number (listed part m queue count)) (row_of-number n part.rows row found) refl;
      removed = λ n row found alive. refl;
      moved = λ n row found alive. refl;
      dead = λ n row found over. (refl, refl);
    };
    updates = λ queue number receipt seconds text short named later. record {
      none = λ n none. passed n _ _
          (ap (λ b. held_if b (after m seconds)) (not_named queue number receipt n named none)) refl refl;
      new = λ n. nothing_new _ _ n refl refl;
      same = λ n row found. updated_row queue number receipt seconds n part.next_receipt text row (row.number == number)
          (let mine = row_of-number n part.rows row found in grind (arith, nat_tests));
      removed = λ n row found alive. refl;
      moved = λ n row found alive. refl;
      dead = λ n row found over. (refl, refl);
    };
    deletes = λ queue number receipt named later. record {
      none = λ n none. passed n _ _ refl (not_named queue number receipt n named none) refl;
      new = λ n. nothing_new _ _ n refl refl;
      same = λ n row found. same_row n _ _ row refl;
      removed = λ n row found alive. removal_if (row.number == number)
          ∙ (let mine = row_of-number n part.rows row found in grind (arith, nat_tests));
      moved = λ n row found alive. removal_unmoved (row.number == number);
      dead = λ n row found over. (not_dead queue number receipt n row named found over, refl);
    };
    clears = λ queue later. record {
      none = λ n none. passed n _ _ refl (ap is_some (row_in-none queue n m part.rows none)) refl;
      new = λ n. nothing_new _ _ n refl refl;
      same = λ n row found. same_row n _ _ row refl;
      removed = λ n row found alive.
          removal_if (is_of queue row) ∙ both_true (is_of queue row) (is_live m row) alive
          ∙ sym (row_in-row_of queue n m 0 part.rows row h.rising found);
      moved = λ n row found alive. removal_unmoved (is_of queue row);
      dead = λ n row found over. (
        row_in-row_of queue n m 0 part.rows row h.rising found
            ∙ one_false (is_of queue row) (is_live m row) over,
        refl,
      );
    };
    releases = λ message delay held later. record {
      none = λ n none. passed n _ _ (ap freed_if (not_held message n held none)) refl refl;
      new = λ n. nothing_new _ _ n refl refl;
      same = λ n row found.
          released_row message delay n part.next_receipt (after m delay) row (row.number == message.number)
          (let mine = row_of-number n part.rows row found in grind (arith, nat_tests));
      removed = λ n row found alive. refl;
      moved = λ n row found alive. refl;
      dead = λ n row found over. (refl, refl);
    };
    renews = λ messages seconds held later. record {
      none = λ n none. passed n _ _ (ap (λ b. held_if b (after m seconds)) (none_held messages n held none)) refl refl;
      new = λ n. nothing_new _ _ n refl refl;
      same = λ n row found. renewed_row messages seconds n part.next_receipt row (row_of-number n part.rows row found);
      removed = λ n row found alive. refl;
      moved = λ n row found alive. refl;
      dead = λ n row found over. (refl, refl);
    };
    completes = λ invocation message outputs job short later. record {
      none = λ n none. passed n _ _ refl (no_job message n job none) refl;
      new = λ n. completed_new invocation message outputs n part.next_number part.next_receipt;
      same = λ n row found. same_row n _ _ row refl;
      removed = λ n row found alive.
          completion_if invocation (names message row.number)
          ∙ ap (names message) (row_of-number n part.rows row found);
      moved = λ n row found alive. completion_unmoved invocation (names message row.number);
      dead = λ n row found over. (job_not_dead message n row job found over, refl);
    };
    poisons = λ message queue held later. record {
      none = λ n none. passed n _ _ refl refl (not_held message n held none);
      new = λ n. poisoned_new message queue n part.next_number part.next_receipt (part.next_number == n) refl;
      same = λ n row found. same_row n _ _ row refl;
      removed = λ n row found alive. move_unremoved part.next_number (message.number == row.number);
      moved = λ n row found alive.
          move_if part.next_number (message.number == row.number)
          ∙ ap (λ k. message.number == k) (row_of-number n part.rows row found);
      dead = λ n row found over. (refl, held_not_dead message n row held found over);
    };
    sweeps = λ later. record {
      none = λ n none. passed n _ _ refl refl refl;
      new = λ n. nothing_new _ _ n refl refl;
      same = λ n row found. same_row n _ _ row refl;
      removed = λ n row found alive. refl;
      moved = λ n row found alive. refl;
      dead = λ n row found over. (refl, refl);
    };
  }
    where
      both_true : (a b : Bool) → b ≡ true → a ≡ (a && b)
      both_true true b is = sym is
      both_true false b is = refl

      one_false : (a b : Bool) → b ≡ false → (a && b) ≡ false
      one_false true b is = is
      one_false false b is = refl

pub tells : OfEachAsk TellsOfMessages
tells part ask m after answer h is = (by_ways _ part m (tell_ways part m h) after answer ask is).holds after
