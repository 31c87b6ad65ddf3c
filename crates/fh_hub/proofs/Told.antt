-- What the rows and ends of a world say of its messages is what the events of its trace say.
use Rattle.std.proofs.Common.{◌≡◌, inl, inr, ℕ, ◌+◌, ◌≤◌, Bool, true, false, cond, List, [], ◌∷◌, ◌++◌, Option, Some, None, refl, sym, ◌∙◌, ap, subst, arith}
use Rattle.std.specs.Prelude.{◌==◌, ◌&&◌, ◌||◌, nat_le, nat_lt, not, if◌then◌else◌}
use Rattle.std.specs.List.{list_any}
use Rattle.std.proofs.lemmas.Bool.Decides.{nat_tests}
use Rattle.std.proofs.lemmas.List.Sums.{fold_push, sum_by_push}
use Rattle.std.proofs.lemmas.List.Recursion.{or_push}
use Rattle.fh_event.specs.declared.command.Command.{Command}
use Rattle.fh_event.specs.declared.command.Command.TheVariants.{Take, Fetch}
use Rattle.fh_event.specs.declared.reply.Reply.{Reply}
use Rattle.fh_queues.specs.declared.row.Message.{Message}
use Rattle.fh_queues.specs.declared.done.QueueDone.{QueueDone}
use Rattle.fh_queues.specs.declared.done.QueueDone.TheVariants as done
use Rattle.fh_queues.specs.declared.done.Ending.{Ending}
use Rattle.fh_queues.specs.declared.done.Ending.TheVariants.{Deleted, Completed, Moved, Expired}
use Rattle.fh_event.specs.declared.begun.About.{About}
use Rattle.fh_queues.specs.Asks.{Ask}
use Rattle.fh_queues.specs.Asks as queue_asks
use Rattle.fh_queues.specs.Acts.{numbered}
use Rattle.fh_queues.specs.Laws as queue_laws
use Rattle.fh_queues.specs.Rows.{is_before, is_live, row_of}
use Rattle.fh_queues.specs.Part.{QueuePart, no_queues, end_of}
use Rattle.fh_queues.specs.Outcome.{after, new_message}
use Rattle.fh_queues.specs.Seen.{Seen, Unborn, Stands, Ended, seen_by, seen}
use Rattle.fh_queues.specs.Whole.{IsWhole}
use Rattle.fh_queues.specs.Receipts.{born}
use Rattle.fh_queues.specs.Goings.{answered, ends, ended_or, newly, goes_on}
use Rattle.fh_queues.specs.Tellings.{items_in, lists as lists_item, own_hold, held_if, held_after, hold_given, queue_given, expiry_given, removes, is_removal, IsNew, IsPassedOver, TellsOfMessages}
use Rattle.fh_queues.proofs.Lawful.{Whole-none, Whole-outcome, row_seen, goes_as_answered, gives_numbers, gives_receipts, moves_little, tells}
use Rattle.fh_hub.specs.World.{World, empty, effective_moment}
use Rattle.fh_hub.specs.Stores.{Parts}
use Rattle.fh_hub.specs.Replay.{Entry, Event, trace, replay}
use Rattle.fh_hub.specs.Signs.{signs_of, signs, lists, has_receipt, gives, bears}
use Rattle.fh_hub.specs.Laws.{births, receipts}
use Rattle.fh_hub.specs.Places.{birth_of, expiry_by, queue_by, expiry_of, queue_of, last_hold, was_removed}
use Rattle.fh_hub.proofs.Steps.{Made, IsAskedOf, as_asked, IsKept, event, kept_by_all}
use Rattle.fh_hub.proofs.Answering.{HasOwnReceipt, Tells, queues_answered, reply_tells}
use Rattle.fh_hub.proofs.Plain.{is_plain, plain_asked, ends_plainly}
use Rattle.fh_hub.proofs.Births.{birth_now, birth_then}

-- once for each number from 1 on and below the next one
abbrev pub once_below : ℕ → ℕ → ℕ
once_below next k = if nat_le 1 k && nat_lt k next then 1 else 0

-- the row says of its message what the events say
pub record IsTold (n : ℕ) (events : List Event) (row : Message) : Type 0 where
  pub born : births n events ≡ 1
  pub queue : row.queue ≡ queue_of n events
  pub expiry : row.expiry ≡ expiry_of n events
  pub hold : own_hold row ≡ last_hold n events
  pub stays : was_removed n events ≡ false

pub record HasExpired (n : ℕ) (events : List Event) (last : ℕ) : Type 0 where
  pub born : births n events ≡ 1
  pub over : is_before last (expiry_of n events) ≡ false
  pub stays : was_removed n events ≡ false

-- what is seen of a message is what the events say
abbrev pub IsSeenBy : ℕ → List Event → ℕ → Seen → Type 0
IsSeenBy n events last Unborn =
    (births n events ≡ 0) × (last_hold n events ≡ None) × (was_removed n events ≡ false)
IsSeenBy n events last (Stands row) = IsTold n events row
IsSeenBy n events last (Ended Deleted) = (births n events ≡ 1) × (was_removed n events ≡ true)
IsSeenBy n events last (Ended (Completed invocation)) = ⊥
IsSeenBy n events last (Ended (Moved copy)) = ⊥
IsSeenBy n events last (Ended Expired) = HasExpired n events last

pub record Told (events : List Event) (w : World) : Type 0 where
  pub whole : IsWhole w.parts.queues
  pub births : (n : ℕ) → births n events ≡ once_below w.parts.queues.next_number n
  pub receipts : (k : ℕ) → receipts k events ≡ once_below w.parts.queues.next_receipt k
  pub seen : (n : ℕ) → IsSeenBy n events w.last (seen n w.parts.queues)

-- until when a message is held is what is told of it
hold_as_told : (parts : Parts) (n m : ℕ) (command : Command) (reply : Reply) (ask : Ask) (answer : QueueDone)
    → IsAskedOf parts command ask
    → lists n reply ≡ lists_item n (items_in answer) → (signs_of parts m command reply).hold n
    ≡ hold_given n m ask answer
hold_as_told parts n m (Fetch function) reply ask answer asked listed =
    ap (λ among. held_if among (after m 600)) listed ∙ sym (ap (λ a. hold_given n m a answer) asked.2)
hold_as_told parts n m (Take queue count hold) reply ask answer asked listed =
    ap (λ among. held_if among (after m hold)) listed ∙ sym (ap (λ a. hold_given n m a answer) asked)
hold_as_told parts n m command reply ask answer asked listed =
    as_asked parts command ask (λ a. hold_given n m a answer) refl asked (λ queue. refl)

removes_as_told : (parts : Parts) (n m : ℕ) (command : Command) (reply : Reply) (ask : Ask)
    → IsAskedOf parts command ask
    → (signs_of parts m command reply).removes n ≡ removes n m parts.queues.rows ask
removes_as_told parts n m (Fetch function) reply ask asked = sym (ap (removes n m parts.queues.rows) asked.2)
removes_as_told parts n m command reply ask asked =
    as_asked parts command ask (removes n m parts.queues.rows) refl asked (λ queue. refl)

-- the queue and the expiry that a command gives
record IsBirth (parts : Parts) (m : ℕ) (command : Command) (reply : Reply) (ask : Ask) (answer : QueueDone) :
    Type 0 where
  pub queue : (n : ℕ) → (signs_of parts m command reply).queue ≡ queue_given n ask answer
  pub expiry : (signs_of parts m command reply).expiry ≡ expiry_given m ask

birth_as_told : (parts : Parts) (m : ℕ) (command : Command) (reply : Reply) (ask : Ask) (answer : QueueDone)
    → IsAskedOf parts command ask → IsBirth parts m command reply ask answer
birth_as_told parts m (Fetch function) reply ask answer asked =
    record { queue = λ n. sym (ap (λ a. queue_given n a answer) asked.2); expiry = sym (ap (expiry_given m) asked.2) }
birth_as_told parts m command reply ask answer asked = record {
  queue = λ n. as_asked parts command ask (λ a. queue_given n a answer) refl asked (λ queue. refl);
  expiry = as_asked parts command ask (expiry_given m) refl asked (λ queue. refl);
}

-- what has expired at a moment has at each later one
pub expired_later : (m later : ℕ) (expiry : Option ℕ) → m ≤ later → is_before m expiry ≡ false
    → is_before later expiry ≡ false
expired_later m later None less is = absurd (cc)
expired_later m later (Some end) less is = grind (arith, nat_tests)

-- a message that doesn't stand has no row
pub no_row : (n : ℕ) (part : QueuePart) (s : Seen) → seen n part ≡ s → ((row : Message) → s ≡ Stands row → ⊥)
    → row_of n part.rows ≡ None
no_row n part s is never = by_found (row_of n part.rows) refl
  where
    by_found : (found : Option Message) → row_of n part.rows ≡ found → found ≡ None
    by_found None found = refl
    by_found (Some row) found = absurd (never row (sym is ∙ ap (λ r. seen_by r (end_of n part.ends)) found))

more_below : (next later k : ℕ) → 1 ≤ next → next ≤ later
    → once_below next k + (if nat_le next k && nat_lt k later then 1 else 0) ≡ once_below later k
more_below next later k begun less = grind (arith, nat_tests)

module _ (events : List Event) (w : World) (command : Command) (now : ℕ) (new : World) (reply : Reply)
    (h : Told events w) (made : Made w command now new reply) where
  abbrev m : ℕ
  m = effective_moment w now

  abbrev e : Event
  e = event w command now reply new

  abbrev more : List Event
  more = events ++ e ∷ []

  abbrev ask : Ask
  ask = made.ask

  abbrev answer : QueueDone
  answer = made.done.queues

  whole_after : IsWhole new.parts.queues
  whole_after = Whole-outcome w.parts.queues ask m new.parts.queues answer h.whole made.queues

  -- a number that is given now wasn't before
  pub unborn_now : (number receipt : ℕ) → answer ≡ done.Stored number receipt → seen number w.parts.queues ≡ Unborn
  unborn_now number receipt is = by_seen (seen number w.parts.queues) (h.seen number)
    where
      same : (n : ℕ) → (n == n) ≡ true
      same n = grind (arith, nat_tests)

      never : births number events ≡ 0
      never =
          let bearing : born number answer ≡ true = ap (born number) is ∙ same number in
          let next = sym (gives_numbers w.parts.queues ask m new.parts.queues answer h.whole made.queues number)
          ∙ bearing in
          let before = h.births number in
          grind (arith, nat_tests, next, before)

      by_seen : (s : Seen) → IsSeenBy number events w.last s → s ≡ Unborn
      by_seen Unborn was = refl
      by_seen (Stands row) was = absurd (omega (arith, never, was.born))
      by_seen (Ended Deleted) was = absurd (omega (arith, never, was.0))
      by_seen (Ended (Completed invocation)) was = absurd was
      by_seen (Ended (Moved copy)) was = absurd was
      by_seen (Ended Expired) was = absurd (omega (arith, never, was.born))

  -- the row of a message that was put
  pub stored_row : (queue : List ℕ) (delay : ℕ) (ttl : Option ℕ) (text : List ℕ) (about : Option About)
      (number receipt : ℕ)
      → ask ≡ queue_asks.Put queue delay ttl text about → answer ≡ done.Stored number receipt
      → row_of number new.parts.queues.rows ≡ Some (numbered number receipt (new_message m queue delay ttl text about))
  stored_row queue delay ttl text about number receipt asks is =
      row_seen number new.parts.queues (numbered number receipt (new_message m queue delay ttl text about))
      (goes_as_answered w.parts.queues ask m new.parts.queues answer h.whole made.queues number
      ∙ ap (goes_on w.parts.queues m ask answer number) (unborn_now number receipt is)
      ∙ ap (λ a. newly w.parts.queues m a answer number) asks
      ∙ ap (λ d. newly w.parts.queues m (queue_asks.Put queue delay ttl text about) d number) is
      ∙ ap (λ b. if b then Stands (numbered number receipt (new_message m queue delay ttl text about)) else Unborn)
      (same number))
    where
      same : (n : ℕ) → (n == n) ≡ true
      same n = grind (arith, nat_tests)

  own_receipt : HasOwnReceipt new.parts.queues.rows answer
  own_receipt number receipt k is =
      by_ask ask refl (ap (queue_laws.answers ask) (sym is) ∙ queues_answered w command now new reply made)
    where
      by_ask : (a : Ask) → ask ≡ a → queue_laws.answers a (done.Stored number receipt) ≡ true
          → has_receipt k (row_of number new.parts.queues.rows) ≡ (if receipt == k then 1 else 0)
      by_ask (queue_asks.Put queue delay ttl text about) asks answers =
          ap (has_receipt k) (stored_row queue delay ttl text about number receipt asks is)
      by_ask a asks answers = absurd (cc)

  tellings : Tells new.parts.queues.rows reply answer
  tellings = reply_tells w command now new reply made own_receipt

  births_push : (n : ℕ) → births n more ≡ births n events + (if born n answer then 1 else 0)
  births_push n =
      sum_by_push (λ (x : Event). cond (bears n x.reply) 1 0) events e
      ∙ ap (λ b. births n events + (if b then 1 else 0)) (tellings.births n)

  births_after : (n : ℕ) → births n more ≡ once_below new.parts.queues.next_number n
  births_after n =
      let moves = moves_little w.parts.queues ask m new.parts.queues answer made.queues in
      births_push n
      ∙ ap (λ k. k + (if born n answer then 1 else 0)) (h.births n)
      ∙ ap (λ b. once_below w.parts.queues.next_number n + (if b then 1 else 0))
      (gives_numbers w.parts.queues ask m new.parts.queues answer h.whole made.queues n)
      ∙ more_below w.parts.queues.next_number new.parts.queues.next_number n (omega (arith, h.whole.numbers))
      moves.numbers

  receipts_after : (k : ℕ) → receipts k more ≡ once_below new.parts.queues.next_receipt k
  receipts_after k =
      let moves = moves_little w.parts.queues ask m new.parts.queues answer made.queues in
      sum_by_push (λ (x : Event). gives k x) events e
      ∙ ap (λ j. receipts k events + j) (tellings.receipts k
      ∙ gives_receipts w.parts.queues ask m new.parts.queues answer h.whole made.queues k)
      ∙ ap (λ j. j + (if nat_le w.parts.queues.next_receipt k && nat_lt k new.parts.queues.next_receipt then 1 else 0))
      (h.receipts k)
      ∙ more_below w.parts.queues.next_receipt new.parts.queues.next_receipt k h.whole.receipts moves.receipts

  once : (n : ℕ) → births n more ≤ 1
  once n = at_most_one (nat_le 1 n && nat_lt n new.parts.queues.next_number) (births_after n)
    where
      at_most_one : (test : Bool) → births n more ≡ (if test then 1 else 0) → births n more ≤ 1
      at_most_one true is = omega (arith, is)
      at_most_one false is = omega (arith, is)

  last_hold_is : (n : ℕ) → last_hold n more ≡ held_after (last_hold n events) (hold_given n m ask answer)
  last_hold_is n =
      fold_push (λ held (x : Event). held_after held ((signs x).hold n)) None events e
      ∙ ap (held_after (last_hold n events)) (hold_as_told w.parts n m command reply ask answer made.asked
      (tellings.lists n))

  removed_is : (n : ℕ) → was_removed n more ≡ (was_removed n events || removes n m w.parts.queues.rows ask)
  removed_is n =
      or_push (list_any (λ (x : Event). (signs x).removes n)) (λ (x : Event). (signs x).removes n) refl (λ x xs. refl)
      events e
      ∙ ap (λ r. was_removed n events || r) (removes_as_told w.parts n m command reply ask made.asked)

  not_removed : (n : ℕ) → was_removed n events ≡ false → removes n m w.parts.queues.rows ask ≡ false
      → was_removed n more ≡ false
  not_removed n before by = removed_is n ∙ ap (λ r. r || removes n m w.parts.queues.rows ask) before ∙ by

  -- the birth of a message stays
  born_then : (n : ℕ) → births n events ≡ 1 → birth_of n more ≡ birth_of n events
  born_then n some = birth_then n events e (omega (arith, some)) (once n)

  still_one : (n : ℕ) → births n events ≡ 1 → births n more ≡ 1
  still_one n some = omega (arith, some, once n, births_push n)

  expiry_then : (n : ℕ) → births n events ≡ 1 → is_before new.last (expiry_of n more) ≡ is_before m (expiry_of n events)
  expiry_then n some = ap (λ k. is_before k (expiry_of n more)) made.last
      ∙ ap (λ b. is_before m (expiry_by b)) (born_then n some)

  seen_unborn : (n : ℕ) → seen n w.parts.queues ≡ Unborn → IsSeenBy n events w.last Unborn
      → IsSeenBy n more new.last (newly w.parts.queues m ask answer n)
  seen_unborn n is was =
      elim (told.new n) [
        | inl nothing ↦ subst (IsSeenBy n more new.last) (sym nothing.comes) (
          births_push n ∙ ap (λ b. births n events + (if b then 1 else 0)) nothing.born ∙ ap (λ k. k + 0) was.0,
          unheld,
          not_removed n was.2 none.removed,
        )
        | inr one ↦ subst (IsSeenBy n more new.last) (sym one.1.comes) (first one.0 one.1)
      ]
    where
      told : TellsOfMessages w.parts.queues m ask new.parts.queues answer
      told = tells w.parts.queues ask m new.parts.queues answer h.whole made.queues

      none : IsPassedOver w.parts.queues n m ask answer
      none = told.none n (no_row n w.parts.queues Unborn is (λ row stands. cc))

      unheld : last_hold n more ≡ None
      unheld = last_hold_is n ∙ ap (held_after (last_hold n events)) none.hold ∙ was.1

      first : (row : Message) → IsNew w.parts.queues n m ask answer row → IsTold n more row
      first row one =
          let bearing : bears n e.reply ≡ true = tellings.births n ∙ one.born in
          let birth : birth_of n more ≡ Some e = birth_now n events e was.0 bearing in
          let gave = birth_as_told w.parts m command reply ask answer made.asked in
          record {
            born = births_push n ∙ ap (λ b. births n events + (if b then 1 else 0)) one.born ∙ ap (λ k. k + 1) was.0;
            queue = one.queue ∙ sym (ap queue_by birth ∙ gave.queue n);
            expiry = one.expiry ∙ sym (ap expiry_by birth ∙ gave.expiry);
            hold = one.unheld ∙ sym unheld;
            stays = not_removed n was.2 none.removed;
          }

  seen_row : (n : ℕ) (row : Message) → row_of n w.parts.queues.rows ≡ Some row → IsTold n events row
      → IsSeenBy n more new.last (goes_on w.parts.queues m ask answer n (Stands row))
  seen_row n row found was = by_test (is_live m row) refl
    where
      told : TellsOfMessages w.parts.queues m ask new.parts.queues answer
      told = tells w.parts.queues ask m new.parts.queues answer h.whole made.queues

      plain : is_plain ask ≡ true
      plain = plain_asked w.parts command ask made.asked

      goes : (alive : Bool) (ending : Option Ending) → is_live m row ≡ alive → ends ask answer row ≡ ending
          → goes_on w.parts.queues m ask answer n (Stands row)
          ≡ (if not alive then Ended Expired else ended_or ending (Stands (answered m ask answer row)))
      goes alive ending is gone =
          ap (λ b. if not b then Ended Expired else ended_or (ends ask answer row)
          (Stands (answered m ask answer row))) is
          ∙ ap (λ e. if not alive then Ended Expired else ended_or e (Stands (answered m ask answer row))) gone

      by_ending : (ending : Option Ending) → is_live m row ≡ true → ends ask answer row ≡ ending
          → IsSeenBy n more new.last (ended_or ending (Stands (answered m ask answer row)))
      by_ending None alive is =
          let same = told.same n row found in
          record {
            born = still_one n was.born;
            queue = same.queue ∙ was.queue ∙ sym (ap queue_by (born_then n was.born));
            expiry = same.expiry ∙ was.expiry ∙ sym (ap expiry_by (born_then n was.born));
            hold = same.hold ∙ ap (λ held. held_after held (hold_given n m ask answer)) was.hold ∙ sym (last_hold_is n);
            stays = not_removed n was.stays (sym (told.removed n row found alive) ∙ ap is_removal is);
          }
      by_ending (Some Deleted) alive is = (
        still_one n was.born,
        removed_is n ∙ ap (λ r. r || removes n m w.parts.queues.rows ask) was.stays
            ∙ sym (told.removed n row found alive) ∙ ap is_removal is,
      )
      by_ending (Some (Completed invocation)) alive is =
          absurd (not_completed (ends_plainly ask answer row (Completed invocation) plain is))
        where
          not_completed : Completed invocation ≡ Deleted → ⊥
          not_completed same = cc
      by_ending (Some (Moved copy)) alive is = absurd (not_moved (ends_plainly ask answer row (Moved copy) plain is))
        where
          not_moved : Moved copy ≡ Deleted → ⊥
          not_moved same = cc
      by_ending (Some Expired) alive is = absurd (not_expired (ends_plainly ask answer row Expired plain is))
        where
          not_expired : Expired ≡ Deleted → ⊥
          not_expired same = cc

      by_test : (alive : Bool) → is_live m row ≡ alive → IsSeenBy n more new.last
          (goes_on w.parts.queues m ask answer n (Stands row))
      by_test false over =
          subst (IsSeenBy n more new.last) (sym (goes false (ends ask answer row) over refl)) (record {
            born = still_one n was.born;
            over = expiry_then n was.born ∙ sym (ap (is_before m) was.expiry) ∙ over;
            stays = not_removed n was.stays (told.dead n row found over).0;
          })
      by_test true alive =
          subst (IsSeenBy n more new.last) (sym (goes true (ends ask answer row) alive refl))
          (by_ending (ends ask answer row) alive refl)

  seen_ended : (n : ℕ) (ending : Ending) → seen n w.parts.queues ≡ Ended ending
      → IsSeenBy n events w.last (Ended ending) → IsSeenBy n more new.last (Ended ending)
  seen_ended n Deleted is was = (
    still_one n was.0,
    removed_is n
        ∙ ap (λ r. r || removes n m w.parts.queues.rows ask) was.1,
  )
  seen_ended n (Completed invocation) is was = absurd was
  seen_ended n (Moved copy) is was = absurd was
  seen_ended n Expired is was =
      let told = tells w.parts.queues ask m new.parts.queues answer h.whole made.queues in
      record {
        born = still_one n was.born;
        over = expiry_then n was.born ∙ expired_later w.last m (expiry_of n events) (omega arith) was.over;
        stays = not_removed n was.stays (told.none n
            (no_row n w.parts.queues (Ended Expired) is (λ row stands. cc))).removed;
      }

  seen_after : (n : ℕ) → IsSeenBy n more new.last (seen n new.parts.queues)
  seen_after n =
      subst (IsSeenBy n more new.last) (sym
      (goes_as_answered w.parts.queues ask m new.parts.queues answer h.whole made.queues n))
      (by_seen (seen n w.parts.queues) refl (h.seen n))
    where
      by_seen : (s : Seen) → seen n w.parts.queues ≡ s → IsSeenBy n events w.last s
          → IsSeenBy n more new.last (goes_on w.parts.queues m ask answer n s)
      by_seen Unborn is was = seen_unborn n is was
      by_seen (Stands row) is was = seen_row n row (row_seen n w.parts.queues row is) was
      by_seen (Ended ending) is was = seen_ended n ending is was

  told_after : Told more new
  told_after = record { whole = whole_after; births = births_after; receipts = receipts_after; seen = seen_after }

-- what the reply tells, and the row of a message that is put
pub reply_as_told : (events : List Event) (w : World) (command : Command) (now : ℕ) (new : World) (reply : Reply)
    → Told events w → (made : Made w command now new reply) → Tells new.parts.queues.rows reply made.done.queues
reply_as_told events w command now new reply h made = tellings events w command now new reply h made

pub told_kept : IsKept Told
told_kept = told_after

-- a message that was born is born once and for all
pub born_stays : (events : List Event) (w : World) (command : Command) (now : ℕ) (new : World) (reply : Reply)
    → Told events w → Made w command now new reply → (n : ℕ) → births n events ≡ 1
    → births n (events ++ event w command now reply new ∷ []) ≡ 1
born_stays events w command now new reply h made n some = still_one events w command now new reply h made n some

nothing_below_1 : (k : ℕ) → ◌≡◌ {A = ℕ} 0 (once_below 1 k)
nothing_below_1 k = grind (arith, nat_tests)

unseen : (n : ℕ) → IsSeenBy n [] 0 (seen n no_queues)
unseen n = by_test (n == 0)
  where
    by_test : (zero : Bool) → IsSeenBy n [] 0 (seen_by None (if zero then None else None))
    by_test true = (refl, refl, refl)
    by_test false = (refl, refl, refl)

pub told_none : Told [] empty
told_none = record { whole = Whole-none; births = nothing_below_1; receipts = nothing_below_1; seen = unseen }

pub told : (history : List Entry) → Told (trace history) (replay history)
told history = kept_by_all Told told_kept told_none history
