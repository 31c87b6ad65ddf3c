-- Each message is in one place, which the world tells.
use Rattle.std.proofs.Common.{◌≡◌, ℕ, ◌+◌, ◌≤◌, Bool, true, false, not, List, [], ◌∷◌, Option, Some, None, is_some, refl, sym, ◌∙◌, ap, arith}
use Rattle.std.specs.Prelude.{◌&&◌, ◌||◌, nat_le, nat_lt, if◌then◌else◌}
use Rattle.std.proofs.lemmas.Bool.Decides.{nat_tests}
use Rattle.fh_event.specs.declared.reply.Place.{Place}
use Rattle.fh_event.specs.declared.reply.Place.TheVariants as place
use Rattle.fh_queues.specs.declared.row.Message.{Message}
use Rattle.fh_queues.specs.declared.done.Ending.{Ending}
use Rattle.fh_queues.specs.declared.done.Ending.TheVariants.{Deleted, Completed, Moved, Expired}
use Rattle.fh_queues.specs.Order.{are_rising}
use Rattle.fh_queues.specs.Rows.{is_before, is_live, row_of, live_row}
use Rattle.fh_queues.specs.Seen.{Seen, Unborn, Stands, Ended, seen}
use Rattle.fh_queues.specs.Places.{place_of_live, place_by, place_of}
use Rattle.fh_queues.proofs.Lawful.{row_seen}
use Rattle.fh_hub.specs.World.{World}
use Rattle.fh_hub.specs.Replay.{Entry, Event, trace, replay}
use Rattle.fh_hub.specs.Laws.{births}
use Rattle.fh_hub.specs.Places.{expiry_by, expiry_of, queue_of, last_hold, ends_after, waits, is_waiting, is_held, was_removed, has_expired, one_if, places, IsInOnePlace, IsPlace, IsLocated}
use Rattle.fh_hub.proofs.Births.{unborn}
use Rattle.fh_hub.proofs.Told.{Told, IsTold, IsSeenBy, expired_later, no_row, told}

live_row-above : (n t low : ℕ) (rows : List Message) → n ≤ low → are_rising low rows ≡ true → live_row n t rows ≡ None
live_row-above n t low [] less rising = refl
live_row-above n t low (r ∷ rows) less rising = grind (arith, nat_tests, live_row-above n t r.number rows)

live_row-none : (n t : ℕ) (rows : List Message) → row_of n rows ≡ None → live_row n t rows ≡ None
live_row-none n t [] none = refl
live_row-none n t (r ∷ rows) none = grind (arith, nat_tests, live_row-none n t rows)

live_row-live : (n t : ℕ) (rows : List Message) (row : Message) → row_of n rows ≡ Some row → is_live t row ≡ true
    → live_row n t rows ≡ Some row
live_row-live n t [] row found alive = absurd (cc)
live_row-live n t (r ∷ rows) row found alive = grind (arith, nat_tests, live_row-live n t rows row)

live_row-dead : (n t low : ℕ) (rows : List Message) (row : Message) → are_rising low rows ≡ true
    → row_of n rows ≡ Some row → is_live t row ≡ false → live_row n t rows ≡ None
live_row-dead n t low [] row rising found over = refl
live_row-dead n t low (r ∷ rows) row rising found over =
    grind (arith, nat_tests, live_row-above n t r.number rows, live_row-dead n t r.number rows row)

abbrev end_or_zero : Option ℕ → ℕ
end_or_zero None = 0
end_or_zero (Some end) = end

differ : {b : Bool} → b ≡ true → b ≡ false → ⊥
differ holds fails = cc

-- the tests of the four places have these values
record Tested (n : ℕ) (events : List Event) (w : World) (t : ℕ) (a b c d : Bool) : Type 0 where
  pub waiting : is_waiting n w t ≡ a
  pub held : is_held n events w t ≡ b
  pub removed : was_removed n events ≡ c
  pub expired : has_expired n events t ≡ d

-- in one place where it was born, and there by the events
record Placed (n : ℕ) (events : List Event) (w : World) (t : ℕ) : Type 0 where
  pub sum : places n events w t ≡ births n events
  pub place : IsPlace n events w t (place_of w.parts.queues n t)

module _ (events : List Event) (w : World) (h : Told events w) (n t : ℕ) (late : w.last ≤ t)
    (once : births n events ≤ 1) where
  abbrev total : Bool → Bool → Bool → Bool → ℕ
  total a b c d = one_if a + one_if b + one_if c + one_if d

  abbrev chain : Bool → Bool → Bool → Bool → Place
  chain a b c d =
      if a then place.Waiting (queue_of n events)
      else if b then place.Held (queue_of n events) (end_or_zero (last_hold n events))
      else if c then place.Deleted
      else if d then place.Expired
      else place.Unknown

  last_hold_some : (last : Option ℕ) → last_hold n events ≡ last → is_held n events w t ≡ true
      → last_hold n events ≡ Some (end_or_zero (last_hold n events))
  last_hold_some None is held = absurd (none_held (is_some (live_row n t w.parts.queues.rows))
      (sym (ap (λ k. is_some (live_row n t w.parts.queues.rows) && ends_after t k) is) ∙ held))
    where
      none_held : (there : Bool) → (there && false) ≡ true → ⊥
      none_held true is = cc
      none_held false is = cc
  last_hold_some (Some end) is held = is ∙ ap (λ k. Some (end_or_zero k)) (sym is)

  -- where the four tests have these values, of which at most one is true, the answer that goes by them is exact
  exact : (a b c d : Bool) → Tested n events w t a b c d → total a b c d ≡ births n events → births n events ≤ 1
      → (answer : Place) → answer ≡ chain a b c d → IsPlace n events w t answer
  exact true false false false tests sum once answer is = record {
    waiting = (λ x. is, λ x. tests.waiting);
    held = λ end. (λ x. absurd (differ x.0 tests.held), λ x. absurd (cc));
    removed = (λ x. absurd (differ x tests.removed), λ x. absurd (cc));
    expired = (λ x. absurd (differ x tests.expired), λ x. absurd (cc));
    unknown = (λ x. absurd (omega (arith, x, sum)), λ x. absurd (cc));
  }
  exact false true false false tests sum once answer is =
      let some = last_hold_some (last_hold n events) refl tests.held in
      record {
        waiting = (λ x. absurd (differ x tests.waiting), λ x. absurd (cc));
        held = λ end. (
          λ x. is ∙ ap (λ k. place.Held (queue_of n events) (end_or_zero k)) x.1,
          λ x. (
            tests.held,
            let same : end_or_zero (last_hold n events) ≡ end = cc in some
                ∙ ap (λ (k : ℕ). Some k) same,
          ),
        );
        removed = (λ x. absurd (differ x tests.removed), λ x. absurd (cc));
        expired = (λ x. absurd (differ x tests.expired), λ x. absurd (cc));
        unknown = (λ x. absurd (omega (arith, x, sum)), λ x. absurd (cc));
      }
  exact false false true false tests sum once answer is = record {
    waiting = (λ x. absurd (differ x tests.waiting), λ x. absurd (cc));
    held = λ end. (λ x. absurd (differ x.0 tests.held), λ x. absurd (cc));
    removed = (λ x. is, λ x. tests.removed);
    expired = (λ x. absurd (differ x tests.expired), λ x. absurd (cc));
    unknown = (λ x. absurd (omega (arith, x, sum)), λ x. absurd (cc));
  }
  exact false false false true tests sum once answer is = record {
    waiting = (λ x. absurd (differ x tests.waiting), λ x. absurd (cc));
    held = λ end. (λ x. absurd (differ x.0 tests.held), λ x. absurd (cc));
    removed = (λ x. absurd (differ x tests.removed), λ x. absurd (cc));
    expired = (λ x. is, λ x. tests.expired);
    unknown = (λ x. absurd (omega (arith, x, sum)), λ x. absurd (cc));
  }
  exact false false false false tests sum once answer is = record {
    waiting = (λ x. absurd (differ x tests.waiting), λ x. absurd (cc));
    held = λ end. (λ x. absurd (differ x.0 tests.held), λ x. absurd (cc));
    removed = (λ x. absurd (differ x tests.removed), λ x. absurd (cc));
    expired = (λ x. absurd (differ x tests.expired), λ x. absurd (cc));
    unknown = (λ x. is, λ x. sym sum);
  }
  exact true true c d tests sum once answer is = absurd (omega (arith, sum, once))
  exact true false true d tests sum once answer is = absurd (omega (arith, sum, once))
  exact true false false true tests sum once answer is = absurd (omega (arith, sum, once))
  exact false true true d tests sum once answer is = absurd (omega (arith, sum, once))
  exact false true false true tests sum once answer is = absurd (omega (arith, sum, once))
  exact false false true true tests sum once answer is = absurd (omega (arith, sum, once))

  by_values : (a b c d : Bool) → is_waiting n w t ≡ a → is_held n events w t ≡ b → was_removed n events ≡ c
      → has_expired n events t ≡ d → total a b c d ≡ births n events → place_of w.parts.queues n t ≡ chain a b c d
      → Placed n events w t
  by_values a b c d waiting held removed expired sum is = record {
    sum =
        ap (λ x. total x (is_held n events w t) (was_removed n events) (has_expired n events t)) waiting
        ∙ ap (λ x. total a x (was_removed n events) (has_expired n events t)) held
        ∙ ap (λ x. total a b x (has_expired n events t)) removed
        ∙ ap (λ x. total a b c x) expired
        ∙ sum;
    place = exact a b c d (record { waiting = waiting; held = held; removed = removed; expired = expired }) sum (once)
        (place_of w.parts.queues n t) is;
  }

  expired_by : (before removed : Bool) → is_before t (expiry_of n events) ≡ before → was_removed n events ≡ removed
      → has_expired n events t ≡ (not before && not removed)
  expired_by before removed early out = ap (λ b. not b && not (was_removed n events)) early
      ∙ ap (λ r. not before && not r) out

  no_live_row : live_row n t w.parts.queues.rows ≡ None → (is_waiting n w t ≡ false) × (is_held n events w t ≡ false)
  no_live_row none = (ap (waits t) none, ap (λ r. is_some r && ends_after t (last_hold n events)) none)

  -- a message without a row isn't among the live ones
  hidden : (s : Seen) → seen n w.parts.queues ≡ s → ((row : Message) → s ≡ Stands row → ⊥)
      → (is_waiting n w t ≡ false) × (is_held n events w t ≡ false)
  hidden s is never = no_live_row (live_row-none n t w.parts.queues.rows (no_row n w.parts.queues s is never))

  placed_at : (s : Seen) → seen n w.parts.queues ≡ s → place_of w.parts.queues n t ≡ place_by t s
  placed_at s is = ap (place_by t) is

  -- a message with a row
  by_row : (row : Message) → seen n w.parts.queues ≡ Stands row → IsTold n events row → Placed n events w t
  by_row row is was = by_live (is_live t row) refl
    where
      found : row_of n w.parts.queues.rows ≡ Some row
      found = row_seen n w.parts.queues row is

      expiry_is : is_before t (expiry_of n events) ≡ is_live t row
      expiry_is = ap (is_before t) (sym was.expiry)

      by_live : (alive : Bool) → is_live t row ≡ alive → Placed n events w t
      by_live false over =
          let gone = no_live_row (live_row-dead n t 0 w.parts.queues.rows row h.whole.rising found over) in
          by_values false false false true gone.0 gone.1 was.stays
          (expired_by false false (expiry_is ∙ over) was.stays) (sym was.born)
          (placed_at (Stands row) is ∙ ap (λ b. if b then place_of_live t row else place.Expired) over)
      by_live true alive = by_hold row.held (nat_lt t row.visible_at) refl refl
        where
          live_is : live_row n t w.parts.queues.rows ≡ Some row
          live_is = live_row-live n t w.parts.queues.rows row found alive

          early : has_expired n events t ≡ false
          early = expired_by true false (expiry_is ∙ alive) was.stays

          waits_by : (held over : Bool) → row.held ≡ held → nat_le row.visible_at t ≡ over
              → is_waiting n w t ≡ (not held || over)
          waits_by held over holds ends = ap (waits t) live_is ∙ ap (λ b. not b || nat_le row.visible_at t) holds
              ∙ ap (λ b. not held || b) ends

          last_is : (held : Bool) → row.held ≡ held → last_hold n events ≡ (if held then Some row.visible_at else None)
          last_is held holds = sym was.hold ∙ ap (λ b. if b then Some row.visible_at else None) holds

          held_by : (held : Bool) → row.held ≡ held → is_held n events w t
              ≡ ends_after t (if held then Some row.visible_at else None)
          held_by held holds = ap (λ r. is_some r && ends_after t (last_hold n events)) live_is
              ∙ ap (ends_after t) (last_is held holds)

          placed : (held hides : Bool) → row.held ≡ held → nat_lt t row.visible_at ≡ hides
              → place_of w.parts.queues n t ≡ (if held
              && hides then place.Held row.queue row.visible_at else place.Waiting row.queue)
          placed held hides holds is_hidden =
              placed_at (Stands row) is
              ∙ ap (λ b. if b then place_of_live t row else place.Expired) alive
              ∙ ap (λ b. if b && nat_lt t row.visible_at then place.Held row.queue row.visible_at else place.Waiting
              row.queue) holds
              ∙ ap (λ b. if held && b then place.Held row.queue row.visible_at else place.Waiting row.queue) is_hidden

          by_hold : (held hides : Bool) → row.held ≡ held → nat_lt t row.visible_at ≡ hides → Placed n events w t
          by_hold true true holds hides =
              let over : nat_le row.visible_at t ≡ false = grind (arith, nat_tests) in
              by_values false true false false (waits_by true false holds over) (held_by true holds ∙ hides)
              was.stays early (sym was.born)
              (placed true true holds hides ∙ ap (λ q. place.Held q row.visible_at) was.queue
              ∙ ap (λ k. place.Held (queue_of n events) (end_or_zero k)) (sym (last_is true holds)))
          by_hold true false holds hides =
              let over : nat_le row.visible_at t ≡ true = grind (arith, nat_tests) in
              by_values true false false false (waits_by true true holds over) (held_by true holds ∙ hides)
              was.stays early (sym was.born)
              (placed true false holds hides ∙ ap place.Waiting was.queue)
          by_hold false hides holds is_hidden =
              by_values true false false false (waits_by false (nat_le row.visible_at t) holds refl)
              (held_by false holds) was.stays early (sym was.born)
              (placed false hides holds is_hidden ∙ ap place.Waiting was.queue)

  -- a message that has ended
  by_ending : (ending : Ending) → seen n w.parts.queues ≡ Ended ending → IsSeenBy n events w.last (Ended ending)
      → Placed n events w t
  by_ending Deleted is was =
      let gone = hidden (Ended Deleted) is (λ row stands. cc) in
      by_values false false true false gone.0 gone.1 was.1 (by_before (is_before t (expiry_of n events)) refl)
      (sym was.0) (placed_at (Ended Deleted) is)
    where
      by_before : (before : Bool) → is_before t (expiry_of n events) ≡ before → has_expired n events t ≡ false
      by_before true early = expired_by true true early was.1
      by_before false early = expired_by false true early was.1
  by_ending (Completed invocation) is was = absurd was
  by_ending (Moved copy) is was = absurd was
  by_ending Expired is was =
      let gone = hidden (Ended Expired) is (λ row stands. cc) in
      by_values false false false true gone.0 gone.1 was.stays
      (expired_by false false (expired_later w.last t (expiry_of n events) late was.over) was.stays) (sym was.born)
      (placed_at (Ended Expired) is)

  by_seen : (s : Seen) → seen n w.parts.queues ≡ s → IsSeenBy n events w.last s → Placed n events w t
  by_seen Unborn is was =
      let gone = hidden Unborn is (λ row stands. cc) in
      by_values false false false false gone.0 gone.1 was.2
      (expired_by true false (ap (λ b. is_before t (expiry_by b)) (unborn n events was.0)) was.2)
      (sym was.0) (placed_at Unborn is)
  by_seen (Stands row) is was = by_row row is was
  by_seen (Ended ending) is was = by_ending ending is was

  lasting : expiry_of n events ≡ None → has_expired n events t ≡ false
  lasting none = ap (λ x. not (is_before t x) && not (was_removed n events)) none

-- a number is born once
pub born_once : (history : List Entry) (n : ℕ) → births n (trace history) ≤ 1
born_once history n = by_test (nat_le 1 n && nat_lt n (replay history).parts.queues.next_number)
    ((told history).births n)
  where
    by_test : (test : Bool) → births n (trace history) ≡ (if test then 1 else 0) → births n (trace history) ≤ 1
    by_test true is = omega (arith, is)
    by_test false is = omega (arith, is)

placed_in : (history : List Entry) (n t : ℕ) → (replay history).last ≤ t → Placed n (trace history) (replay history) t
placed_in history n t late = by_seen (trace history) (replay history) (told history) n t late (born_once history n)
    (seen n (replay history).parts.queues) refl ((told history).seen n)

pub in_one_place : (history : List Entry) (n t : ℕ) → (replay history).last ≤ t → IsInOnePlace history n t
in_one_place history n t late =
    let is = placed_in history n t late in
    record {
      born = λ once. is.sum ∙ once;
      unborn = λ never. is.sum ∙ never;
      lasting = lasting (trace history) (replay history) (told history) n t late (born_once history n);
    }

pub located : (history : List Entry) (n t : ℕ) → (replay history).last ≤ t → IsLocated history n t
located history n t late = (placed_in history n t late).place
