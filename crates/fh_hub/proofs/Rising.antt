-- Over more entries, a message's receipt only rises; and events of legal histories act at their own moments.
use Rattle.std.proofs.Common.{◌≡◌, ℕ, ◌≤◌, ◌<◌, inl, inr, List, [], ◌∷◌, ◌++◌, Option, Some, None, refl, sym, ◌∙◌, ap, subst, arith}
use Rattle.std.specs.List.{All}
use Rattle.std.proofs.lemmas.List.Elements.{All-nil, All-cons, All-append}
use Rattle.fh_event.specs.declared.command.Command.{Command}
use Rattle.fh_event.specs.declared.reply.Reply.{Reply}
use Rattle.fh_queues.specs.declared.row.Message.{Message}
use Rattle.fh_queues.specs.Rows.{row_of}
use Rattle.fh_queues.specs.Receipts.{Rises}
use Rattle.fh_queues.specs.declared.done.Ending.{Ending}
use Rattle.fh_queues.specs.Part.{end_of}
use Rattle.fh_queues.specs.Seen.{Unborn, Stands, Ended, seen_by, seen}
use Rattle.fh_queues.specs.Goings.{goes_on}
use Rattle.fh_queues.proofs.Lawful.{goes_as_answered, raises_receipts}
use Rattle.fh_hub.specs.World.{World, empty, Stepped, Refused, Read, Quieted, Recorded, step, effective_moment}
use Rattle.fh_hub.specs.Replay.{Entry, Event, event_of, trace_from, trace, after, replay_from, replay, IsLegalFrom, IsLegal}
use Rattle.fh_hub.specs.Laws.{births}
use Rattle.fh_hub.specs.Guards.{RisesOver, HasOwnMoment}
use Rattle.fh_hub.proofs.Steps.{Made, IsKept, event, kept_from}
use Rattle.fh_hub.proofs.Told.{Told, IsSeenBy, told_kept, told, born_stays}
use Rattle.fh_hub.proofs.Guarding.{stands_seen}

replay_from-append : (w : World) (history entries : List Entry)
    → replay_from w (history ++ entries) ≡ replay_from (replay_from w history) entries
replay_from-append w [] entries = refl
replay_from-append w (e ∷ history) entries = replay_from-append (after w e) history entries

rises_on : (first second third : Message) → Rises first second → Rises second third → Rises first third
rises_on first second third (inl same) (inl again) = inl (again ∙ same)
rises_on first second third (inl same) (inr more) = inr (subst (λ (r : Message). r.receipt < third.receipt) same more)
rises_on first second third (inr more) (inl again) =
    inr (subst (λ (r : Message). first.receipt < r.receipt) (sym again) more)
rises_on first second third (inr more) (inr then_more) = inr (omega (arith, more, then_more))

-- the row of the message has risen from this one
record HasRisen (n : ℕ) (before : Message) (events : List Event) (w : World) : Type 0 where
  pub told : Told events w
  pub born : births n events ≡ 1
  pub rises : (later : Message) → row_of n w.parts.queues.rows ≡ Some later → Rises before later

-- a message that has no row doesn't get one again
gone_stays : (n : ℕ) (before : Message) (events : List Event) (w : World) (command : Command) (now : ℕ) (new : World)
    (reply : Reply) (later : Message)
    → HasRisen n before events w → Made w command now new reply → row_of n new.parts.queues.rows ≡ Some later
    → row_of n w.parts.queues.rows ≡ None → ⊥
gone_stays n before events w command now new reply later h made found none = by_end (end_of n w.parts.queues.ends) refl
  where
    goes : goes_on w.parts.queues (effective_moment w now) made.ask made.done.queues n (seen n w.parts.queues)
        ≡ Stands later
    goes = sym (goes_as_answered w.parts.queues made.ask (effective_moment w now)
        new.parts.queues made.done.queues h.told.whole made.queues n) ∙ stands_seen n new.parts.queues later found

    by_end : (end : Option Ending) → end_of n w.parts.queues.ends ≡ end → ⊥
    by_end None is =
        let unborn : seen n w.parts.queues ≡ Unborn = ap (λ r. seen_by r (end_of n w.parts.queues.ends)) none
        ∙ ap (seen_by None) is in
        let never = subst (IsSeenBy n events w.last) unborn (h.told.seen n) in
        omega (arith, h.born, never.0)
    by_end (Some ending) is =
        let gone : seen n w.parts.queues ≡ Ended ending = ap (λ r. seen_by r (end_of n w.parts.queues.ends)) none
        ∙ ap (seen_by None) is in
        let stays : Ended ending ≡ Stands later = sym
        (ap (goes_on w.parts.queues (effective_moment w now) made.ask made.done.queues n) gone) ∙ goes in
        cc

risen_kept : (n : ℕ) (before : Message) → IsKept (HasRisen n before)
risen_kept n before events w command now new reply h made = record {
  told = told_kept events w command now new reply h.told made;
  born = born_stays events w command now new reply h.told made n h.born;
  rises = λ later found. by_row later found (row_of n w.parts.queues.rows) refl;
}
  where
    by_row : (later : Message) → row_of n new.parts.queues.rows ≡ Some later → (was : Option Message)
        → row_of n w.parts.queues.rows ≡ was → Rises before later
    by_row later found None none = absurd (gone_stays n before events w command now new reply later h made found none)
    by_row later found (Some mid) was =
        rises_on before mid later (h.rises mid was)
        (raises_receipts w.parts.queues made.ask (effective_moment w now)
        new.parts.queues made.done.queues h.told.whole made.queues n mid later
        (stands_seen n w.parts.queues mid was) (stands_seen n new.parts.queues later found))

pub rises_over : (history entries : List Entry) → RisesOver history entries
rises_over history entries n before later was found =
    let begins : HasRisen n before (trace history) (replay history) = record {
      told = told history;
      born = (subst (IsSeenBy n (trace history) (replay history).last)
          (stands_seen n (replay history).parts.queues before was) ((told history).seen n)).born;
      rises = λ same found. inl (cc);
    } in
    (kept_from (HasRisen n before) (risen_kept n before) entries (trace history) (replay history) begins).rises later
    (ap (λ (w : World). row_of n w.parts.queues.rows) (sym (replay_from-append empty history entries)) ∙ found)

own_by_step : (w : World) (command : Command) (m : ℕ) (s : Stepped) → w.last ≤ m
    → All HasOwnMoment (event_of w command m s)
own_by_step w command m (Refused rule) own = All-nil HasOwnMoment
own_by_step w command m (Read reply) own = All-nil HasOwnMoment
own_by_step w command m (Quieted reply) own = All-nil HasOwnMoment
own_by_step w command m (Recorded new reply) own =
    All-cons HasOwnMoment (event w command m reply new) [] (omega (arith, own)) (All-nil HasOwnMoment)

own_from : (w : World) (entries : List Entry) → IsLegalFrom w entries → All HasOwnMoment (trace_from w entries)
own_from w [] legal = All-nil HasOwnMoment
own_from w (e ∷ entries) legal =
    All-append HasOwnMoment (event_of w e.command e.moment (step w e.command e.moment)) (trace_from (after w e) entries)
    (own_by_step w e.command e.moment (step w e.command e.moment) legal.0.1.own_moment)
    (own_from (after w e) entries legal.1)

pub own_moments : (history : List Entry) → IsLegal history → All HasOwnMoment (trace history)
own_moments history legal = own_from empty history legal
