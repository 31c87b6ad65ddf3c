-- Who holds a lease by the events of a trace has it by the world.
use Rattle.std.proofs.Common.{◌≡◌, inl, inr, ◌⊎◌, ℕ, ◌<◌, ◌≤◌, Bool, true, false, List, [], ◌∷◌, ◌++◌, Option, Some, None, refl, sym, ◌∙◌, ap, subst, arith}
use Rattle.std.specs.Prelude.{nat_lt, IfSome}
use Rattle.std.proofs.lemmas.Bool.Decides.{nat_tests}
use Rattle.std.proofs.lemmas.List.Sums.{fold_push}
use Rattle.fh_event.specs.declared.command.Command.{Command}
use Rattle.fh_event.specs.declared.command.Command.TheVariants.{Acquire, RenewLease, ReleaseLease}
use Rattle.fh_event.specs.declared.reply.Reply.{Reply}
use Rattle.fh_queues.specs.declared.done.QueueDone.TheVariants as queue_done
use Rattle.fh_queues.specs.Asks as queue_asks
use Rattle.fh_queues.specs.Laws as queue_laws
use Rattle.fh_blobs.specs.declared.done.BlobDone.TheVariants as blob_done
use Rattle.fh_blobs.specs.Asks as blob_asks
use Rattle.fh_blobs.specs.Laws as blob_laws
use Rattle.fh_blobs.proofs.Lawful.{answers_the_ask as blobs_answer}
use Rattle.fh_leases.specs.declared.done.LeaseDone.{LeaseDone}
use Rattle.fh_leases.specs.declared.done.LeaseDone.TheVariants as lease_done
use Rattle.fh_leases.specs.Asks as leases
use Rattle.fh_leases.specs.Part.{LeasePart, holder_at}
use Rattle.fh_leases.specs.Laws.{granted, taken, end_of, KeepsUnlessOver, TellsOfHolders}
use Rattle.fh_leases.proofs.Lawful.{tells, one_holder, told as told_of_holder}
use Rattle.fh_timers.specs.declared.done.TimerDone.TheVariants as timer_done
use Rattle.fh_dispatch.specs.declared.done.WorkDone.TheVariants as work_done
use Rattle.fh_hub.specs.Asked.{queue_ask_in, blob_ask_in, lease_ask}
use Rattle.fh_hub.specs.Stores.{Done}
use Rattle.fh_hub.specs.Replies.{reply_of_leases, reply_of}
use Rattle.fh_hub.specs.World.{World, empty, effective_moment}
use Rattle.fh_hub.specs.Replay.{Entry, Event, trace, replay}
use Rattle.fh_hub.specs.Places.{ends_after}
use Rattle.fh_hub.specs.Holders.{granted_by, is_taken_by, unless_taken, last_grant, holds, IsHeldByOne, newer}
use Rattle.fh_hub.proofs.Steps.{Made, is_configure, is_timed, is_fetch, asked_plainly, IsKept, event, kept_by_all}
use Rattle.fh_hub.proofs.Answering.{swept, works, nothing_done, queues_answered, work_rests, timers_rest}

-- ---- grants

by_acquire : (x : List ℕ) (h : ℕ) (lease : List ℕ) (holder seconds : ℕ) (answer : LeaseDone)
    → granted_by x h (Acquire lease holder seconds) (reply_of_leases answer)
    ≡ granted x h (lease_ask (Acquire lease holder seconds)) answer
by_acquire x h lease holder seconds (lease_done.Acquired until) = refl
by_acquire x h lease holder seconds answer = refl

by_renewal : (x : List ℕ) (h : ℕ) (lease : List ℕ) (holder : ℕ) (answer : LeaseDone)
    → granted_by x h (RenewLease lease holder) (reply_of_leases answer)
    ≡ granted x h (lease_ask (RenewLease lease holder)) answer
by_renewal x h lease holder (lease_done.Renewed until) = refl
by_renewal x h lease holder answer = refl

-- a reply is that of the leases where the other stores did nothing
of_leases : (answer : Done) → answer.queues ≡ queue_done.Swept → answer.blobs ≡ blob_done.Nothing
    → answer.timers ≡ timer_done.Nothing → answer.work ≡ work_done.Nothing
    → reply_of answer ≡ reply_of_leases answer.leases
of_leases answer queues blobs timers work = rw (queues, blobs, timers, work) refl

-- so it is where a command asks nothing of them
alone : (w : World) (command : Command) (now : ℕ) (new : World) (reply : Reply) (made : Made w command now new reply)
    → is_configure command ≡ false → is_fetch command ≡ false → works command ≡ false → is_timed command ≡ false
    → queue_ask_in w.parts command ≡ queue_asks.Sweep → blob_ask_in w.parts command ≡ blob_asks.Nothing
    → reply ≡ reply_of_leases made.done.leases
alone w command now new reply made plain apart rests untimed sweeps leaves =
    let m = effective_moment w now in
    let queues = swept made.done.queues (subst (λ (a : queue_asks.Ask). queue_laws.answers a made.done.queues ≡ true)
    (asked_plainly w.parts command made.ask plain apart made.asked ∙ sweeps)
    (queues_answered w command now new reply made)) in
    let blobs = nothing_done made.done.blobs
    (subst (λ (a : blob_asks.Ask). blob_laws.answers a made.done.blobs ≡ true) leaves
    (blobs_answer w.parts.blobs (blob_ask_in w.parts command) m new.parts.blobs made.done.blobs made.blobs)) in
    made.replies ∙ of_leases made.done queues blobs (timers_rest w command now new reply made plain untimed)
    (work_rests w command now new reply made rests untimed)

grants_as_told : (x : List ℕ) (h : ℕ) (w : World) (command : Command) (now : ℕ) (new : World) (reply : Reply)
    (made : Made w command now new reply)
    → granted_by x h command reply ≡ granted x h (lease_ask command) made.done.leases
grants_as_told x h w (Acquire lease holder seconds) now new reply made =
    ap (granted_by x h (Acquire lease holder seconds))
    (alone w (Acquire lease holder seconds) now new reply made refl refl refl refl refl refl)
    ∙ by_acquire x h lease holder seconds made.done.leases
grants_as_told x h w (RenewLease lease holder) now new reply made =
    ap (granted_by x h (RenewLease lease holder))
    (alone w (RenewLease lease holder) now new reply made refl refl refl refl refl refl)
    ∙ by_renewal x h lease holder made.done.leases
grants_as_told x h w (ReleaseLease lease holder) now new reply made = refl
grants_as_told x h w command now new reply made = refl

takes_as_told : (x : List ℕ) (h : ℕ) (command : Command) → is_taken_by x h command ≡ taken x h (lease_ask command)
takes_as_told x h (ReleaseLease lease holder) = refl
takes_as_told x h command = refl

-- ---- the last grant and the world

-- the last grant is what the world has, or the world has none and the grant is over
abbrev IsGrant : ℕ → Option ℕ → Option ℕ → Type 0
IsGrant last grant held = (grant ≡ held) ⊎ ((held ≡ None) × IfSome grant (λ end. end ≤ last))

abbrev Leased : List Event → World → Type 0
Leased events w = (x : List ℕ) (h : ℕ) → IsGrant w.last (last_grant x h events) (end_of w.parts.leases x h)

over_later : (last later : ℕ) (grant : Option ℕ) → last ≤ later → IfSome grant (λ end. end ≤ last)
    → IfSome grant (λ end. end ≤ later)
over_later last later None less over = tt
over_later last later (Some end) less over = omega (arith, less, over)

goes_on : (last m : ℕ) (grant before held : Option ℕ) → last ≤ m → IsGrant last grant before
    → KeepsUnlessOver m before held → IsGrant m grant held
goes_on last m grant before held less (inl same) (inl kept) = inl (same ∙ sym kept)
goes_on last m grant before held less (inl same) (inr gone) =
    inr (gone.0, subst (λ (g : Option ℕ). IfSome g (λ end. end ≤ m)) (sym same) gone.1)
goes_on last m grant before held less (inr over) (inl kept) = inr (kept ∙ over.0, over_later last m grant less over.1)
goes_on last m grant before held less (inr over) (inr gone) = inr (gone.0, over_later last m grant less over.1)

module _ (events : List Event) (w : World) (command : Command) (now : ℕ) (new : World) (reply : Reply)
    (before : Leased events w) (made : Made w command now new reply) (x : List ℕ) (h : ℕ) where
  abbrev m : ℕ
  m = effective_moment w now

  abbrev e : Event
  e = event w command now reply new

  abbrev ask : leases.Ask
  ask = lease_ask command

  tellings : TellsOfHolders w.parts.leases m ask new.parts.leases made.done.leases
  tellings = tells w.parts.leases ask m new.parts.leases made.done.leases made.leases

  grows : last_grant x h (events ++ e ∷ []) ≡ unless_taken (taken x h ask)
      (newer (last_grant x h events) (granted x h ask made.done.leases))
  grows =
      fold_push (λ grant (y : Event). unless_taken (is_taken_by x h y.command)
      (newer grant (granted_by x h y.command y.reply))) None events e
      ∙ ap (λ b. unless_taken b (newer (last_grant x h events) (granted_by x h command reply)))
      (takes_as_told x h command)
      ∙ ap (λ g. unless_taken (taken x h ask) (newer (last_grant x h events) g))
      (grants_as_told x h w command now new reply made)

  by_cases : (out : Bool) (grant : Option ℕ) → taken x h ask ≡ out → granted x h ask made.done.leases ≡ grant
      → IsGrant m (unless_taken out (newer (last_grant x h events) grant)) (end_of new.parts.leases x h)
  by_cases true grant takes grants = inl (sym (tellings.takes x h takes))
  by_cases false (Some end) takes grants = inl (sym (tellings.grants x h end grants))
  by_cases false None takes grants =
      goes_on w.last m (last_grant x h events) (end_of w.parts.leases x h) (end_of new.parts.leases x h) (omega arith)
      (before x h) (tellings.others x h grants takes)

  leased_after : IsGrant new.last (last_grant x h (events ++ e ∷ [])) (end_of new.parts.leases x h)
  leased_after =
      subst (λ (k : ℕ). IsGrant k (last_grant x h (events ++ e ∷ [])) (end_of new.parts.leases x h)) (sym made.last)
      (subst (λ (g : Option ℕ). IsGrant m g (end_of new.parts.leases x h)) (sym grows)
      (by_cases (taken x h ask) (granted x h ask made.done.leases) refl refl))

leased_kept : IsKept Leased
leased_kept = leased_after

leased_none : Leased [] empty
leased_none x h = inl refl

leased : (history : List Entry) → Leased (trace history) (replay history)
leased history = kept_by_all Leased leased_kept leased_none history

-- ---- the law

-- who holds a lease has it in the world until the same end
record Has (held grant : Option ℕ) (t : ℕ) : Type 0 where
  end : ℕ
  there : held ≡ Some end
  last : grant ≡ Some end
  later : t < end

has : (last t : ℕ) (grant held : Option ℕ) → last ≤ t → IsGrant last grant held → ends_after t grant ≡ true
    → Has held grant t
has last t None held less is ends = absurd (cc)
has last t (Some end) held less (inl same) ends =
    record { end = end; there = sym same; last = refl; later = grind (arith, nat_tests, ends) }
has last t (Some end) held less (inr over) ends = absurd (not_over ends over.1)
  where
    not_over : nat_lt t end ≡ true → end ≤ last → ⊥
    not_over ends over = grind (arith, nat_tests, less)

holds_if_held : (last t end : ℕ) (grant held : Option ℕ) → IsGrant last grant held → held ≡ Some end → t < end
    → (ends_after t grant ≡ true) × (grant ≡ Some end)
holds_if_held last t end grant held (inl same) is later =
    (subst (λ (g : Option ℕ). ends_after t g ≡ true) (sym (same ∙ is)) (grind (arith, nat_tests)), same ∙ is)
holds_if_held last t end grant held (inr over) is later = absurd (some_is_none (sym is ∙ over.0))
  where
    some_is_none : Some end ≡ None → ⊥
    some_is_none is = cc

module _ (history : List Entry) (x : List ℕ) (t : ℕ) (less : (replay history).last ≤ t) where
  abbrev part : LeasePart
  part = (replay history).parts.leases

  abbrev grant_of : ℕ → Option ℕ
  grant_of h = last_grant x h (trace history)

  has_it : (h : ℕ) → holds x h (trace history) t ≡ true → Has (end_of part x h) (grant_of h) t
  has_it h held = has (replay history).last t (grant_of h) (end_of part x h) less (leased history x h) held

  one : (h k : ℕ) → holds x h (trace history) t ≡ true → holds x k (trace history) t ≡ true → h ≡ k
  one h k first second =
      let a = has_it h first in
      let b = has_it k second in
      one_holder part x h k a.end b.end a.there b.there

  told : (h end : ℕ) → holder_at part x t ≡ Some (h, end)
      → (holds x h (trace history) t ≡ true) × (grant_of h ≡ Some end)
  told h end is =
      let held = (told_of_holder part x h end t).0 is in
      holds_if_held (replay history).last t end (grant_of h) (end_of part x h) (leased history x h) held.0 held.1

  held : (h end : ℕ) → holds x h (trace history) t ≡ true → grant_of h ≡ Some end → holder_at part x t ≡ Some (h, end)
  held h end holding is =
      let a = has_it h holding in
      let same : Some a.end ≡ Some end = sym a.last ∙ is in
      let end_is : a.end ≡ end = cc in
      (told_of_holder part x h end t).1 (
        a.there ∙ ap (λ (k : ℕ). Some k) end_is,
        subst (λ (k : ℕ). t < k) end_is a.later,
      )

  pub held_by_one : IsHeldByOne history x t
  held_by_one = record { one = one; told = λ h end. (told h end, λ is. held h end is.0 is.1) }
