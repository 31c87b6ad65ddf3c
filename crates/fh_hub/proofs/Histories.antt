-- A file stands for one legal history at most, and for none where it is broken; and it is broken first at one place.
use Rattle.std.proofs.Common.{◌≡◌, ◌⊎◌, inl, inr, ℕ, ◌<◌, List, [], ◌∷◌, ◌++◌, length, refl, sym, ◌∙◌, ap, subst, arith}
use Rattle.std.proofs.lemmas.List.{append-nil}
use Rattle.fh_event.specs.Entries.{IsEntry}
use Rattle.fh_event.specs.Reading.{entry_read}
use Rattle.fh_event.proofs.Steps.{ok_is}
use Rattle.fh_event.proofs.EntryLaws.{is_one_entry, read_again}
use Rattle.fh_journal.specs.Journal.{opened}
use Rattle.fh_journal.proofs.Readings.{stands_once, journal_once, not_both, breaks_once, broken_journal}
use Rattle.fh_hub.specs.World.{World, empty}
use Rattle.fh_hub.specs.Replay.{Entry, bytes_of, payloads_of, replay_from, replay, after, IsWritten, IsNext, IsLegalFrom, IsLegal}
use Rattle.fh_hub.specs.Hub.{StandsForHistory}
use Rattle.fh_hub.specs.Mounting.{IsRefusedBy, IsRefusedAt, BreaksEntryAt, IsBrokenAt}
use Rattle.fh_hub.specs.declared.faults.HubRule.{HubRule}
use Rattle.fh_hub.specs.declared.faults.HubRule.TheVariants.{Frame, Event, Refused}

same_entry : (d e : Entry) → IsWritten d → IsWritten e → bytes_of d ≡ bytes_of e → d ≡ e
same_entry d e first second same =
    let one = is_one_entry (bytes_of d) d.moment e.moment d.command e.command first
    (subst (λ (bytes : List ℕ). IsEntry bytes e.moment e.command) (sym same) second) in
    (λ i. record { command = one.1 i; moment = one.0 i })

-- the first of these payloads is an entry that goes on with a history
record GoesOn (w : World) (history : List Entry) (payloads : List (List ℕ)) : Type 0 where
  entry : Entry
  more : List (List ℕ)
  is : payloads ≡ bytes_of entry ∷ more
  written : IsWritten entry
  next : IsNext (replay_from w history) entry

-- two legal histories that begin one list of payloads are the same, or one of them goes on as the other
abbrev Parts : World → List Entry → List Entry → List (List ℕ) → List (List ℕ) → Type 0
Parts w history other rest more = ((history ≡ other) × (rest ≡ more)) ⊎ (GoesOn w history rest ⊎ GoesOn w other more)

parts_more : (w : World) (d e : Entry) (history other : List Entry) (rest more : List (List ℕ)) → d ≡ e
    → Parts (after w d) history other rest more → Parts w (d ∷ history) (e ∷ other) rest more
parts_more w d e history other rest more same (inl alike) = inl ((λ i. same i ∷ alike.0 i), alike.1)
parts_more w d e history other rest more same (inr (inl on)) =
    inr (inl (record { entry = on.entry; more = on.more; is = on.is; written = on.written; next = on.next }))
parts_more w d e history other rest more same (inr (inr on)) = inr (inr (record {
  entry = on.entry;
  more = on.more;
  is = on.is;
  written = on.written;
  next = subst (λ (x : Entry). IsNext (replay_from (after w x) other) on.entry) same on.next;
}))

parts : (w : World) (history other : List Entry) (rest more : List (List ℕ)) → IsLegalFrom w history
    → IsLegalFrom w other
    → payloads_of history ++ rest ≡ payloads_of other ++ more → Parts w history other rest more
parts w [] [] rest more legal second same = inl (refl, same)
parts w [] (e ∷ other) rest more legal second same =
    inr (inl (record {
      entry = e;
      more = payloads_of other ++ more;
      is = same;
      written = second.0.0;
      next =
          second.0.1;
    }))
parts w (d ∷ history) [] rest more legal second same =
    inr (inr (record {
      entry = d;
      more = payloads_of history ++ rest;
      is = sym same;
      written = legal.0.0;
      next =
          legal.0.1;
    }))
parts w (d ∷ history) (e ∷ other) rest more legal second same =
    let first : d ≡ e = same_entry d e legal.0.0 second.0.0 (cc same) in
    let others : IsLegalFrom (after w d) other = subst (λ (x : Entry). IsLegalFrom (after w x) other) (sym first)
    second.1 in
    parts_more w d e history other rest more first (parts (after w d) history other rest more legal.1 others (cc same))

ends_there : (w : World) (history : List Entry) → GoesOn w history [] → ⊥
ends_there w history on = absurd (let is = on.is in cc)

-- an entry that goes on with a history isn't refused behind it
not_refused : (rule : HubRule) (history : List Entry) (payload : List ℕ) (more : List (List ℕ))
    → IsRefusedBy rule history payload → GoesOn empty history (payload ∷ more) → ⊥
not_refused (Frame rule) history payload more refused on = refused
not_refused (Event fault) history payload more refused on =
    let is : payload ≡ bytes_of on.entry = let whole = on.is in cc in
    let read = read_again (bytes_of on.entry) on.entry.moment on.entry.command on.written in
    absurd (let said = sym refused ∙ ap entry_read is ∙ read in cc)
not_refused Refused history payload more refused on =
    let is : payload ≡ bytes_of on.entry = let whole = on.is in cc in
    let read = read_again (bytes_of on.entry) on.entry.moment on.entry.command on.written in
    let both = ok_is (refused.entry.moment, refused.entry.command) (on.entry.moment, on.entry.command)
    (sym refused.read ∙ ap entry_read is ∙ read) in
    let same : refused.entry ≡ on.entry = (λ i. record { command = (both i).1; moment = (both i).0 }) in
    refused.refused (subst (λ (e : Entry). IsNext (replay history) e) (sym same) on.next)

-- all payloads of a file can't be a legal history where one is refused
no_history : (payloads : List (List ℕ)) (at : ℕ) (rule : HubRule) (history : List Entry) → IsRefusedAt payloads at rule
    → IsLegal history → payloads ≡ payloads_of history → ⊥
no_history payloads at rule history it legal same =
    ends (parts empty history it.history [] (it.payload ∷ it.more) legal it.legal
    (append-nil (payloads_of history) ∙ sym same ∙ it.whole))
  where
    ends : Parts empty history it.history [] (it.payload ∷ it.more) → ⊥
    ends (inl alike) = absurd (let none = alike.1 in cc)
    ends (inr (inl on)) = ends_there empty history on
    ends (inr (inr on)) = not_refused rule it.history it.payload it.more it.refused on

broken_entry : (file : List ℕ) (at : ℕ) (rule : HubRule) (history : List Entry) → 7 < length file
    → BreaksEntryAt file at rule → IsLegal history → StandsForHistory history file → ⊥
broken_entry file at rule history long breaks legal (inl small) = omega (arith, long, small.0)
broken_entry file at rule history long breaks legal (inr stands) =
    no_history breaks.payloads at rule history breaks.refused legal
    (stands_once file breaks.payloads (payloads_of history) breaks.gate stands.0 breaks.stands stands.1).0

pub broken_history : (file : List ℕ) (at : ℕ) (rule : HubRule) (history : List Entry) → 7 < length file
    → IsBrokenAt file at rule → IsLegal history → StandsForHistory history file → ⊥
broken_history file at (Frame rule) history long breaks legal stands =
    broken_journal file at rule (payloads_of history) long breaks stands
broken_history file at (Event fault) history long breaks legal stands =
    broken_entry file at (Event fault) history long breaks legal stands
broken_history file at Refused history long breaks legal stands =
    broken_entry file at Refused history long breaks legal stands

-- one history is read of a file
same_histories : (history other : List Entry) → IsLegal history → IsLegal other
    → payloads_of history ≡ payloads_of other → history ≡ other
same_histories history other legal second same =
    ends (parts empty history other [] [] legal second
    (append-nil (payloads_of history) ∙ same ∙ sym (append-nil (payloads_of other))))
  where
    ends : Parts empty history other [] [] → history ≡ other
    ends (inl alike) = alike.0
    ends (inr (inl on)) = absurd (ends_there empty history on)
    ends (inr (inr on)) = absurd (ends_there empty other on)

pub one_history : (file : List ℕ) (history other : List Entry) → IsLegal history → IsLegal other
    → StandsForHistory history file → StandsForHistory other file → history ≡ other
one_history file history other legal second stands also =
    same_histories history other legal second (journal_once file (payloads_of history) (payloads_of other) stands also)

-- one reason refuses a payload
one_reason : (rule second : HubRule) (history : List Entry) (payload : List ℕ) → IsRefusedBy rule history payload
    → IsRefusedBy second history payload → rule ≡ second
one_reason (Frame rule) second history payload a b = absurd a
one_reason (Event fault) (Frame rule) history payload a b = absurd b
one_reason (Event fault) (Event also) history payload a b = ap Event (let said = sym a ∙ b in cc)
one_reason (Event fault) Refused history payload a b = absurd (let said = sym a ∙ b.read in cc)
one_reason Refused (Frame rule) history payload a b = absurd b
one_reason Refused (Event fault) history payload a b = absurd (let said = sym a.read ∙ b in cc)
one_reason Refused Refused history payload a b = refl

refused_once : (payloads : List (List ℕ)) (at place : ℕ) (rule second : HubRule) → IsRefusedAt payloads at rule
    → IsRefusedAt payloads place second → (at ≡ place) × (rule ≡ second)
refused_once payloads at place rule second a b =
    ends (parts empty a.history b.history (a.payload ∷ a.more) (b.payload ∷ b.more) a.legal b.legal
    (sym a.whole ∙ b.whole))
  where
    ends : Parts empty a.history b.history (a.payload ∷ a.more) (b.payload ∷ b.more) → (at ≡ place) × (rule ≡ second)
    ends (inl alike) = (
      a.place ∙ ap (λ (h : List Entry). length (opened (payloads_of h))) alike.0 ∙ sym b.place,
      let payload : a.payload ≡ b.payload = (let same = alike.1 in cc) in
          one_reason rule second b.history b.payload
          (subst (IsRefusedBy rule b.history) payload
          (subst (λ (h : List Entry). IsRefusedBy rule h a.payload) alike.0 a.refused))
          b.refused,
    )
    ends (inr (inl on)) = absurd (not_refused rule a.history a.payload a.more a.refused on)
    ends (inr (inr on)) = absurd (not_refused second b.history b.payload b.more b.refused on)

entries_once : (file : List ℕ) (at place : ℕ) (rule second : HubRule) → BreaksEntryAt file at rule
    → BreaksEntryAt file place second → (at ≡ place) × (rule ≡ second)
entries_once file at place rule second a b =
    let same = (stands_once file a.payloads b.payloads a.gate b.gate a.stands b.stands).0 in
    refused_once b.payloads at place rule second
    (subst (λ (ps : List (List ℕ)). IsRefusedAt ps at rule) same a.refused) b.refused

pub broken_once : (file : List ℕ) (at place : ℕ) (rule second : HubRule) → IsBrokenAt file at rule
    → IsBrokenAt file place second → (at ≡ place) × (rule ≡ second)
broken_once file at place (Frame rule) (Frame second) a b =
    let once = breaks_once file at place rule second a b in
    (once.0, ap Frame once.1)
broken_once file at place (Frame rule) (Event second) a b = absurd (not_both file at rule b.payloads b.gate a b.stands)
broken_once file at place (Frame rule) Refused a b = absurd (not_both file at rule b.payloads b.gate a b.stands)
broken_once file at place (Event fault) (Frame second) a b =
    absurd (not_both file place second a.payloads a.gate b a.stands)
broken_once file at place Refused (Frame second) a b = absurd (not_both file place second a.payloads a.gate b a.stands)
broken_once file at place (Event fault) (Event second) a b = entries_once file at place (Event fault) (Event second) a b
broken_once file at place (Event fault) Refused a b = entries_once file at place (Event fault) Refused a b
broken_once file at place Refused (Event second) a b = entries_once file at place Refused (Event second) a b
broken_once file at place Refused Refused a b = entries_once file at place Refused Refused a b
