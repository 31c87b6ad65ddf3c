-- What a crash during a step may be read as.
use Rattle.std.proofs.Common.{◌≡◌, inl, inr, ℕ, Bool, false, List, [], ◌∷◌, ◌++◌, Option, Some, None, IfSome, sym, ◌∙◌, subst, ap}
use Rattle.fh_disk.specs.Moments.{LeavesOnly}
use Rattle.fh_disk.proofs.Moments.{started, widens}
use Rattle.fh_disk.proofs.Told.{where_told}
use Rattle.fh_journal.specs.Journal.{IsJournalOf, MayReadAs}
use Rattle.fh_journal.specs.Keeping.{Keeps, IsBeforeOrAfter}
use Rattle.fh_journal.proofs.Bytes.{reads}
use Rattle.fh_hub.specs.Replay.{Entry, bytes_of, payloads_of}
use Rattle.fh_hub.specs.Hub.{KeepsHistory, MayStandFor, StandsForHistory}
use Rattle.fh_hub.proofs.Replays.{payloads_push}

-- a payload behind those of a history
stands_pushed : (history : List Entry) (e : Entry) (c : List ℕ)
    → IsJournalOf c (payloads_of history ++ bytes_of e ∷ []) → StandsForHistory (history ++ e ∷ []) c
stands_pushed history e c stands = subst (λ (ps : List (List ℕ)). IsJournalOf c ps) (sym (payloads_push history e))
    stands

before_step : (torn : Bool) (history entries : List Entry) (failed : Entry) (c : List ℕ)
    → MayReadAs torn (payloads_of history) (bytes_of failed) c → MayStandFor torn history failed entries c
before_step torn history entries failed c (inl stands) = inl stands
before_step torn history entries failed c (inr (is, stands)) = inr (inr (is, stands_pushed history failed c stands))

during_step : (torn : Bool) (history : List Entry) (failed e : Entry) (payload c : List ℕ) → payload ≡ bytes_of e
    → IsBeforeOrAfter torn (payloads_of history) (bytes_of failed) payload c
    → MayStandFor torn history failed (e ∷ []) c
during_step torn history failed e payload c is (inl before) = before_step torn history (e ∷ []) failed c before
during_step torn history failed e payload c is (inr after) =
    inr (inl (stands_pushed history e c (subst (λ (p : List ℕ). IsJournalOf c (payloads_of history ++ p ∷ []))
    is after)))

module _ {D : Type 0} (told : D → Option (List ℕ)) (may_leave : D → List ℕ → Type 0) (moment : D → ℕ)
    (left_since : D → ℕ → List ℕ → Type 0) where
  -- no call was made
  pub untouched : (disk : D) (only_now : (c : List ℕ) → left_since disk (moment disk) c → may_leave disk c)
      (torn : Bool) (history entries : List Entry) (failed : Entry) (gate : ℕ)
      → KeepsHistory (told disk) (may_leave disk) torn history failed gate
      → IfSome (told disk) (λ _. LeavesOnly moment left_since disk disk (MayStandFor torn history failed entries))
  untouched disk only_now torn history entries failed gate kept = of_told (told disk) kept
    where
      of_told : (bytes : Option (List ℕ)) → Keeps bytes (may_leave disk) torn (payloads_of history) (bytes_of failed)
          gate → IfSome bytes (λ _. LeavesOnly moment left_since disk disk (MayStandFor torn history failed entries))
      of_told None keeps = tt
      of_told (Some file) keeps =
          started moment left_since disk (MayStandFor torn history failed entries)
          (λ c left. before_step torn history entries failed c
          (reads torn (payloads_of history) (bytes_of failed) gate c (keeps.after_crash c (only_now c left))))

  -- an append
  pub appended : (old new : D) (torn : Bool) (history : List Entry) (failed e : Entry) (payload : List ℕ)
      → payload ≡ bytes_of e
      → IfSome (told old) (λ _. LeavesOnly moment left_since old new
      (IsBeforeOrAfter torn (payloads_of history) (bytes_of failed) payload))
      → IfSome (told old) (λ _. LeavesOnly moment left_since old new (MayStandFor torn history failed (e ∷ [])))
  appended old new torn history failed e payload is only =
      where_told (told old) _ _ only
      (λ leaves. widens moment left_since old new
      (IsBeforeOrAfter torn (payloads_of history) (bytes_of failed) payload)
      (MayStandFor torn history failed (e ∷ [])) leaves
      (λ c. during_step torn history failed e payload c is))

-- a history that goes on by an appended entry
pub keeps_pushed : (told : Option (List ℕ)) (images : List ℕ → Type 0) (history : List Entry) (e failed : Entry)
    (payload : List ℕ) (gate : ℕ) → payload ≡ bytes_of e
    → Keeps told images false (payloads_of history ++ payload ∷ []) [] gate
    → KeepsHistory told images false (history ++ e ∷ []) failed gate
keeps_pushed told images history e failed payload gate is keeps =
    of_told told (subst (λ (ps : List (List ℕ)). Keeps told images false ps [] gate)
    (ap (λ (p : List ℕ). payloads_of history ++ p ∷ []) is ∙ sym (payloads_push history e)) keeps)
  where
    of_told : (bytes : Option (List ℕ)) → Keeps bytes images false (payloads_of (history ++ e ∷ [])) [] gate
        → Keeps bytes images false (payloads_of (history ++ e ∷ [])) (bytes_of failed) gate
    of_told None keeps = tt
    of_told (Some file) keeps = record { as_read = keeps.as_read; after_crash = keeps.after_crash }
