-- A file of at most 7 bytes that is made anew.
use Rattle.std.proofs.Common.{◌≡◌, ◌⊎◌, inl, inr, ⊎_elim, ℕ, ◌≤◌, List, [], ◌∷◌, ◌++◌, length, Option, Some, None, IfSome, refl, ap, subst, arith, length-append, w32}
use Rattle.std.specs.List.{flat_map}
use Rattle.std.specs.Int.{to_be_bytes}
use Rattle.fh_disk.specs.Disk.{NoNewImage}
use Rattle.fh_disk.specs.Moments.{LeavesOnly}
use Rattle.fh_disk.proofs.Moments.{joins}
use Rattle.fh_journal.specs.Journal.{header, frame, opened, IsJournalOf}
use Rattle.fh_journal.specs.Mounting.{IsBeingMade}

short_opened : (file : List ℕ) (payloads : List (List ℕ)) (rest : List ℕ) → length file ≤ 7
    → file ≡ opened payloads ++ rest → 1 ≤ length rest → payloads ≡ []
short_opened file [] rest short is some = refl
short_opened file (payload ∷ payloads) rest short is some =
    let size = to_be_bytes w32 (length payload) in
    absurd (omega (
      arith,
      short,
      some,
      ap length is,
      length-append (opened (payload ∷ payloads)) rest,
      length-append header (frame payload ++ flat_map frame payloads),
      length-append (frame payload) (flat_map frame payloads),
      length-append size payload,
    ))

-- it is a journal of no frames
pub short_journal : (file : List ℕ) (payloads : List (List ℕ)) → length file ≤ 7 → IsJournalOf file payloads
    → payloads ≡ []
short_journal file payloads short (inl small) = small.1
short_journal file payloads short (inr stands) = short_opened file payloads (stands.1.closed ∷ stands.1.rest)
    short stands.1.whole (omega arith)

module _ {D : Type 0} (moment : D → ℕ) (left_since : D → ℕ → List ℕ → Type 0) where
  -- what a crash leaves while it is made
  pub made_since : (old mid new : D) (told now : Option (List ℕ)) (was images : List ℕ → Type 0) (end : ℕ)
      (payloads : List (List ℕ)) → now ≡ told
      → IfSome told (λ file. length file ≡ end) → end ≤ 7 → LeavesOnly moment left_since old mid was
      → NoNewImage was images
      → IfSome now (λ file. LeavesOnly moment left_since mid new (λ c. images c ⊎ IsBeingMade file c))
      → IfSome told (λ file. IsJournalOf file payloads → LeavesOnly moment left_since old new
      (λ c. was c ⊎ IsJournalOf c payloads))
  made_since old mid new None now was images end payloads same long short first no_new second = tt
  made_since old mid new (Some file) now was images end payloads same long short first no_new second = λ journal.
      let none : payloads ≡ [] = short_journal file payloads (omega (arith, long, short)) journal in
      let made : LeavesOnly moment left_since mid new (λ c. images c ⊎ IsBeingMade file c) =
      subst (λ (o : Option (List ℕ)). IfSome o
      (λ f. LeavesOnly moment left_since mid new (λ c. images c ⊎ IsBeingMade f c))) same second in
      joins moment left_since old mid new was (λ c. images c ⊎ IsBeingMade file c)
      (λ c. was c ⊎ IsJournalOf c payloads) first made (λ c left. inl left)
      (λ c one. ⊎_elim (λ left. inl (no_new c left)) (λ made. inr (inl (made.2, none))) one)
