-- What a crash since the begin of an append or of a mend leaves.
use Rattle.std.proofs.Common.{◌≡◌, inl, inr, ⊎_elim, ℕ, ◌+◌, Bool, true, false, List, [], Option, IfSome, Result, Ok, Err, OnErr}
use Rattle.fh_disk.specs.Disk.{StaysTold, Torn}
use Rattle.fh_disk.specs.Moments.{LeavesOnly}
use Rattle.fh_disk.proofs.Moments.{joins, widens, started}
use Rattle.fh_disk.proofs.Told.{where_told, where_both, where_each}
use Rattle.fh_journal.specs.Journal.{Stands, InDoubt, IsOf, MayReadAs}
use Rattle.fh_journal.specs.Keeping.{Keeps, IsBeforeOrAfter}
use Rattle.fh_journal.proofs.Bytes.{stays_closed, stays_in_doubt, doubt_reads, reads}

pub on_err : {T E P : Type 0} (r : Result T E) → P → OnErr r P
on_err (Ok x) p = tt
on_err (Err e) p = p

pub closed_reads : (torn : Bool) (payloads : List (List ℕ)) (failed payload : List ℕ) (gate : ℕ) (c : List ℕ)
    → Stands c payloads gate
    → IsBeforeOrAfter torn payloads failed payload c
closed_reads torn payloads failed payload gate c stands = inl (inl (inr (gate, stands)))

pub gate_reads : (torn : Bool) (payloads : List (List ℕ)) (failed payload : List ℕ) (gate : ℕ) (c : List ℕ)
    → InDoubt c payloads payload gate
    → IsBeforeOrAfter torn payloads failed payload c
gate_reads torn payloads failed payload gate c doubt =
    ⊎_elim (λ before. inl (inl before)) (λ after. inr after.1) (doubt_reads payloads payload gate c doubt)

module _ {D : Type 0} (moment : D → ℕ) (left_since : D → ℕ → List ℕ → Type 0) where
  -- no call
  pub idle_since : (old : D) (told : Option (List ℕ)) (images : List ℕ → Type 0) (torn : Bool)
      (payloads : List (List ℕ)) (failed : List ℕ) (gate : ℕ)
      → ((c : List ℕ) → left_since old (moment old) c → images c) → Keeps told images torn payloads failed gate
      → IfSome told (λ _. LeavesOnly moment left_since old old (MayReadAs torn payloads failed))
  idle_since old told images torn payloads failed gate here keeps =
      where_each told images (IsOf torn payloads failed gate) _ keeps
      (λ each. started moment left_since old (MayReadAs torn payloads failed)
      (λ c left. reads torn payloads failed gate c (each c (here c left))))

  -- a write behind the gate
  pub stage_since : (old new : D) (told : Option (List ℕ)) (images : List ℕ → Type 0) (payloads : List (List ℕ))
      (gate n : ℕ)
      → LeavesOnly moment left_since old new (λ c. (d : List ℕ) × images d × Torn (gate + 1) n d c)
      → Keeps told images false payloads [] gate
      → IfSome told (λ _. LeavesOnly moment left_since old new (λ c. Stands c payloads gate))
  stage_since old new told images payloads gate n time keeps =
      where_each told images (IsOf false payloads [] gate) _ keeps
      (λ each. widens moment left_since old new _ (λ c. Stands c payloads gate) time
      (λ c from. stays_closed payloads gate n from.0 c (each from.0 from.1) from.2))

  -- a write of the gate
  pub gate_since : (old new : D) (told : Option (List ℕ)) (images : List ℕ → Type 0) (payloads : List (List ℕ))
      (failed : List ℕ) (gate : ℕ)
      → LeavesOnly moment left_since old new (λ c. (d : List ℕ) × images d × Torn gate 1 d c)
      → Keeps told images true payloads failed gate
      → IfSome told (λ _. LeavesOnly moment left_since old new (λ c. InDoubt c payloads failed gate))
  gate_since old new told images payloads failed gate time keeps =
      where_each told images (IsOf true payloads failed gate) _ keeps
      (λ each. widens moment left_since old new _ (λ c. InDoubt c payloads failed gate) time
      (λ c from. stays_in_doubt payloads failed gate from.0 c (each from.0 from.1) from.2))

  pub mend_since : (old new : D) (told : Option (List ℕ)) (images : List ℕ → Type 0) (torn : Bool)
      (payloads : List (List ℕ)) (failed : List ℕ) (gate : ℕ)
      → torn ≡ true → LeavesOnly moment left_since old new (λ c. (d : List ℕ) × images d × Torn gate 1 d c)
      → Keeps told images torn payloads failed gate
      → IfSome told (λ _. LeavesOnly moment left_since old new (MayReadAs torn payloads failed))
  mend_since old new told images false payloads failed gate is time keeps = absurd (cc is)
  mend_since old new told images true payloads failed gate is time keeps =
      where_told told (LeavesOnly moment left_since old new (λ c. InDoubt c payloads failed gate))
      (LeavesOnly moment left_since old new (MayReadAs true payloads failed))
      (gate_since old new told images payloads failed gate time keeps)
      (λ only. widens moment left_since old new (λ c. InDoubt c payloads failed gate) (MayReadAs true payloads failed)
      only (doubt_reads payloads failed gate))

  -- the mend, with which an append begins
  pub begun : (old new : D) (told : Option (List ℕ)) (torn : Bool) (payloads : List (List ℕ)) (failed payload : List ℕ)
      → IfSome told (λ _. LeavesOnly moment left_since old new (MayReadAs torn payloads failed))
      → IfSome told (λ _. LeavesOnly moment left_since old new (IsBeforeOrAfter torn payloads failed payload))
  begun old new told torn payloads failed payload first =
      where_told told (LeavesOnly moment left_since old new (MayReadAs torn payloads failed))
      (LeavesOnly moment left_since old new (IsBeforeOrAfter torn payloads failed payload)) first
      (λ only. widens moment left_since old new (MayReadAs torn payloads failed)
      (IsBeforeOrAfter torn payloads failed payload) only (λ c before. inl before))

  -- a step more
  pub one_more : (old mid new : D) (told now : Option (List ℕ)) (P Q : List ℕ → Type 0) → StaysTold told now
      → IfSome told (λ _. LeavesOnly moment left_since old mid P)
      → IfSome now (λ _. LeavesOnly moment left_since mid new Q)
      → ((c : List ℕ) → Q c → P c) → IfSome told (λ _. LeavesOnly moment left_since old new P)
  one_more old mid new told now P Q stays so_far more narrower =
      where_both told now (LeavesOnly moment left_since old mid P) (LeavesOnly moment left_since mid new Q)
      (LeavesOnly moment left_since old new P) stays so_far more
      (λ first second. joins moment left_since old mid new P Q P first second (λ c has. has) narrower)
