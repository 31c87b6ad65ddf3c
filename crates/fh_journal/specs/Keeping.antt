-- What a disk keeps, as it reads and after a crash.
use Rattle.std.specs.Prelude.{◌⊎◌, ℕ, Bool, List, [], ◌∷◌, ◌++◌, Option, IfSome}
use Rattle.fh_disk.specs.Disk.{Each}
use Rattle.fh_journal.specs.Journal.{IsOf, IsJournalOf, MayReadAs}

-- where the bytes are told, they and each image are of a journal with these payloads
abbrev pub Keeps : Option (List ℕ) → (List ℕ → Type 0) → Bool → List (List ℕ) → List ℕ → ℕ → Type 0
Keeps told images torn payloads failed gate = IfSome told (λ file. Each file images (IsOf torn payloads failed gate))

-- what a crash during an append may be read as: what might have been read before, or the payloads with the new one
abbrev pub IsBeforeOrAfter : Bool → List (List ℕ) → List ℕ → List ℕ → List ℕ → Type 0
IsBeforeOrAfter torn payloads failed payload file =
    MayReadAs torn payloads failed file ⊎ IsJournalOf file (payloads ++ payload ∷ [])
