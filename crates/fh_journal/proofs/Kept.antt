-- What a disk keeps over the writes of an append and of a mend.
use Rattle.std.proofs.Common.{◌≡◌, ℕ, ◌+◌, Bool, true, false, List, [], ◌∷◌, ◌++◌, length, Option, w32}
use Rattle.std.specs.Int.{to_be_bytes}
use Rattle.std.specs.Option.{option_map}
use Rattle.fh_disk.specs.Disk.{written_at, Torn, TornTold, Follows, OnlyTold}
use Rattle.fh_disk.proofs.Told.{torn_each, only_each}
use Rattle.fh_journal.specs.Journal.{IsShort, IsOf}
use Rattle.fh_journal.specs.Keeping.{Keeps}
use Rattle.fh_journal.proofs.Bytes.{staged, opens_gate, closes_gate, stays_closed, stays_in_doubt}

module _ (told now : Option (List ℕ)) (images later : List ℕ → Type 0) (payloads : List (List ℕ)) (gate : ℕ) where
  -- a write behind the gate
  pub keeps_closed : (n : ℕ) → Keeps told images false payloads [] gate → TornTold (gate + 1) n told now
      → Follows (Torn (gate + 1) n) images later
      → Keeps now later false payloads [] gate
  keeps_closed n keeps torn follows =
      torn_each told now images later (IsOf false payloads [] gate) (IsOf false payloads [] gate) (gate + 1) n
      (λ d c. stays_closed payloads gate n d c) keeps torn follows

  pub keeps_staged : (payload bytes : List ℕ) → bytes ≡ to_be_bytes w32 (length payload) ++ payload ++ 0 ∷ []
      → IsShort payload
      → Keeps told images false payloads [] gate → now ≡ option_map (written_at (gate + 1) bytes) told
      → OnlyTold now later
      → Keeps now later true payloads payload gate
  keeps_staged payload bytes is short keeps written only =
      only_each told now images later (IsOf false payloads [] gate) (IsOf true payloads payload gate) (gate + 1) bytes
      (λ file. staged payloads payload bytes file gate is short) keeps written only

  -- a write of the gate
  pub keeps_doubt : (failed : List ℕ) → Keeps told images true payloads failed gate → TornTold gate 1 told now
      → Follows (Torn gate 1) images later
      → Keeps now later true payloads failed gate
  keeps_doubt failed keeps torn follows =
      torn_each told now images later (IsOf true payloads failed gate) (IsOf true payloads failed gate) gate 1
      (λ d c. stays_in_doubt payloads failed gate d c) keeps torn follows

  pub keeps_opened : (failed : List ℕ) → Keeps told images true payloads failed gate
      → now ≡ option_map (written_at gate (1 ∷ [])) told → OnlyTold now later
      → Keeps now later false (payloads ++ failed ∷ []) [] (gate + 5 + length failed)
  keeps_opened failed keeps written only =
      only_each told now images later (IsOf true payloads failed gate)
      (IsOf false (payloads ++ failed ∷ []) [] (gate + 5 + length failed)) gate (1 ∷ [])
      (λ file. opens_gate payloads failed file gate) keeps written only

  pub keeps_mended : (failed : List ℕ) → Keeps told images true payloads failed gate
      → now ≡ option_map (written_at gate (0 ∷ [])) told → OnlyTold now later
      → Keeps now later false payloads [] gate
  keeps_mended failed keeps written only =
      only_each told now images later (IsOf true payloads failed gate) (IsOf false payloads [] gate) gate (0 ∷ [])
      (λ file. closes_gate payloads failed file gate) keeps written only

-- a torn journal whose mend failed
pub keeps_torn : (told now : Option (List ℕ)) (images later : List ℕ → Type 0) (torn : Bool) (payloads : List (List ℕ))
    (failed : List ℕ) (gate : ℕ)
    → torn ≡ true → Keeps told images torn payloads failed gate → TornTold gate 1 told now
    → Follows (Torn gate 1) images later
    → Keeps now later torn payloads failed gate
keeps_torn told now images later false payloads failed gate is keeps torn follows = absurd (cc is)
keeps_torn told now images later true payloads failed gate is keeps torn follows =
    keeps_doubt told now images later payloads gate failed keeps torn follows

-- one that isn't torn
pub whole_keeps : (told : Option (List ℕ)) (images : List ℕ → Type 0) (torn : Bool) (payloads : List (List ℕ))
    (failed : List ℕ) (gate : ℕ)
    → torn ≡ false → Keeps told images false payloads [] gate → Keeps told images torn payloads failed gate
whole_keeps told images false payloads failed gate is keeps = keeps
whole_keeps told images true payloads failed gate is keeps = absurd (cc is)
