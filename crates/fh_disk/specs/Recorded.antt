-- What a disk that keeps a record of its calls has gone through, and what a crash may leave of it.
use Rattle.std.specs.Prelude.{◌≡◌, ⊤, ℕ, ◌≤◌, List, [], ◌∷◌, ◌++◌, length, take, Option, Some, None}
use Rattle.fh_disk.specs.Disk.{written_at, Torn}
use Rattle.fh_disk.specs.declared.record.Call.{Call}
use Rattle.fh_disk.specs.declared.record.Call.TheVariants.{Write, Sync}

-- the bytes at first, all of them synced, and each write and sync since that passed
pub record Recorded : Type 0 where
  pub first : List ℕ
  pub calls : List Call

-- one call more
abbrev pub added : Call → Recorded → Recorded
added call r = record r { calls = r.calls ++ call ∷ [] }

-- what reads give after these calls on a file
abbrev pub replayed : List ℕ → List Call → List ℕ
replayed file [] = file
replayed file (Write at bytes ∷ later) = replayed (written_at at bytes file) later
replayed file (Sync ∷ later) = replayed file later

-- What a crash may leave after these calls, where it might have left `images` of the file before them: each image
-- torn by a write, and what reads give alone after a sync.
abbrev pub Leaves : List ℕ → (List ℕ → Type 0) → List Call → List ℕ → Type 0
Leaves file images [] c = images c
Leaves file images (Write at bytes ∷ later) c =
    Leaves (written_at at bytes file) (λ new. (old : List ℕ) × images old × Torn at (length bytes) old new) later c
Leaves file images (Sync ∷ later) c = Leaves file (λ new. new ≡ file) later c

-- what a crash may leave once so many calls were made
abbrev pub LeavesAfter : Recorded → ℕ → List ℕ → Type 0
LeavesAfter r k c = Leaves r.first (λ new. new ≡ r.first) (take k r.calls) c

-- A disk with a record tells what reads give, and each of its moments is a number of calls. One without tells
-- nothing: for all that it says a crash may leave anything.
abbrev pub told_by : Option Recorded → Option (List ℕ)
told_by None = None
told_by (Some r) = Some (replayed r.first r.calls)

abbrev pub left_by : Option Recorded → List ℕ → Type 0
left_by None c = ⊤
left_by (Some r) c = LeavesAfter r (length r.calls) c

abbrev pub moment_of : Option Recorded → ℕ
moment_of None = 0
moment_of (Some r) = length r.calls

abbrev pub left_since_by : Option Recorded → ℕ → List ℕ → Type 0
left_since_by None t c = ⊤
left_since_by (Some r) t c = (k : ℕ) × (t ≤ k) × (k ≤ length r.calls) × LeavesAfter r k c
