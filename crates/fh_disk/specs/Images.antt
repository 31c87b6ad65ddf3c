-- The images of a disk, said of the writes that no sync has followed.
use Rattle.std.specs.Prelude.{◌≡◌, ◌⊎◌, ⊤, ℕ, ◌+◌, ◌<◌, ◌≤◌, max, List, [], ◌∷◌, length, slice_get}
use Rattle.fh_disk.specs.Disk.{written_at}
use Rattle.fh_disk.specs.declared.record.Call.{Call}
use Rattle.fh_disk.specs.declared.record.Call.TheVariants.{Write, Sync}
use Rattle.fh_disk.specs.Recorded.{Recorded}

-- What reads gave at the last sync among these calls, on a file that reads as given and that gave `synced` at the last
-- sync before them.
abbrev pub synced_by : List ℕ → List ℕ → List Call → List ℕ
synced_by synced file [] = synced
synced_by synced file (Write at bytes ∷ later) = synced_by synced (written_at at bytes file) later
synced_by synced file (Sync ∷ later) = synced_by file file later

-- the place and size of each write since then, the newest first, behind which those before the calls stand
abbrev pub unsynced_by : List (ℕ × ℕ) → List Call → List (ℕ × ℕ)
unsynced_by writes [] = writes
unsynced_by writes (Write at bytes ∷ later) = unsynced_by ((at, length bytes) ∷ writes) later
unsynced_by writes (Sync ∷ later) = unsynced_by [] later

-- none of the writes names this place
abbrev pub IsUntouched : List (ℕ × ℕ) → ℕ → Type 0
IsUntouched [] i = ⊤
IsUntouched (write ∷ writes) i = ((i < write.0) ⊎ (write.0 + write.1 ≤ i)) × IsUntouched writes i

-- the greatest length of a file that had this one before these writes
abbrev pub greatest_length : ℕ → List (ℕ × ℕ) → ℕ
greatest_length size [] = size
greatest_length size (write ∷ writes) = max (greatest_length size writes) (write.0 + write.1)

-- Any length between the two, the synced bytes where no write since names their place, and any others elsewhere.
pub record IsImage (synced : List ℕ) (writes : List (ℕ × ℕ)) (image : List ℕ) : Type 0 where
  pub untouched : (i : ℕ) → i < length synced → IsUntouched writes i → slice_get image i ≡ slice_get synced i
  pub no_shorter : length synced ≤ length image
  pub no_longer : length image ≤ greatest_length (length synced) writes

-- the same of a disk's record
abbrev pub synced_bytes : Recorded → List ℕ
synced_bytes r = synced_by r.first r.first r.calls

abbrev pub unsynced_writes : Recorded → List (ℕ × ℕ)
unsynced_writes r = unsynced_by [] r.calls
