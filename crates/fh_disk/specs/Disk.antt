-- What the calls of a disk do to its file, and what a crash between two syncs may leave of it.
use Rattle.std.specs.Prelude.{◌≡◌, ⊤, ℕ, ◌+◌, ◌-◌, ◌<◌, ◌≤◌, max, Bool, true, false, List, ◌++◌, length, take, drop, replicate, slice_get, Option, Some, None}

-- the file with these bytes at this place, behind zeros where the place is past its end
abbrev pub written_at : ℕ → List ℕ → List ℕ → List ℕ
written_at at bytes file = take at file ++ replicate (at - length file) 0 ++ bytes ++ drop (at + length bytes) file

-- n bytes of the file from this place on stand at the front of the buffer: at least one where there is one, and room
pub record ReadsAt (file : List ℕ) (at : ℕ) (buf : List ℕ) (n : ℕ) : Type 0 where
  pub bytes : take n buf ≡ take n (drop at file)
  pub within : n ≤ length file - at
  pub some : 0 < length buf → at < length file → 0 < n

-- The buffer is full with the bytes of the file from this place on, or the file has fewer, which stand at its front.
abbrev pub Fills : List ℕ → ℕ → List ℕ → Bool → Type 0
Fills file at buf true = (buf ≡ take (length buf) (drop at file)) × (length buf ≤ length file - at)
Fills file at buf false = (take (length file - at) buf ≡ drop at file) × (length file - at < length buf)

-- After a write of n bytes at a place that a crash cut short, or that failed: any bytes in that range and past the
-- old end, the same elsewhere, and a length between the old one and that of the whole write.
pub record Torn (at n : ℕ) (old new : List ℕ) : Type 0 where
  pub before : (i : ℕ) → i < length old → i < at → slice_get new i ≡ slice_get old i
  pub behind : (i : ℕ) → i < length old → at + n ≤ i → slice_get new i ≡ slice_get old i
  pub no_shorter : length old ≤ length new
  pub no_longer : length new ≤ max (length old) (at + n)

-- what is told stays told, and is torn; what isn't told stays so
abbrev pub TornTold : ℕ → ℕ → Option (List ℕ) → Option (List ℕ) → Type 0
TornTold at n None new = new ≡ None
TornTold at n (Some old) None = ⊥
TornTold at n (Some old) (Some new) = Torn at n old new

-- bytes that are told stay told, and others stay untold
abbrev pub StaysTold : Option (List ℕ) → Option (List ℕ) → Type 0
StaysTold None now = now ≡ None
StaysTold (Some was) None = ⊥
StaysTold (Some was) (Some now) = ⊤

-- each new outcome of a crash is an old outcome after a step
abbrev pub Follows : (List ℕ → List ℕ → Type 0) → (List ℕ → Type 0) → (List ℕ → Type 0) → Type 0
Follows step old new = (c : List ℕ) → new c → (d : List ℕ) × old d × step d c

-- nothing that a crash leaves is new
abbrev pub NoNewImage : (List ℕ → Type 0) → (List ℕ → Type 0) → Type 0
NoNewImage old new = (c : List ℕ) → new c → old c

-- a crash leaves this file and nothing else
abbrev pub Only : List ℕ → (List ℕ → Type 0) → Type 0
Only file images = (c : List ℕ) → images c → c ≡ file

-- where the bytes are told, a crash leaves them and nothing else
abbrev pub OnlyTold : Option (List ℕ) → (List ℕ → Type 0) → Type 0
OnlyTold None images = ⊤
OnlyTold (Some file) images = Only file images

-- what reads give has P, and so has each image
pub record Each (file : List ℕ) (images : List ℕ → Type 0) (P : List ℕ → Type 0) : Type 0 where
  pub as_read : P file
  pub after_crash : (c : List ℕ) → images c → P c
