-- What a source and a sink say of their calls, beside std's words on bytes.
use Rattle.std.specs.Prelude.{◌≡◌, ℕ, ◌+◌, ◌<◌, ◌≤◌, List, [], ◌∷◌, length, take, Option, Some, None, Result, Ok, Err}
use Rattle.std.specs.Io.KnownBytes.{Appends, Consumes, IsAtEnd}

-- a read lowers the most that may still come by at least what it gives
abbrev pub Lowers : {E : Type 0} → ℕ → ℕ → Result ℕ E → Type 0
Lowers before now (Ok n) = now + n ≤ before
Lowers before now (Err e) = now ≡ before

-- a write takes no more than the piece has, and at least one byte of a piece that isn't empty
pub record Takes (piece : List ℕ) (n : ℕ) : Type 0 where
  pub bound : n ≤ length piece
  pub some : 0 < length piece → 0 < n

-- all bytes of the piece were written, or only some at its front and the write failed
abbrev pub WritesAll : {E : Type 0} → Option (List ℕ) → Option (List ℕ) → Result (Unit {0}) E → List ℕ → Type 0
WritesAll was now (Ok done) piece = Appends was now piece
WritesAll was now (Err e) piece = (n : ℕ) × (n < length piece) × Appends was now (take n piece)

-- a byte was read, or the end was found
abbrev pub ReadsByte : Option (List ℕ) → Option (List ℕ) → Option ℕ → Type 0
ReadsByte was now (Some byte) = Consumes was now (byte ∷ [])
ReadsByte was now None = Consumes was now [] × IsAtEnd now
