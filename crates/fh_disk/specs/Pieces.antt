-- Pieces of a file that are written one behind the other, with no sync between.
use Rattle.std.specs.Prelude.{◌≡◌, ℕ, List, [], ◌∷◌, length, map, Option, Some, None}
use Rattle.fh_disk.specs.Disk.{written_at, Follows}
use Rattle.fh_disk.specs.Images.{IsImage}
use Rattle.fh_disk.specs.Moments.{LeavesOnly}
use Rattle.fh_disk.specs.declared.pieces.Piece.{Piece}

-- the file with all of these pieces written, from the first on
abbrev pub pieces_written : List Piece → List ℕ → List ℕ
pieces_written [] file = file
pieces_written (piece ∷ later) file = pieces_written later (written_at piece.at piece.bytes file)

-- the place and size of each piece
abbrev pub ranges : List Piece → List (ℕ × ℕ)
ranges pieces = map (λ piece. (piece.at, length piece.bytes)) pieces

-- while they are written: any bytes where a piece belongs and past the old end, the same elsewhere
abbrev pub IsBetween : List Piece → List ℕ → List ℕ → Type 0
IsBetween pieces old new = IsImage old (ranges pieces) new

-- what is told stays told, and is between; what isn't told stays so
abbrev pub BetweenTold : List Piece → Option (List ℕ) → Option (List ℕ) → Type 0
BetweenTold pieces None new = new ≡ None
BetweenTold pieces (Some old) None = ⊥
BetweenTold pieces (Some old) (Some new) = IsBetween pieces old new

-- nothing but these pieces was written: the bytes, and each image since, are between
pub record OnlyWrites {D : Type 0} (told : D → Option (List ℕ)) (may_leave : D → List ℕ → Type 0) (moment : D → ℕ)
    (left_since : D → ℕ → List ℕ → Type 0) (pieces : List Piece) (old new : D) : Type 0 where
  pub bytes : BetweenTold pieces (told old) (told new)
  pub images : Follows (IsBetween pieces) (may_leave old) (may_leave new)
  pub since : LeavesOnly moment left_since old new (λ c. (d : List ℕ) × may_leave old d × IsBetween pieces d c)
