-- Looking through the blobs of a container by their marks.
use Rattle.std.specs.Prelude.{◌≡◌, ℕ, ◌+◌, ◌<◌, ◌≤◌, Bool, true, if◌then◌else◌, List, [], ◌∷◌, length, slice_index_or}
use Rattle.std.specs.Str.{bytes_eq}
use Rattle.fh_blobs.specs.declared.blob.BlobRow.{BlobRow}
use Rattle.fh_blobs.specs.declared.mark.Mark.{Mark}
use Rattle.fh_blobs.specs.Marks.{IsAhead, unnoted_of}

-- the last of so many marks is that of the last of so many blobs
abbrev pub AreAlike : List BlobRow → List Mark → ℕ → Type 0
AreAlike rows marks many =
    (k : ℕ) (row : BlobRow) (mark : Mark) → many ≡ k + 1
    → bytes_eq (slice_index_or marks k mark).blob (slice_index_or rows k row).blob ≡ true

-- only noted blobs were passed over, and the marks are still those of some of the blobs
pub record HasPassed (rows : List BlobRow) (marks : List Mark) (left : List BlobRow)
    (left_marks : List Mark) : Type 0 where
  pub shorter : length left ≤ length rows
  pub unnoted : (noted : BlobRow → Bool) → IsAhead noted rows marks
      → unnoted_of noted left ≡ unnoted_of noted rows
  pub ahead : (noted : BlobRow → Bool) → IsAhead noted rows marks → IsAhead noted left left_marks

abbrev pub behind_mark : BlobRow → List Mark → List Mark
behind_mark row [] = []
behind_mark row (mark ∷ marks) = if bytes_eq mark.blob row.blob then marks else mark ∷ marks

-- the next blob, and what is behind it: those before it are noted
pub record IsFound (rows : List BlobRow) (marks : List Mark) (row : BlobRow) (left : List BlobRow)
    (left_marks : List Mark) : Type 0 where
  pub shorter : length left < length rows
  pub unnoted :
      (noted : BlobRow → Bool) → IsAhead noted rows marks
      → unnoted_of noted (row ∷ left) ≡ unnoted_of noted rows
  pub ahead : (noted : BlobRow → Bool) → IsAhead noted rows marks → IsAhead noted left left_marks

abbrev pub NothingIsLeft : List BlobRow → List Mark → Type 0
NothingIsLeft rows marks = (noted : BlobRow → Bool) → IsAhead noted rows marks
    → unnoted_of noted rows ≡ []
