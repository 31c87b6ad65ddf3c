-- Marks: which blobs a function has noted as they are. They are an index: no ask and no answer
-- depends on them.
use Rattle.std.specs.Prelude.{◌≡◌, ℕ, Bool, true, false, ◌&&◌, ◌==◌, not, if◌then◌else◌, List, [], ◌∷◌, fold, filter, Option, Some, None, is_some}
use Rattle.std.specs.List.{list_all}
use Rattle.std.specs.Ordering.{nat_cmp, ordering_then}
use Rattle.std.specs.Str.{bytes_eq}
use Rattle.std.specs.declared.cmp.Ordering.{Ordering}
use Rattle.fh_rows.specs.Rows.{row_at, with_row_at, without_row_at, are_in_order}
use Rattle.fh_blobs.specs.declared.blob.BlobRow.{BlobRow}
use Rattle.fh_blobs.specs.declared.receipt.Receipt.{Receipt}
use Rattle.fh_blobs.specs.declared.mark.Mark.{Mark}
use Rattle.fh_blobs.specs.declared.mark.Function.{Function}
use Rattle.fh_blobs.specs.Part.{BlobPart, by_text, by_blob, blob_of, is_noted}

-- how a mark stands to a function and a container
abbrev pub by_function : ℕ → List ℕ → Mark → Ordering
by_function function container mark =
    ordering_then (nat_cmp mark.function function) (by_text mark.container container)

-- how a mark stands to a function, a container and a name
abbrev pub by_mark : ℕ → List ℕ → List ℕ → Mark → Ordering
by_mark function container name mark = ordering_then (by_function function container mark)
    (by_text mark.blob name)

-- marks, the functions that they are of, and for how many more of each there is room
pub record MarkState : Type 0 where
  pub marks : List Mark
  pub functions : List Function
  pub mark_room : ℕ
  pub function_room : ℕ

abbrev pub with_mark : Mark → List Mark → List Mark
with_mark mark marks = with_row_at (by_mark mark.function mark.container mark.blob) mark marks

abbrev pub with_number : ℕ → List Function → List Function
with_number number functions =
    with_row_at (λ function. nat_cmp function.number number) (record { number = number }) functions

-- of these functions, no mark of the blob
abbrev pub without_marks : List ℕ → List ℕ → List Function → List Mark → List Mark
without_marks container name functions marks =
    fold (λ left function. without_row_at
    (by_mark function.number container name) left) marks functions

abbrev pub mark_of : Receipt → Mark
mark_of receipt = record { function = receipt.function; container = receipt.container; blob = receipt.blob }

-- the receipt is of the version that its blob has
abbrev pub is_of_version : ℕ → Option BlobRow → Bool
is_of_version version None = false
is_of_version version (Some row) = version == row.version

abbrev pub is_current : BlobPart → Receipt → Bool
is_current part receipt = is_of_version receipt.version
    (blob_of receipt.container receipt.blob part.blobs)

-- a mark is there if it is current
abbrev pub with_mark_if : Bool → Mark → List Mark → List Mark
with_mark_if current mark marks = if current then with_mark mark marks else marks

abbrev pub with_number_if : Bool → ℕ → List Function → List Function
with_number_if current number functions = if current then with_number number functions else functions

-- the marks after a note: a receipt of the version that its blob has is marked
abbrev pub with_note : BlobPart → Receipt → List Mark → List Mark
with_note part receipt marks = with_mark_if (is_current part receipt) (mark_of receipt) marks

-- a blob that is there, and that the function has noted as it is
abbrev pub is_noted_there : BlobPart → ℕ → Option BlobRow → Bool
is_noted_there part function None = false
is_noted_there part function (Some row) = is_noted part function row

abbrev pub is_right : BlobPart → Mark → Bool
is_right part mark = is_noted_there part mark.function (blob_of mark.container mark.blob part.blobs)

-- the number is that of one of these functions
abbrev pub is_among : List Function → ℕ → Bool
is_among functions number = is_some (row_at (λ function. nat_cmp function.number number) functions)

abbrev pub are_marks_in_order : List Mark → Bool
are_marks_in_order marks = are_in_order
    (λ (a b : Mark). by_mark b.function b.container b.blob a) marks

abbrev pub are_blobs_in_order : List BlobRow → Bool
are_blobs_in_order blobs = are_in_order (λ (a b : BlobRow). by_blob b.container b.blob a) blobs

-- each mark is of a blob that its function has noted as it is, and its function is kept; all stand in order
pub record AreNoted (part : BlobPart) (marks : List Mark) (functions : List Function) : Type 0 where
  pub blobs : are_blobs_in_order part.blobs ≡ true
  pub order : are_marks_in_order marks ≡ true
  pub right : list_all (is_right part) marks ≡ true
  pub known : list_all (λ mark. is_among functions mark.function) marks ≡ true

-- how the names of blobs of one container stand to each other
abbrev pub by_name : BlobRow → BlobRow → Ordering
by_name row other = by_text row.blob other.blob

-- the marks are of some of these blobs, in their order, which are noted
abbrev pub go_along : (BlobRow → Bool) → List Mark → List BlobRow → Bool
go_along noted [] rows = true
go_along noted (mark ∷ marks) [] = false
go_along noted (mark ∷ marks) (row ∷ rows) =
    if bytes_eq mark.blob row.blob then noted row && go_along noted marks rows
    else go_along noted (mark ∷ marks) rows

-- blobs of a container that are still to be looked through, and the marks of some of them
pub record IsAhead (noted : BlobRow → Bool) (rows : List BlobRow) (marks : List Mark) : Type 0 where
  pub order : are_in_order by_name rows ≡ true
  pub along : go_along noted marks rows ≡ true

abbrev pub unnoted_of : (BlobRow → Bool) → List BlobRow → List BlobRow
unnoted_of noted rows = filter (λ row. not (noted row)) rows
