-- The blobs' part of the world.
use Rattle.std.specs.Prelude.{ℕ, Bool, not, List, [], map, filter, Option, is_some}
use Rattle.std.specs.Cmp.Lexicographic.{slice_cmp}
use Rattle.std.specs.Ordering.{nat_cmp, ordering_then}
use Rattle.std.specs.declared.cmp.Ordering.{Ordering}
use Rattle.fh_rows.specs.Rows.{row_at, rows_at}
use Rattle.fh_blobs.specs.declared.blob.BlobRow.{BlobRow}
use Rattle.fh_blobs.specs.declared.receipt.Receipt.{Receipt}

-- the blobs in order of container and name, the receipts in order of function, container, blob and version, and
-- the version of the next text
pub record BlobPart : Type 0 where
  pub blobs : List BlobRow
  pub receipts : List Receipt
  pub next_version : ℕ

abbrev pub no_blobs : BlobPart
no_blobs = record { blobs = []; receipts = []; next_version = 1 }

abbrev pub by_text : List ℕ → List ℕ → Ordering
by_text text other = slice_cmp nat_cmp text other

-- how a blob stands to a container: names are in order of their bytes
abbrev pub by_container : List ℕ → BlobRow → Ordering
by_container container row = by_text row.container container

-- how a blob stands to a container and a name
abbrev pub by_blob : List ℕ → List ℕ → BlobRow → Ordering
by_blob container name row = ordering_then (by_text row.container container) (by_text row.blob name)

-- how a receipt stands to what it is of
abbrev pub by_receipt : ℕ → List ℕ → List ℕ → ℕ → Receipt → Ordering
by_receipt function container name version row =
    ordering_then (nat_cmp row.function function)
    (ordering_then (by_text row.container container)
    (ordering_then (by_text row.blob name) (nat_cmp row.version version)))

-- the blob of this container and name
abbrev pub blob_of : List ℕ → List ℕ → List BlobRow → Option BlobRow
blob_of container name blobs = row_at (by_blob container name) blobs

-- the function has the receipt of this version
abbrev pub has_receipt : BlobPart → ℕ → List ℕ → List ℕ → ℕ → Bool
has_receipt part function container name version =
    is_some (row_at (by_receipt function container name version) part.receipts)

-- the function has noted the blob as it is
abbrev pub is_noted : BlobPart → ℕ → BlobRow → Bool
is_noted part function row = has_receipt part function row.container row.blob row.version

-- the names of the container's blobs that the function hasn't noted as they are
abbrev pub unnoted : BlobPart → ℕ → List ℕ → List (List ℕ)
unnoted part function container =
    map (λ row. row.blob)
    (filter (λ row. not (is_noted part function row)) (rows_at (by_container container) part.blobs))
