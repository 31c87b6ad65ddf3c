-- The acts of which each change of the blobs is made.
use Rattle.std.specs.Prelude.{ℕ, ◌+◌, List, fold}
use Rattle.fh_rows.specs.Rows.{with_row_at, without_row_at}
use Rattle.fh_blobs.specs.declared.blob.BlobRow.{BlobRow}
use Rattle.fh_blobs.specs.declared.receipt.Receipt.{Receipt}
use Rattle.fh_blobs.specs.declared.act.Act.{Act}
use Rattle.fh_blobs.specs.declared.act.Act.TheVariants as acts
use Rattle.fh_blobs.specs.Part.{BlobPart, by_blob, by_receipt}

-- a blob that is put; its version is the next one
abbrev pub new_row : List ℕ → List ℕ → List ℕ → BlobRow
new_row container name text = record { container = container; blob = name; version = 0; text = text }

-- a function's receipt of a blob as it is
abbrev pub receipt_of : ℕ → BlobRow → Receipt
receipt_of function row =
    record { function = function; container = row.container; blob = row.blob; version = row.version }

-- the blob is this one, with the next version
abbrev pub with_blob : BlobRow → BlobPart → BlobPart
with_blob row part = record part {
  blobs = with_row_at (by_blob row.container row.blob) (record row { version = part.next_version }) part.blobs;
  next_version = part.next_version + 1;
}

abbrev pub without_blob : List ℕ → List ℕ → BlobPart → BlobPart
without_blob container name part =
    record part { blobs = without_row_at (by_blob container name) part.blobs }

abbrev pub with_receipt : Receipt → BlobPart → BlobPart
with_receipt row part = record part {
  receipts = with_row_at (by_receipt row.function row.container row.blob row.version) row part.receipts;
}

unfoldable pub acted : BlobPart → Act → BlobPart
acted part (acts.Put row) = with_blob row part
acted part (acts.Remove container name) = without_blob container name part
acted part (acts.Note receipt) = with_receipt receipt part

abbrev pub by_acts : BlobPart → List Act → BlobPart
by_acts part acts = fold acted part acts
