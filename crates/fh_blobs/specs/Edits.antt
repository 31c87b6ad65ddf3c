-- Changes of the blobs, planned and staged.
use Rattle.std.specs.Prelude.{ℕ, ◌<◌, ◌≤◌, ◌^◌, List, length}
use Rattle.fh_event.specs.Judging.{Quiets, Makes}
use Rattle.fh_blobs.specs.declared.act.Act.{Act}
use Rattle.fh_blobs.specs.declared.done.BlobDone.{BlobDone}
use Rattle.fh_blobs.specs.declared.done.BlobDone.TheVariants.{Noted}
use Rattle.fh_blobs.specs.Part.{BlobPart}
use Rattle.fh_blobs.specs.Marks.{MarkState}
use Rattle.fh_blobs.specs.Acts.{by_acts}
use Rattle.fh_blobs.specs.Outcome.{Outcome}

-- what the blobs hold: their part of the world with marks as its index, and for how many more blobs and receipts
-- there is room
pub record BlobState : Type 0 where
  pub part : BlobPart
  pub marks : MarkState
  pub blob_room : ℕ
  pub receipt_room : ℕ

-- the acts of a change, and its answer
pub record Change : Type 0 where
  pub acts : List Act
  pub done : BlobDone

pub record Staged : Type 0 where
  pub acts : List Act
  pub done : BlobDone

-- what a change comes to: what was noted before is quiet
abbrev pub judged : BlobPart → List Act → BlobDone → Outcome
judged part acts Noted = Quiets Noted
judged part acts answer = Makes (by_acts part acts) answer

abbrev pub planned : BlobPart → Change → Outcome
planned part change = judged part change.acts change.done

-- what settling a staged change makes
abbrev pub made : BlobState → Staged → BlobPart × BlobDone
made state staged = (by_acts state.part staged.acts, staged.done)

-- the counter is far from its end
abbrev pub HasNumbers : BlobPart → Type 0
HasNumbers part = part.next_version < 2 ^ 63

-- no change is staged: the blobs keep nothing of one
abbrev pub IsIdle : BlobState → Type 0
IsIdle state = Unit {0}

-- there is room for what it adds
pub record IsStaged (state : BlobState) (staged : Staged) : Type 0 where
  pub numbers : HasNumbers state.part
  pub few : length staged.acts < 2 ^ 63
  pub blobs : length staged.acts ≤ state.blob_room
  pub receipts : length staged.acts ≤ state.receipt_room
  pub marks : length staged.acts ≤ state.marks.mark_room
  pub functions : length staged.acts ≤ state.marks.function_room
