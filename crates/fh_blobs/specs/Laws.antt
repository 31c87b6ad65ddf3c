-- What holds of each ask that changes something.
use Rattle.std.specs.Prelude.{◌≡◌, ℕ, ◌+◌, ◌≤◌, ◌==◌, nat_le, nat_lt, Bool, true, false, ◌&&◌, ◌||◌, List, length, option_map, Some, ⊤}
use Rattle.std.specs.List.{list_all}
use Rattle.std.specs.Str.{bytes_eq}
use Rattle.fh_event.specs.Judging.{Makes}
use Rattle.fh_blobs.specs.declared.done.BlobDone.{BlobDone}
use Rattle.fh_blobs.specs.declared.done.BlobDone.TheVariants as done
use Rattle.fh_blobs.specs.Part.{BlobPart, blob_of, has_receipt}
use Rattle.fh_blobs.specs.Asks.{Ask, Put, Remove, Note, PutAll, Nothing}
use Rattle.fh_blobs.specs.Outcome.{outcome}

-- versions of blobs and receipts were given
pub record IsWhole (part : BlobPart) : Type 0 where
  pub versions : 1 ≤ part.next_version
  pub blobs : list_all (λ row. nat_lt row.version part.next_version) part.blobs ≡ true
  pub receipts : list_all (λ row. nat_lt row.version part.next_version) part.receipts ≡ true

-- what holds of each ask that changes a whole part, by the part before, the moment, the part after and the answer
abbrev pub OfEachAsk : (BlobPart → ℕ → Ask → BlobPart → BlobDone → Type 0) → Type 0
OfEachAsk Holds =
    (part : BlobPart) (ask : Ask) (m : ℕ) (after : BlobPart) (answer : BlobDone)
    → IsWhole part → outcome part ask m ≡ Makes after answer → Holds part m ask after answer

abbrev pub StaysWhole : BlobPart → ℕ → Ask → BlobPart → BlobDone → Type 0
StaysWhole part m ask after answer = IsWhole after

-- the answer gives this version
abbrev pub gives : ℕ → BlobDone → Bool
gives v (done.Stored version) = version == v
gives v (done.AllStored first count) = nat_le first v && nat_lt v (first + count)
gives v answer = false

-- the versions that the answer gives are those from the next one before to the next one after
abbrev pub GivesVersionsInTurn : BlobPart → ℕ → Ask → BlobPart → BlobDone → Type 0
GivesVersionsInTurn part m ask after answer =
    (v : ℕ) → gives v answer ≡ (nat_le part.next_version v && nat_lt v after.next_version)

-- the ask makes the receipt of this function for this version
abbrev pub makes : ℕ → List ℕ → List ℕ → ℕ → Ask → BlobDone → Bool
makes f c b v (Note function container name) (done.NowNoted version) =
    (function == f) && (bytes_eq container c && (bytes_eq name b && (version == v)))
makes f c b v ask answer = false

-- a receipt that is made wasn't there; then it is, and every other is as before
pub record MakesReceiptsOnce (part : BlobPart) (m : ℕ) (ask : Ask) (after : BlobPart) (answer : BlobDone) : Type 0 where
  pub new :
      (f : ℕ) (c b : List ℕ) (v : ℕ) → makes f c b v ask answer ≡ true → has_receipt part f c b v ≡ false
  pub stays :
      (f : ℕ) (c b : List ℕ) (v : ℕ)
      → has_receipt after f c b v ≡ (has_receipt part f c b v || makes f c b v ask answer)

-- a version that wasn't given yet has no receipt
abbrev pub HasNoReceipt : BlobPart → Type 0
HasNoReceipt part = (f : ℕ) (c b : List ℕ) (v : ℕ) → part.next_version ≤ v → has_receipt part f c b v ≡ false

-- how many versions an ask may take
abbrev pub new_versions : Ask → ℕ
new_versions (Put container name text) = 1
new_versions (PutAll blobs) = length blobs
new_versions ask = 0

-- the next version moves by no more than was asked for, whatever the part before
abbrev pub MovesVersions : Type 0
MovesVersions =
    (part : BlobPart) (ask : Ask) (m : ℕ) (after : BlobPart) (answer : BlobDone)
    → outcome part ask m ≡ Makes after answer → after.next_version ≤ part.next_version + new_versions ask

-- the answer is one to this ask
abbrev pub answers : Ask → BlobDone → Bool
answers (Put container name text) (done.Stored version) = true
answers (Remove container name) done.Removed = true
answers (Note function container name) (done.NowNoted version) = true
answers (PutAll blobs) (done.AllStored first count) = true
answers Nothing done.Nothing = true
answers ask answer = false

-- an ask that changes something has its own answer, whatever the part before
abbrev pub AnswersTheAsk : Type 0
AnswersTheAsk =
    (part : BlobPart) (ask : Ask) (m : ℕ) (after : BlobPart) (answer : BlobDone)
    → outcome part ask m ≡ Makes after answer → answers ask answer ≡ true

-- what is noted is the blob as it is
abbrev pub NotesTheCurrentVersion : BlobPart → ℕ → Ask → BlobPart → BlobDone → Type 0
NotesTheCurrentVersion part m (Note function container name) after (done.NowNoted version) =
    option_map (λ row. row.version) (blob_of container name part.blobs) ≡ Some version
NotesTheCurrentVersion part m ask after answer = ⊤
