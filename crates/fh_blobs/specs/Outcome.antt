-- What each ask makes of the blobs, and what it answers.
use Rattle.std.specs.Prelude.{ℕ, if◌then◌else◌, List, [], ◌∷◌, length, map, Option, Some, None}
use Rattle.fh_base.specs.declared.rule.Rule.TheVariants.{BlobNotFound}
use Rattle.fh_event.specs.Judging.{Judged, Refuses, Quiets, Makes, unless_refused}
use Rattle.fh_blobs.specs.declared.blob.BlobRow.{BlobRow}
use Rattle.fh_blobs.specs.declared.ask.NewBlob.{NewBlob}
use Rattle.fh_blobs.specs.declared.done.BlobDone.{BlobDone}
use Rattle.fh_blobs.specs.declared.done.BlobDone.TheVariants as done
use Rattle.fh_blobs.specs.declared.act.Act.{Act}
use Rattle.fh_blobs.specs.declared.act.Act.TheVariants as acts
use Rattle.fh_blobs.specs.Part.{BlobPart, blob_of, is_noted}
use Rattle.fh_blobs.specs.Asks.{Ask, Put, Remove, Note, PutAll, Nothing}
use Rattle.fh_blobs.specs.Rules.{text_rule, texts_rule}
use Rattle.fh_blobs.specs.Acts.{new_row, receipt_of, by_acts}

-- the acts of an ask, and its answer
abbrev pub Acting : Type 0
Acting = Judged (List Act) BlobDone

abbrev pub putting : BlobPart → List ℕ → List ℕ → List ℕ → Acting
putting part container name text =
    unless_refused (text_rule text)
    (Makes (acts.Put (new_row container name text) ∷ []) (done.Stored part.next_version))

-- a blob that is there is removed
abbrev pub removing_found : List ℕ → List ℕ → Option BlobRow → Acting
removing_found container name None = Refuses BlobNotFound
removing_found container name (Some row) = Makes (acts.Remove container name ∷ []) done.Removed

abbrev pub removing : BlobPart → List ℕ → List ℕ → Acting
removing part container name = removing_found container name (blob_of container name part.blobs)

-- a blob that is there is noted, unless it was noted as it is
abbrev pub noting_found : BlobPart → ℕ → Option BlobRow → Acting
noting_found part function None = Refuses BlobNotFound
noting_found part function (Some row) =
    if is_noted part function row then Quiets done.Noted
    else Makes (acts.Note (receipt_of function row) ∷ []) (done.NowNoted row.version)

abbrev pub noting : BlobPart → ℕ → List ℕ → List ℕ → Acting
noting part function container name = noting_found part function (blob_of container name part.blobs)

abbrev pub puts : List NewBlob → List Act
puts blobs = map (λ new. acts.Put (new_row new.container new.name new.text)) blobs

abbrev pub putting_all : BlobPart → List NewBlob → Acting
putting_all part blobs =
    unless_refused (texts_rule blobs) (Makes (puts blobs) (done.AllStored part.next_version (length blobs)))

unfoldable pub acting : BlobPart → Ask → Acting
acting part (Put container name text) = putting part container name text
acting part (Remove container name) = removing part container name
acting part (Note function container name) = noting part function container name
acting part (PutAll blobs) = putting_all part blobs
acting part Nothing = Makes [] done.Nothing

-- the part after an ask, and what is answered
abbrev pub Outcome : Type 0
Outcome = Judged BlobPart BlobDone

abbrev pub made_by : BlobPart → Acting → Outcome
made_by part (Refuses rule) = Refuses rule
made_by part (Quiets answer) = Quiets answer
made_by part (Makes acts answer) = Makes (by_acts part acts) answer

-- no ask depends on the moment
unfoldable pub outcome : BlobPart → Ask → ℕ → Outcome
outcome part ask m = made_by part (acting part ask)
