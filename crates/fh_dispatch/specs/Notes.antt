-- The message by which a blob function is told of a blob.
use Rattle.std.specs.Prelude.{ℕ, List, codes}
use Rattle.std.specs.Fmt.{decimal}
use Rattle.serde_json.specs.Data.{Data, string, object, no_members, member}
use Rattle.serde_json.specs.Written.{compact_text}

abbrev pub note : List ℕ → List ℕ → List ℕ → ℕ → Data
note function container blob version = object
    (member (codes "BlobName") (string blob)
    (member (codes "BlobType") (string (codes "BlockBlob"))
    (member (codes "ContainerName") (string container)
    (member (codes "ETag") (string (decimal version))
    (member (codes "FunctionId") (string function) no_members)))))

-- its text: compact JSON
unfoldable pub note_text : List ℕ → List ℕ → List ℕ → ℕ → List ℕ
note_text function container blob version = compact_text (note function container blob version)
