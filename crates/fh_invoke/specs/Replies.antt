-- What a worker's reply says: its outputs, its log lines and its return value, or why it says nothing.
use Rattle.std.specs.Prelude.{◌≡◌, ◌≢◌, ℕ, List, [], ◌∷◌, ◌&&◌, nat_le, codes, Option, Some, None, unwrap_or, Result}
use Rattle.std.specs.Prelude.{Ok, Err, if◌then◌else◌}
use Rattle.std.specs.Str.{is_utf8}
use Rattle.serde_json.specs.Data.{Data, null, boolean, number, string, array, object, Items, no_items, item, Members}
use Rattle.serde_json.specs.Data.{no_members}
use Rattle.serde_json.specs.Find.{get_member}
use Rattle.serde_json.specs.Read.{read}
use Rattle.serde_json.specs.View.{view, members_view}
use Rattle.fh_invoke.specs.declared.answer.Answer.{Answer}
use Rattle.fh_invoke.specs.declared.fault.AnswerFault.{AnswerFault}
use Rattle.fh_invoke.specs.declared.fault.AnswerFault.TheVariants.{Status, NotJson, NotObject, NoMemory}

-- the parts of a reply
pub record Parts : Type 0 where
  pub outputs : Members
  pub logs : List (List ℕ)
  pub value : Data

-- the parts that an answer holds
abbrev pub parts_in : Answer → Parts
parts_in answer = record {
  outputs = members_view answer.outputs.entries;
  logs = answer.logs;
  value = view answer.value;
}

-- the JSON value of a body, of which an empty one is {}
abbrev pub body_value : List ℕ → Option Data
body_value [] = Some (object no_members)
body_value (b ∷ body) = if is_utf8 (b ∷ body) then read (b ∷ body) else None

-- the texts of a list; its other items don't count
abbrev pub texts_among : Items → List (List ℕ)
texts_among no_items = []
texts_among (item null values) = texts_among values
texts_among (item (boolean b) values) = texts_among values
texts_among (item (number n) values) = texts_among values
texts_among (item (string text) values) = text ∷ texts_among values
texts_among (item (array a) values) = texts_among values
texts_among (item (object o) values) = texts_among values

-- the log lines: none where the member is no list
abbrev pub log_lines : Option Data → List (List ℕ)
log_lines None = []
log_lines (Some null) = []
log_lines (Some (boolean b)) = []
log_lines (Some (number n)) = []
log_lines (Some (string text)) = []
log_lines (Some (array values)) = texts_among values
log_lines (Some (object o)) = []

-- the outputs' members: empty where the outputs are missing or null, and nothing where they are no object
abbrev pub output_members : Option Data → Option Members
output_members None = Some no_members
output_members (Some null) = Some no_members
output_members (Some (boolean b)) = None
output_members (Some (number n)) = None
output_members (Some (string text)) = None
output_members (Some (array values)) = None
output_members (Some (object members)) = Some members

abbrev pub parts_with : Members → Option Members → Result Parts AnswerFault
parts_with root None = Err NotObject
parts_with root (Some outputs) = Ok (record {
  outputs = outputs;
  logs = log_lines (get_member (codes "Logs") root);
  value = unwrap_or (get_member (codes "ReturnValue") root) null;
})

-- the parts of a body's value
abbrev pub parts_of : Option Data → Result Parts AnswerFault
parts_of None = Err NotJson
parts_of (Some null) = Err NotObject
parts_of (Some (boolean b)) = Err NotObject
parts_of (Some (number n)) = Err NotObject
parts_of (Some (string text)) = Err NotObject
parts_of (Some (array values)) = Err NotObject
parts_of (Some (object root)) = parts_with root (output_members (get_member (codes "Outputs") root))

-- what a reply of this status and body says, or the first fault of the status, the body and the outputs
unfoldable pub answer_of : ℕ → List ℕ → Result Parts AnswerFault
answer_of status body =
    if nat_le 200 status && nat_le status 299 then parts_of (body_value body) else Err (Status status)

-- the answer, seen by `view`, is what is given, unless memory ran out
abbrev pub Answers : {X T : Type 0} → (X → T) → Result X AnswerFault → Result T AnswerFault → Type 0
Answers view (Ok x) given = given ≡ Ok (view x)
Answers view (Err told) given = told ≢ NoMemory → given ≡ Err told
