-- What a function's templates may name.
use Rattle.std.specs.Prelude.{◌≡◌, ℕ, List, [], ◌∷◌, ◌++◌, codes, Option, Some, None, option_map, option_and_then}
use Rattle.std.specs.Fmt.{decimal}
use Rattle.serde_json.specs.Data.{Data, null, boolean, number, string, array, object}
use Rattle.serde_json.specs.Read.{read}
use Rattle.serde_json.specs.View.{view}
use Rattle.fh_base.specs.Times.{time_text}
use Rattle.fh_base.specs.declared.times.TimeForm.TheVariants.{Millis, Dashed}
use Rattle.fh_event.specs.declared.begun.Begun.{Begun}
use Rattle.fh_exprs.specs.declared.values.Values.{Values}
use Rattle.fh_invoke.specs.declared.subject.BlobPlace.{BlobPlace}
use Rattle.fh_invoke.specs.declared.subject.QueueMessage.{QueueMessage}
use Rattle.fh_invoke.specs.declared.subject.Subject.{Subject}
use Rattle.fh_invoke.specs.declared.subject.Subject.TheVariants.{Bare, Queue, Blob, Timer}
use Rattle.fh_invoke.specs.Texts.{rand_guid}

abbrev pub Names : Type 0
Names = List (List ℕ × List ℕ)

-- what each function knows: its invocation's id, its begin's moment and its own name
abbrev pub names_of_all : Begun → Names
names_of_all begun =
    (codes "rand-guid", rand_guid begun.high begun.low)
    ∷ (codes "sys.RandGuid", rand_guid begun.high begun.low)
    ∷ (codes "DateTime", time_text Dashed begun.moment)
    ∷ (codes "sys.UtcNow", time_text Millis begun.moment)
    ∷ (codes "sys.MethodName", begun.function)
    ∷ []

abbrev pub names_of_message : QueueMessage → Names
names_of_message message =
    (codes "queueTrigger", message.text)
    ∷ (codes "DequeueCount", decimal message.count)
    ∷ (codes "ExpirationTime", message.expiry)
    ∷ (codes "Id", message.id)
    ∷ (codes "InsertionTime", message.put_at)
    ∷ (codes "NextVisibleTime", message.visible_at)
    ∷ (codes "PopReceipt", message.receipt)
    ∷ []

-- the blob's path, and the pattern's names
abbrev pub names_of_place : Option BlobPlace → Names
names_of_place None = []
names_of_place (Some place) = (codes "blobTrigger", place.path) ∷ place.names

abbrev pub names_about : Subject → Names
names_about Bare = []
names_about (Queue message) = names_of_message message
names_about (Blob content place) = names_of_place place
names_about (Timer past_due last next updated) = []

-- of two that have one name the first counts
abbrev pub names_known : Begun → Subject → Names
names_known begun subject = names_of_all begun ++ names_about subject

abbrev pub only_object : Data → Option Data
only_object null = None
only_object (boolean b) = None
only_object (number n) = None
only_object (string text) = None
only_object (array values) = None
only_object (object members) = Some (object members)

-- a queue's text that is a JSON object, whose members have names too
abbrev pub object_about : Subject → Option Data
object_about Bare = None
object_about (Queue message) = option_and_then only_object (read message.text)
object_about (Blob content place) = None
object_about (Timer past_due last next updated) = None

-- these are the values that the templates of this invocation's function may name
pub record Knows (begun : Begun) (subject : Subject) (values : Values) : Type 0 where
  pub names : values.known ≡ names_known begun subject
  pub members : option_map view values.message ≡ object_about subject
