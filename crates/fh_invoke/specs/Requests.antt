-- The JSON value that is posted for an invocation: members in order of their bytes.
use Rattle.std.specs.Prelude.{ℕ, Bool, true, List, [], ◌∷◌, codes, Option, Some, None}
use Rattle.serde_json.specs.Data.{Data, null, boolean, number, string, object, Members, no_members, member, unsigned}
use Rattle.serde_json.specs.Data.{put}
use Rattle.serde_json.specs.Written.{compact_text}
use Rattle.fh_base.specs.Times.{time_text}
use Rattle.fh_base.specs.declared.times.TimeForm.TheVariants.{Millis}
use Rattle.fh_app.specs.declared.app.App.{App}
use Rattle.fh_app.specs.declared.function.Function.{Function}
use Rattle.fh_app.specs.declared.function.Trigger.{Trigger}
use Rattle.fh_app.specs.declared.function.Trigger.TheVariants as trigger
use Rattle.fh_event.specs.declared.begun.Begun.{Begun}
use Rattle.fh_invoke.specs.declared.subject.BlobPlace.{BlobPlace}
use Rattle.fh_invoke.specs.declared.subject.QueueMessage.{QueueMessage}
use Rattle.fh_invoke.specs.declared.subject.Subject.{Subject}
use Rattle.fh_invoke.specs.declared.subject.Subject.TheVariants.{Bare, Queue, Blob, Timer}
use Rattle.fh_invoke.specs.Subjects.{subject_of}
use Rattle.fh_invoke.specs.Texts.{rand_guid}

-- ---- Metadata

-- the function, the invocation's id, and the moment of its begin
abbrev pub sys_of : Begun → Data
sys_of begun = object
    (member (codes "MethodName") (string begun.function)
    (member (codes "RandGuid") (string (rand_guid begun.high begun.low))
    (member (codes "UtcNow") (string (time_text Millis begun.moment)) no_members)))

abbrev pub bare_members : Begun → Members
bare_members begun = member (codes "sys") (sys_of begun) no_members

abbrev pub queue_members : Begun → QueueMessage → Members
queue_members begun message =
    member (codes "DequeueCount") (number (unsigned message.count))
    (member (codes "ExpirationTime") (string message.expiry)
    (member (codes "Id") (string message.id)
    (member (codes "InsertionTime") (string message.put_at)
    (member (codes "NextVisibleTime") (string message.visible_at)
    (member (codes "PopReceipt") (string message.receipt)
    (member (codes "QueueTrigger") (string message.text) (bare_members begun)))))))

-- each name with its text, put among the members in its place
abbrev pub with_names : List (List ℕ × List ℕ) → Members → Members
with_names [] members = members
with_names (name ∷ names) members = with_names names (put name.0 (string name.1) members)

abbrev pub with_place : BlobPlace → Members → Members
with_place place members = with_names place.names (put (codes "BlobTrigger") (string place.path) members)

-- the path and the pattern's names, where the pattern matches
abbrev pub blob_members : Begun → Option BlobPlace → Members
blob_members begun None = bare_members begun
blob_members begun (Some place) = with_place place (bare_members begun)

abbrev pub metadata_of : Begun → Subject → Members
metadata_of begun Bare = bare_members begun
metadata_of begun (Queue message) = queue_members begun message
metadata_of begun (Blob content place) = blob_members begun place
metadata_of begun (Timer past_due last next updated) = bare_members begun

-- ---- Data

abbrev pub schedule : Data
schedule = object (member (codes "AdjustForDST") (boolean true) no_members)

abbrev pub schedule_status : List ℕ → List ℕ → List ℕ → Data
schedule_status last next updated = object
    (member (codes "Last") (string last)
    (member (codes "LastUpdated") (string updated)
    (member (codes "Next") (string next) no_members)))

abbrev pub run_value : Bool → List ℕ → List ℕ → List ℕ → Data
run_value past_due last next updated = object
    (member (codes "IsPastDue") (boolean past_due)
    (member (codes "Schedule") schedule
    (member (codes "ScheduleStatus") (schedule_status last next updated) no_members)))

abbrev pub content_value : Option (List ℕ) → Data
content_value None = null
content_value (Some content) = string content

abbrev pub value_of : Subject → Data
value_of Bare = null
value_of (Queue message) = string message.text
value_of (Blob content place) = content_value content
value_of (Timer past_due last next updated) = run_value past_due last next updated

-- the value stands under the name of the trigger's binding
abbrev pub name_of : Trigger → List ℕ
name_of (trigger.Queue name _) = name
name_of (trigger.Blob name _ _) = name
name_of (trigger.Timer name _ _ _) = name

-- {"Data":{<name>:<value>},"Metadata":{..}}
abbrev pub posted : List ℕ → Data → Members → Data
posted name value metadata = object
    (member (codes "Data") (object (member name value no_members))
    (member (codes "Metadata") (object metadata) no_members))

abbrev pub request_about : Begun → List ℕ → Subject → Data
request_about begun name subject = posted name (value_of subject) (metadata_of begun subject)

-- what is posted for this invocation of the function
abbrev pub request_value : Begun → Function → App → Data
request_value begun function app =
    request_about begun (name_of function.trigger) (subject_of app.queues.base64 function.trigger begun.job)

-- as compact JSON
unfoldable pub request_text : Begun → Function → App → List ℕ
request_text begun function app = compact_text (request_value begun function app)
