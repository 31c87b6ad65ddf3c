-- The names of a command: each has to keep its grammar. What a command doesn't name is good.
use Rattle.std.specs.Prelude.{Bool, true, ◌&&◌}
use Rattle.fh_base.specs.Names.{is_queue_name}
use Rattle.fh_base.specs.BlobNames.{is_blob_name}
use Rattle.fh_base.specs.PlainNames.{is_plain_name}
use Rattle.fh_event.specs.declared.command.Command.{Command}
use Rattle.fh_event.specs.declared.command.Command.TheVariants.{MakeQueue, Put, Take, Update, Delete, Clear, PutBlob, DeleteBlob, Note, Acquire, RenewLease, ReleaseLease, Configure, Peek, GetBlob, Unnoted}
use Rattle.fh_event.specs.declared.settings.FunctionSettings.{FunctionSettings}
use Rattle.fh_event.specs.declared.settings.FunctionSettings.TheVariants as forms

abbrev pub has_good_queue : Command → Bool
has_good_queue (MakeQueue queue) = is_queue_name queue
has_good_queue (Put queue delay ttl text) = is_queue_name queue
has_good_queue (Take queue count hold) = is_queue_name queue
has_good_queue (Update queue number receipt hold text) = is_queue_name queue
has_good_queue (Delete queue number receipt) = is_queue_name queue
has_good_queue (Clear queue) = is_queue_name queue
has_good_queue (Peek queue count) = is_queue_name queue
has_good_queue command = true

-- a container has the grammar of queues
abbrev pub has_good_blob : Command → Bool
has_good_blob (PutBlob container blob text) = is_queue_name container && is_blob_name blob
has_good_blob (DeleteBlob container blob) = is_queue_name container && is_blob_name blob
has_good_blob (GetBlob container blob) = is_queue_name container && is_blob_name blob
has_good_blob command = true

abbrev pub has_good_lease : Command → Bool
has_good_lease (Acquire lease holder seconds) = is_plain_name lease
has_good_lease (RenewLease lease holder) = is_plain_name lease
has_good_lease (ReleaseLease lease holder) = is_plain_name lease
has_good_lease command = true

abbrev pub has_good_settings : FunctionSettings → Bool
has_good_settings (forms.Queue queue batch threshold limit retry singleton) = is_queue_name queue
has_good_settings settings = true

-- a function, and what else its command names
abbrev pub has_good_function : Command → Bool
has_good_function (Note function container blob) =
    is_plain_name function && (is_queue_name container && is_blob_name blob)
has_good_function (Configure function settings) = is_plain_name function && has_good_settings settings
has_good_function (Unnoted function container) = is_plain_name function && is_queue_name container
has_good_function command = true

abbrev pub has_good_names : Command → Bool
has_good_names command =
    has_good_queue command && (has_good_blob command && (has_good_lease command && has_good_function command))
