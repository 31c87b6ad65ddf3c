-- How the first ready job of a function begins.
use Rattle.std.specs.Prelude.{ℕ, ◌+◌, ◌*◌, ◌==◌, min, if◌then◌else◌, List, [], ◌∷◌, Option, Some, None}
use Rattle.fh_base.specs.declared.rule.Rule.TheVariants.{NoSuchFunction}
use Rattle.fh_event.specs.declared.begun.About.{About}
use Rattle.fh_event.specs.declared.begun.BegunJob.{BegunJob}
use Rattle.fh_event.specs.declared.begun.BegunJob.TheVariants as begun
use Rattle.fh_event.specs.declared.reply.Reply.TheVariants as replies
use Rattle.fh_queues.specs.declared.row.Message.{Message as Row}
use Rattle.fh_queues.specs.Asks as queues
use Rattle.fh_blobs.specs.declared.blob.BlobRow.{BlobRow}
use Rattle.fh_blobs.specs.Part.{BlobPart, blob_of}
use Rattle.fh_leases.specs.Asks as leases
use Rattle.fh_leases.specs.Part.{holder_at}
use Rattle.fh_timers.specs.declared.done.TimerRun.{TimerRun}
use Rattle.fh_timers.specs.declared.row.TimerRow.{TimerRow}
use Rattle.fh_timers.specs.Part.{row_of}
use Rattle.fh_dispatch.specs.declared.act.Act.TheVariants.{TakeFirst, AddRunning}
use Rattle.fh_dispatch.specs.declared.function.Function.{Function}
use Rattle.fh_dispatch.specs.declared.ready.Job.{Job}
use Rattle.fh_dispatch.specs.declared.ready.Job.TheVariants.{Message, Timer}
use Rattle.fh_dispatch.specs.declared.ready.ReadyJob.{ReadyJob}
use Rattle.fh_dispatch.specs.declared.running.NewRun.{NewRun}
use Rattle.fh_dispatch.specs.declared.start.Start.{Start as OwnStart}
use Rattle.fh_dispatch.specs.Part.{WorkPart, Others, function_of}
use Rattle.fh_dispatch.specs.Ready.{first_job}
use Rattle.fh_dispatch.specs.Terms.{terms_of, poison_above, lease_name}
use Rattle.fh_dispatch.specs.Holds.{held_row, hidden_at, message_due, never}
use Rattle.fh_dispatch.specs.Rulings.{Ruling, Refused, Unchanged, Changed}

-- a function whose first job is to begin at a moment, and the halves of the invocation's random bytes
pub record Start : Type 0 where
  pub function : Function
  pub high : ℕ
  pub low : ℕ
  pub moment : ℕ

-- a start as the code keeps it
abbrev pub start_of : OwnStart → Start
start_of start =
    record { function = start.function.now; high = start.high; low = start.low; moment = start.moment }

abbrev pub text_found : Option BlobRow → Option (List ℕ)
text_found None = None
text_found (Some row) = Some row.text

-- the text of the blob that a message is about, as it is now
abbrev pub content_of : BlobPart → Option About → Option (List ℕ)
content_of part None = None
content_of part (Some about) = text_found (blob_of about.container about.blob part.blobs)

abbrev pub begun_message : Others → Row → BegunJob
begun_message others row =
    begun.Message row.number row.queue row.text row.count row.receipt row.put_at row.expiry row.visible_at row.about
    (content_of others.blobs row.about)

abbrev pub begun_run : TimerRun → Option TimerRow → BegunJob
begun_run run None = begun.Timer run.past_due None None 0
begun_run run (Some row) = begun.Timer run.past_due row.last row.next row.updated

-- a function of which one invocation runs at a time takes its lease
abbrev pub taking_lease : Start → ℕ → Option leases.Ask
taking_lease start invocation =
    let seconds = (terms_of start.function.settings).singleton in
    if seconds == 0 then None else Some (leases.Acquire (lease_name start.function.name) invocation seconds)

abbrev pub taken_due : Start → ℕ
taken_due start =
    let seconds = (terms_of start.function.settings).singleton in
    if seconds == 0 then never else start.moment + seconds * 500

abbrev pub new_run : Start → Job → ℕ → NewRun
new_run start job due = record {
  function = start.function.number;
  name = start.function.name;
  job = job;
  due = min due (taken_due start);
}

-- the job becomes a running invocation, which has the next number
abbrev pub starting : ℕ → Start → Job → BegunJob → ℕ → Ruling
starting invocation start job told due = Changed (record {
  queues = None;
  blobs = None;
  leases = taking_lease start invocation;
  acts = TakeFirst start.function.number ∷ AddRunning (new_run start job due) ∷ [];
  told = replies.Begun (record {
    invocation = invocation;
    function = start.function.name;
    moment = start.moment;
    high = start.high;
    low = start.low;
    job = told;
  });
})

abbrev pub unless_blocked : Option (ℕ × ℕ) → Ruling → Ruling
unless_blocked None ruling = ruling
unless_blocked (Some (holder, until)) ruling = Unchanged (replies.Blocked holder until)

-- who has the lease of a function of which one invocation runs at a time, and until when
abbrev pub blocking : Others → Start → Option (ℕ × ℕ)
blocking others start =
    if (terms_of start.function.settings).singleton == 0 then None
    else holder_at others.leases (lease_name start.function.name) start.moment

-- a message that is held for the job begins, unless it is blocked
abbrev pub beginning_held : WorkPart → Others → Start → Row → Ruling
beginning_held part others start row =
    unless_blocked (blocking others start)
    (starting part.next_invocation start (Message row.number row.receipt) (begun_message others row)
    (message_due (Some row)))

-- and so does a run of a timer
abbrev pub beginning_run : WorkPart → Others → Start → TimerRun → Ruling
beginning_run part others start run =
    unless_blocked (blocking others start)
    (starting part.next_invocation start (Timer run)
    (begun_run run (row_of start.function.number others.timers.timers)) never)

-- the message is not held for the job any more
abbrev pub dropping : Start → ℕ → Ruling
dropping start number = Changed (record {
  queues = None;
  blobs = None;
  leases = None;
  acts = TakeFirst start.function.number ∷ [];
  told = replies.JobDropped number;
})

-- the message was taken too often
abbrev pub moving : Others → Start → Row → List ℕ → Ruling
moving others start row queue = Changed (record {
  queues = Some (queues.Poison (record { number = row.number; receipt = row.receipt }) queue);
  blobs = None;
  leases = None;
  acts = TakeFirst start.function.number ∷ [];
  told = replies.JobPoisoned others.queues.next_number None;
})

abbrev pub moving_or : Others → Start → Row → Option (List ℕ) → Ruling → Ruling
moving_or others start row None ruling = ruling
moving_or others start row (Some queue) ruling = moving others start row queue

abbrev pub beginning_row : WorkPart → Others → Start → ℕ → Option Row → Ruling
beginning_row part others start number None = dropping start number
beginning_row part others start number (Some row) =
    moving_or others start row (poison_above (terms_of start.function.settings) row.count)
    (beginning_held part others start row)

-- a message that is held for the job is moved where it was taken too often; else it begins unless another holder
-- has the function's lease, and so does a run of a timer
abbrev pub beginning_job : WorkPart → Others → Start → Job → Ruling
beginning_job part others start (Message number receipt) =
    beginning_row part others start number
    (hidden_at start.moment (held_row others.queues number receipt start.moment))
beginning_job part others start (Timer run) = beginning_run part others start run

abbrev pub beginning_first : WorkPart → Others → Start → Option ReadyJob → Ruling
beginning_first part others start None = Unchanged replies.NoJob
beginning_first part others start (Some ready) = beginning_job part others start ready.job

abbrev pub beginning_found : WorkPart → Others → ℕ → ℕ → ℕ → Option Function → Ruling
beginning_found part others high low m None = Refused NoSuchFunction
beginning_found part others high low m (Some function) =
    beginning_first part others (record { function = function; high = high; low = low; moment = m })
    (first_job function.number part.ready)

-- the function of this name begins its first job
unfoldable pub begin_of : WorkPart → Others → List ℕ → ℕ → ℕ → ℕ → Ruling
begin_of part others name high low m =
    beginning_found part others high low m (function_of name part.functions)
