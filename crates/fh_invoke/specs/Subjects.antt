-- What an invocation is about: a queue's message, a blob or a timer's run, as its function's trigger takes it.
use Rattle.std.specs.Prelude.{ℕ, Bool, List, ◌++◌, codes, Option, Some, None, option_map, option_and_then}
use Rattle.std.specs.Prelude.{if◌then◌else◌}
use Rattle.std.specs.Fmt.{decimal}
use Rattle.std.specs.Str.{bytes_eq}
use Rattle.fh_base.specs.Times.{time_text}
use Rattle.fh_base.specs.declared.times.TimeForm.TheVariants.{Offset}
use Rattle.fh_app.specs.declared.function.Trigger.{Trigger}
use Rattle.fh_app.specs.declared.function.Trigger.TheVariants as trigger
use Rattle.fh_event.specs.declared.begun.About.{About}
use Rattle.fh_event.specs.declared.begun.BegunJob.{BegunJob}
use Rattle.fh_event.specs.declared.begun.BegunJob.TheVariants as job
use Rattle.fh_exprs.specs.Layout.{Layout}
use Rattle.fh_exprs.specs.Matching.{matched}
use Rattle.fh_invoke.specs.declared.subject.BlobPlace.{BlobPlace}
use Rattle.fh_invoke.specs.declared.subject.Subject.{Subject}
use Rattle.fh_invoke.specs.declared.subject.Subject.TheVariants.{Bare, Queue, Blob, Timer}
use Rattle.fh_invoke.specs.Texts.{decoded, message_id}

-- a message that never expires expires at the end of time
abbrev pub expiry_text : Option ℕ → List ℕ
expiry_text None = codes "9999-12-31T23:59:59+00:00"
expiry_text (Some at) = time_text Offset at

-- a run that isn't there was at the beginning of time
abbrev pub run_text : Option ℕ → List ℕ
run_text None = codes "0001-01-01T00:00:00+00:00"
run_text (Some at) = time_text Offset at

abbrev pub queue_subject : Bool → BegunJob → Subject
queue_subject base64 (job.Timer _ _ _ _) = Bare
queue_subject base64 (job.Message number _ text count receipt put_at expiry visible_at _ _) = Queue (record {
  text = decoded base64 text;
  count = count;
  expiry = expiry_text expiry;
  id = message_id number;
  put_at = time_text Offset put_at;
  visible_at = time_text Offset visible_at;
  receipt = decimal receipt;
})

abbrev pub blob_path : About → List ℕ
blob_path about = about.container ++ (codes "/" ++ about.blob)

-- where the blob stands, and the texts of the pattern's names: nothing of another container's blob, and of
-- one that the pattern doesn't match
abbrev pub blob_place : List ℕ → Layout → About → Option BlobPlace
blob_place container pattern about =
    if bytes_eq about.container container then
    option_map (λ names. record { path = blob_path about; names = names }) (matched pattern about.blob)
    else None

abbrev pub blob_subject : List ℕ → Layout → BegunJob → Subject
blob_subject container pattern (job.Timer _ _ _ _) = Bare
blob_subject container pattern (job.Message _ _ _ _ _ _ _ _ about content) =
    Blob content (option_and_then (blob_place container pattern) about)

abbrev pub timer_subject : BegunJob → Subject
timer_subject (job.Timer past_due last next updated) =
    Timer past_due (run_text last) (run_text next) (time_text Offset updated)
timer_subject (job.Message _ _ _ _ _ _ _ _ _ _) = Bare

-- a timer takes runs, and a queue and a blob take messages; a job of the other kind is a bare one
unfoldable pub subject_of : Bool → Trigger → BegunJob → Subject
subject_of base64 (trigger.Queue _ _) job = queue_subject base64 job
subject_of base64 (trigger.Blob _ container pattern) job = blob_subject container pattern job
subject_of base64 (trigger.Timer _ _ _ _) job = timer_subject job
