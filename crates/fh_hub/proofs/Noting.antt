-- What was noted has its receipt, and each note has its message.
use Rattle.std.proofs.Common.{◌≡◌, ℕ, ◌+◌, Bool, true, false, cond, List, [], ◌∷◌, ◌++◌, Some, None, refl, sym, ◌∙◌, ap, subst, arith}
use Rattle.std.specs.Prelude.{◌==◌, ◌&&◌, ◌||◌, option_map}
use Rattle.std.specs.Str.{bytes_eq}
use Rattle.std.specs.List.{All}
use Rattle.std.proofs.lemmas.List.Elements.{All-nil, All-push}
use Rattle.std.proofs.lemmas.List.Sums.{sum_by_push}
use Rattle.fh_event.specs.declared.command.Command.{Command}
use Rattle.fh_event.specs.declared.command.Command.TheVariants.{Note}
use Rattle.fh_event.specs.declared.reply.Reply.{Reply}
use Rattle.fh_event.specs.declared.reply.Reply.TheVariants as replies
use Rattle.fh_queues.specs.declared.done.QueueDone.{QueueDone}
use Rattle.fh_queues.specs.declared.done.QueueDone.TheVariants as done
use Rattle.fh_queues.specs.Acts.{numbered}
use Rattle.fh_queues.specs.Asks as queues
use Rattle.fh_queues.specs.Laws as queue_laws
use Rattle.fh_queues.specs.Outcome.{new_message}
use Rattle.fh_queues.specs.Seen.{Unborn}
use Rattle.fh_blobs.specs.declared.blob.BlobRow.{BlobRow}
use Rattle.fh_blobs.specs.declared.done.BlobDone.{BlobDone}
use Rattle.fh_blobs.specs.declared.done.BlobDone.TheVariants as blobs
use Rattle.fh_blobs.specs.Asks as blob_asks
use Rattle.fh_blobs.specs.Laws as blob_laws
use Rattle.fh_blobs.specs.Part.{BlobPart, blob_of, has_receipt}
use Rattle.fh_blobs.proofs.Lawful.{answers_the_ask, notes_current, made_once, Whole-none, Whole-outcome}
use Rattle.fh_timers.specs.declared.done.TimerDone.TheVariants as timers
use Rattle.fh_dispatch.specs.declared.done.WorkDone.TheVariants as work
use Rattle.fh_dispatch.specs.Notes.{note_text}
use Rattle.fh_hub.specs.Asked.{number_in, version_or_none, version_in, blob_as_it_is, blob_ask_in}
use Rattle.fh_hub.specs.Stores.{Parts, Done}
use Rattle.fh_hub.specs.Replies.{reply_of}
use Rattle.fh_hub.specs.World.{World, effective_moment}
use Rattle.fh_hub.specs.Replay.{Entry, Event, trace, replay}
use Rattle.fh_hub.specs.Noting.{notes, times_noted, NotedAs, NotesByMessage, IsNotedOnce}
use Rattle.fh_hub.proofs.Steps.{Made, asked_plainly, IsKept, event, kept_by_all}
use Rattle.fh_hub.proofs.Answering.{queues_answered, work_rests, timers_rest}
use Rattle.fh_hub.proofs.Told.{Told, no_row, stored_row, unborn_now, told_kept, told_none}

-- ---- receipts

-- what is noted now is what gets its receipt
version_is : (found : _) (version : ℕ) → option_map (λ (row : BlobRow). row.version) found ≡ Some version
    → version_or_none found ≡ version
version_is None version is = absurd (cc)
version_is (Some row) version is = cc

makes_as_noted : (f : ℕ) (c b : List ℕ) (v : ℕ) (parts : Parts) (command : Command) (m : ℕ) (after : BlobPart)
    (answer : BlobDone)
    → blob_laws.answers (blob_ask_in parts command) answer ≡ true
    → blob_laws.NotesTheCurrentVersion parts.blobs m (blob_ask_in parts command) after answer
    → blob_laws.makes f c b v (blob_ask_in parts command) answer ≡ notes f c b v parts command
makes_as_noted f c b v parts (Note function container blob) m after (blobs.NowNoted version) answers current =
    ap (λ n. (number_in parts.work function == f) && (bytes_eq container c && (bytes_eq blob b && (n == v))))
    (sym (version_is (blob_of container blob parts.blobs.blobs) version current))
makes_as_noted f c b v parts (Note function container blob) m after answer answers current = absurd (cc)
makes_as_noted f c b v parts command m after answer answers current = refl

abbrev one_if : Bool → ℕ
one_if b = cond b 1 0

-- how often it was noted is whether the receipt is there
record Receipts (events : List Event) (w : World) : Type 0 where
  whole : blob_laws.IsWhole w.parts.blobs
  noted : (f : ℕ) (c b : List ℕ) (v : ℕ) → times_noted f c b v events ≡ one_if (has_receipt w.parts.blobs f c b v)

receipts_kept : IsKept Receipts
receipts_kept events w command now new reply h made = record {
  whole = Whole-outcome w.parts.blobs ask m new.parts.blobs answer h.whole made.blobs;
  noted = noted;
}
  where
    m : ℕ
    m = effective_moment w now

    ask : blob_asks.Ask
    ask = blob_ask_in w.parts command

    answer : BlobDone
    answer = made.done.blobs

    one_more : (was makes : Bool) → (makes ≡ true → was ≡ false) → one_if was + one_if makes ≡ one_if (was || makes)
    one_more true true fresh = absurd (let none = fresh refl in cc)
    one_more true false fresh = refl
    one_more false true fresh = refl
    one_more false false fresh = refl

    noted : (f : ℕ) (c b : List ℕ) (v : ℕ) → times_noted f c b v (events ++ event w command now reply new ∷ [])
        ≡ one_if (has_receipt new.parts.blobs f c b v)
    noted f c b v =
        let once = made_once w.parts.blobs ask m new.parts.blobs answer h.whole made.blobs in
        let current = notes_current w.parts.blobs ask m new.parts.blobs answer h.whole made.blobs in
        let same = makes_as_noted f c b v w.parts command m new.parts.blobs answer
        (answers_the_ask w.parts.blobs ask m new.parts.blobs answer made.blobs) current in
        sum_by_push (λ (e : Event). one_if (notes f c b v e.before.parts e.command)) events
        (event w command now reply new)
        ∙ ap (λ k. k + one_if (notes f c b v w.parts command)) (h.noted f c b v)
        ∙ ap (λ n. one_if (has_receipt w.parts.blobs f c b v) + one_if n) (sym same)
        ∙ one_more (has_receipt w.parts.blobs f c b v) (blob_laws.makes f c b v ask answer) (once.new f c b v)
        ∙ ap one_if (sym (once.stays f c b v))

receipts : (history : List Entry) → Receipts (trace history) (replay history)
receipts history = kept_by_all Receipts receipts_kept (record { whole = Whole-none; noted = λ f c b v. refl }) history

pub noted_once : (history : List Entry) (f : ℕ) (c b : List ℕ) (v : ℕ) → IsNotedOnce history f c b v
noted_once history f c b v = by_test (has_receipt (replay history).parts.blobs f c b v) refl
    ((receipts history).noted f c b v)
  where
    by_test : (there : Bool) → has_receipt (replay history).parts.blobs f c b v ≡ there
        → times_noted f c b v (trace history) ≡ one_if there → IsNotedOnce history f c b v
    by_test true is times = record { once = omega (arith, times); receipt = (λ one. is, λ there. times) }
    by_test false is times = record {
      once = omega (arith, times);
      receipt =
          (λ one. absurd (omega (arith, one, times)), λ there. absurd (cc (is, there)));
    }

-- ---- messages

replied_to_note : (answer : Done) (number receipt version : ℕ) → answer.queues ≡ done.Stored number receipt
    → answer.blobs ≡ blobs.NowNoted version → answer.timers ≡ timers.Nothing → answer.work ≡ work.Nothing
    → reply_of answer ≡ replies.Noted number
replied_to_note answer number receipt version queues blobs timers work = rw (queues, blobs, timers, work) refl

record IsStored (answer : QueueDone) : Type 0 where
  number : ℕ
  receipt : ℕ
  is : answer ≡ done.Stored number receipt

stored : (ask : queues.Ask) (queue : List ℕ) (text : List ℕ) (about : _) (answer : QueueDone)
    → ask ≡ queues.Put queue 0 None text about → queue_laws.answers ask answer ≡ true → IsStored answer
stored ask queue text about (done.Stored number receipt) asks answers =
    record { number = number; receipt = receipt; is = refl }
stored ask queue text about answer asks answers = absurd (cc (asks, answers))

record IsNowNoted (answer : BlobDone) : Type 0 where
  version : ℕ
  is : answer ≡ blobs.NowNoted version

now_noted : (function : ℕ) (container blob : List ℕ) (answer : BlobDone)
    → blob_laws.answers (blob_asks.Note function container blob) answer ≡ true → IsNowNoted answer
now_noted function container blob (blobs.NowNoted version) answers = record { version = version; is = refl }
now_noted function container blob answer answers = absurd (cc)

noted_as : (events : List Event) (w : World) (command : Command) (now : ℕ) (new : World) (reply : Reply)
    → Told events w → (made : Made w command now new reply) → NotesByMessage (event w command now reply new)
noted_as events w (Note function container blob) now new reply h made =
    let m = effective_moment w now in
    let command = Note function container blob in
    let text = note_text function container blob (version_in w.parts.blobs container blob) in
    let about = Some (blob_as_it_is w.parts.blobs container blob) in
    let asks = asked_plainly w.parts command made.ask refl refl made.asked in
    let put = stored made.ask _ text about made.done.queues asks (queues_answered w command now new reply made) in
    let noting = now_noted (number_in w.parts.work function) container blob made.done.blobs
    (answers_the_ask w.parts.blobs (blob_ask_in w.parts command) m new.parts.blobs made.done.blobs made.blobs) in
    let told = made.replies ∙ replied_to_note made.done put.number put.receipt noting.version put.is noting.is
    (timers_rest w command now new reply made refl refl) (work_rests w command now new reply made refl refl) in
    subst (NotedAs (event w command now reply new) command) (sym told) (record {
      row = numbered put.number put.receipt (new_message m _ 0 None text about);
      stands = stored_row events w command now new reply h made _ 0 None text about put.number put.receipt asks put.is;
      new = no_row put.number w.parts.queues Unborn
          (unborn_now events w command now new reply h made put.number put.receipt put.is) (λ row stands. cc);
      queue = refl;
      text = refl;
      about = refl;
      waits = (omega arith, refl);
      lasting = refl;
    })
noted_as events w command now new reply h made = tt

abbrev Noting : List Event → World → Type 0
Noting events w = Told events w × All NotesByMessage events

noting_kept : IsKept Noting
noting_kept events w command now new reply h made = (
  told_kept events w command now new reply h.0 made,
  All-push NotesByMessage events (event w command now reply new) h.1 (noted_as events w command now new reply h.0 made),
)

pub all_note : (history : List Entry) → All NotesByMessage (trace history)
all_note history = (kept_by_all Noting noting_kept (told_none, All-nil NotesByMessage) history).1
