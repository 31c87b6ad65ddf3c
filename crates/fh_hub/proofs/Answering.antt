-- A recorded step replies what the stores did.
use Rattle.std.proofs.Common.{◌≡◌, inl, inr, ℕ, ◌+◌, cond, ◌∷◌, Option, Bool, true, false, List, [], Some, None, refl, sym, ◌∙◌, ap, subst}
use Rattle.std.specs.Prelude.{◌==◌, ◌||◌, if◌then◌else◌, count_by, map, fold, ⊤}
use Rattle.std.specs.List.{list_any}
use Rattle.fh_event.specs.declared.command.Command.{Command}
use Rattle.fh_event.specs.declared.command.Command.TheVariants.{Configure, Session, Arm, Tick, Fetch}
use Rattle.fh_event.specs.declared.reply.FetchedJob.{FetchedJob}
use Rattle.fh_event.specs.declared.reply.Item.{Item}
use Rattle.fh_event.specs.declared.reply.Reply.TheVariants as replies
use Rattle.fh_event.specs.Judging as judging
use Rattle.fh_event.specs.declared.reply.Reply.{Reply}
use Rattle.fh_queues.specs.declared.row.Message.{Message}
use Rattle.fh_queues.specs.declared.done.QueueDone.{QueueDone}
use Rattle.fh_queues.specs.declared.done.QueueDone.TheVariants as done
use Rattle.fh_queues.specs.Asks as queues
use Rattle.fh_queues.specs.Outcome as queue_outcome
use Rattle.fh_queues.specs.Rows.{row_of}
use Rattle.fh_queues.specs.Receipts.{born, given}
use Rattle.fh_queues.specs.Tellings.{items_in, lists as lists_item}
use Rattle.fh_queues.specs.Laws as queue_laws
use Rattle.fh_queues.proofs.Lawful.{answers_the_ask}
use Rattle.fh_blobs.specs.declared.done.BlobDone.{BlobDone}
use Rattle.fh_blobs.specs.declared.done.BlobDone.TheVariants as blobs
use Rattle.fh_blobs.specs.Asks as blob_asks
use Rattle.fh_blobs.specs.Laws as blob_laws
use Rattle.fh_blobs.proofs.Lawful.{answers_the_ask as blobs_answer}
use Rattle.fh_leases.specs.declared.done.LeaseDone.{LeaseDone}
use Rattle.fh_leases.specs.declared.done.LeaseDone.TheVariants as leases
use Rattle.fh_timers.specs.declared.ask.TimerAsk.{TimerAsk}
use Rattle.fh_timers.specs.declared.ask.TimerAsk.TheVariants as timer_asks
use Rattle.fh_timers.specs.declared.done.TimerDone.{TimerDone}
use Rattle.fh_timers.specs.declared.done.TimerDone.TheVariants as timers
use Rattle.fh_timers.specs.Laws as timer_laws
use Rattle.fh_timers.proofs.Lawful.{answers_the_ask as timers_answer}
use Rattle.fh_dispatch.specs.declared.done.WorkDone.{WorkDone}
use Rattle.fh_dispatch.specs.declared.done.WorkDone.TheVariants as work
use Rattle.fh_timers.specs.declared.done.TimerRun.{TimerRun}
use Rattle.fh_dispatch.specs.declared.trigger.Trigger.{Trigger}
use Rattle.fh_dispatch.specs.Asks as work_asks
use Rattle.fh_dispatch.specs.Queues.{batch_of}
use Rattle.fh_dispatch.specs.Outcome.{fetched_job}
use Rattle.fh_dispatch.specs.Laws as work_laws
use Rattle.fh_dispatch.proofs.Lawful.{answers_the_ask as work_answers, fetches_as_told}
use Rattle.fh_hub.specs.Asked.{blob_ask_in, work_ask, asks_in}
use Rattle.fh_hub.specs.Stores.{Parts, others_of, ready_by, asked_timers}
use Rattle.fh_hub.specs.Replies.{reply_of_leases, reply_of_blobs, reply_of_queues, reply_of_others, reply_of_note, reply_of_timers, reply_of_work, reply_of_stores, reply_of}
use Rattle.fh_hub.specs.Signs.{lists, has_receipt, gives_by, bears}
use Rattle.fh_hub.specs.World.{World, effective_moment}
use Rattle.fh_hub.proofs.Plain.{is_plain_answer, plain_asked, answers_plainly}
use Rattle.fh_hub.proofs.Steps.{Made, is_configure, is_timed, is_fetch, IsAskedOf, asks_at, work_asked, timers_asked_plainly, timer_ask_plain}

-- ---- what each store answers

-- the queues did nothing that a reply would tell
abbrev is_silent : QueueDone → Bool
is_silent done.Made = true
is_silent done.Swept = true
is_silent answer = false

-- the blobs' answer is that of a note that changes nothing
abbrev was_noted : BlobDone → Bool
was_noted blobs.Noted = true
was_noted answer = false

pub swept : (answer : QueueDone) → queue_laws.answers queues.Sweep answer ≡ true → answer ≡ done.Swept
swept done.Swept is = refl
swept answer is = absurd (cc)

pub nothing_done : (answer : BlobDone) → blob_laws.answers blob_asks.Nothing answer ≡ true → answer ≡ blobs.Nothing
nothing_done blobs.Nothing is = refl
nothing_done answer is = absurd (cc)

pub no_timer_done : (answer : TimerDone) → timer_laws.answers timer_asks.Nothing answer ≡ true → answer ≡ timers.Nothing
no_timer_done timers.Nothing is = refl
no_timer_done answer is = absurd (cc)

pub no_work_done : (answer : WorkDone) → work_laws.answers work_asks.Nothing answer ≡ true → answer ≡ work.Nothing
no_work_done work.Nothing is = refl
no_work_done answer is = absurd (cc)

made_silently : (queue : List ℕ) (answer : QueueDone) → queue_laws.answers (queues.Make queue) answer ≡ true
    → is_silent answer ≡ true
made_silently queue done.Made is = refl
made_silently queue answer is = absurd (cc)

not_noted : (ask : blob_asks.Ask) (answer : BlobDone) → blob_laws.answers ask answer ≡ true → was_noted answer ≡ false
not_noted (blob_asks.Put container name text) blobs.Noted is = absurd (cc)
not_noted (blob_asks.Remove container name) blobs.Noted is = absurd (cc)
not_noted (blob_asks.Note function container name) blobs.Noted is = absurd (cc)
not_noted (blob_asks.PutAll texts) blobs.Noted is = absurd (cc)
not_noted blob_asks.Nothing blobs.Noted is = absurd (cc)
not_noted ask answer is = refl

-- ---- replies by the answers

-- a reply that says nothing of messages
record IsApart (reply : Reply) : Type 0 where
  births : (n : ℕ) → bears n reply ≡ false
  receipts : (k : ℕ) (rows : List Message) → gives_by k rows reply ≡ 0
  lists : (n : ℕ) → lists n reply ≡ false

apart : (reply : Reply) → ((n : ℕ) → bears n reply ≡ false)
    → ((k : ℕ) (rows : List Message) → gives_by k rows reply ≡ 0) → ((n : ℕ) → lists n reply ≡ false) → IsApart reply
apart reply births receipts unlisted = record { births = births; receipts = receipts; lists = unlisted }

leases_apart : (answer : LeaseDone) → IsApart (reply_of_leases answer)
leases_apart (leases.Acquired until) = apart _ (λ n. refl) (λ k rows. refl) (λ n. refl)
leases_apart (leases.Renewed until) = apart _ (λ n. refl) (λ k rows. refl) (λ n. refl)
leases_apart leases.Released = apart _ (λ n. refl) (λ k rows. refl) (λ n. refl)
leases_apart answer = apart _ (λ n. refl) (λ k rows. refl) (λ n. refl)

blobs_apart : (first : Reply) (answer : BlobDone) → IsApart first → IsApart (reply_of_blobs first answer)
blobs_apart first (blobs.Stored version) is = apart _ (λ n. refl) (λ k rows. refl) (λ n. refl)
blobs_apart first blobs.Removed is = apart _ (λ n. refl) (λ k rows. refl) (λ n. refl)
blobs_apart first answer is = is

-- what a reply says of messages is what the queues did; the receipt of a new message is that of its row
pub record Tells (rows : List Message) (reply : Reply) (answer : QueueDone) : Type 0 where
  pub births : (n : ℕ) → bears n reply ≡ born n answer
  pub receipts : (k : ℕ) → gives_by k rows reply ≡ given k answer
  pub lists : (n : ℕ) → lists n reply ≡ lists_item n (items_in answer)

tells : (rows : List Message) (reply : Reply) (answer : QueueDone) → ((n : ℕ) → bears n reply ≡ born n answer)
    → ((k : ℕ) → gives_by k rows reply ≡ given k answer) → ((n : ℕ) → lists n reply ≡ lists_item n (items_in answer))
    → Tells rows reply answer
tells rows reply answer births receipts listed = record { births = births; receipts = receipts; lists = listed }

queues_tell : (rows : List Message) (first : Reply) (answer : QueueDone) → is_plain_answer answer ≡ true
    → IsApart first → Tells rows (reply_of_queues first answer) answer
queues_tell rows first (done.Stored number receipt) plain is = tells rows _ _ (λ n. refl) (λ k. refl) (λ n. refl)
queues_tell rows first (done.Taken items) plain is = tells rows _ _ (λ n. refl) (λ k. refl) (λ n. refl)
queues_tell rows first (done.Updated receipt) plain is = tells rows _ _ (λ n. refl) (λ k. refl) (λ n. refl)
queues_tell rows first done.Swept plain is = tells rows _ _ is.births (λ k. is.receipts k rows) is.lists
queues_tell rows first (done.Released receipt visible_at) plain is = absurd (cc)
queues_tell rows first (done.Renewed messages) plain is = absurd (cc)
queues_tell rows first (done.Completed number receipt count) plain is = absurd (cc)
queues_tell rows first (done.Poisoned copy receipt) plain is = absurd (cc)
queues_tell rows first answer plain is = tells rows _ _ (λ n. refl) (λ k. refl) (λ n. refl)

-- the row of a new message has the receipt that was answered
abbrev pub HasOwnReceipt : List Message → QueueDone → Type 0
HasOwnReceipt rows answer =
    (number receipt k : ℕ) → answer ≡ done.Stored number receipt
    → has_receipt k (row_of number rows) ≡ (if receipt == k then 1 else 0)

note_tells : (rows : List Message) (reply : Reply) (answer : QueueDone) (blob_answer : BlobDone)
    → HasOwnReceipt rows answer → was_noted blob_answer ≡ false → Tells rows reply answer
    → Tells rows (reply_of_note reply answer blob_answer) answer
note_tells rows reply (done.Stored number receipt) (blobs.NowNoted version) own fresh is =
    tells rows _ _ (λ n. refl) (λ k. own number receipt k refl) (λ n. refl)
note_tells rows reply answer blobs.Noted own fresh is = absurd (cc)
note_tells rows reply answer blob_answer own fresh is = is

silence_tells : (rows : List Message) (reply : Reply) (answer : QueueDone) → IsApart reply → is_silent answer ≡ true
    → Tells rows reply answer
silence_tells rows reply done.Made is silent = tells rows _ _ is.births (λ k. is.receipts k rows) is.lists
silence_tells rows reply done.Swept is silent = tells rows _ _ is.births (λ k. is.receipts k rows) is.lists
silence_tells rows reply answer is silent = absurd (cc)

-- where the queues were silent, so is what timers and work answer
timers_tell : (rows : List Message) (reply : Reply) (timed : TimerDone) (answer : QueueDone) → is_silent answer ≡ true
    → Tells rows reply answer → Tells rows (reply_of_timers reply timed) answer
timers_tell rows reply timers.Running answer silent is =
    silence_tells rows _ answer (apart _ (λ n. refl) (λ k rows. refl) (λ n. refl)) silent
timers_tell rows reply timers.Same answer silent is =
    silence_tells rows _ answer (apart _ (λ n. refl) (λ k rows. refl) (λ n. refl)) silent
timers_tell rows reply (timers.PastDue due next) answer silent is =
    silence_tells rows _ answer (apart _ (λ n. refl) (λ k rows. refl) (λ n. refl)) silent
timers_tell rows reply (timers.Armed next startup) answer silent is =
    silence_tells rows _ answer (apart _ (λ n. refl) (λ k rows. refl) (λ n. refl)) silent
timers_tell rows reply timers.Unarmed answer silent is =
    silence_tells rows _ answer (apart _ (λ n. refl) (λ k rows. refl) (λ n. refl)) silent
timers_tell rows reply timers.NotDue answer silent is =
    silence_tells rows _ answer (apart _ (λ n. refl) (λ k rows. refl) (λ n. refl)) silent
timers_tell rows reply (timers.Ticked due next) answer silent is =
    silence_tells rows _ answer (apart _ (λ n. refl) (λ k rows. refl) (λ n. refl)) silent
timers_tell rows reply timers.Removed answer silent is = is
timers_tell rows reply timers.Nothing answer silent is = is

-- what the work tells itself says nothing of messages
abbrev IsApartWork : WorkDone → Type 0
IsApartWork (work.Told reply) = IsApart reply
IsApartWork answer = ⊤

work_tells : (rows : List Message) (reply : Reply) (worked : WorkDone) (answer : QueueDone) → IsApartWork worked
    → is_silent answer ≡ true → Tells rows reply answer → Tells rows (reply_of_work reply worked) answer
work_tells rows reply (work.Configured number) answer told silent is =
    silence_tells rows _ answer (apart _ (λ n. refl) (λ k rows. refl) (λ n. refl)) silent
work_tells rows reply work.Same answer told silent is =
    silence_tells rows _ answer (apart _ (λ n. refl) (λ k rows. refl) (λ n. refl)) silent
work_tells rows reply (work.Told other) answer told silent is = silence_tells rows other answer told silent
work_tells rows reply work.Ready answer told silent is = is
work_tells rows reply work.Nothing answer told silent is = is

abbrev tells_jobs : work_asks.Ask → Bool
tells_jobs (work_asks.Fetch name) = true
tells_jobs (work_asks.Begin name high low) = true
tells_jobs (work_asks.Finish invocation outcome) = true
tells_jobs work_asks.Renewals = true
tells_jobs ask = false

-- an ask that tells of no message
work_apart : (ask : work_asks.Ask) (answer : WorkDone) → tells_jobs ask ≡ false → work_laws.answers ask answer ≡ true
    → IsApartWork answer
work_apart (work_asks.Configure name settings) (work.Told reply) plain is = absurd (cc)
work_apart (work_asks.Ready function run) (work.Told reply) plain is = absurd (cc)
work_apart work_asks.Nothing (work.Told reply) plain is = absurd (cc)
work_apart (work_asks.Fetch name) (work.Told reply) plain is = absurd (cc)
work_apart (work_asks.Begin name high low) (work.Told reply) plain is = absurd (cc)
work_apart (work_asks.Finish invocation outcome) (work.Told reply) plain is = absurd (cc)
work_apart work_asks.Renewals (work.Told reply) plain is = absurd (cc)
work_apart work_asks.Session (work.Told (replies.SessionBegun session)) plain is =
    apart _ (λ n. refl) (λ k rows. refl) (λ n. refl)
work_apart work_asks.Session (work.Told reply) plain is = absurd (cc)
work_apart ask (work.Configured number) plain is = tt
work_apart ask work.Same plain is = tt
work_apart ask work.Ready plain is = tt
work_apart ask work.Nothing plain is = tt

-- what was fetched is what was taken
taken : (trigger : Trigger) (answer : QueueDone) → queue_laws.answers (batch_of trigger) answer ≡ true
    → (items : List Item) × (answer ≡ done.Taken items)
taken trigger (done.Taken items) is = (items, refl)
taken trigger answer is = absurd (cc)

fold_map : {A B C : Type 0} (step : C → B → C) (f : A → B) (first : C) (xs : List A)
    → fold step first (map f xs) ≡ fold (λ c x. step c (f x)) first xs
fold_map step f first [] = refl
fold_map step f first (x ∷ xs) = fold_map step f (step first (f x)) xs

count_fetched : (k : ℕ) (items : List Item)
    → count_by (λ (job : FetchedJob). job.receipt == k) (map fetched_job items)
    ≡ count_by (λ (item : Item). item.receipt == k) items
count_fetched k items = fold_map (λ (n : ℕ) (job : FetchedJob). n + cond (job.receipt == k) 1 0) fetched_job 0 items

list_fetched : (n : ℕ) (items : List Item)
    → list_any (λ (job : FetchedJob). job.number == n) (map fetched_job items)
    ≡ list_any (λ (item : Item). item.number == n) items
list_fetched n [] = refl
list_fetched n (item ∷ items) = ap (λ b. (item.number == n) || b) (list_fetched n items)

fetch_tells : (rows : List Message) (trigger : Trigger) (answer : QueueDone)
    → queue_laws.answers (batch_of trigger) answer ≡ true
    → Tells rows (replies.Fetched (map fetched_job (items_in answer))) answer
fetch_tells rows trigger answer is =
    let given = taken trigger answer is in
    subst (λ (d : QueueDone). Tells rows (replies.Fetched (map fetched_job (items_in d))) d) (sym given.1)
    (tells rows _ _ (λ n. refl) (λ k. count_fetched k given.0) (λ n. list_fetched n given.0))

-- ---- a recorded step

module _ (w : World) (command : Command) (now : ℕ) (new : World) (reply : Reply) (made : Made w command now new reply)
  where
    abbrev m : ℕ
    m = effective_moment w now

    blobs_fresh : was_noted made.done.blobs ≡ false
    blobs_fresh = not_noted (blob_ask_in w.parts command) made.done.blobs
        (blobs_answer w.parts.blobs (blob_ask_in w.parts command) m new.parts.blobs made.done.blobs made.blobs)

    pub queues_answered : queue_laws.answers made.ask made.done.queues ≡ true
    queues_answered = answers_the_ask w.parts.queues made.ask m new.parts.queues made.done.queues made.queues

    pub work_answered : work_laws.answers (asks_at w command now).work made.done.work ≡ true
    work_answered = work_answers w.parts.work (others_of w.parts)
        (asks_at w command now).work m new.parts.work made.done.work made.work

    pub timers_answered : timer_laws.answers (asked_timers w.parts (asks_at w command now)) made.done.timers ≡ true
    timers_answered = timers_answer w.parts.timers (asked_timers w.parts (asks_at w command now))
        m new.parts.timers made.done.timers made.timers

-- a command that asks something of the work or the timers asks the queues for nothing that a reply would tell, but a fetch
abbrev leads : Command → Bool
leads (Configure function settings) = true
leads Session = true
leads (Arm function) = true
leads (Tick function) = true
leads command = false

silent : (parts : Parts) (command : Command) (ask : queues.Ask) (answer : QueueDone) → leads command ≡ true
    → IsAskedOf parts command ask
    → queue_laws.answers ask answer ≡ true → is_silent answer ≡ true
silent parts (Configure function settings) ask answer lead asked answers =
    elim asked [
      | inl is ↦ ap is_silent (swept answer (subst (λ (a : queues.Ask). queue_laws.answers a answer ≡ true) is answers))
      | inr one ↦ made_silently one.0 answer (subst (λ (a : queues.Ask). queue_laws.answers a answer ≡ true)
          one.1 answers)
    ]
silent parts Session ask answer lead is answers = ap is_silent
    (swept answer (subst (λ (a : queues.Ask). queue_laws.answers a answer ≡ true) is answers))
silent parts (Arm function) ask answer lead is answers =
    ap is_silent (swept answer (subst (λ (a : queues.Ask). queue_laws.answers a answer ≡ true) is answers))
silent parts (Tick function) ask answer lead is answers =
    ap is_silent (swept answer (subst (λ (a : queues.Ask). queue_laws.answers a answer ≡ true) is answers))
silent parts command ask answer lead is answers = absurd (cc)

-- the command asks something of the work by itself
abbrev pub works : Command → Bool
works (Configure function settings) = true
works Session = true
works (Fetch function) = true
works command = false

rests : (command : Command) → works command ≡ false → work_ask command ≡ work_asks.Nothing
rests (Configure function settings) plain = absurd (cc)
rests Session plain = absurd (cc)
rests (Fetch function) plain = absurd (cc)
rests command plain = refl

ready_tells : (function : ℕ) (run : Option TimerRun) → tells_jobs (ready_by function run) ≡ false
ready_tells function None = refl
ready_tells function (Some run) = refl

tells_jobs_by : (parts : Parts) (command : Command) (m : ℕ) → is_fetch command ≡ false
    → tells_jobs (asks_in parts command m).work ≡ false
tells_jobs_by parts (Fetch function) m plain = absurd (cc)
tells_jobs_by parts (Arm function) m plain = ready_tells _ _
tells_jobs_by parts (Tick function) m plain = ready_tells _ _
tells_jobs_by parts command m plain = refl

module _ (w : World) (command : Command) (now : ℕ) (new : World) (reply : Reply) (made : Made w command now new reply)
  where
    -- a command that is about no function leaves work and timers alone
    pub work_rests : works command ≡ false → is_timed command ≡ false → made.done.work ≡ work.Nothing
    work_rests plain untimed =
        no_work_done made.done.work (subst (λ (a : work_asks.Ask). work_laws.answers a made.done.work ≡ true)
        (work_asked w.parts command (effective_moment w now) untimed ∙ rests command plain)
        (work_answered w command now new reply made))

    pub timers_rest : is_configure command ≡ false → is_timed command ≡ false → made.done.timers ≡ timers.Nothing
    timers_rest plain untimed =
        no_timer_done made.done.timers (subst (λ (a : TimerAsk). timer_laws.answers a made.done.timers ≡ true)
        (timers_asked_plainly w.parts command (effective_moment w now) plain ∙ timer_ask_plain w.parts command untimed)
        (timers_answered w command now new reply made))

-- a command leads, or fetches, or leaves work and timers alone
data Kind (command : Command) : Type 0 where
  Leads : leads command ≡ true → is_fetch command ≡ false → Kind command
  Fetches : (function : List ℕ) → command ≡ Fetch function → Kind command
  Rests : works command ≡ false → is_configure command ≡ false → is_timed command ≡ false → Kind command

kind_of : (command : Command) → Kind command
kind_of (Configure function settings) = Leads refl refl
kind_of Session = Leads refl refl
kind_of (Arm function) = Leads refl refl
kind_of (Tick function) = Leads refl refl
kind_of (Fetch function) = Fetches function refl
kind_of command = Rests refl refl refl

-- the reply to a fetch is what the work tells
fetch_reply : (w : World) (function : List ℕ) (now : ℕ) (new : World) (reply : Reply)
    (made : Made w (Fetch function) now new reply)
    → Tells new.parts.queues.rows (reply_of made.done) made.done.queues
fetch_reply w function now new reply made =
    let m = effective_moment w now in
    let batch = made.asked in
    let fetch = fetches_as_told w.parts.work (others_of w.parts) function m new.parts.work made.done.work made.work in
    let trigger : Some fetch.trigger ≡ Some batch.0 = sym fetch.found ∙ batch.1 in
    let same : fetch.trigger ≡ batch.0 = cc in
    let ask_is : made.ask ≡ batch_of fetch.trigger = batch.2 ∙ ap batch_of (sym same) in
    let took = subst (λ (a : queues.Ask). queue_outcome.outcome w.parts.queues a m
    ≡ judging.Makes new.parts.queues made.done.queues) ask_is made.queues in
    let told = fetch.told new.parts.queues made.done.queues took in
    let answers = subst (λ (a : queues.Ask). queue_laws.answers a made.done.queues ≡ true) ask_is
    (queues_answered w (Fetch function) now new reply made) in
    subst (λ (d : WorkDone). Tells new.parts.queues.rows
    (reply_of_work (reply_of_timers (reply_of_stores made.done) made.done.timers) d) made.done.queues)
    (sym told) (fetch_tells new.parts.queues.rows fetch.trigger made.done.queues answers)

fetch_reply_by : (w : World) (command : Command) (now : ℕ) (new : World) (reply : Reply)
    (made : Made w command now new reply)
    → (function : List ℕ) → command ≡ Fetch function → Tells new.parts.queues.rows (reply_of made.done) made.done.queues
fetch_reply_by w (Fetch function) now new reply made name is = fetch_reply w function now new reply made
fetch_reply_by w command now new reply made name is = absurd (cc)

-- what the reply to a recorded step says of messages is what the queues did
pub reply_tells : (w : World) (command : Command) (now : ℕ) (new : World) (reply : Reply)
    (made : Made w command now new reply)
    → HasOwnReceipt new.parts.queues.rows made.done.queues → Tells new.parts.queues.rows reply made.done.queues
reply_tells w command now new reply made own =
    subst (λ (r : Reply). Tells rows r answer) (sym made.replies) (by_kind (kind_of command))
  where
    rows : List Message
    rows = new.parts.queues.rows

    answer : QueueDone
    answer = made.done.queues

    stores : Tells rows (reply_of_stores made.done) answer
    stores =
        note_tells rows _ answer made.done.blobs own (blobs_fresh w command now new reply made)
        (queues_tell rows (reply_of_others made.done) answer
        (answers_plainly made.ask answer (plain_asked w.parts command made.ask made.asked)
        (queues_answered w command now new reply made))
        (blobs_apart (reply_of_leases made.done.leases) made.done.blobs (leases_apart made.done.leases)))

    if_silent : is_fetch command ≡ false → is_silent answer ≡ true → Tells rows (reply_of made.done) answer
    if_silent plain quiet =
        let told = work_apart (asks_at w command now).work made.done.work
        (tells_jobs_by w.parts command (effective_moment w now) plain) (work_answered w command now new reply made) in
        work_tells rows _ made.done.work answer told quiet (timers_tell rows _ made.done.timers answer quiet stores)

    by_kind : Kind command → Tells rows (reply_of made.done) answer
    by_kind (Leads lead plain) = if_silent plain
        (silent w.parts command made.ask answer lead made.asked (queues_answered w command now new reply made))
    by_kind (Fetches function is) = fetch_reply_by w command now new reply made function is
    by_kind (Rests plain unconfigured untimed) =
        subst (λ (d : TimerDone). Tells rows (reply_of_work (reply_of_timers (reply_of_stores made.done) d)
        made.done.work) answer) (sym (timers_rest w command now new reply made unconfigured untimed))
        (subst (λ (d : WorkDone). Tells rows (reply_of_work (reply_of_stores made.done) d) answer)
        (sym (work_rests w command now new reply made plain untimed)) stores)
