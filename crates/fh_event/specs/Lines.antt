-- The lines that a script prints for replies and rules.
use Rattle.std.specs.Prelude.{ℕ, ◌==◌, nat_le, Bool, ◌||◌, if◌then◌else◌, List, [], ◌∷◌, ◌++◌, length, codes, Option, Some, None, Result, Ok, Err}
use Rattle.std.specs.List.{flat_map}
use Rattle.std.specs.Borrow.{Bor}
use Rattle.std.specs.Fmt.{decimal}
use Rattle.percent_encoding.specs.Percent.{percent_encode_byte}
use Rattle.fh_base.specs.declared.rule.Rule.{Rule}
use Rattle.fh_base.specs.declared.rule.Rule.TheVariants.{MomentTooLate, BadName, TooLarge, OutOfRange, NoSuchFunction, QueueNotFound, BlobNotFound, MessageNotFound, NoSuchInvocation, PopReceiptMismatch, LeaseHeld, LeaseMismatch, StoreFull, JournalFull, OldJournal, TokensFull, BadZone}
use Rattle.fh_base.specs.Rules.{rule_number, rule_name}
use Rattle.fh_event.specs.declared.begun.BegunJob.{BegunJob}
use Rattle.fh_event.specs.declared.begun.BegunJob.TheVariants.{Timer as TimerJob, Message as MessageJob}
use Rattle.fh_event.specs.declared.reply.FetchedJob.{FetchedJob}
use Rattle.fh_event.specs.declared.reply.RenewalPart.{RenewalPart}
use Rattle.fh_event.specs.declared.reply.RenewalPart.TheVariants.{Message, Lease}
use Rattle.fh_event.specs.declared.reply.Item.{Item}
use Rattle.fh_event.specs.declared.reply.Place.{Place}
use Rattle.fh_event.specs.declared.reply.Place.TheVariants.{Waiting, Held, Deleted as PlaceDeleted, Completed, Moved, Expired, Unknown}
use Rattle.fh_event.specs.declared.reply.Reply.{Reply}
use Rattle.fh_event.specs.declared.reply.Reply.TheVariants.{Made, There, Stored, Taken, Empty, Updated, Deleted, Cleared, BlobStored, BlobDeleted, Noted, NotedBefore, Acquired, Renewed, Released, Configured, Same, Armed, PastDue, Ticked, Running, Unarmed, NotDue, SessionBegun, Fetched, Busy, NoJob, JobDropped, JobPoisoned, Blocked, Begun, JobLost, JobDone, JobFailed, JobReleased, HoldsRenewed, NothingDue, Peeked, Got, Located, Unnoted}

-- a control character, a space, a percent sign, or a byte outside ASCII
abbrev pub is_escaped : ℕ → Bool
is_escaped b = nat_le b 32 || nat_le 127 b || (b == 37)

-- a percent sign with two upper-case hexadecimal digits, or the byte
abbrev pub escaped_byte : ℕ → List ℕ
escaped_byte b = if is_escaped b then percent_encode_byte b else b ∷ []

-- a text as one word: a percent sign alone stands for the empty text
unfoldable pub escaped : List ℕ → List ℕ
escaped [] = codes "%"
escaped (b ∷ bytes) = flat_map escaped_byte (b ∷ bytes)

-- a number behind a space
abbrev pub spaced : ℕ → List ℕ
spaced n = codes " " ++ decimal n

-- a time behind a space, where there is one, or a dash
abbrev pub spaced_time : Option ℕ → List ℕ
spaced_time None = codes " -"
spaced_time (Some time) = spaced time

abbrev pub rule_values : Rule → List ℕ
rule_values MomentTooLate = []
rule_values BadName = []
rule_values (TooLarge size limit) = spaced size ++ spaced limit
rule_values (OutOfRange given low high) = spaced given ++ spaced low ++ spaced high
rule_values NoSuchFunction = []
rule_values QueueNotFound = []
rule_values BlobNotFound = []
rule_values MessageNotFound = []
rule_values NoSuchInvocation = []
rule_values (PopReceiptMismatch current) = spaced current
rule_values (LeaseHeld holder until) = spaced holder ++ spaced until
rule_values (LeaseMismatch holder) = spaced holder
rule_values (StoreFull live) = spaced live
rule_values (JournalFull bytes) = spaced bytes
rule_values (OldJournal version) = spaced version
rule_values (TokensFull kept) = spaced kept
rule_values BadZone = []

abbrev pub rule_line : Rule → List ℕ
rule_line rule = codes "no" ++ spaced (rule_number rule) ++ codes " " ++ rule_name rule ++ rule_values rule

-- number, receipt, count and text of a message that is held now
abbrev pub taken_item : Item → List ℕ
taken_item item =
    spaced item.number ++ codes ":" ++ decimal item.receipt ++ codes ":" ++ decimal item.count ++ codes ":"
    ++ escaped item.text

-- number, count and text of a message that is read
abbrev pub peeked_item : Item → List ℕ
peeked_item item = spaced item.number ++ codes ":" ++ decimal item.count ++ codes ":" ++ escaped item.text

-- one of the names that a reading lists
abbrev pub listed_name : List ℕ → List ℕ
listed_name name = codes " " ++ escaped name

-- number, receipt and count of a ready job
abbrev pub fetched_item : FetchedJob → List ℕ
fetched_item job = spaced job.number ++ codes ":" ++ decimal job.receipt ++ codes ":" ++ decimal job.count

-- a hold that goes on: of a message with its receipt, or of a lease
abbrev pub renewed_item : RenewalPart → List ℕ
renewed_item (Message invocation receipt until) =
    codes " m" ++ decimal invocation ++ codes ":" ++ decimal receipt ++ codes ":" ++ decimal until
renewed_item (Lease invocation until) = codes " l" ++ decimal invocation ++ codes ":" ++ decimal until

-- the number of the rule that outputs broke, where they broke one
abbrev pub broken_rule : Option ℕ → List ℕ
broken_rule None = []
broken_rule (Some rule) = codes " rule" ++ spaced rule

-- number and count of the message, or 0 twice
abbrev pub job_numbers : BegunJob → List ℕ
job_numbers (TimerJob past_due last next updated) = codes " 0 0"
job_numbers (MessageJob n queue text count receipt put_at expiry visible_at about content) = spaced n ++ spaced count

abbrev pub place_line : Place → List ℕ
place_line (Waiting queue) = codes "is waiting " ++ escaped queue
place_line (Held queue until) = codes "is held " ++ escaped queue ++ spaced until
place_line PlaceDeleted = codes "is deleted"
place_line (Completed invocation) = codes "is completed" ++ spaced invocation
place_line (Moved copy) = codes "is moved" ++ spaced copy
place_line Expired = codes "is expired"
place_line Unknown = codes "is unknown"

abbrev pub reply_line : Reply → List ℕ
reply_line Made = codes "ok"
reply_line There = codes "quiet there"
reply_line (Stored n receipt) = codes "ok" ++ spaced n ++ spaced receipt
reply_line (Taken items) = codes "ok" ++ spaced (length items) ++ flat_map taken_item items
reply_line Empty = codes "quiet empty"
reply_line (Updated receipt) = codes "ok" ++ spaced receipt
reply_line Deleted = codes "ok"
reply_line (Cleared count) = codes "ok" ++ spaced count
reply_line (BlobStored version) = codes "ok" ++ spaced version
reply_line BlobDeleted = codes "ok"
reply_line (Noted n) = codes "ok" ++ spaced n
reply_line NotedBefore = codes "quiet noted"
reply_line (Acquired until) = codes "ok" ++ spaced until
reply_line (Renewed until) = codes "ok" ++ spaced until
reply_line Released = codes "ok"
reply_line (Configured n) = codes "ok" ++ spaced n
reply_line Same = codes "quiet same"
reply_line (Armed next) = codes "ok armed" ++ spaced_time next
reply_line (PastDue due next) = codes "ok pastdue" ++ spaced due ++ spaced_time next
reply_line (Ticked due next) = codes "ok ticked" ++ spaced due ++ spaced_time next
reply_line Running = codes "quiet running"
reply_line Unarmed = codes "quiet unarmed"
reply_line NotDue = codes "quiet notdue"
reply_line (SessionBegun session) = codes "ok" ++ spaced session
reply_line (Fetched jobs) = codes "ok" ++ spaced (length jobs) ++ flat_map fetched_item jobs
reply_line (Busy in_work) = codes "quiet busy" ++ spaced in_work
reply_line NoJob = codes "quiet idle"
reply_line (JobDropped n) = codes "ok dropped" ++ spaced n
reply_line (JobPoisoned copy broken) = codes "ok poisoned" ++ spaced copy ++ broken_rule broken
reply_line (Blocked holder until) = codes "quiet blocked" ++ spaced holder ++ spaced until
reply_line (Begun begun) = codes "ok begun" ++ spaced begun.invocation ++ job_numbers begun.job
reply_line JobLost = codes "ok lost"
reply_line JobDone = codes "ok done"
reply_line (JobFailed broken) = codes "ok failed" ++ broken_rule broken
reply_line (JobReleased visible_at broken) = codes "ok released" ++ spaced visible_at ++ broken_rule broken
reply_line (HoldsRenewed parts) = codes "ok" ++ spaced (length parts) ++ flat_map renewed_item parts
reply_line NothingDue = codes "quiet none"
reply_line (Peeked items) = codes "is" ++ spaced (length items) ++ flat_map peeked_item items
reply_line (Got version text) = codes "is" ++ spaced version ++ codes " " ++ escaped text
reply_line (Located place) = place_line place
reply_line (Unnoted blobs) = codes "is" ++ spaced (length blobs) ++ flat_map listed_name blobs

abbrev pub answer_line : Result (Bor Reply) (Bor Rule) → List ℕ
answer_line (Ok reply) = reply_line reply.now
answer_line (Err rule) = rule_line rule.now
