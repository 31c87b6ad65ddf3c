-- The reply that the stores' answers make.
use Rattle.fh_event.specs.declared.reply.Reply.{Reply}
use Rattle.fh_event.specs.declared.reply.Reply.TheVariants as replies
use Rattle.fh_queues.specs.declared.done.QueueDone.{QueueDone}
use Rattle.fh_queues.specs.declared.done.QueueDone.TheVariants as queues
use Rattle.fh_blobs.specs.declared.done.BlobDone.{BlobDone}
use Rattle.fh_blobs.specs.declared.done.BlobDone.TheVariants as blobs
use Rattle.fh_leases.specs.declared.done.LeaseDone.{LeaseDone}
use Rattle.fh_leases.specs.declared.done.LeaseDone.TheVariants as leases
use Rattle.fh_timers.specs.declared.done.TimerDone.{TimerDone}
use Rattle.fh_timers.specs.declared.done.TimerDone.TheVariants as timers
use Rattle.fh_dispatch.specs.declared.done.WorkDone.{WorkDone}
use Rattle.fh_dispatch.specs.declared.done.WorkDone.TheVariants as work
use Rattle.fh_hub.specs.Stores.{Done}

abbrev pub reply_of_leases : LeaseDone → Reply
reply_of_leases (leases.Acquired until) = replies.Acquired until
reply_of_leases (leases.Renewed until) = replies.Renewed until
reply_of_leases leases.Released = replies.Released
reply_of_leases answer = replies.Empty

-- blobs that did nothing leave the reply to the others
abbrev pub reply_of_blobs : Reply → BlobDone → Reply
reply_of_blobs reply (blobs.Stored version) = replies.BlobStored version
reply_of_blobs reply blobs.Removed = replies.BlobDeleted
reply_of_blobs reply answer = reply

-- and so do queues that let go what has expired and nothing else
abbrev pub reply_of_queues : Reply → QueueDone → Reply
reply_of_queues reply queues.Made = replies.Made
reply_of_queues reply queues.There = replies.There
reply_of_queues reply (queues.Stored number receipt) = replies.Stored number receipt
reply_of_queues reply (queues.Taken items) = replies.Taken items
reply_of_queues reply queues.Empty = replies.Empty
reply_of_queues reply (queues.Updated receipt) = replies.Updated receipt
reply_of_queues reply queues.Deleted = replies.Deleted
reply_of_queues reply (queues.Cleared count) = replies.Cleared count
reply_of_queues reply answer = reply

abbrev pub reply_of_others : Done → Reply
reply_of_others answer = reply_of_blobs (reply_of_leases answer.leases) answer.blobs

-- a blob that is noted now has a new message, and one that was noted has none
abbrev pub reply_of_note : Reply → QueueDone → BlobDone → Reply
reply_of_note reply (queues.Stored number receipt) (blobs.NowNoted version) = replies.Noted number
reply_of_note reply queues blobs.Noted = replies.NotedBefore
reply_of_note reply queues blobs = reply

-- a row that the work removed is not told
abbrev pub reply_of_timers : Reply → TimerDone → Reply
reply_of_timers reply timers.Running = replies.Running
reply_of_timers reply timers.Same = replies.Same
reply_of_timers reply (timers.PastDue due next) = replies.PastDue due next
reply_of_timers reply (timers.Armed next startup) = replies.Armed next
reply_of_timers reply timers.Unarmed = replies.Unarmed
reply_of_timers reply timers.NotDue = replies.NotDue
reply_of_timers reply (timers.Ticked due next) = replies.Ticked due next
reply_of_timers reply timers.Removed = reply
reply_of_timers reply timers.Nothing = reply

-- nor is a run that was made ready
abbrev pub reply_of_work : Reply → WorkDone → Reply
reply_of_work reply (work.Configured number) = replies.Configured number
reply_of_work reply work.Same = replies.Same
reply_of_work reply work.Ready = reply
reply_of_work reply (work.Told told) = told
reply_of_work reply work.Nothing = reply

-- the reply where work and timers did nothing
abbrev pub reply_of_stores : Done → Reply
reply_of_stores answer =
    reply_of_note (reply_of_queues (reply_of_others answer) answer.queues) answer.queues answer.blobs

abbrev pub reply_of : Done → Reply
reply_of answer = reply_of_work (reply_of_timers (reply_of_stores answer) answer.timers) answer.work
