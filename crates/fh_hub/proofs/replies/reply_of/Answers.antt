use Rattle.std.proofs.Common.{◌∙◌, ap}
use Rattle.fh_event.specs.declared.reply.Reply.{Reply}
use Rattle.fh_hub.specs.Replies.{reply_of_blobs, reply_of_queues, reply_of_note, reply_of_timers, reply_of_work}
use Rattle.fh_hub.proofs.replies.reply_of.Goals as goal

pub returns : goal.returns
returns c =
    let done = c.args.done in
    let others = c.reply_of_blobs-others.ensures ∙ ap (λ (r : Reply). reply_of_blobs r done.blobs)
    c.reply_of_leases.ensures in
    let asked = c.reply_of_queues-asked.ensures ∙ ap (λ (r : Reply). reply_of_queues r done.queues) others in
    let noted = c.noted_or.ensures ∙ c.reply_of_note-noted.ensures c.reply_of_queues-asked.result
    ∙ ap (λ (r : Reply). reply_of_note r done.queues done.blobs) asked in
    let timed = c.reply_of_timers-reply.ensures ∙ ap (λ (r : Reply). reply_of_timers r done.timers) noted in
    c.reply_of_work.ensures ∙ ap (λ (r : Reply). reply_of_work r done.work) timed
