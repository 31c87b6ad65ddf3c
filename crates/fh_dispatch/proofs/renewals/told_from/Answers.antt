use Rattle.std.proofs.Common.{◌≡◌, ◌+◌, ◌++◌, ◌∷◌, [], take, ap, sym, ◌∙◌, arith}
use Rattle.std.proofs.lemmas.Grind.{common_steps}
use Rattle.fh_dispatch.specs.DueRuns.{due_with, dues_with}
use Rattle.fh_dispatch.specs.Renewals.{parts_of, told_from, receipt_after}
use Rattle.fh_dispatch.proofs.Renewing.{receipts_after, receipts_after_push, told_from_push}
use Rattle.fh_dispatch.proofs.renewals.told_from.Goals as goal

pub loop-due-preserved : goal.loop-due-preserved
loop-due-preserved c =
    let receipt = c.args.receipt in
    let m = c.args.m in
    let done = dues_with (take c.loop-due.due-index c.args.dues.now) in
    let due = due_with c.due-item.result in
    let taken : dues_with (take (c.loop-due.due-index + 1) c.args.dues.now) ≡ done ++ due ∷ [] =
    grind (arith, common_steps) in
    record {
      next = c.receipt_after-next.ensures.next
          ∙ ap (λ n. receipt_after n due.due_row) c.loop-due.invariant.next
          ∙ sym (ap (receipts_after receipt) taken ∙ receipts_after_push receipt done due);
      few = omega (arith, c.receipt_after-next.ensures.few, c.loop-due.invariant.few);
      parts = c.in_ok-push_parts.ensures
          ∙ ap (λ front. front ++ parts_of c.loop-due.next m due) c.loop-due.invariant.parts
          ∙ ap (λ n. told_from receipt m done ++ parts_of n m due) c.loop-due.invariant.next
          ∙ sym (ap (told_from receipt m) taken ∙ told_from_push m receipt done due);
    }
