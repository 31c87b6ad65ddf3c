use Rattle.std.proofs.Common.{◌≡◌, ◌+◌, ◌++◌, ◌∷◌, [], take, ap, sym, ◌∙◌, arith}
use Rattle.std.proofs.lemmas.Grind.{common_steps}
use Rattle.fh_dispatch.specs.declared.act.Act.TheVariants.{RenewRunning}
use Rattle.fh_dispatch.specs.DueRuns.{due_with, dues_with}
use Rattle.fh_dispatch.specs.Renewals.{receipt_for, receipt_after, renewing_acts}
use Rattle.fh_dispatch.proofs.Renewing.{receipts_after, receipts_after_push, act_of, renewing_acts_push}
use Rattle.fh_dispatch.proofs.renewals.renewing_acts.Goals as goal

pub loop-due-preserved : goal.loop-due-preserved
loop-due-preserved c =
    let receipt = c.args.receipt in
    let m = c.args.m in
    let done = dues_with (take c.loop-due.due-index c.args.dues.now) in
    let due = due_with c.due-item.result in
    let taken : dues_with (take (c.loop-due.due-index + 1) c.args.dues.now) ≡ done ++ due ∷ [] =
    grind (arith, common_steps) in
    record {
      next = c.receipt_after-next.ensures.next
          ∙ ap (λ n. receipt_after n due.due_row) c.loop-due.invariant.next
          ∙ sym (ap (receipts_after receipt) taken ∙ receipts_after_push receipt done due);
      few = omega (arith, c.receipt_after-next.ensures.few, c.loop-due.invariant.few);
      acts = c.in_ok-push.ensures.items
          ∙ ap (λ act. c.loop-due.acts.items ++ act ∷ []) (ap (λ given. RenewRunning due.run.invocation given
          c.next.result) c.receipt_for.ensures
          ∙ ap (RenewRunning due.run.invocation (receipt_for c.loop-due.next due.run.job due.due_row)) c.next.ensures)
          ∙ ap (λ front. front ++ act_of c.loop-due.next m due ∷ []) c.loop-due.invariant.acts
          ∙ ap (λ n. renewing_acts receipt m done ++ act_of n m due ∷ []) c.loop-due.invariant.next
          ∙ sym (ap (renewing_acts receipt m) taken ∙ renewing_acts_push m receipt done due);
    }
