use Rattle.std.proofs.Common.{◌≡◌, arith, true}
use Rattle.std.proofs.lemmas.Bool.Decides.{nat_tests}
use Rattle.std.proofs.lemmas.Grind.{common_steps}
use Rattle.fh_queues.specs.Whole.{is_counted}
use Rattle.fh_queues.proofs.Items.{counted_at, taken_items-push}
use Rattle.fh_queues.proofs.choosing.taken_items.Goals as goal

pub overflow_add-row : goal.overflow_add-row
overflow_add-row c =
    let counted : is_counted c.args.receipt c.row-item.result.now ≡ true = grind (arith, common_steps, counted_at c.args.receipt c.args.rows.now c.loop-row.row-index c.row-item.result) in
    grind (arith, nat_tests, counted, c.ranges.receipt.fits)

pub loop-row-preserved : goal.loop-row-preserved
loop-row-preserved c = record { next = omega (arith, c.loop-row.invariant.next); items = grind (arith, common_steps, taken_items-push) }
