use Rattle.fh_rows.proofs.Order.{in_order-without}
use Rattle.fh_rows.proofs.rows.Rows.remove.Goals as goal

pub invariant_of-self : goal.invariant_of-self
invariant_of-self g c = rw c.take_out.ensures.rows (in_order-without g.R.Row.order g.met.R.Row.total
    (g.K.Key.as_row c.args.key.now) _ c.self.invariant)
