use Rattle.fh_rows.proofs.Order.{in_order-with}
use Rattle.fh_rows.proofs.rows.Rows.set.Goals as goal

pub invariant_of-self : goal.invariant_of-self
invariant_of-self g c = rw c.put.ensures.rows
    (in_order-with g.R.Row.order g.met.R.Row.total c.args.row _ c.self.invariant)
