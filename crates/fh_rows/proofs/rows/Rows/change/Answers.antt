use Rattle.fh_rows.proofs.Order.{in_order-changed}
use Rattle.fh_rows.proofs.rows.Rows.change.Goals as goal

pub invariant_of-self : goal.invariant_of-self
invariant_of-self g c =
    rw c.change_at.ensures.rows
    (in_order-changed g.R.Row.order g.met.R.Row.total (g.C.Change.changed c.args.change.now)
    (g.met.C.Change.keeps c.args.change.now) (λ row. g.R.Row.order row
    (g.K.Key.as_row c.args.key.now)) _ c.self.invariant)
