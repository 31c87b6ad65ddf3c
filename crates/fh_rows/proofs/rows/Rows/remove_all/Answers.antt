use Rattle.std.specs.Ordering.{is_ne}
use Rattle.fh_rows.proofs.Order.{in_order-filter}
use Rattle.fh_rows.proofs.rows.Rows.remove_all.Goals as goal

pub invariant_of-self : goal.invariant_of-self
invariant_of-self g c =
    rw c.cut.ensures.rows (in_order-filter g.R.Row.order (λ row. is_ne
    (g.S.Span.place c.args.span.now row)) _ c.self.invariant)
