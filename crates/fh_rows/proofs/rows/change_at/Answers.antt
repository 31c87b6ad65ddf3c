use Rattle.std.proofs.Common.{arith}
use Rattle.std.proofs.lemmas.Grind.{common_steps}
use Rattle.fh_rows.proofs.Places.{with_change_at-found, with_change_at-none}
use Rattle.fh_rows.proofs.rows.change_at.Goals as goal

pub returns-in-Ok-clause-rows : goal.returns-in-Ok-clause-rows
returns-in-Ok-clause-rows g c =
    let found = with_change_at-found (λ row. g.R.Row.order row (g.K.Key.as_row c.args.key.now)) c.deref.result.now
    (g.C.Change.changed c.args.change.now) c.in-Ok.place c.index_mut.result.now c.in-Ok.ensures in
    grind (arith, common_steps)

pub returns-in_default-clause-rows : goal.returns-in_default-clause-rows
returns-in_default-clause-rows g c =
    let none = with_change_at-none (λ row. g.R.Row.order row (g.K.Key.as_row c.args.key.now)) c.deref.result.now
    (g.C.Change.changed c.args.change.now) c.in_default.field-0 c.in_default.ensures in
    grind (arith, common_steps)
