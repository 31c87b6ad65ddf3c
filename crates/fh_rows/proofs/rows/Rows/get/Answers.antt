use Rattle.std.proofs.Common.{arith}
use Rattle.std.proofs.lemmas.Grind.{common_steps}
use Rattle.fh_rows.proofs.Places.{row_at-found, row_at-none}
use Rattle.fh_rows.proofs.rows.Rows.get.Goals as goal

pub returns-in-Ok : goal.returns-in-Ok
returns-in-Ok g c =
    let found = row_at-found (λ row. g.R.Row.order row
    (g.K.Key.as_row c.args.key.now)) c.deref.result.now c.in-Ok.place c.index.result.now c.in-Ok.ensures in
    grind (arith, common_steps)

pub returns-in-Err : goal.returns-in-Err
returns-in-Err g c =
    let none = row_at-none (λ row. g.R.Row.order row
    (g.K.Key.as_row c.args.key.now)) c.deref.result.now c.in-Err.field-0 c.in-Err.ensures in
    grind (arith, common_steps)
