use Rattle.std.proofs.Common.{arith}
use Rattle.std.proofs.lemmas.Grind.{common_steps}
use Rattle.fh_rows.proofs.Places.{with_row_at-found, with_row_at-none}
use Rattle.fh_rows.proofs.rows.put.Goals as goal

pub returns-in-Ok-clause-rows : goal.returns-in-Ok-clause-rows
returns-in-Ok-clause-rows g c =
    let found = with_row_at-found (λ row. g.R.Row.order row c.args.row) c.deref.result.now c.in-Ok.place c.args.row c.in-Ok.ensures in
    grind (arith, common_steps)

pub returns-in-Err-clause-rows : goal.returns-in-Err-clause-rows
returns-in-Err-clause-rows g c =
    let none = with_row_at-none (λ row. g.R.Row.order row c.args.row) c.deref.result.now c.in-Err.place c.args.row c.in-Err.ensures in
    grind (arith, common_steps)
