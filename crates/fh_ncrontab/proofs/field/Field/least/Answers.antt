use Rattle.std.proofs.Common.{◌≢◌, ◌<◌, ◌^◌, arith}
use Rattle.fh_ncrontab.proofs.SetLemmas.{least-trailing_zeros}
use Rattle.fh_ncrontab.proofs.field.Field.least.Goals as goal

pub returns-clause-least : goal.returns-clause-least
returns-clause-least g c =
    let some : c.self.inside.bits ≢ 0 = c.self.invariant.some in
    let fits : c.self.inside.bits < 2 ^ 64 = omega arith in
    rw (← c.self.view_is) (least-trailing_zeros _ (omega arith) fits).1
