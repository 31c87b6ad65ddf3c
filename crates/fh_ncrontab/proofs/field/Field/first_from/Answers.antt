use Rattle.std.proofs.Common.{◌<◌, ◌/◌, ◌^◌, arith}
use Rattle.fh_ncrontab.proofs.SetLemmas.{none-shift, least-trailing_zeros, next-shift}
use Rattle.fh_ncrontab.proofs.field.Field.first_from.Goals as goal

pub returns-then-rest-eq0-clause-least : goal.returns-then-rest-eq0-clause-least
returns-then-rest-eq0-clause-least g c = rw (← c.self.view_is) (none-shift _ _ c.if-rest-eq0.true)

pub returns-clause-least : goal.returns-clause-least
returns-clause-least g c =
    let some : 0 < c.self.inside.bits / 2 ^ c.args.n = omega arith in
    let fits : c.self.inside.bits / 2 ^ c.args.n < 2 ^ 64 = omega arith in
    rw (← c.self.view_is) (next-shift _ _ _ (least-trailing_zeros _ some fits).1)
