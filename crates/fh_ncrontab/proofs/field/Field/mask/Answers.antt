use Rattle.std.proofs.Common.{◌<◌, ◌^◌, arith}
use Rattle.fh_ncrontab.proofs.MaskLemmas.{is_mask-from}
use Rattle.fh_ncrontab.proofs.field.Field.mask.Goals as goal

pub returns-clause-mask : goal.returns-clause-mask
returns-clause-mask g c =
    let fits : c.self.inside.bits < 2 ^ 64 = omega arith in
    is_mask-from g.row.LO g.row.HI c.self.inside.bits fits c.self.invariant
