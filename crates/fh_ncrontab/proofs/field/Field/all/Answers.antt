use Rattle.std.proofs.Common.{◌<◌, ◌+◌, ◌^◌, arith}
use Rattle.std.proofs.lemmas.Nat.{pow_below}
use Rattle.fh_ncrontab.proofs.MaskLemmas.{one_bit, all_numbers-within}
use Rattle.fh_ncrontab.proofs.field.Field.all.Goals as goal

pub overflow_sub-result : goal.overflow_sub-result
overflow_sub-result g c =
    rw (one_bit g.row.LO (omega arith), one_bit (g.row.HI + 1) (omega arith))
    (let more : 2 ^ g.row.LO < 2 ^ (g.row.HI + 1) = pow_below g.row.LO (g.row.HI + 1) (omega arith) in omega arith)

pub invariant_of-result : goal.invariant_of-result
invariant_of-result g c =
    rw (one_bit g.row.LO (omega arith), one_bit (g.row.HI + 1) (omega arith))
    (all_numbers-within g.row.LO g.row.HI c.requires.order)
