use Rattle.std.proofs.Common.{refl, ap, ◌∙◌, ◌%◌, arith}
use Rattle.fh_ncrontab.proofs.MaskLemmas.{one_bit, passes, is_mask-within, not_zero, not_low, not_high}
use Rattle.fh_ncrontab.proofs.field.Field.of_mask.Goals as goal
use Rattle.fh_ncrontab.proofs.field.Field.of_mask.Goals.{then-mask-eq0-via-then-mask-eq0, then-mask-eq0-via-else-mask-eq0+then-mask-ne0, then-mask-eq0-via-else-mask-eq0+else-mask-ne0+then-mask-gt1}

pub returns-then-mask-eq0 : goal.returns-then-mask-eq0
returns-then-mask-eq0 g c =
    let one = one_bit g.row.LO (omega arith) in
    elim c.then-mask-eq0.branch [
      | then-mask-eq0-via-then-mask-eq0 w ↦ not_zero g.row.LO g.row.HI c.args.mask w.if-mask-eq0.true
      | then-mask-eq0-via-else-mask-eq0+then-mask-ne0 w ↦ not_low g.row.LO g.row.HI c.args.mask
          (λ none. w.if-mask-ne0.true (ap (λ bit. c.args.mask % bit) one ∙ none))
      | then-mask-eq0-via-else-mask-eq0+else-mask-ne0+then-mask-gt1 w ↦ not_high g.row.LO g.row.HI c.args.mask
          w.if-mask-gt1.true
    ]

pub invariant_of-result : goal.invariant_of-result
invariant_of-result g c =
    is_mask-within g.row.LO g.row.HI c.args.mask
    (passes g.row.LO g.row.HI c.args.mask (omega arith) c.if-mask-eq0.false c.if-mask-ne0.false c.if-mask-gt1.false)

pub returns : goal.returns
returns g c = (
  passes g.row.LO g.row.HI c.args.mask (omega arith) c.if-mask-eq0.false c.if-mask-ne0.false c.if-mask-gt1.false,
  refl,
)
