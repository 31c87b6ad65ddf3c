use Rattle.std.proofs.Common.{◌≡◌, ◌||◌, nat_eq, true, false, sym, ap, ◌∙◌, arith}
use Rattle.fh_ncrontab.specs.Fields.{part_has}
use Rattle.fh_ncrontab.specs.Sets.{holds}
use Rattle.fh_ncrontab.proofs.SetLemmas.{holds-set}
use Rattle.fh_ncrontab.proofs.PartLemmas.{step_yes, step_no}
use Rattle.fh_ncrontab.proofs.part.Part.added_to.Goals as goal
use Rattle.fh_ncrontab.proofs.part.Part.added_to.Goals.{then-has, else-has}

pub loop-n-preserved : goal.loop-n-preserved
loop-n-preserved c k =
    let n = c.loop-n.n in
    let before = c.loop-n.invariant k in
    elim c.if-has.branch [
      | then-has w ↦
          let yes : part_has c.args.self n ≡ true = sym w.if-has.ensures in
          ap (λ b. holds b k) w.bits-is ∙ holds-set c.loop-n.bits n k (omega arith) ∙ ap (λ b. b || nat_eq k n) before
          ∙ step_yes (holds c.args.mask k) (part_has c.args.self k) k n (λ e. ap (part_has c.args.self) e ∙ yes)
      | else-has w ↦
          let no : part_has c.args.self n ≡ false = sym w.if-has.ensures in
          ap (λ b. holds b k) w.bits-is ∙ before
          ∙ step_no (holds c.args.mask k) (part_has c.args.self k) k n (λ e. ap (part_has c.args.self) e ∙ no)
    ]
