use Rattle.std.proofs.Common.{◌≡◌, ℕ, ◌||◌, false, Ok, refl, arith, sym, ap, ◌∙◌, option_copied}
use Rattle.std.proofs.lemmas.Result.{err_from_is_err_and}
use Rattle.fh_ncrontab.specs.Sets.{holds}
use Rattle.fh_ncrontab.specs.Fields.{first_fault, some_part_has, parts, set_or, numbers_of}
use Rattle.fh_ncrontab.specs.Pieces.{pieces_left}
use Rattle.fh_ncrontab.proofs.SetLemmas.{holds-zero}
use Rattle.fh_ncrontab.proofs.MaskLemmas.{mask_is}
use Rattle.fh_ncrontab.proofs.PartLemmas.{first_fault-ok, first_fault-err, first_fault-none, some_part_has-step, some_part_has-none, within-step, not_empty, start_of}
use Rattle.fh_ncrontab.proofs.field.Field.read.Goals as goal

pub loop-rest-init : goal.loop-rest-init
loop-rest-init g c = (
  refl,
  λ n. start_of g.row.LO g.row.HI (parts c.args.text.now) n,
  λ n held. absurd (let none : holds 0 n ≡ false = holds-zero n in cc),
  λ never. absurd cc,
  omega arith,
)

pub loop-rest-preserved : goal.loop-rest-preserved
loop-rest-preserved g c =
    let left = ap (λ r. pieces_left 44 (option_copied r)) c.in-Some.is ∙ c.first_piece.ensures.pieces in
    let ok = c.in_ok-read.ensures in (
      c.loop-rest.invariant.0 ∙ ap (first_fault g.row.LO g.row.HI) left ∙ first_fault-ok _ _ _ _ _ ok.value,
      λ n. c.loop-rest.invariant.1 n ∙ some_part_has-step _ _ _ _ _ _ _ _ n ok.value left (c.added_to-mask.ensures n),
      within-step _ _ _ _ _ ok.first ok.last c.added_to-mask.ensures c.loop-rest.invariant.2,
      λ _. not_empty _ _ _ ok.order c.added_to-mask.ensures,
      omega arith,
    )

pub returns-in_err-read : goal.returns-in_err-read
returns-in_err-read g c =
    let left = ap (λ r. pieces_left 44 (option_copied r)) c.in-Some.is ∙ c.first_piece.ensures.pieces in
    let p = err_from_is_err_and c.from_residual.result c.from_residual.ensures.1 in
    let fault = c.loop-rest.invariant.0 ∙ ap (first_fault g.row.LO g.row.HI) left
    ∙ first_fault-err _ _ _ _ _ c.in_err-read.ensures.value in
    rw (p.1, p.2) (sym (ap (λ f. set_or f (numbers_of g.row.LO g.row.HI c.args.text.now)) fault))

pub returns : goal.returns
returns g c =
    let left = ap (λ r. pieces_left 44 (option_copied r)) c.in_default.is in
    let faultless = c.loop-rest.invariant.0 ∙ ap (first_fault g.row.LO g.row.HI) left ∙ first_fault-none _ _ in
    let numbers : (n : ℕ) → holds c.loop-rest.mask n ≡ some_part_has g.row.LO g.row.HI (parts c.args.text.now) n =
    λ n. sym (c.loop-rest.invariant.1 n ∙ ap (λ ps. holds c.loop-rest.mask n || some_part_has g.row.LO g.row.HI ps n)
    left ∙ some_part_has-none _ _ _ n) in
    ap Ok (mask_is c.loop-rest.mask (some_part_has g.row.LO g.row.HI (parts c.args.text.now))
    c.loop-rest.invariant.4 numbers)
    ∙ sym (ap (λ f. set_or f (numbers_of g.row.LO g.row.HI c.args.text.now)) faultless)
