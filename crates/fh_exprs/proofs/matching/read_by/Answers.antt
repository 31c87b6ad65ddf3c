use Rattle.std.proofs.Common.{◌≡◌, ◌∙◌, sym, ap, ◌++◌}
use Rattle.std.proofs.lemmas.Result.{IfOk-weaker}
use Rattle.fh_exprs.proofs.Readings.{answer_with_last, other_end}
use Rattle.fh_exprs.proofs.matching.read_by.Goals as goal

pub returns-in-Some : goal.returns-in-Some
returns-in-Some c =
    let cut = c.in-Some.ensures.cases in
    let whole : c.args.name.now ≡ c.in-Some.front.now ++ c.args.last.now = cut.1.1
    ∙ ap (λ t. t ++ c.args.last.now) (sym cut.2) in
    IfOk-weaker c.read_front.result _ _
    (answer_with_last (λ v. v.items) c.args.places.now c.args.last.now c.in-Some.front.now c.args.name.now whole)
    c.read_front.ensures

pub returns-in-None : goal.returns-in-None
returns-in-None c = other_end c.args.places.now c.args.last.now c.args.name.now c.in-None.ensures.cases
