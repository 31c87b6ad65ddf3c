use Rattle.std.proofs.Common.{lit<, Some, None, length, ◌<◌, arith, sym, ◌∙◌}
use Rattle.std.proofs.lemmas.Bool.{eqb-true, eqb-false, false≢true}
use Rattle.std.proofs.lemmas.Str.Pattern.{split_parts, contains_char}
use Rattle.fh_exprs.specs.Form.{open_brace, close_brace}
use Rattle.fh_exprs.proofs.Elements.{no_close, unclosed, empty_name, open_in_name, named_at}
use Rattle.fh_exprs.proofs.form.first_name.Goals as goal
use Rattle.fh_exprs.proofs.form.first_name.Goals.{then-is_empty-via-then-is_empty, then-is_empty-via-else-is_empty+then-contains}

pub returns-in_err-name-clause-none : goal.returns-in_err-name-clause-none
returns-in_err-name-clause-none c =
    rw c.from_residual.ensures
    (unclosed c.args.text.now c.requires
    (no_close c.args.text.now (split_parts close_brace c.args.text.now None c.in_err-name.ensures.cases (lit< tt))))

pub returns-then-is_empty-clause-none : goal.returns-then-is_empty-clause-none
returns-then-is_empty-clause-none c =
    let cut = split_parts close_brace c.args.text.now (Some (c.in_ok-name.name, c.in_ok-name.rest))
    c.in_ok-name.ensures.cases (lit< tt) in
    elim c.then-is_empty.branch [
      | then-is_empty-via-then-is_empty w ↦
          empty_name c.args.text.now c.in_ok-name.name.now c.in_ok-name.rest.now cut.0
          (eqb-true (length c.in_ok-name.name.now) 0 (sym c.is_empty.ensures ∙ w.if-is_empty.true))
      | then-is_empty-via-else-is_empty+then-contains w ↦
          let found = (contains_char open_brace c.in_ok-name.name.now w.contains.result w.contains.ensures.cases
          (lit< tt)).0 w.if-contains.true in
          open_in_name c.args.text.now c.in_ok-name.name.now c.in_ok-name.rest.now found.0 cut.0 cut.1 c.requires
          found.1 found.2
    ]

pub returns-clause-some : goal.returns-clause-some
returns-clause-some c naming layout at =
    let cut = split_parts close_brace c.args.text.now (Some (c.in_ok-name.name, c.in_ok-name.rest))
    c.in_ok-name.ensures.cases (lit< tt) in
    let only = (contains_char open_brace c.in_ok-name.name.now c.contains.result c.contains.ensures.cases
    (lit< tt)).1 in
    let filled : 0 < length c.in_ok-name.name.now =
    let ne = eqb-false (length c.in_ok-name.name.now) 0 (sym c.is_empty.ensures ∙ c.if-is_empty.false) in omega arith in
    named_at naming layout at c.args.text.now c.in_ok-name.name.now c.in_ok-name.rest.now cut.0 filled cut.1
    (λ k lt e. false≢true (sym c.if-contains.false ∙ only k lt e))
