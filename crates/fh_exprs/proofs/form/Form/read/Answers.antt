use Rattle.std.proofs.Common.{◌∙◌, sym, length, ◌-◌}
use Rattle.std.proofs.lemmas.Bool.{eqb-true}
use Rattle.fh_exprs.proofs.Elements.{at_end}
use Rattle.fh_exprs.proofs.form.Form.read.Goals as goal

pub returns : goal.returns
returns c =
    c.loop-rest.invariant.reads
    ∙ at_end c.args.naming c.loop-rest.form (length c.args.text.now - length c.loop-rest.rest.now) c.loop-rest.rest.now
    (eqb-true (length c.loop-rest.rest.now) 0 (sym c.loop-rest-test.ensures))
