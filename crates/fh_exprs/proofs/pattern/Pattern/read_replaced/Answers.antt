use Rattle.fh_exprs.specs.declared.form.Naming.TheVariants.{Distinct}
use Rattle.fh_exprs.proofs.Writing.{written_again}
use Rattle.fh_exprs.proofs.pattern.Pattern.read_replaced.Goals as goal

pub returns-clause-written : goal.returns-clause-written
returns-clause-written c = written_again Distinct c.args.text.now c.in_ok-form.form c.in_ok-form.ensures
