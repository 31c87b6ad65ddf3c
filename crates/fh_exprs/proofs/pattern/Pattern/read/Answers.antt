use Rattle.fh_exprs.specs.declared.form.Naming.TheVariants.{Distinct}
use Rattle.fh_exprs.specs.Settings.{replaced}
use Rattle.fh_exprs.proofs.Writing.{written_of}
use Rattle.fh_exprs.proofs.pattern.Pattern.read.Goals as goal

pub returns-clause-written : goal.returns-clause-written
returns-clause-written c = written_of Distinct (replaced c.args.settings.now.pairs c.args.text.now)
    c.in_ok-form.form c.in_ok-form.ensures
