use Rattle.std.proofs.Common.{◌∙◌, sym, subst}
use Rattle.std.proofs.lemmas.Result.{err_from_is_err_and}
use Rattle.fh_exprs.specs.declared.form.Naming.TheVariants.{Free}
use Rattle.fh_exprs.specs.Answers.{IsFaultOf}
use Rattle.fh_exprs.specs.Settings.{replaced}
use Rattle.fh_exprs.proofs.Writing.{written_of, reading_of_written}
use Rattle.fh_exprs.proofs.template.Template.read.Goals as goal

pub returns-clause-written : goal.returns-clause-written
returns-clause-written c = written_of Free (replaced c.args.settings.now.pairs c.args.text.now)
    c.in_ok-form.form c.in_ok-form.ensures

pub returns-clause-every : goal.returns-clause-every
returns-clause-every c layout names e =
    sym (reading_of_written (replaced c.args.settings.now.pairs c.args.text.now) layout names e) ∙ c.in_ok-form.ensures

pub returns-in_err-form-clause-every : goal.returns-in_err-form-clause-every
returns-in_err-form-clause-every c layout names e =
    let p = err_from_is_err_and c.from_residual.result c.from_residual.ensures.1 in
    rw (p.1, p.2)
    (subst (IsFaultOf c.in_err-form.field-0.0)
    (reading_of_written (replaced c.args.settings.now.pairs c.args.text.now) layout names e) c.in_err-form.ensures)
