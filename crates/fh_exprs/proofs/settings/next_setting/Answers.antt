use Rattle.std.proofs.Common.{lit<, Some, None}
use Rattle.std.proofs.lemmas.Str.Pattern.{split_parts}
use Rattle.fh_exprs.specs.Settings.{percent}
use Rattle.fh_exprs.proofs.Replacing.{no_sign, one_sign, two_signs}
use Rattle.fh_exprs.proofs.settings.next_setting.Goals as goal

pub returns-in_err-before-clause-reads : goal.returns-in_err-before-clause-reads
returns-in_err-before-clause-reads c =
    rw c.from_residual.ensures
    (no_sign c.args.text.now (split_parts percent c.args.text.now None c.in_err-before.ensures.cases (lit< tt)))

pub returns-in_err-name-clause-reads : goal.returns-in_err-name-clause-reads
returns-in_err-name-clause-reads c =
    let first = split_parts percent c.args.text.now (Some (c.in_ok-before.before, c.in_ok-before.after))
    c.in_ok-before.ensures.cases (lit< tt) in
    let second = split_parts percent c.in_ok-before.after.now None c.in_err-name.ensures.cases (lit< tt) in
    rw c.from_residual-in_err-name.ensures
    (one_sign c.args.text.now c.in_ok-before.before.now c.in_ok-before.after.now first.0 first.1 second)

pub returns-clause-reads : goal.returns-clause-reads
returns-clause-reads c =
    let first = split_parts percent c.args.text.now (Some (c.in_ok-before.before, c.in_ok-before.after))
    c.in_ok-before.ensures.cases (lit< tt) in
    let second = split_parts percent c.in_ok-before.after.now (Some (c.in_ok-name.name, c.in_ok-name.tail))
    c.in_ok-name.ensures.cases (lit< tt) in
    two_signs c.args.text.now c.in_ok-before.before.now c.in_ok-before.after.now c.in_ok-name.name.now
    c.in_ok-name.tail.now first.0 first.1 second.0 second.1
