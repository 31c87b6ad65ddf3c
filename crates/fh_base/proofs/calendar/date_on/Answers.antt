use Rattle.std.proofs.Common.{◌≡◌, rules, sym, ap, ◌∙◌, unsigned_abs, pos, arith}
use Rattle.fh_base.specs.declared.calendar.Civil.{Civil}
use Rattle.fh_base.specs.Calendar.{date_on}
use Rattle.fh_base.proofs.Days.{IsDate, date_is}
use Rattle.fh_base.proofs.calendar.date_on.Goals as goal

pub returns-in-Some : goal.returns-in-Some
returns-in-Some c =
    let same : IsDate (date_on c.args.number) c.in-Some.date =
    date_is c.args.number c.in-Some.date c.in-Some.ensures.value in
    let year = c.civil_of.ensures.year ∙ ap unsigned_abs same.year in
    let month = c.civil_of.ensures.month ∙ same.month in
    let day = c.civil_of.ensures.day ∙ same.day in
    grind arith
