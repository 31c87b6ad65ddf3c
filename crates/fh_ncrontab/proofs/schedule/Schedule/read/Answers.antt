use Rattle.std.proofs.Common.{◌≡◌, true, false, length, sym, ap, ◌∙◌}
use Rattle.std.specs.Option.{is_some}
use Rattle.std.proofs.lemmas.Result.{err_from_is_err_and}
use Rattle.fh_ncrontab.specs.Texts.{words}
use Rattle.fh_ncrontab.proofs.ReadLemmas.{is_count, count_five, count_six, by_count, by_fault, by_seconds}
use Rattle.fh_ncrontab.proofs.schedule.Schedule.read.Goals as goal
use Rattle.fh_ncrontab.proofs.schedule.Schedule.read.Goals.{else-given-ne5-via-then-given-ne5+else-given-ne6, else-given-ne5-via-else-given-ne5}

pub returns-then-given-ne6 : goal.returns-then-given-ne6
returns-then-given-ne6 c =
    by_count c.args.text.now c.count_words-given.result c.count_words-given.ensures c.if-given-ne5.true
    c.if-given-ne6.true

pub returns-in_err-schedule : goal.returns-in_err-schedule
returns-in_err-schedule c =
    let count : is_count (length (words c.args.text.now)) ≡ true = ap is_count (sym c.count_words-given.ensures)
    ∙ elim c.else-given-ne5.branch [
      | else-given-ne5-via-then-given-ne5+else-given-ne6 w ↦ count_six c.count_words-given.result w.if-given-ne6.false
      | else-given-ne5-via-else-given-ne5 w ↦ count_five c.count_words-given.result w.if-given-ne5.false
    ] in
    let p = err_from_is_err_and c.from_residual.result c.from_residual.ensures.1 in
    rw (p.1, p.2) (by_fault c.args.text.now c.in_err-schedule.field-0.0 count c.in_err-schedule.ensures.fault)

pub returns-then-is_none : goal.returns-then-is_none
returns-then-is_none c =
    let count : is_count (length (words c.args.text.now)) ≡ true = ap is_count (sym c.count_words-given.ensures)
    ∙ elim c.else-given-ne5.branch [
      | else-given-ne5-via-then-given-ne5+else-given-ne6 w ↦ count_six c.count_words-given.result w.if-given-ne6.false
      | else-given-ne5-via-else-given-ne5 w ↦ count_five c.count_words-given.result w.if-given-ne5.false
    ] in
    by_seconds c.args.text.now c.in_ok-schedule.schedule false count c.in_ok-schedule.ensures.faultless
    c.in_ok-schedule.ensures.sets
    (ap is_some (sym c.first_from.ensures) ∙ c.if-is_none.ensures)

pub returns : goal.returns
returns c =
    let count : is_count (length (words c.args.text.now)) ≡ true = ap is_count (sym c.count_words-given.ensures)
    ∙ elim c.else-given-ne5.branch [
      | else-given-ne5-via-then-given-ne5+else-given-ne6 w ↦ count_six c.count_words-given.result w.if-given-ne6.false
      | else-given-ne5-via-else-given-ne5 w ↦ count_five c.count_words-given.result w.if-given-ne5.false
    ] in
    by_seconds c.args.text.now c.in_ok-schedule.schedule true count c.in_ok-schedule.ensures.faultless
    c.in_ok-schedule.ensures.sets
    (ap is_some (sym c.first_from.ensures) ∙ c.if-is_none.ensures)
