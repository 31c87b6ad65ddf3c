use Rattle.std.proofs.Common.{◌≡◌, ℕ, ◌+◌, refl, sym, subst, ◌∙◌, inl, inr, arith}
use Rattle.std.proofs.lemmas.Bool.{cases_lt}
use Rattle.std.proofs.lemmas.Grind.{common_steps}
use Rattle.fh_ncrontab.specs.Dates.{place, HasNoDate}
use Rattle.fh_ncrontab.proofs.DayLemmas.{first_behind, no_month_zero, no_date_in_month, no_date_empty}
use Rattle.fh_ncrontab.proofs.RepeatLemmas.{no_date_later}
use Rattle.fh_ncrontab.proofs.schedule.Schedule.date_from.Goals as goal
use Rattle.fh_ncrontab.proofs.schedule.Schedule.date_from.Goals.{else-holds-via-else-holds, else-holds-via-then-holds+in-None-1}

pub returns-in-Some-date_in_year : goal.returns-in-Some-date_in_year
returns-in-Some-date_in_year c =
    let rest : HasNoDate c.args.self.now (place c.args.year c.args.month c.args.day)
    (place c.args.year (c.args.month + 1) 0) =
    elim c.else-holds.branch [
      | else-holds-via-else-holds w ↦ no_date_in_month _ _ _ _ c.requires.month.1
          (λ yes. let no = sym w.if-holds.ensures ∙ refl in cc no)
      | else-holds-via-then-holds+in-None-1 w ↦ grind (arith, common_steps)
    ] in
    first_behind _ _ (place c.args.year (c.args.month + 1) 0) (place c.args.year (c.args.month + 1) 0) _ _ _ rest
    (no_date_empty _ _) (omega arith) (omega arith) c.in-Some-date_in_year.ensures

pub returns-in-Some-date_in_year-2 : goal.returns-in-Some-date_in_year-2
returns-in-Some-date_in_year-2 c =
    first_behind _ _ (place c.loop-year.year 0 0) (place c.loop-year.year 1 0) _ _ _ c.loop-year.invariant
    (no_month_zero _ _) (omega arith) (omega arith) c.in-Some-date_in_year-2.ensures

pub returns-2 : goal.returns-2
returns-2 c =
    let s = c.args.self.now in
    let low = place c.args.year c.args.month c.args.day in
    let end = c.loop-year.year in
    let gap : HasNoDate s low (place end 0 0) = c.loop-year.invariant in
    elim (cases_lt end 10000) [
      | inl lt ↦
          let last : end ≡ c.args.year + 401 = omega (arith, c.min-last.ensures) in
          no_date_later s low c.args.year (place 10000 0 0) (omega arith)
          (subst (λ (y : ℕ). HasNoDate s low (place y 0 0)) last gap)
      | inr ge ↦ λ d year is found above below. gap d year is found above (omega arith)
    ]
