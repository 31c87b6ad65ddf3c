use Rattle.std.proofs.Common.{◌≡◌, ◌≤◌, Some, None, ap, ◌∙◌, pos, ◌+ℤ◌, unsigned_abs, to_z, of_z, w64}
use Rattle.std.proofs.lemmas.Int.{to_z-of_z}
use Rattle.fh_ncrontab.specs.Schedule.{first_from}
use Rattle.fh_ncrontab.proofs.NextLemmas.{second_at, end, first_from-is, back, within_end, second_back}
use Rattle.fh_ncrontab.proofs.schedule.Schedule.first_from.Goals as goal

pub returns-in_err-found : goal.returns-in_err-found
returns-in_err-found c =
    let n = c.from_year_0.result in
    let kept : n ≡ unsigned_abs (c.args.second +ℤ pos 62167219200) =
    c.from_year_0.ensures ∙ ap (λ z. unsigned_abs (z +ℤ pos 62167219200)) (to_z-of_z w64 c.args.second c.ranges.second)
    in
    let same : second_at n ≡ c.args.second = ap second_at kept ∙ back c.args.second c.requires.low in
    let small : n ≤ end = rw kept (within_end c.args.second c.requires.low c.requires.high) in
    c.from_residual.ensures ∙ first_from-is c.args.self.now n None small c.in_err-found.ensures.least tt
    ∙ ap (first_from c.args.self.now) same

pub returns : goal.returns
returns c =
    let n = c.from_year_0.result in
    let kept : n ≡ unsigned_abs (c.args.second +ℤ pos 62167219200) =
    c.from_year_0.ensures ∙ ap (λ z. unsigned_abs (z +ℤ pos 62167219200)) (to_z-of_z w64 c.args.second c.ranges.second)
    in
    let same : second_at n ≡ c.args.second = ap second_at kept ∙ back c.args.second c.requires.low in
    let small : n ≤ end = rw kept (within_end c.args.second c.requires.low c.requires.high) in
    let told : to_z w64 (of_z w64 c.from_1970.result) ≡ second_at c.in_ok-found.found =
    ap (λ z. to_z w64 (of_z w64 z)) c.from_1970.ensures ∙ second_back c.in_ok-found.found c.in_ok-found.ensures.bound in
    ap Some told ∙ first_from-is c.args.self.now n (Some c.in_ok-found.found)
    small c.in_ok-found.ensures.least c.in_ok-found.ensures.bound ∙ ap (first_from c.args.self.now) same
