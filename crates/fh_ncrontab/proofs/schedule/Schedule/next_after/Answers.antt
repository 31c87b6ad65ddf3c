use Rattle.std.proofs.Common.{◌≡◌, sym, ap, ◌∙◌, pos, ◌+ℤ◌, to_z, of_z, w64}
use Rattle.std.proofs.lemmas.Int.{to_z-of_z}
use Rattle.fh_ncrontab.specs.Schedule.{first_from}
use Rattle.fh_ncrontab.proofs.NextLemmas.{next-is, next-least, later_back, abs_within}
use Rattle.fh_ncrontab.proofs.schedule.Schedule.next_after.Goals as goal

pub returns-clause-exact : goal.returns-clause-exact
returns-clause-exact c =
    let told = to_z-of_z w64 c.args.second c.ranges.second in
    let called : c.first_from.result ≡ first_from c.args.self.now
    (to_z w64 (of_z w64 (to_z w64 (of_z w64 c.args.second) +ℤ pos 1))) = c.first_from.ensures in
    called ∙ ap (λ z. first_from c.args.self.now (to_z w64 (of_z w64 (z +ℤ pos 1)))) told
    ∙ ap (first_from c.args.self.now) (later_back c.args.second c.requires.low c.requires.high)
    ∙ sym (next-is c.args.self.now _)

pub returns-clause-least : goal.returns-clause-least
returns-clause-least c = next-least c.args.self.now _ (abs_within c.args.second c.requires.low c.requires.high)
