use Rattle.std.proofs.Common.{◌≡◌, ℕ, List, true, arith}
use Rattle.std.proofs.lemmas.Grind.{common_steps}
use Rattle.fh_journal.specs.Keeping.{Keeps}
use Rattle.fh_journal.proofs.Kept.{keeps_torn}
use Rattle.fh_journal.proofs.Since.{mend_since, on_err}
use Rattle.fh_journal.proofs.journal.Journal.mend.Goals as goal

pub returns-in_err-write_durably-clause-kept : goal.returns-in_err-write_durably-clause-kept
returns-in_err-write_durably-clause-kept g c =
    let is_torn : c.args.self.now.torn ≡ true = grind (arith, common_steps) in
    let kept = λ (payloads : List (List ℕ)) (failed : List ℕ)
    (keeps : Keeps (g.J.Disk.told c.args.self.now.disk.now) (g.J.Disk.may_leave c.args.self.now.disk.now)
    c.args.self.now.torn payloads failed
    c.args.self.now.gate).
    keeps_torn _ (g.J.Disk.told c.write_durably.new.disk) _ (g.J.Disk.may_leave c.write_durably.new.disk)
    c.args.self.now.torn payloads failed
    c.args.self.now.gate is_torn keeps c.write_durably.ensures.torn c.write_durably.ensures.images in
    on_err _ kept

pub returns-in_err-write_durably-clause-any_moment : goal.returns-in_err-write_durably-clause-any_moment
returns-in_err-write_durably-clause-any_moment g c payloads failed keeps =
    let is_torn : c.args.self.now.torn ≡ true = grind (arith, common_steps) in
    mend_since g.J.Disk.moment g.J.Disk.left_since c.args.self.now.disk.now c.write_durably.new.disk _ _
    c.args.self.now.torn payloads failed
    c.args.self.now.gate is_torn c.write_durably.ensures.time keeps

pub returns-clause-any_moment : goal.returns-clause-any_moment
returns-clause-any_moment g c payloads failed keeps =
    let is_torn : c.args.self.now.torn ≡ true = grind (arith, common_steps) in
    mend_since g.J.Disk.moment g.J.Disk.left_since c.args.self.now.disk.now c.write_durably.new.disk _ _
    c.args.self.now.torn payloads failed
    c.args.self.now.gate is_torn c.write_durably.ensures.time keeps
