use Rattle.std.proofs.Common.{◌≡◌, ◌≤◌, nat_lt, false, sym, ◌∙◌, arith}
use Rattle.std.proofs.lemmas.Bool.Decides.{nat_tests}
use Rattle.fh_ncrontab.proofs.SetLemmas.{holds-test, holds-above}
use Rattle.fh_ncrontab.proofs.field.has_bit.Goals as goal

pub returns-then-n-lt64 : goal.returns-then-n-lt64
returns-then-n-lt64 c = holds-test c.args.bits c.args.n

pub returns-else-n-lt64 : goal.returns-else-n-lt64
returns-else-n-lt64 c =
    let above : 64 ≤ c.args.n = omega arith in
    let no : nat_lt c.args.n 64 ≡ false = grind (arith, nat_tests) in
    no ∙ sym (holds-above c.args.bits c.args.n (omega arith) above)
