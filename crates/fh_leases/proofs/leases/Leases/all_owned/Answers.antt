use Rattle.std.proofs.Common.{arith}
use Rattle.std.proofs.lemmas.Grind.{common_steps}
use Rattle.fh_leases.proofs.Owned.{all_owned-refused, all_owned-push}
use Rattle.fh_leases.proofs.leases.Leases.all_owned.Goals as goal

pub returns-in-Err-clause-err : goal.returns-in-Err-clause-err
returns-in-Err-clause-err c =
    all_owned-refused c.args.self.now.part c.args.held.now c.loop-one.one-index c.one-item.result c.in-Err.rule _ (omega arith) c.loop-one.invariant (grind (arith, common_steps))

pub loop-one-preserved : goal.loop-one-preserved
loop-one-preserved c = grind (arith, common_steps, all_owned-push)
