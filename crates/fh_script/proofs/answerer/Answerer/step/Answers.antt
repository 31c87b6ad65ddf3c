use Rattle.std.proofs.Common.{rules, arith}
use Rattle.std.proofs.lemmas.Grind.{common_steps}
use Rattle.fh_script.specs.Answerer.{HoldsIn}
use Rattle.fh_script.proofs.Crashes.{held, leaves_either, told_is_left}
use Rattle.fh_script.proofs.answerer.Answerer.step.Goals as goal

pub returns-in-Ok-clause-done : goal.returns-in-Ok-clause-done
returns-in-Ok-clause-done g c =
    let now : HoldsIn c.step-stepped.new.self = held c.requires.holds _ _ (search rules) c.step-stepped.ensures.keeps in
    grind (arith, common_steps)

pub returns-in-Ok-clause-fault : goal.returns-in-Ok-clause-fault
returns-in-Ok-clause-fault g c =
    let now : HoldsIn c.step-stepped.new.self = held c.requires.holds _ _ (search rules) c.step-stepped.ensures.keeps in
    search rules

pub returns-clause-fault : goal.returns-clause-fault
returns-clause-fault g c =
    let step = c.step-stepped.ensures in
    record {
      one = grind (arith, common_steps);
      state = search rules;
      moment = search rules;
      stands = told_is_left g.J.Disk c.args.self.now.hub.journal.disk.now c.step-stepped.new.self.journal.disk.now _
          g.met.J.Disk.reads_as_image g.met.J.Disk.counts_now step.told
          (leaves_either c.requires.holds c.step-stepped.new.self _ step.any_moment);
    }
