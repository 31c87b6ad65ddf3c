use Rattle.std.proofs.Common.{Ok, Err, arith}
use Rattle.std.proofs.lemmas.Grind.{common_steps}
use Rattle.fh_script.proofs.running.script.Goals as goal

pub returns-in-Ok-clause-ends : goal.returns-in-Ok-clause-ends
returns-in-Ok-clause-ends g c = record {
  end = Ok c.in-Ok.end;
  status = c.conclude.ensures.status;
  before = g.O.Sink.written c.run.new.sink;
  faults = g.O.Sink.write_faults c.run.new.sink;
  reason = c.in-Ok.ensures.reason;
  counts = c.in-Ok.ensures.counts;
  last = c.conclude.ensures.written;
}

pub returns-in-Err-clause-ends : goal.returns-in-Err-clause-ends
returns-in-Err-clause-ends g c = record {
  end = Err c.write_unmounted.result;
  status = c.code.ensures;
  before = g.O.Sink.written c.run.new.sink;
  faults = g.O.Sink.write_faults c.run.new.sink;
  reason = grind (arith, common_steps);
  counts = grind (arith, common_steps);
  last = c.write_unmounted.ensures.written;
}
