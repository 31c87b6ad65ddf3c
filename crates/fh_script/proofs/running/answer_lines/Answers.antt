use Rattle.std.proofs.Common.{arith, rules}
use Rattle.fh_script.proofs.Turning.{counts_on}
use Rattle.fh_script.proofs.running.answer_lines.Goals as goal

pub loop-end-preserved : goal.loop-end-preserved
loop-end-preserved g c = record {
  on = λ was first it. c.in-None.ensures.goes was first (c.loop-end.invariant.on was first it);
  counts = counts_on c.loop-end.invariant.counts c.in-None.ensures.counts;
  told = grind arith;
  holds = search rules;
  same = search rules;
}
