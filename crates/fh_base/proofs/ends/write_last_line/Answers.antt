use Rattle.std.proofs.Common.{ℕ, List, length, Option, Result, Ok, Err, refl, arith, subst, take_all}
use Rattle.fh_base.specs.declared.faults.Failed.{Failed}
use Rattle.fh_base.specs.Faults.{HasCause}
use Rattle.fh_base.specs.Streams.{WritesAll}
use Rattle.fh_base.specs.Ends.{Concludes}
use Rattle.fh_base.proofs.ends.write_last_line.Goals as goal

concludes : (was now : Option (List ℕ)) (line : List ℕ) (before after : ℕ) (result : Result (Unit {0}) Failed)
    → WritesAll was now result line → HasCause before after result → Concludes was now line before after
concludes was now line before after (Ok done) writes cause = record {
  written = length line;
  part = rw (take_all (length line) line (omega arith)) writes;
  whole = λ less. absurd (omega (arith, less));
  passed = λ all. cause.passed refl;
}
concludes was now line before after (Err failed) writes cause = record {
  written = writes.0;
  part = writes.2;
  whole = λ less. cause.failed refl;
  passed = λ all. absurd (omega (arith, all, writes.1));
}

pub returns-clause-written : goal.returns-clause-written
returns-clause-written g c =
    subst (λ (line : List ℕ). Concludes (g.O.Sink.written c.args.sink.now)
    (g.O.Sink.written c.write_all-written.new.sink) line
    (g.O.Sink.write_faults c.args.sink.now) (g.O.Sink.write_faults c.write_all-written.new.sink))
    c.as_bytes.ensures.value
    (concludes _ _ _ _ _ c.write_all-written.result c.write_all-written.ensures.written
    c.write_all-written.ensures.cause)
