use Rattle.std.proofs.Common.{arith}
use Rattle.std.proofs.KnownBytes.{Consumes-kept, Consumes-trans}
use Rattle.std.proofs.lemmas.Grind.{common_steps}
use Rattle.fh_script.proofs.LineReading.{line_feeds-append, line_length-plain, lines-ended, lines-last, not_ended}
use Rattle.fh_script.proofs.lines.read_line.Goals as goal

pub returns-in_default-clause-read : goal.returns-in_default-clause-read
returns-in_default-clause-read g c = grind (arith, common_steps, lines-last, line_length-plain, not_ended)

pub returns-then-byte-eq-LINE_FEED-clause-read : goal.returns-then-byte-eq-LINE_FEED-clause-read
returns-then-byte-eq-LINE_FEED-clause-read g c = grind
    (arith, common_steps, line_feeds-append, lines-ended, line_length-plain)

pub returns-in-Err-clause-reason : goal.returns-in-Err-clause-reason
returns-in-Err-clause-reason g c =
    let l = c.loop-byte.invariant in
    let consumed = Consumes-kept _ _ _ c.loop-byte.line.items l.read c.in-Err.ensures.failed in
    record {
      took = record { taken = c.loop-byte.line.items; consumed = consumed; few = omega (arith, l.short) };
      part = l.plain;
    }

pub returns-then-len-gt-LONGEST_LINE-clause-reason : goal.returns-then-len-gt-LONGEST_LINE-clause-reason
returns-then-len-gt-LONGEST_LINE-clause-reason g c = record {
  starts = grind (arith, common_steps, line_feeds-append, line_length-plain, Consumes-trans);
  taken = c.push.new.self.items;
  consumed = grind (arith, common_steps, Consumes-trans);
  part = grind (arith, common_steps, line_feeds-append);
  long = grind (arith, common_steps);
}
