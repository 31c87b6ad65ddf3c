use Rattle.std.proofs.Common.{◌≡◌, ◌∷◌, length, ap, arith, ◌∙◌, sym}
use Rattle.std.specs.Vec.Iter.{into_iter_items}
use Rattle.fh_blobs.specs.Part.{BlobPart}
use Rattle.fh_blobs.specs.Acts.{by_acts}
use Rattle.fh_blobs.proofs.blobs.Blobs.settle.Goals as goal

pub act-requires : goal.act-requires
act-requires c =
    let steps = ap length c.in-Some.ensures.steps.0 in
    record {
      blobs = omega (arith, c.loop-act.invariant.blobs, steps);
      receipts = omega (arith, c.loop-act.invariant.receipts, steps);
      marks = omega (arith, c.loop-act.invariant.marks, steps);
      functions = omega (arith, c.loop-act.invariant.functions, steps);
      numbers = omega (arith, c.loop-act.invariant.numbers, steps);
    }

pub loop-act-preserved : goal.loop-act-preserved
loop-act-preserved c =
    let at = c.loop-act in
    let steps : into_iter_items at.act-iterator ≡ c.in-Some.act ∷ into_iter_items c.next.new.self = c.in-Some.ensures.steps.0 in
    let gone = c.in-Some.ensures.steps.1 in
    let short = ap length steps in
    record {
      left = ap (λ (p : BlobPart). by_acts p (into_iter_items c.next.new.self)) c.act.ensures.part ∙ sym (ap (by_acts at.self.part) steps) ∙ at.invariant.left;
      len = omega (arith, at.invariant.len, gone, short);
      blobs = omega (arith, at.invariant.blobs, c.act.ensures.blobs, short);
      receipts = omega (arith, at.invariant.receipts, c.act.ensures.receipts, short);
      marks = omega (arith, at.invariant.marks, c.act.ensures.marks, short);
      functions = omega (arith, at.invariant.functions, c.act.ensures.functions, short);
      numbers = omega (arith, at.invariant.numbers, c.act.ensures.numbers, short);
    }
