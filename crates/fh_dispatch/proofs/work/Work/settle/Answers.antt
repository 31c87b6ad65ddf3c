use Rattle.std.proofs.Common.{◌≡◌, ◌∷◌, length, ap, arith, ◌∙◌, sym}
use Rattle.std.specs.Vec.Iter.{into_iter_items}
use Rattle.fh_dispatch.specs.Part.{WorkPart}
use Rattle.fh_dispatch.specs.Acts.{by_acts}
use Rattle.fh_dispatch.proofs.work.Work.settle.Goals as goal

pub act-requires : goal.act-requires
act-requires c =
    let steps = ap length c.in-Some.ensures.steps.0 in
    record {
      room = omega (arith, c.loop-act.invariant.room, steps);
      job_room = omega (arith, c.loop-act.invariant.job_room, steps);
      run_room = omega (arith, c.loop-act.invariant.run_room, steps);
      numbers = omega (arith, c.loop-act.invariant.numbers, steps);
      sessions = omega (arith, c.loop-act.invariant.sessions, steps);
    }

pub loop-act-preserved : goal.loop-act-preserved
loop-act-preserved c =
    let at = c.loop-act in
    let steps : into_iter_items at.act-iterator ≡ c.in-Some.act ∷ into_iter_items c.next.new.self =
    c.in-Some.ensures.steps.0 in
    let gone = c.in-Some.ensures.steps.1 in
    let short = ap length steps in
    record {
      left = ap (λ (p : WorkPart). by_acts p (into_iter_items c.next.new.self)) c.act.ensures.part
          ∙ sym (ap (by_acts at.self.part) steps) ∙ at.invariant.left;
      len = omega (arith, at.invariant.len, gone, short);
      room = omega (arith, at.invariant.room, c.act.ensures.room, short);
      job_room = omega (arith, at.invariant.job_room, c.act.ensures.job_room, short);
      run_room = omega (arith, at.invariant.run_room, c.act.ensures.run_room, short);
      numbers = omega (arith, at.invariant.numbers, c.act.ensures.numbers, short);
      sessions = omega (arith, at.invariant.sessions, c.act.ensures.sessions, short);
    }
