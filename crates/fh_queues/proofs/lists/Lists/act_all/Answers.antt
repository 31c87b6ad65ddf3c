use Rattle.std.proofs.Common.{◌≡◌, ◌+◌, ◌∷◌, List, ℕ, length, ap, arith, ◌∙◌, sym, subst}
use Rattle.std.specs.Vec.Iter.{into_iter_items}
use Rattle.fh_queues.specs.declared.act.Act.{Act}
use Rattle.fh_queues.specs.Acts.{by_acts}
use Rattle.fh_queues.specs.Lists.{part_of, AreReady}
use Rattle.fh_queues.proofs.Keeping.{all_ready-act, ready-one}
use Rattle.fh_queues.proofs.lists.Lists.act_all.Goals as goal

pub act-requires-clause-room : goal.act-requires-clause-room
act-requires-clause-room c =
    let had = c.loop-act.invariant.fits.room in
    let steps = ap length c.in-Some.ensures.steps.0 in
    record { slots = omega (arith, had.slots, steps); expiries = omega (arith, had.expiries, steps) }

pub act-requires-clause-ready : goal.act-requires-clause-ready
act-requires-clause-ready c =
    let rest = into_iter_items c.next.new.self in
    let long : length (into_iter_items c.loop-act.act-iterator) ≡ length rest + 1 = omega (arith, ap length c.in-Some.ensures.steps.0) in
    let all : AreReady c.loop-act.self.lanes (length rest + 1) (c.in-Some.act ∷ rest) =
    subst (λ (k : ℕ). AreReady c.loop-act.self.lanes k (c.in-Some.act ∷ rest)) long
    (subst (λ (acts : List Act). AreReady c.loop-act.self.lanes (length (into_iter_items c.loop-act.act-iterator)) acts) c.in-Some.ensures.steps.0 c.loop-act.invariant.fits.ready) in
    ready-one (length rest) c.in-Some.act c.loop-act.self.lanes all.0

pub act-requires-clause-numbers : goal.act-requires-clause-numbers
act-requires-clause-numbers c = omega (arith, c.loop-act.invariant.numbers, ap length c.in-Some.ensures.steps.0)

pub act-requires-clause-receipts : goal.act-requires-clause-receipts
act-requires-clause-receipts c = omega (arith, c.loop-act.invariant.receipts, ap length c.in-Some.ensures.steps.0)

pub loop-act-preserved : goal.loop-act-preserved
loop-act-preserved c =
    let at = c.loop-act in
    let rest = into_iter_items c.next.new.self in
    let steps : into_iter_items at.act-iterator ≡ c.in-Some.act ∷ rest = c.in-Some.ensures.steps.0 in
    let gone = c.in-Some.ensures.steps.1 in
    let short = ap length steps in
    let had = at.invariant.fits.room in
    let long : length (into_iter_items at.act-iterator) ≡ length rest + 1 = omega (arith, short) in
    let all : AreReady at.self.lanes (length rest + 1) (c.in-Some.act ∷ rest) =
    subst (λ (k : ℕ). AreReady at.self.lanes k (c.in-Some.act ∷ rest)) long
    (subst (λ (acts : List Act). AreReady at.self.lanes (length (into_iter_items at.act-iterator)) acts) steps at.invariant.fits.ready) in
    record {
      left = ap (λ p. by_acts p rest) c.act.ensures.part ∙ sym (ap (by_acts (part_of at.self)) steps) ∙ at.invariant.left;
      len = omega (arith, at.invariant.len, gone, short);
      sound = record { indexed = c.act.ensures.sound.indexed; count = c.act.ensures.sound.count };
      fits = record {
        room = c.act.ensures.room (length rest) (record { slots = omega (arith, had.slots, short); expiries = omega (arith, had.expiries, short) });
        ready = all_ready-act (length rest) rest at.self.lanes c.act.new.self.lanes (λ name. c.act.ensures.ready (length rest) name) all.1;
      };
      numbers = omega (arith, at.invariant.numbers, c.act.ensures.number, short);
      receipts = omega (arith, at.invariant.receipts, c.act.ensures.receipt, short);
    }
