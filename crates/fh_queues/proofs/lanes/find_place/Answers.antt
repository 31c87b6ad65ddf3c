use Rattle.std.proofs.Common.{◌≡◌, ◌+◌, ◌-◌, ◌<◌, ◌/◌, length, true, sym, ap, ◌∙◌, arith}
use Rattle.std.specs.Prelude.{get_or}
use Rattle.std.specs.Cmp.Lexicographic.{slice_cmp}
use Rattle.std.specs.Ordering.{nat_cmp, is_lt}
use Rattle.std.specs.declared.cmp.Ordering.TheVariants.{Less, Equal, Greater}
use Rattle.std.proofs.lemmas.List.{get_or_read}
use Rattle.fh_queues.specs.Order.{comes_before}
use Rattle.fh_queues.specs.Lanes.{LaneValue}
use Rattle.fh_queues.proofs.Laning.{before-up, before-down, same-equal, before-greater}
use Rattle.fh_queues.proofs.lanes.find_place.Goals as goal

pub returns-in-Equal : goal.returns-in-Equal
returns-in-Equal c =
    let lanes = c.args.lanes.now in
    let middle = c.loop-low.low + (c.loop-low.high - c.loop-low.low) / 2 in
    let within : middle < length lanes = omega arith in
    let order : slice_cmp nat_cmp c.name.result.now c.as_bytes-wanted.result.now ≡ Equal = sym c.cmp-order.ensures ∙ c.in-Equal.is in (
      within,
      λ d. ap (λ (l : LaneValue). l.name) (sym (get_or_read lanes middle c.index-lanes-middle.result within c.index-lanes-middle.is d)) ∙ sym c.name.ensures
          ∙ same-equal c.name.result.now c.as_bytes-wanted.result.now order ∙ c.as_bytes-wanted.ensures.text,
    )

pub loop-low-preserved-in-Less : goal.loop-low-preserved-in-Less
loop-low-preserved-in-Less c =
    let lanes = c.args.lanes.now in
    let wanted = c.as_bytes-wanted.result.now in
    let middle = c.loop-low.low + (c.loop-low.high - c.loop-low.low) / 2 in
    let within : middle < length lanes = omega arith in
    let order : slice_cmp nat_cmp c.name.result.now wanted ≡ Less = sym c.cmp-order.ensures ∙ c.in-Less.is in
    let here : (d : LaneValue) → comes_before (get_or lanes middle d).name wanted ≡ true = λ d.
    ap (λ (l : LaneValue). comes_before l.name wanted) (sym (get_or_read lanes middle c.index-lanes-middle.result within c.index-lanes-middle.is d))
    ∙ ap (λ n. comes_before n wanted) (sym c.name.ensures) ∙ ap is_lt order in
    record {
      order = omega arith;
      within = omega arith;
      before = λ k d low high. before-down wanted lanes k middle d c.requires (omega (arith, high)) within (here d);
      behind = c.loop-low.invariant.behind;
    }

pub loop-low-preserved : goal.loop-low-preserved
loop-low-preserved c =
    let lanes = c.args.lanes.now in
    let wanted = c.as_bytes-wanted.result.now in
    let middle = c.loop-low.low + (c.loop-low.high - c.loop-low.low) / 2 in
    let within : middle < length lanes = omega arith in
    let order : slice_cmp nat_cmp c.name.result.now wanted ≡ Greater = sym c.cmp-order.ensures ∙ c.in-Greater.is in
    let here : (d : LaneValue) → comes_before wanted (get_or lanes middle d).name ≡ true = λ d.
    ap (λ (l : LaneValue). comes_before wanted l.name) (sym (get_or_read lanes middle c.index-lanes-middle.result within c.index-lanes-middle.is d))
    ∙ ap (comes_before wanted) (sym c.name.ensures) ∙ before-greater c.name.result.now wanted order in
    record {
      order = omega arith;
      within = omega arith;
      before = c.loop-low.invariant.before;
      behind = λ k d low high. before-up wanted lanes middle k d c.requires (omega (arith, low)) high (here d);
    }
