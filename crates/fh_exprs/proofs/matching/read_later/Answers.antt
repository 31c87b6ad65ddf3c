use Rattle.std.proofs.Common.{rules, sym, subst, ◌-◌, drop, List, ℕ, arith, ◌∷◌}
use Rattle.std.specs.Str.{IsUtf8}
use Rattle.fh_exprs.specs.Layout.{Spot}
use Rattle.fh_exprs.specs.Tails.{IsTail, IsLastCut, HasNoCut}
use Rattle.fh_exprs.proofs.Readings.{ArePlain, tail_dropped, none_more, spot_at, ends_more}
use Rattle.fh_exprs.proofs.matching.read_later.Goals as goal

pub returns-in_default : goal.returns-in_default
returns-in_default c rest texts tail =
    let spot = c.index-places-left.result in
    let at = spot_at c.args.places.now c.loop-left.left spot c.loop-left-test.true c.loop-left.invariant.within
    c.index-places-left.is in
    let dropped = tail_dropped (c.loop-left.left - 1) c.args.places.now c.args.name.now rest texts tail in
    let utf8 : IsUtf8 spot.0 = subst IsUtf8 c.as_str.ensures c.as_str.utf8 in
    let no_cut : HasNoCut c.loop-left.rest.now spot.0 =
    subst (λ (b : List ℕ). HasNoCut c.loop-left.rest.now b) c.as_str.ensures c.in_default.ensures in
    none_more spot (drop c.loop-left.left c.args.places.now) c.args.name.now c.loop-left.rest.now _ c.utf8.name
    (utf8, c.loop-left.invariant.plain) c.loop-left.invariant.ends.texts no_cut dropped.0 dropped.1
    (subst (λ (ps : List Spot). IsTail ps c.args.name.now dropped.0 dropped.1) at dropped.2)

pub loop-left-preserved : goal.loop-left-preserved
loop-left-preserved c =
    let spot = c.index-places-left.result in
    let at = spot_at c.args.places.now c.loop-left.left spot c.loop-left-test.true c.loop-left.invariant.within
    c.index-places-left.is in
    let utf8 : IsUtf8 spot.0 = subst IsUtf8 c.as_str.ensures c.as_str.utf8 in
    let cut : IsLastCut c.loop-left.rest.now spot.0 c.in-Some.front.now c.in-Some.text.now =
    subst (λ (b : List ℕ). IsLastCut c.loop-left.rest.now b c.in-Some.front.now c.in-Some.text.now)
    c.as_str.ensures c.in-Some.ensures in
    let plain : ArePlain (spot ∷ drop c.loop-left.left c.args.places.now) = (utf8, c.loop-left.invariant.plain) in
    let ends = ends_more spot (drop c.loop-left.left c.args.places.now)
    c.args.name.now c.loop-left.rest.now c.in-Some.front.now c.in-Some.text.now
    c.loop-left.pairs.items c.utf8.name plain c.loop-left.invariant.ends cut in
    record {
      utf8 = search rules;
      plain = subst ArePlain (sym at) plain;
      within = (let h = c.loop-left.invariant.within in omega arith);
      ends = rw (at, c.in_ok-push.ensures.items, c.in_ok-pair_of.ensures) ends;
    }
