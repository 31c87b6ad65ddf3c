use Rattle.std.proofs.Common.{arith, ◌≡◌, ◌+◌, ◌++◌, ◌∷◌, [], List, length, take, sym, subst}
use Rattle.std.proofs.lemmas.Grind.{common_steps}
use Rattle.fh_queues.specs.declared.act.Act.{Act}
use Rattle.fh_queues.specs.Lists.{AreReady}
use Rattle.fh_queues.proofs.Keeping.{grows-trans, all_ready-grows, all_ready-push}
use Rattle.fh_queues.proofs.lists.reserve_lanes.Goals as goal

pub loop-act-preserved : goal.loop-act-preserved
loop-act-preserved c =
    let acts = c.args.acts.now in
    let had = c.loop-act.invariant in
    let more : take (c.loop-act.act-index + 1) acts ≡ take c.loop-act.act-index acts ++ c.act-item.result ∷ [] = grind (arith, common_steps) in
    record {
      grows = grows-trans _ _ _ had.grows c.reserve_lane.ensures.grows;
      ready = subst (λ (as_far : List Act). AreReady c.reserve_lane.new.lanes (length acts) as_far) (sym more)
          (all_ready-push (length acts) (take c.loop-act.act-index acts) c.act-item.result c.reserve_lane.new.lanes
          (all_ready-grows (length acts) (take c.loop-act.act-index acts) _ _ c.reserve_lane.ensures.grows had.ready)
          c.in_ok-reserve_lane.ensures.ready);
    }
