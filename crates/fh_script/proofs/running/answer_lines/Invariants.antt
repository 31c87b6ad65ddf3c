use Rattle.std.proofs.Common.{◌≡◌}
use Rattle.fh_script.specs.Answerer.{HoldsIn, StaysToldIn}
use Rattle.fh_script.specs.Outside.{Counts, Outside}
use Rattle.fh_script.specs.Running.{RunsOn, outside_in}
use Rattle.fh_script.proofs.running.answer_lines.Given as goal

abbrev pub invariant-loop-end : goal.invariant-loop-end
invariant-loop-end g l = record {
  on :
      (was : Outside) (first : g.row.J.Denot)
      → RunsOn g.S.Source g.O.Sink was first l.initial.source l.initial.sink l.initial.answerer
      → RunsOn g.S.Source g.O.Sink was first l.source l.sink l.answerer;
  counts :
      Counts (outside_in g.S.Source g.O.Sink l.initial.source l.initial.sink l.initial.answerer)
      (outside_in g.S.Source g.O.Sink l.source l.sink l.answerer) 0;
  told : StaysToldIn l.initial.answerer l.answerer;
  holds : HoldsIn l.answerer.hub;
  same : l.answerer.hub.journal.disk.ghost_name ≡ l.initial.answerer.hub.journal.disk.ghost_name;
}

abbrev pub decreases-loop-end : goal.decreases-loop-end
decreases-loop-end g l = g.S.Source.most l.source
