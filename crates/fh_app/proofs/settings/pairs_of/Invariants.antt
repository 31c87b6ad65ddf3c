use Rattle.std.proofs.Common.{◌≡◌, []}
use Rattle.serde_json.specs.View.{members_view}
use Rattle.fh_app.specs.Settings.{pairs_behind}
use Rattle.fh_app.proofs.settings.pairs_of.Given as goal

abbrev pub invariant-loop-name : goal.invariant-loop-name
invariant-loop-name l = record {
  can : (goal.iterator-loop-name).can_next l.name-iterator;
  finite : (goal.iterator-loop-name).is_finite l.name-iterator;
  reads : pairs_behind [] (members_view l.members.entries) ≡ pairs_behind l.pairs.items (members_view l.name-iterator);
}
