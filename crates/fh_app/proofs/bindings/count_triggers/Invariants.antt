use Rattle.std.proofs.Common.{◌≡◌, ◌≤◌, take, count_by, map}
use Rattle.serde_json.specs.View.{view}
use Rattle.fh_app.specs.Bindings.{is_trigger}
use Rattle.fh_app.proofs.bindings.count_triggers.Given as goal

abbrev pub invariant-loop-binding : goal.invariant-loop-binding
invariant-loop-binding l = record {
  counted : l.count ≡ count_by is_trigger (map view (take l.binding-index l.bindings));
  bound : l.count ≤ l.binding-index;
}
