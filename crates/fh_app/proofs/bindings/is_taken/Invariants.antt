use Rattle.std.proofs.Common.{◌≡◌, drop, map}
use Rattle.std.specs.List.{list_any}
use Rattle.serde_json.specs.View.{view}
use Rattle.fh_app.specs.Bindings.{has_name}
use Rattle.fh_app.proofs.bindings.is_taken.Given as goal

abbrev pub invariant-loop-binding : goal.invariant-loop-binding
invariant-loop-binding l = list_any (has_name l.name) (map view l.before)
    ≡ list_any (has_name l.name) (map view (drop l.binding-index l.before))
