use Rattle.std.proofs.Common.{◌≡◌, drop, map, []}
use Rattle.serde_json.specs.View.{view}
use Rattle.fh_app.specs.Bindings.{outputs_behind}
use Rattle.fh_app.proofs.targets.outputs_in.Given as goal

abbrev pub invariant-loop-binding : goal.invariant-loop-binding
invariant-loop-binding l = outputs_behind l.settings.pairs [] (map view l.bindings)
    ≡ outputs_behind l.settings.pairs l.outputs.items (map view (drop l.binding-index l.bindings))
