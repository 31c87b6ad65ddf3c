use Rattle.std.proofs.Common.{◌≡◌, drop, map}
use Rattle.serde_json.specs.View.{view}
use Rattle.fh_app.specs.Bindings.{first_trigger}
use Rattle.fh_app.proofs.targets.first_trigger.Given as goal

abbrev pub invariant-loop-binding : goal.invariant-loop-binding
invariant-loop-binding l = first_trigger l.settings.pairs (map view l.bindings)
    ≡ first_trigger l.settings.pairs (map view (drop l.binding-index l.bindings))
