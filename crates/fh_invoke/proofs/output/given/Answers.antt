use Rattle.std.proofs.Common.{◌∙◌, ap, sym, map, Option, Some, Bor}
use Rattle.std.specs.Prelude.{option_map}
use Rattle.serde_json.specs.Data.{Data}
use Rattle.serde_json.specs.View.{view}
use Rattle.serde_json.proofs.Views.{view-Array}
use Rattle.serde_json.specs.declared.value.Value.{Value}
use Rattle.fh_app.specs.declared.function.OutBinding.{OutBinding}
use Rattle.fh_app.specs.declared.function.OutBinding.TheVariants.{Queue}
use Rattle.fh_invoke.specs.Outputs.{given}
use Rattle.fh_invoke.proofs.Sending.{list_of_items}
use Rattle.fh_invoke.proofs.output.given.Goals as goal

pub returns-in-Queue-Array : goal.returns-in-Queue-Array
returns-in-Queue-Array c =
    let queue : OutBinding = Queue c.in-Queue-Array.name-0 c.in-Queue-Array.queue-0 in
    ap (map view) c.as_slice.ensures.value
    ∙ sym (list_of_items (map view c.in-Queue-Array.values.items))
    ∙ sym (ap (λ (b : OutBinding). given b (option_map (λ (v : Bor Value). view v.now) c.args.value))
    c.in-Queue-Array.is-0
    ∙ ap (λ (o : Option (Bor Value)). given queue (option_map (λ (v : Bor Value). view v.now) o)) c.in-Some.is
    ∙ ap (λ (v : Value). given queue (Some (view v))) c.in-Queue-Array.is-1
    ∙ ap (λ (d : Data). given queue (Some d)) (view-Array c.in-Queue-Array.values))
