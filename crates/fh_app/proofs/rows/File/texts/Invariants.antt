use Rattle.std.proofs.Common.{◌≡◌, drop, []}
use Rattle.serde_json.specs.View.{items_view}
use Rattle.fh_app.specs.Rows.{texts_behind}
use Rattle.fh_app.proofs.rows.File.texts.Given as goal

abbrev pub invariant-loop-value : goal.invariant-loop-value
invariant-loop-value l = texts_behind l.self.name.now l.path [] (items_view l.values)
    ≡ texts_behind l.self.name.now l.path l.texts.items (items_view (drop l.value-index l.values))
