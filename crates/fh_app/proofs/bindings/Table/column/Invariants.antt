use Rattle.std.proofs.Common.{◌≡◌, drop, map}
use Rattle.serde_json.specs.View.{view}
use Rattle.fh_app.specs.Bindings.{row_of, pass_from}
use Rattle.fh_app.proofs.bindings.Table.column.Given as goal

abbrev pub invariant-loop-place : goal.invariant-loop-place
invariant-loop-place l =
    pass_from (row_of l.column l.self.settings.now.pairs l.self.file.now (map view l.self.bindings.now)) 0
    (map view l.self.bindings.now)
    ≡ pass_from (row_of l.column l.self.settings.now.pairs l.self.file.now (map view l.self.bindings.now)) l.place
    (map view (drop l.place l.self.bindings.now))
