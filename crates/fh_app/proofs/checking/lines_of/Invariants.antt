use Rattle.std.proofs.Common.{◌≡◌, drop, []}
use Rattle.fh_app.specs.Check.{lines_behind}
use Rattle.fh_app.proofs.checking.lines_of.Given as goal

abbrev pub invariant-loop-function : goal.invariant-loop-function
invariant-loop-function l = lines_behind [] l.functions ≡ lines_behind l.lines.items (drop l.function-index l.functions)
