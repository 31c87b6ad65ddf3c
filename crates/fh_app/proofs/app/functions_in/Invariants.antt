use Rattle.std.proofs.Common.{◌≡◌, drop, []}
use Rattle.fh_app.specs.Functions.{functions_behind}
use Rattle.fh_app.proofs.app.functions_in.Given as goal

abbrev pub invariant-loop-file : goal.invariant-loop-file
invariant-loop-file l = functions_behind l.settings.pairs [] l.files
    ≡ functions_behind l.settings.pairs l.functions.items (drop l.file-index l.files)
