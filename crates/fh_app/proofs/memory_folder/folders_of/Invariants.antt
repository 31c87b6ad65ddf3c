use Rattle.std.proofs.Common.{◌≡◌, drop, []}
use Rattle.fh_app.specs.Folders.{folders_behind}
use Rattle.fh_app.proofs.memory_folder.folders_of.Given as goal

abbrev pub invariant-loop-file : goal.invariant-loop-file
invariant-loop-file l = folders_behind [] l.files ≡ folders_behind l.names.items (drop l.file-index l.files)
