use Rattle.std.proofs.Common.{◌≡◌, drop, [], List, ℕ, Some}
use Rattle.fh_app.specs.Folders.{function_files_behind}
use Rattle.fh_app.proofs.folder.function_files.Given as goal

abbrev pub invariant-loop-name : goal.invariant-loop-name
invariant-loop-name g l = record {
  files : (told : List (List ℕ × List ℕ)) → g.D.Folder.files l.initial.folder ≡ Some told
      → function_files_behind told [] l.names ≡ function_files_behind told l.files.items (drop l.name-index l.names);
  same : g.D.Folder.files l.folder ≡ g.D.Folder.files l.initial.folder;
  count : g.D.Folder.folder_faults l.folder ≡ g.D.Folder.folder_faults l.initial.folder;
}
