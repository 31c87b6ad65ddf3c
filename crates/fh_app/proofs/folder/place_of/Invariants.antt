use Rattle.std.proofs.Common.{◌≡◌, drop, take, ◌++◌}
use Rattle.fh_app.specs.Folders.{inserted}
use Rattle.fh_app.proofs.folder.place_of.Given as goal

abbrev pub invariant-loop-place : goal.invariant-loop-place
invariant-loop-place l = inserted l.name l.names ≡ take l.place l.names ++ inserted l.name (drop l.place l.names)
