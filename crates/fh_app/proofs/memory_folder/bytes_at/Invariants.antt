use Rattle.std.proofs.Common.{◌≡◌, drop}
use Rattle.fh_exprs.specs.Pairs.{text_at}
use Rattle.fh_app.proofs.memory_folder.bytes_at.Given as goal

abbrev pub invariant-loop-file : goal.invariant-loop-file
invariant-loop-file l = text_at l.path l.files ≡ text_at l.path (drop l.file-index l.files)
