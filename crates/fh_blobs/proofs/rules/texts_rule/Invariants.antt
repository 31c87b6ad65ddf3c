use Rattle.std.proofs.Common.{◌≡◌, None, take}
use Rattle.fh_blobs.specs.Rules.{texts_rule}
use Rattle.fh_blobs.proofs.rules.texts_rule.Given as goal

abbrev pub invariant-loop-blob : goal.invariant-loop-blob
invariant-loop-blob l = texts_rule (take l.blob-index l.blobs) ≡ None
