use Rattle.std.proofs.Common.{◌≡◌, take}
use Rattle.fh_blobs.specs.Outcome.{puts}
use Rattle.fh_blobs.proofs.planning.puts.Given as goal

abbrev pub invariant-loop-new : goal.invariant-loop-new
invariant-loop-new l = l.acts.items ≡ puts (take l.new-index l.blobs)
