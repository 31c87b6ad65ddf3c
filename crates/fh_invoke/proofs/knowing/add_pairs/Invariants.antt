use Rattle.std.proofs.Common.{◌≡◌, ◌++◌, drop}
use Rattle.fh_invoke.proofs.knowing.add_pairs.Given as goal

abbrev pub invariant-loop-pair : goal.invariant-loop-pair
invariant-loop-pair l = l.fn.names.items ++ l.pairs ≡ l.names.items ++ drop l.pair-index l.pairs
