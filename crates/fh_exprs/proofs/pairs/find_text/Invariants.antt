use Rattle.std.proofs.Common.{◌≡◌, drop}
use Rattle.fh_exprs.specs.Pairs.{text_at}
use Rattle.fh_exprs.proofs.pairs.find_text.Given as goal

abbrev pub invariant-loop-pair : goal.invariant-loop-pair
invariant-loop-pair l = text_at l.name l.pairs ≡ text_at l.name (drop l.pair-index l.pairs)
