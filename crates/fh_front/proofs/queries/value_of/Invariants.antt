use Rattle.std.proofs.Common.{◌≡◌}
use Rattle.form_urlencoded.specs.Form.{raw_pairs}
use Rattle.form_urlencoded.specs.Parse.{raw_pairs_left}
use Rattle.fh_front.specs.Queries.{value_in}
use Rattle.fh_front.proofs.queries.value_of.Given as goal

abbrev pub invariant-loop-key : goal.invariant-loop-key
invariant-loop-key l = value_in l.name (raw_pairs l.query) ≡ value_in l.name (raw_pairs_left l.key-iterator)
