use Rattle.std.proofs.Common.{◌≤◌, length, drop}
use denote.Text.{Utf8}
use denote.Shadow.{shadow}
use Rattle.fh_exprs.specs.Tails.{EndsAs}
use Rattle.fh_exprs.proofs.Readings.{ArePlain}
use Rattle.fh_exprs.proofs.matching.read_later.Given as goal

abbrev pub invariant-loop-left : goal.invariant-loop-left
invariant-loop-left l = record {
  utf8 : shadow (Utf8 l.rest);
  plain : ArePlain (drop l.left l.places);
  within : l.left ≤ length l.places;
  ends : EndsAs (drop l.left l.places) l.name l.rest l.pairs.items;
}

abbrev pub decreases-loop-left : goal.decreases-loop-left
decreases-loop-left l = l.left
