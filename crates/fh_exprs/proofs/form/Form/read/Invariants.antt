use Rattle.std.proofs.Common.{◌≡◌, ◌-◌, ◌≤◌, length}
use denote.Text.{Utf8}
use denote.Shadow.{shadow}
use Rattle.fh_exprs.specs.Form.{reading, read_on, outside}
use Rattle.fh_exprs.specs.Names.{KnowsNames}
use Rattle.fh_exprs.proofs.form.Form.read.Given as goal

abbrev pub invariant-loop-rest : goal.invariant-loop-rest
invariant-loop-rest l = record {
  utf8 : shadow (Utf8 l.rest);
  within : length l.rest ≤ length l.text;
  reads : reading l.naming l.text ≡ read_on l.naming l.form (outside (length l.text - length l.rest)) l.rest;
  names : KnowsNames l.naming l.taken l.form.spots;
}

abbrev pub decreases-loop-rest : goal.decreases-loop-rest
decreases-loop-rest l = length l.rest
