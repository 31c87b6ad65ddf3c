use Rattle.std.proofs.Common.{◌≡◌, string_bytes, length, ◌++◌}
use denote.Text.{Utf8}
use denote.Shadow.{shadow}
use Rattle.fh_exprs.specs.Answers.{mapped}
use Rattle.fh_exprs.specs.Settings.{replaced}
use Rattle.fh_exprs.proofs.settings.Settings.replace.Given as goal

abbrev pub invariant-loop-before : goal.invariant-loop-before
invariant-loop-before l = record {
  utf8 : shadow (Utf8 l.rest);
  reads : replaced l.self.pairs l.text ≡ mapped (λ t. string_bytes l.done ++ t) (replaced l.self.pairs l.rest);
}

abbrev pub decreases-loop-before : goal.decreases-loop-before
decreases-loop-before l = length l.rest
