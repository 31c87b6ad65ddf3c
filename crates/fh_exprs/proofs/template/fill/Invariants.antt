use Rattle.std.proofs.Common.{◌≡◌, drop, ◌++◌, string_bytes}
use Rattle.fh_exprs.specs.Answers.{mapped}
use Rattle.fh_exprs.specs.Values.{filled}
use Rattle.fh_exprs.proofs.template.fill.Given as goal

abbrev pub invariant-loop-place : goal.invariant-loop-place
invariant-loop-place l = filled l.values l.places l.last
    ≡ mapped (λ t. string_bytes l.text ++ t) (filled l.values (drop l.place-index l.places) l.last)
