use Rattle.std.proofs.Common.{◌≡◌, ◌∙◌, ap, lit<, Option, Some, None, List, ℕ}
use Rattle.std.specs.Prelude.{MatchOption}
use Rattle.std.proofs.lemmas.Str.Pattern.{split_parts, IsSplitOnceResult}
use denote.Ref.{Bor}
use Rattle.fh_app.specs.Bindings.{cut_at}
use Rattle.fh_app.proofs.Cuts.{cut_at-none, cut_at-some}
use Rattle.fh_invoke.proofs.output.cut_at_slash.Goals as goal

cuts : (bs : List ℕ) (r : Option (Bor (List ℕ) × Bor (List ℕ))) → IsSplitOnceResult 47 bs r
    → MatchOption r (cut_at 47 bs ≡ None) (λ cut. cut_at 47 bs ≡ Some (cut.0.now, cut.1.now))
cuts bs None is = cut_at-none 47 bs (split_parts 47 bs None is (lit< tt))
cuts bs (Some cut) is =
    let parts = split_parts 47 bs (Some cut) is (lit< tt) in
    ap (cut_at 47) parts.0 ∙ cut_at-some 47 cut.0.now cut.1.now parts.1

pub returns : goal.returns
returns c = cuts c.args.text.now c.split_once.result c.split_once.ensures.cases
