use Rattle.std.proofs.Common.{◌≡◌, List, ℕ}
use Rattle.std.specs.Prelude.{IfOk, MatchOption}
use Rattle.std.proofs.lemmas.Result.{IfOk-weaker}
use Rattle.fh_exprs.specs.Layout.{Layout}
use Rattle.fh_exprs.specs.Matching.{IsReading, ReadsAs}
use Rattle.fh_exprs.proofs.Matched.{answer-matched}
use Rattle.fh_exprs.proofs.pattern.Pattern.matches.Goals as goal

pub returns-clause-exact : goal.returns-clause-exact
returns-clause-exact c =
    let layout : Layout = c.args.self.now in
    let spots : c.places.result.now ≡ layout.spots = rw (← c.self.view_is) c.places.ensures in
    let last : c.last.result.now ≡ layout.last = rw (← c.self.view_is) c.last.ensures in
    let told : IfOk c.read_by.result (λ found. MatchOption found
    ((texts : List (List ℕ)) → IsReading layout c.args.name.now texts → ⊥)
    (λ pairs. ReadsAs layout c.args.name.now pairs.items)) = rw (← spots, ← last) c.read_by.ensures in
    IfOk-weaker c.read_by.result _ _ (λ found. answer-matched (λ pairs. pairs.items) layout c.args.name.now found) told
