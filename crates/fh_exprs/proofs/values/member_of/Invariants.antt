use Rattle.std.proofs.Common.{◌≡◌, length, ◌==◌}
use denote.Text.{Utf8}
use denote.Shadow.{shadow}
use Rattle.std.specs.List.{slice_split}
use Rattle.serde_json.specs.View.{view}
use Rattle.fh_exprs.specs.Json.{member_at, dot}
use Rattle.fh_exprs.proofs.values.member_of.Given as goal

abbrev pub invariant-loop-first : goal.invariant-loop-first
invariant-loop-first l = record {
  utf8 : shadow (Utf8 l.rest);
  reads : member_at (slice_split (λ b. b == dot) l.name) (view l.message)
      ≡ member_at (slice_split (λ b. b == dot) l.rest) (view l.found);
}

abbrev pub decreases-loop-first : goal.decreases-loop-first
decreases-loop-first l = length l.rest
