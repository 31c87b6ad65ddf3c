use Rattle.std.proofs.Common.{rules, ◌≡◌, ◌∙◌, sym, ap, lit<, eqb, refl, []}
use Rattle.std.specs.Prelude.{Option, Some, None, option_and_then}
use Rattle.std.specs.List.{slice_split}
use Rattle.std.proofs.lemmas.Str.Pattern.{split_parts}
use Rattle.serde_json.specs.Data.{Data}
use Rattle.serde_json.specs.View.{view}
use Rattle.serde_json.specs.Find.{get}
use Rattle.fh_exprs.specs.Json.{member_at, dot}
use Rattle.fh_exprs.proofs.Cuts.{split_one, split_more}
use Rattle.fh_exprs.proofs.values.member_of.Goals as goal

last_member : (o : Option Data) → option_and_then (member_at []) o ≡ o
last_member None = refl
last_member (Some d) = refl

pub returns-in_err-found : goal.returns-in_err-found
returns-in_err-found c =
    let cut = split_parts dot c.loop-first.rest.now (Some (c.in-Some.first, c.in-Some.names)) c.in-Some.ensures.cases
    (lit< tt) in
    let split = split_more dot c.loop-first.rest.now c.in-Some.first.now c.in-Some.names.now cut.0 cut.1 in
    rw c.from_residual.ensures
    (sym (c.loop-first.invariant.reads
    ∙ ap (λ ps. member_at ps (view c.loop-first.found.now)) split
    ∙ ap (option_and_then (member_at (slice_split (λ b. eqb b dot) c.in-Some.names.now))) (sym c.in_err-found.ensures)))

pub loop-first-preserved : goal.loop-first-preserved
loop-first-preserved c =
    let cut = split_parts dot c.loop-first.rest.now (Some (c.in-Some.first, c.in-Some.names)) c.in-Some.ensures.cases
    (lit< tt) in
    let split = split_more dot c.loop-first.rest.now c.in-Some.first.now c.in-Some.names.now cut.0 cut.1 in
    record {
      utf8 = search rules;
      reads = c.loop-first.invariant.reads
          ∙ ap (λ ps. member_at ps (view c.loop-first.found.now)) split
          ∙ ap (option_and_then (member_at (slice_split (λ b. eqb b dot) c.in-Some.names.now)))
          (sym c.in_ok-found.ensures);
    }

pub returns : goal.returns
returns c =
    let cut = split_parts dot c.loop-first.rest.now None c.in_default.ensures.cases (lit< tt) in
    let split = split_one dot c.loop-first.rest.now cut in
    sym (c.loop-first.invariant.reads
    ∙ ap (λ ps. member_at ps (view c.loop-first.found.now)) split
    ∙ last_member (get c.loop-first.rest.now (view c.loop-first.found.now))
    ∙ sym c.get-2.ensures)
