use Rattle.std.proofs.Common.{◌≡◌, ◌∙◌, sym, ap, ◌++◌, length, drop, ◌+◌, subst, ℕ}
use Rattle.std.specs.Str.{IsUtf8, IsCharBoundary}
use Rattle.std.proofs.Math.Utf8.{encode}
use Rattle.std.proofs.lemmas.Str.{IsUtf8-take}
use Rattle.fh_exprs.specs.Tails.{IsLastCut}
use Rattle.fh_exprs.proofs.LastCut.{no_cut, last_cut, found_boundary}
use Rattle.fh_exprs.proofs.matching.split_last.Goals as goal

pub returns-in_err-at : goal.returns-in_err-at
returns-in_err-at c =
    let cut : c.args.text.now ≡ c.as_str-shorter.result.now ++ encode c.in_ok-next_back.field-0 =
    sym c.chars-shorter.ensures.rest ∙ c.in_ok-next_back.ensures.steps
    ∙ ap (λ t. t ++ encode c.in_ok-next_back.field-0) (sym c.as_str-shorter.ensures) in
    rw c.from_residual-in_err-at.ensures
    (no_cut c.args.text.now c.as_str-shorter.result.now c.args.before.now c.in_ok-next_back.field-0 c.utf8.text
    c.as_str-shorter.utf8 c.utf8.before cut c.in_err-at.ensures.cases)

pub split_at-requires-2 : goal.split_at-requires-2
split_at-requires-2 c =
    let cut : c.args.text.now ≡ c.as_str-shorter.result.now ++ encode c.in_ok-next_back.field-0 =
    sym c.chars-shorter.ensures.rest ∙ c.in_ok-next_back.ensures.steps
    ∙ ap (λ t. t ++ encode c.in_ok-next_back.field-0) (sym c.as_str-shorter.ensures) in
    let found = c.in_ok-at.ensures.cases in
    let front = c.split_at.result.0.now in
    let utf8 : IsUtf8 front = subst IsUtf8 (sym c.split_at.ensures.front)
    (IsUtf8-take c.as_str-shorter.result.now c.in_ok-at.at c.as_str-shorter.utf8 found.3) in
    subst (λ (k : ℕ). IsCharBoundary c.args.text.now (k + length c.args.before.now)) c.split_at.ensures.front_len
    (found_boundary c.args.text.now c.as_str-shorter.result.now c.args.before.now front c.in_ok-next_back.field-0
    c.in_ok-at.at found.0
    c.utf8.text utf8 c.utf8.before cut c.split_at.ensures.front found.1.1)

pub returns : goal.returns
returns c =
    let cut : c.args.text.now ≡ c.as_str-shorter.result.now ++ encode c.in_ok-next_back.field-0 =
    sym c.chars-shorter.ensures.rest ∙ c.in_ok-next_back.ensures.steps
    ∙ ap (λ t. t ++ encode c.in_ok-next_back.field-0) (sym c.as_str-shorter.ensures) in
    let found = c.in_ok-at.ensures.cases in
    let front = c.split_at.result.0.now in
    let utf8 : IsUtf8 front = subst IsUtf8 (sym c.split_at.ensures.front)
    (IsUtf8-take c.as_str-shorter.result.now c.in_ok-at.at c.as_str-shorter.utf8 found.3) in
    rw c.split_at-2.ensures.back
    (subst (λ (k : ℕ). IsLastCut c.args.text.now c.args.before.now front
    (drop (k + length c.args.before.now) c.args.text.now)) c.split_at.ensures.front_len
    (last_cut c.args.text.now c.as_str-shorter.result.now c.args.before.now front c.in_ok-next_back.field-0
    c.in_ok-at.at found.0
    c.utf8.text c.as_str-shorter.utf8 c.utf8.before utf8 cut c.split_at.ensures.front found.3.0 found.1.1 found.1.0))
