-- The first text of a list that is too long.
use Rattle.std.proofs.Common.{◌≡◌, ℕ, zero, suc, ◌<◌, List, [], ◌∷◌, ◌++◌, length, take, Option, Some, None, refl, slice_index_or, arith}
use Rattle.fh_base.specs.declared.rule.Rule.{Rule}
use Rattle.fh_blobs.specs.declared.ask.NewBlob.{NewBlob}
use Rattle.fh_blobs.specs.Rules.{text_rule, first_of, texts_rule}

fine_parts : (first rest : Option Rule) → first_of first rest ≡ None → (first ≡ None) × (rest ≡ None)
fine_parts None rest is = (refl, is)
fine_parts (Some rule) rest is = absurd (cc)

-- texts in front that are short leave the rule of one behind them
pub texts_rule-refused : (blobs : List NewBlob) (i : ℕ) (d : NewBlob) (rule : Rule) → i < length blobs → texts_rule (take i blobs) ≡ None → text_rule (slice_index_or blobs i d).text ≡ Some rule → texts_rule blobs ≡ Some rule
texts_rule-refused [] i d rule within front refused = absurd (omega (arith, within))
texts_rule-refused (blob ∷ blobs) zero d rule within front refused = rw refused refl
texts_rule-refused (blob ∷ blobs) (suc i) d rule within front refused =
    let parts = fine_parts (text_rule blob.text) (texts_rule (take i blobs)) front in
    rw parts.0 (texts_rule-refused blobs i d rule (omega (arith, within)) parts.1 refused)

pub texts_rule-push : (blobs : List NewBlob) (blob : NewBlob) → texts_rule blobs ≡ None → text_rule blob.text ≡ None → texts_rule (blobs ++ blob ∷ []) ≡ None
texts_rule-push [] blob front last = rw last refl
texts_rule-push (one ∷ blobs) blob front last =
    let parts = fine_parts (text_rule one.text) (texts_rule blobs) front in
    rw parts.0 (texts_rule-push blobs blob parts.1 last)
