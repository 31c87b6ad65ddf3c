-- Replacing settings from one pair of percent signs to the next.
use Rattle.std.proofs.Common.{◌≡◌, ◌≢◌, ℕ, ◌<◌, List, [], ◌∷◌, ◌++◌, length, get_or, eqb, ap, sym, ◌∙◌, refl, append_assoc}
use Rattle.std.specs.Prelude.{Result, Ok, Err}
use Rattle.std.specs.List.{slice_split}
use Rattle.fh_exprs.specs.declared.fault.ExprFault.{ExprFault}
use Rattle.fh_exprs.specs.Answers.{joined, mapped}
use Rattle.fh_exprs.specs.Settings.{percent, pieced, replaced, replacement}
use Rattle.fh_exprs.specs.Steps.{IsWithoutSettings, BeginsWithSetting}
use Rattle.fh_exprs.proofs.Cuts.{split_one, split_more, slice_split-ne_nil}

abbrev Lacks : List ℕ → Type 0
Lacks bs = (i : ℕ) → i < length bs → get_or bs i 0 ≢ percent

pieced_pair : (settings : List (List ℕ × List ℕ)) (text name : List ℕ) (pieces : List (List ℕ)) → pieces ≢ []
    → pieced settings (text ∷ name ∷ pieces)
    ≡ joined (λ value rest. text ++ (value ++ rest)) (replacement settings name) (pieced settings pieces)
pieced_pair settings text name [] ne = absurd (ne refl)
pieced_pair settings text name (next ∷ pieces) ne = refl

pub no_sign : (text : List ℕ) → Lacks text → IsWithoutSettings text
unfolding replaced
no_sign text h settings = ap (pieced settings) (split_one percent text h)

pub one_sign : (text before after : List ℕ) → text ≡ before ++ (percent ∷ after) → Lacks before → Lacks after
    → IsWithoutSettings text
unfolding replaced
one_sign text before after e front back settings =
    ap (pieced settings) (split_more percent text before after e front
    ∙ ap (λ ps. before ∷ ps) (split_one percent after back)) ∙ ap Ok (sym e)

pub two_signs : (text before after name rest : List ℕ) → text ≡ before ++ (percent ∷ after) → Lacks before
    → after ≡ name ++ (percent ∷ rest) → Lacks name → BeginsWithSetting text before name rest
unfolding replaced
two_signs text before after name rest e front f back settings =
    ap (pieced settings) (split_more percent text before after e front
    ∙ ap (λ ps. before ∷ ps) (split_more percent after name rest f back))
    ∙ pieced_pair settings before name (slice_split (λ b. eqb b percent) rest) (slice_split-ne_nil percent rest)

-- the loop's step: what was replaced so far, the next plain piece and the setting's value
pub mapped-joined : (done before value : List ℕ) (given more : Result (List ℕ) ExprFault)
    → given ≡ mapped (λ t. done ++ t) (joined (λ v rest. before ++ (v ++ rest)) (Ok value) more)
    → given ≡ mapped (λ t. ((done ++ before) ++ value) ++ t) more
mapped-joined done before value given (Ok rest) e = e
    ∙ ap Ok (sym (append_assoc (done ++ before) value rest ∙ append_assoc done before (value ++ rest)))
mapped-joined done before value given (Err fault) e = e
