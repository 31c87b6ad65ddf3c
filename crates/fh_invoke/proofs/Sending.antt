-- Outputs that are pushed as long as there is room are the first ones of what is sent.
use Rattle.std.proofs.Common.{◌≡◌, ◌<◌, ◌≤◌, ◌==◌, ℕ, true, false, zero, suc, Bool, List, [], ◌∷◌, ◌++◌, length, get_or}
use Rattle.std.proofs.Common.{take, ◌+◌, arith, refl, Ok, sym, ap, ◌∙◌, map, drop}
use Rattle.std.proofs.lemmas.Bool.{true≢false}
use Rattle.std.proofs.lemmas.Bool.Decides.{nat_tests}
use Rattle.std.proofs.lemmas.List.{append_assoc, append-nil, drop_more}
use Rattle.serde_json.specs.Data.{Data}
use Rattle.serde_json.specs.View.{items_of, view}
use Rattle.serde_json.specs.declared.value.Value.{Value}
use Rattle.fh_app.specs.Rows.{list_of}
use Rattle.fh_app.proofs.Lists as lists
use Rattle.fh_event.specs.declared.outcome.Output.{Output}
use Rattle.fh_app.specs.declared.function.OutBinding.{OutBinding}
use Rattle.fh_exprs.specs.declared.values.Values.{Values}
use Rattle.fh_invoke.specs.Outputs.{Sent, IsOutputOf, AreOutputsOf, AreFirstOf, SendsMore, place_of, sent_by, sent_to}

pub list_of_items : (ds : List Data) → list_of (items_of ds) ≡ ds
list_of_items ds = lists.list_of_items ds

pub one_more : (base64 : Bool) (n : ℕ) (s : Sent) (o : Output) (before : List Sent) (old : List Output)
    → AreOutputsOf base64 (take n before) old → length old < n → IsOutputOf base64 s o
    → AreOutputsOf base64 (take n (before ++ s ∷ [])) (old ++ o ∷ [])
one_more base64 zero s o before old are room is = absurd (omega (arith, room))
one_more base64 (suc zero) s o [] [] are room is = (is, tt)
one_more base64 (suc (suc n)) s o [] [] are room is = (is, tt)
one_more base64 (suc n) s o [] (x ∷ old) are room is = absurd are
one_more base64 (suc n) s o (t ∷ before) [] are room is = absurd are
one_more base64 (suc n) s o (t ∷ before) (x ∷ old) are room is =
    (are.0, one_more base64 n s o before old are.1 (omega (arith, room)) is)

pub no_more : (base64 : Bool) (n : ℕ) (more before : List Sent) (old : List Output)
    → AreOutputsOf base64 (take n before) old → n ≤ length old
    → AreOutputsOf base64 (take n (before ++ more)) old
no_more base64 zero more before old are full = are
no_more base64 (suc n) more [] [] are full = absurd (omega (arith, full))
no_more base64 (suc n) more [] (x ∷ old) are full = absurd are
no_more base64 (suc n) more (t ∷ before) [] are full = absurd are
no_more base64 (suc n) more (t ∷ before) (x ∷ old) are full =
    (are.0, no_more base64 n more before old are.1 (omega (arith, full)))

-- the next value is sent behind those before it
pub sent_next : (sent : List Sent) (binding : OutBinding) (place : List ℕ) (values : List Value) (i : ℕ) (value : Value)
    → i < length values → value ≡ get_or values i value
    → sent ++ sent_to binding place (map view (drop i values))
    ≡ (sent ++ sent_to binding place (view value ∷ [])) ++ sent_to binding place (map view (drop (i + 1) values))
sent_next sent binding place values i value within is =
    ap (λ (left : List Value). sent ++ sent_to binding place (map view left))
    (drop_more values i value within ∙ ap (λ (v : Value). v ∷ drop (i + 1) values) (sym is))
    ∙ sym (append_assoc sent (sent_to binding place (view value ∷ [])) _)

-- a binding without a value sends nothing
pub nothing_more : (base64 : Bool) (known : Values) (binding : OutBinding) (given : List Value) (outputs : List Output)
    → (length given == 0) ≡ true
    → SendsMore base64 (sent_by known binding (map view given)) outputs outputs (Ok tt)
nothing_more base64 known binding [] outputs none = ([], refl, λ before are. rw (append-nil before) are)
nothing_more base64 known binding (value ∷ given) outputs none = absurd (grind (arith, nat_tests))

-- a binding with values sends them to its place
pub these_more : (base64 : Bool) (known : Values) (binding : OutBinding) (given : List Value) (place : List ℕ)
    (old new : List Output) → (length given == 0) ≡ false → place_of known binding ≡ Ok place
    → ((before : List Sent) → AreFirstOf base64 before old
    → AreFirstOf base64 (before ++ sent_to binding place (map view given)) new)
    → SendsMore base64 (sent_by known binding (map view given)) old new (Ok tt)
these_more base64 known binding [] place old new some placed pushed = absurd (true≢false some)
these_more base64 known binding (value ∷ given) place old new some placed pushed =
    (sent_to binding place (map view (value ∷ given)), rw placed refl, pushed)
