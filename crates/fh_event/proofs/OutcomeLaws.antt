-- Outcomes of invocations are read as their fields.
use Rattle.std.proofs.Common.{◌≡◌, ℕ, zero, suc, ◌^◌, ◌<◌, ◌≤◌, Bool, true, false, cond, eqb, ltb, List, [], ◌∷◌, ◌++◌, length, Some, Ok, Err, refl, sym, ap, subst, ◌∙◌, append_assoc, arith}
use Rattle.std.specs.List.{flat_map, AllByRecursion}
use Rattle.std.specs.Int.{w32}
use Rattle.std.proofs.lemmas.Grind.{flat_map-append}
use Rattle.std.proofs.lemmas.Bool.{eqb-true, ltb-false, le-ltb}
use Rattle.fh_event.specs.declared.faults.EventFault.TheVariants.{LongField}
use Rattle.fh_event.specs.declared.outcome.Outcome.{Outcome}
use Rattle.fh_event.specs.declared.outcome.Outcome.TheVariants.{Failed, Done}
use Rattle.fh_event.specs.declared.outcome.Output.{Output}
use Rattle.fh_event.specs.declared.outcome.Output.TheVariants.{Queue, Blob}
use Rattle.fh_event.specs.Answers.{◌>>=◌}
use Rattle.fh_event.specs.Fields.{words, longest_list, count_bytes, flag_byte, spelled, IsField}
use Rattle.fh_event.specs.Settings.{HeldPlain}
use Rattle.fh_event.specs.Outcomes.{OutputForm, queue_output, blob_output, output_form_number, output_form_of, fields_behind_output_form, fields_of_output, fields_of_outputs, fields_of_outcome, all_output_forms, output_form_at, types_of_output_form, made_output}
use Rattle.fh_event.specs.Reading.{number_at, text_at, flag_at, output_at, outputs_in_turn, count_at, outputs_at, outcome_behind, outcome_at}
use Rattle.fh_event.proofs.ListLaws.{all_joined, all_first, all_others}
use Rattle.fh_event.proofs.Steps.{bind_ok, passed, ok_is, IsBytes, Takes, Takes-then, Takes-one}
use Rattle.fh_event.proofs.FieldLaws.{wide32, number_takes, number_again, texts, flags}
use Rattle.fh_event.proofs.TableLaws.{ReadsFields, one_field, Values, applied, fields_with, find_passes}
use Rattle.fh_event.proofs.FormLaws.{plain_field, HasForms, formed_reads}

-- ---- an output

agree : (f : OutputForm) (values : Values HeldPlain (types_of_output_form f))
    → (output_form_of (applied HeldPlain (types_of_output_form f) (made_output f) values) ≡ f)
    × (fields_behind_output_form (applied HeldPlain (types_of_output_form f) (made_output f) values)
    ≡ fields_with plain_field (types_of_output_form f) values)
agree queue_output values = (refl, refl)
agree blob_output values = (refl, refl)

abbrev values_of : (o : Output) → Values HeldPlain (types_of_output_form (output_form_of o))
values_of (Queue queue text) = (queue, (text, tt))
values_of (Blob container blob text) = (container, (blob, (text, tt)))

rebuilt : (o : Output)
    → (applied HeldPlain (types_of_output_form (output_form_of o)) (made_output (output_form_of o)) (values_of o) ≡ o)
    × (fields_with plain_field (types_of_output_form (output_form_of o)) (values_of o) ≡ fields_behind_output_form o)
rebuilt (Queue queue text) = (refl, refl)
rebuilt (Blob container blob text) = (refl, refl)

found : (f : OutputForm) → output_form_at (output_form_number f) ≡ Some f
unfolding output_form_at
found queue_output = refl
found blob_output = refl

numbered : (n : ℕ) (f : OutputForm) → output_form_at n ≡ Some f → output_form_number f ≡ n
unfolding output_form_at
numbered n f e = eqb-true _ _ (find_passes (λ (g : OutputForm). eqb (output_form_number g) n) all_output_forms f e)

is_byte : (f : OutputForm) → output_form_number f < 2 ^ 8
is_byte queue_output = omega arith
is_byte blob_output = omega arith

forms : HasForms output_form_number output_form_of fields_behind_output_form output_form_at types_of_output_form
    made_output
forms = record {
  table = record { agrees = agree; values_of = values_of; rebuilt = rebuilt };
  found = found;
  numbered = numbered;
  is_byte = is_byte;
}

an_output : (i : ℕ) → ReadsFields (output_at i) fields_of_output
unfolding output_at
an_output i = formed_reads forms i

-- ---- outputs in turn

-- what so many outputs took
record TakesList (n : ℕ) (bytes : List ℕ) (outputs : List Output) (rest : List ℕ) : Type 0 where
  taken : Takes bytes (flat_map spelled (flat_map fields_of_output outputs)) rest
  are_fields : AllByRecursion IsField (flat_map fields_of_output outputs)
  sized : length outputs ≡ n

turns_take : (i n : ℕ) (bytes : List ℕ) (x : List Output × List ℕ) → IsBytes bytes → outputs_in_turn i n bytes ≡ Ok x
    → TakesList n bytes x.0 x.1
turns_take i zero bytes x fits e =
    subst (λ (y : List Output × List ℕ). TakesList 0 bytes y.0 y.1) (ok_is ([], bytes) x e)
    (record { taken = record { parts = refl; rest_fits = fits }; are_fields = tt; sized = refl })
turns_take i (suc n) bytes x fits e =
    let then = λ (first : Output × List ℕ).
    outputs_in_turn i n first.1 >>= λ others. Ok (first.0 ∷ others.0, others.1) in
    let a = bind_ok (output_at i bytes) then x e in
    let b = bind_ok (outputs_in_turn i n a.0.1) (λ others. Ok (a.0.0 ∷ others.0, others.1)) x a.2 in
    let first = (an_output i).takes bytes a.0 fits a.1 in
    let others = turns_take i n a.0.1 b.0 first.0.rest_fits b.1 in
    let front = fields_of_output a.0.0 in
    let behind = flat_map fields_of_output b.0.0 in
    subst (λ (y : List Output × List ℕ). TakesList (suc n) bytes y.0 y.1) (ok_is (a.0.0 ∷ b.0.0, b.0.1) x b.2)
    (record {
      taken = subst (λ (text : List ℕ). Takes bytes text b.0.1) (sym (flat_map-append spelled front behind))
          (Takes-then bytes (flat_map spelled front) a.0.1 (flat_map spelled behind) b.0.1 first.0 others.taken);
      are_fields = all_joined IsField front behind first.1 others.are_fields;
      sized = ap suc others.sized;
    })

turns_again : (i : ℕ) (outputs : List Output) (rest : List ℕ)
    → AllByRecursion IsField (flat_map fields_of_output outputs)
    → outputs_in_turn i (length outputs) (flat_map spelled (flat_map fields_of_output outputs) ++ rest)
    ≡ Ok (outputs, rest)
turns_again i [] rest h = refl
turns_again i (o ∷ outputs) rest h =
    let front = fields_of_output o in
    let behind = flat_map fields_of_output outputs in
    let first = flat_map spelled front in
    let others = flat_map spelled behind in
    let regrouped : flat_map spelled (front ++ behind) ++ rest ≡ first ++ (others ++ rest)
    = ap (λ (t : List ℕ). t ++ rest) (flat_map-append spelled front behind) ∙ append_assoc first others rest in
    ap (outputs_in_turn i (suc (length outputs))) regrouped
    ∙ rw (
      (an_output i).again o (others ++ rest) (all_first IsField front behind h),
      turns_again i outputs rest (all_others IsField front behind h),
    )
    refl

-- ---- a list of outputs

count_takes : (i : ℕ) (bytes : List ℕ) (x : ℕ × List ℕ) → IsBytes bytes → count_at i bytes ≡ Ok x
    → Takes bytes (count_bytes x.0) x.1 × (x.0 ≤ longest_list)
unfolding count_at count_bytes
count_takes i bytes x fits e =
    let b = bind_ok (number_at w32 i bytes) (λ n. cond (ltb longest_list n.0) (Err (LongField i)) (Ok n)) x e in
    let t = number_takes w32 (2 ^ 32) wide32 i bytes b.0.0 b.0.1 fits b.1 in
    let g = passed (ltb longest_list b.0.0) (LongField i) (Ok b.0) x b.2 in
    subst (λ (y : ℕ × List ℕ). Takes bytes (count_bytes y.0) y.1 × (y.0 ≤ longest_list)) (ok_is b.0 x g.1)
    (t.0, ltb-false _ _ g.0)

count_again : (i n : ℕ) (rest : List ℕ) → n ≤ longest_list → count_at i (count_bytes n ++ rest) ≡ Ok (n, rest)
unfolding count_at count_bytes
count_again i n rest h =
    let few : ltb longest_list n ≡ false = le-ltb _ _ h in
    rw (number_again w32 (2 ^ 32) wide32 i n rest (omega arith), few) refl

list_takes : (i : ℕ) (bytes : List ℕ) (x : List Output × List ℕ) → IsBytes bytes → outputs_at i bytes ≡ Ok x
    → Takes bytes (flat_map spelled (fields_of_outputs x.0)) x.1 × AllByRecursion IsField (fields_of_outputs x.0)
unfolding outputs_at
list_takes i bytes x fits e =
    let b = bind_ok (count_at i bytes) (λ n. outputs_in_turn i n.0 n.1) x e in
    let count = count_takes i bytes b.0 fits b.1 in
    let list = turns_take i b.0.0 b.0.1 x count.0.rest_fits b.2 in
    let behind = flat_map spelled (flat_map fields_of_output x.0) in
    let both = Takes-then bytes (count_bytes b.0.0) b.0.1 behind x.1 count.0 list.taken in (
      subst (λ (k : ℕ). Takes bytes (count_bytes k ++ behind) x.1) (sym list.sized) both,
      (subst (λ (k : ℕ). k ≤ longest_list) (sym list.sized) count.1, list.are_fields),
    )

list_again : (i : ℕ) (outputs : List Output) (rest : List ℕ) → AllByRecursion IsField (fields_of_outputs outputs)
    → outputs_at i (flat_map spelled (fields_of_outputs outputs) ++ rest) ≡ Ok (outputs, rest)
unfolding outputs_at
list_again i outputs rest h =
    let behind = flat_map spelled (flat_map fields_of_output outputs) in
    ap (λ (t : List ℕ). count_at i t >>= λ n. outputs_in_turn i n.0 n.1)
    (append_assoc (count_bytes (length outputs)) behind rest)
    ∙ rw (count_again i (length outputs) (behind ++ rest) h.0) (turns_again i outputs rest h.1)

-- ---- an outcome

-- what an outcome took
abbrev TakesOutcome : List ℕ → Outcome × List ℕ → Type 0
TakesOutcome bytes x =
    Takes bytes (flat_map spelled (fields_of_outcome x.0)) x.1 × AllByRecursion IsField (fields_of_outcome x.0)

behind_takes : (i : ℕ) (success : Bool) (bytes : List ℕ) (x : Outcome × List ℕ) → IsBytes bytes
    → outcome_behind i success bytes ≡ Ok x → TakesOutcome (flag_byte success ∷ bytes) x
behind_takes i false bytes x fits e =
    let b = bind_ok (text_at i bytes) (λ cause. Ok (Failed cause.0, cause.1)) x e in
    let t = (one_field words (texts i)).takes bytes b.0 fits b.1 in
    subst (λ (y : Outcome × List ℕ). TakesOutcome (0 ∷ bytes) y) (ok_is (Failed b.0.0, b.0.1) x b.2)
    (Takes-one 0 bytes (flat_map spelled (words b.0.0 ∷ [])) b.0.1 t.0, (tt, t.1))
behind_takes i true bytes x fits e =
    let b = bind_ok (outputs_at i bytes) (λ outputs. Ok (Done outputs.0, outputs.1)) x e in
    let t = list_takes i bytes b.0 fits b.1 in
    subst (λ (y : Outcome × List ℕ). TakesOutcome (1 ∷ bytes) y) (ok_is (Done b.0.0, b.0.1) x b.2)
    (Takes-one 1 bytes (flat_map spelled (fields_of_outputs b.0.0)) b.0.1 t.0, (tt, t.1))

outcome_takes : (i : ℕ) (bytes : List ℕ) (x : Outcome × List ℕ) → IsBytes bytes → outcome_at i bytes ≡ Ok x
    → TakesOutcome bytes x
unfolding outcome_at
outcome_takes i bytes x fits e =
    let b = bind_ok (flag_at i bytes) (λ success. outcome_behind i success.0 success.1) x e in
    let success = ((flags i).takes bytes b.0 fits b.1).0 in
    let t = behind_takes i b.0.0 b.0.1 x success.rest_fits b.2 in
    (record { parts = success.parts ∙ t.0.parts; rest_fits = t.0.rest_fits }, t.1)

outcome_again : (i : ℕ) (outcome : Outcome) (rest : List ℕ) → AllByRecursion IsField (fields_of_outcome outcome)
    → outcome_at i (flat_map spelled (fields_of_outcome outcome) ++ rest) ≡ Ok (outcome, rest)
unfolding outcome_at flag_at
outcome_again i (Failed cause) rest h = rw ((one_field words (texts i)).again cause rest h.1) refl
outcome_again i (Done outputs) rest h = rw (list_again i outputs rest h.1) refl

pub outcomes : (i : ℕ) → ReadsFields (outcome_at i) fields_of_outcome
outcomes i = record {
  takes = λ bytes x fits e. outcome_takes i bytes x fits e;
  again = λ outcome rest h. outcome_again i outcome rest h;
}
