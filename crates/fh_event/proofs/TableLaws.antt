-- Tables of fields: what is read by one is a value with these fields, and these are read again.
use Rattle.std.proofs.Common.{◌≡◌, ℕ, ◌+◌, Bool, true, false, cond, List, [], ◌∷◌, ◌++◌, Option, Some, Result, Ok, refl, sym, ap, subst, ◌∙◌, append_assoc}
use Rattle.std.specs.Prelude.{find}
use Rattle.std.specs.List.{flat_map, AllByRecursion}
use Rattle.std.proofs.lemmas.Grind.{flat_map-append}
use Rattle.std.proofs.lemmas.List.{append-nil}
use Rattle.fh_event.specs.declared.faults.EventFault.{EventFault}
use Rattle.fh_event.specs.Answers.{◌>>=◌}
use Rattle.fh_event.specs.Fields.{Field, spelled, IsField}
use Rattle.fh_event.specs.Tables.{Taking}
use Rattle.fh_event.specs.Reading.{taken_at}
use Rattle.fh_event.proofs.ListLaws.{all_joined, all_first, all_others}
use Rattle.fh_event.proofs.Steps.{bind_ok, ok_is, IsBytes, Takes, Takes-then}
use Rattle.fh_event.proofs.FieldLaws.{Reads}

-- ---- values that are some fields

-- the reader reads values that are these fields
abbrev pub ReadsFields : {X : Type 0} → (List ℕ → Result (X × List ℕ) EventFault) → (X → List Field) → Type 0
ReadsFields reader fields = Reads reader (λ v. flat_map spelled (fields v)) (λ v. AllByRecursion IsField (fields v))

pub one_field : {X : Type 0} {reader : List ℕ → Result (X × List ℕ) EventFault} (field : X → Field)
    → Reads reader (λ v. spelled (field v)) (λ v. IsField (field v)) → ReadsFields reader (λ v. field v ∷ [])
one_field {X} {reader} field reads = record {
  takes = λ bytes x fits e.
      let t = reads.takes bytes x fits e in
      (subst (λ (text : List ℕ). Takes bytes text x.1) (sym (append-nil (spelled (field x.0)))) t.0, (t.1, tt));
  again = λ v rest h.
      ap (λ (text : List ℕ). reader (text ++ rest)) (append-nil (spelled (field v))) ∙ reads.again v rest h.0;
}

-- ---- the fields of a table

abbrev pub Values : {T : Type 0} → (T → Type 0) → List T → Type 0
Values Holds [] = Unit {0}
Values Holds (type ∷ types) = Holds type × Values Holds types

abbrev pub applied : {T X : Type 0} (Holds : T → Type 0) (types : List T) → Taking Holds X types → Values Holds types → X
applied Holds [] value values = value
applied Holds (type ∷ types) taking values = applied Holds types (taking values.0) values.1

abbrev pub fields_with : {T : Type 0} {Holds : T → Type 0} → ((type : T) → Holds type → List Field) → (types : List T) → Values Holds types → List Field
fields_with fields [] values = []
fields_with fields (type ∷ types) values = fields type values.0 ++ fields_with fields types values.1

-- what the fields of a table took
record TakesFields {T X : Type 0} {Holds : T → Type 0} (fields : (type : T) → Holds type → List Field) (types : List T)
    (taking : Taking Holds X types) (bytes : List ℕ) (value : X) (rest : List ℕ) : Type 0 where
  values : Values Holds types
  value_is : applied Holds types taking values ≡ value
  taken : Takes bytes (flat_map spelled (fields_with fields types values)) rest
  are_fields : AllByRecursion IsField (fields_with fields types values)

-- each type's values are read as their fields
abbrev pub ReadsAll : {T : Type 0} {Holds : T → Type 0} → ((type : T) → ℕ → List ℕ → Result (Holds type × List ℕ) EventFault)
    → ((type : T) → Holds type → List Field) → Type 0
ReadsAll {T} held fields = (type : T) (i : ℕ) → ReadsFields (held type i) (fields type)

fields_take : {T X : Type 0} {Holds : T → Type 0} {held : (type : T) → ℕ → List ℕ → Result (Holds type × List ℕ) EventFault}
    {fields : (type : T) → Holds type → List Field} → ReadsAll held fields
    → (step : ℕ) (types : List T) (taking : Taking Holds X types) (i : ℕ) (bytes : List ℕ) (x : X × List ℕ) → IsBytes bytes
    → taken_at held step types taking i bytes ≡ Ok x → TakesFields fields types taking bytes x.0 x.1
fields_take {T} {X} {Holds} {held} {fields} reads step [] value i bytes x fits e =
    subst (λ (y : X × List ℕ). TakesFields fields [] value bytes y.0 y.1) (ok_is (value, bytes) x e)
    (record { values = tt; value_is = refl; taken = record { parts = refl; rest_fits = fits }; are_fields = tt })
fields_take {T} {X} {Holds} {held} {fields} reads step (type ∷ types) taking i bytes x fits e =
    let b = bind_ok (held type i bytes) (λ v. taken_at held step types (taking v.0) (i + step) v.1) x e in
    let first = (reads type i).takes bytes b.0 fits b.1 in
    let others = fields_take reads step types (taking b.0.0) (i + step) b.0.1 x first.0.rest_fits b.2 in
    let front = fields type b.0.0 in
    let behind = fields_with fields types others.values in
    record {
      values = (b.0.0, others.values);
      value_is = others.value_is;
      taken = subst (λ (text : List ℕ). Takes bytes text x.1) (sym (flat_map-append spelled front behind))
          (Takes-then bytes (flat_map spelled front) b.0.1 (flat_map spelled behind) x.1 first.0 others.taken);
      are_fields = all_joined IsField front behind first.1 others.are_fields;
    }

fields_again : {T X : Type 0} {Holds : T → Type 0} {held : (type : T) → ℕ → List ℕ → Result (Holds type × List ℕ) EventFault}
    (fields : (type : T) → Holds type → List Field) → ReadsAll held fields
    → (step : ℕ) (types : List T) (taking : Taking Holds X types) (i : ℕ) (values : Values Holds types) (rest : List ℕ)
    → AllByRecursion IsField (fields_with fields types values)
    → taken_at held step types taking i (flat_map spelled (fields_with fields types values) ++ rest) ≡ Ok (applied Holds types taking values, rest)
fields_again {T} {X} {Holds} {held} fields reads step [] value i values rest h = refl
fields_again {T} {X} {Holds} {held} fields reads step (type ∷ types) taking i values rest h =
    let front = fields type values.0 in
    let behind = fields_with fields types values.1 in
    let regrouped : flat_map spelled (front ++ behind) ++ rest ≡ flat_map spelled front ++ (flat_map spelled behind ++ rest)
    = ap (λ (t : List ℕ). t ++ rest) (flat_map-append spelled front behind) ∙ append_assoc (flat_map spelled front) (flat_map spelled behind) rest in
    ap (taken_at held step (type ∷ types) taking i) regrouped
    ∙ ap (λ (r : Result (Holds type × List ℕ) EventFault). r >>= λ x. taken_at held step types (taking x.0) (i + step) x.1)
    ((reads type i).again values.0 (flat_map spelled behind ++ rest) (all_first IsField front behind h))
    ∙ fields_again fields reads step types (taking values.0) (i + step) values.1 rest (all_others IsField front behind h)

-- ---- values of several kinds

-- what the table of a kind makes is a value of the kind with these fields, and each value is what its table makes
pub record IsTable {T K X : Type 0} {Holds : T → Type 0} (fields : (type : T) → Holds type → List Field)
    (kind_of : X → K) (fields_of : X → List Field) (types_of : K → List T) (made : (k : K) → Taking Holds X (types_of k)) : Type 0 where
  pub agrees : (k : K) (values : Values Holds (types_of k))
      → (kind_of (applied Holds (types_of k) (made k) values) ≡ k)
      × (fields_of (applied Holds (types_of k) (made k) values) ≡ fields_with fields (types_of k) values)
  pub values_of : (x : X) → Values Holds (types_of (kind_of x))
  pub rebuilt : (x : X) → (applied Holds (types_of (kind_of x)) (made (kind_of x)) (values_of x) ≡ x)
      × (fields_with fields (types_of (kind_of x)) (values_of x) ≡ fields_of x)

-- what the fields of a value of the kind took
pub record TakesVariant {K X : Type 0} (kind_of : X → K) (fields_of : X → List Field) (k : K) (bytes : List ℕ) (x : X) (rest : List ℕ) : Type 0 where
  pub kind : kind_of x ≡ k
  pub taken : Takes bytes (flat_map spelled (fields_of x)) rest
  pub are_fields : AllByRecursion IsField (fields_of x)

pub variant_takes : {T K X : Type 0} {Holds : T → Type 0} {held : (type : T) → ℕ → List ℕ → Result (Holds type × List ℕ) EventFault}
    {fields : (type : T) → Holds type → List Field} {kind_of : X → K} {fields_of : X → List Field} {types_of : K → List T}
    {made : (k : K) → Taking Holds X (types_of k)} → ReadsAll held fields → IsTable fields kind_of fields_of types_of made
    → (k : K) (step i : ℕ) (bytes : List ℕ) (x : X × List ℕ) → IsBytes bytes
    → taken_at held step (types_of k) (made k) i bytes ≡ Ok x → TakesVariant kind_of fields_of k bytes x.0 x.1
variant_takes {T} {K} {X} {Holds} {held} {fields} {kind_of} {fields_of} {types_of} {made} reads table k step i bytes x fits e =
    let t = fields_take reads step (types_of k) (made k) i bytes x fits e in
    let a = table.agrees k t.values in
    let fields-are : fields_of x.0 ≡ fields_with fields (types_of k) t.values = ap fields_of (sym t.value_is) ∙ a.1 in
    record {
      kind = ap kind_of (sym t.value_is) ∙ a.0;
      taken = subst (λ (fs : List Field). Takes bytes (flat_map spelled fs) x.1) (sym fields-are) t.taken;
      are_fields = subst (λ (fs : List Field). AllByRecursion IsField fs) (sym fields-are) t.are_fields;
    }

pub variant_again : {T K X : Type 0} {Holds : T → Type 0} {held : (type : T) → ℕ → List ℕ → Result (Holds type × List ℕ) EventFault}
    {fields : (type : T) → Holds type → List Field} {kind_of : X → K} {fields_of : X → List Field} {types_of : K → List T}
    {made : (k : K) → Taking Holds X (types_of k)} → ReadsAll held fields → IsTable fields kind_of fields_of types_of made
    → (x : X) (step i : ℕ) (rest : List ℕ) → AllByRecursion IsField (fields_of x)
    → taken_at held step (types_of (kind_of x)) (made (kind_of x)) i (flat_map spelled (fields_of x) ++ rest) ≡ Ok (x, rest)
variant_again {T} {K} {X} {Holds} {held} {fields} {kind_of} {fields_of} {types_of} {made} reads table x step i rest h =
    let types = types_of (kind_of x) in
    let built = table.rebuilt x in
    let are-fields : AllByRecursion IsField (fields_with fields types (table.values_of x)) = subst (λ (fs : List Field). AllByRecursion IsField fs) (sym built.1) h in
    ap (λ (fs : List Field). taken_at held step types (made (kind_of x)) i (flat_map spelled fs ++ rest)) (sym built.1)
    ∙ fields_again fields reads step types (made (kind_of x)) i (table.values_of x) rest are-fields
    ∙ ap (λ (y : X). Ok (y, rest)) built.0

-- ---- a kind by its number

find_step : {X : Type 0} (p : X → Bool) (b : Bool) (y x : X) (r : Option X) → p y ≡ b → (r ≡ Some x → p x ≡ true)
    → cond b (Some y) r ≡ Some x → p x ≡ true
find_step p true y x r is others e = let same : y ≡ x = cc in ap p (sym same) ∙ is
find_step p false y x r is others e = others e

-- what is found passes
pub find_passes : {X : Type 0} (p : X → Bool) (xs : List X) (x : X) → find p xs ≡ Some x → p x ≡ true
find_passes p [] x e = absurd cc
find_passes p (y ∷ ys) x e = find_step p (p y) y x (find p ys) refl (find_passes p ys x) e
