-- Values of several forms: each is the byte of its form and the fields of that form, and is read as these.
use Rattle.std.proofs.Common.{◌≡◌, ℕ, ◌^◌, ◌<◌, List, [], ◌∷◌, ◌++◌, Option, Some, None, Ok, refl, sym, ap, subst, ◌∙◌}
use Rattle.std.specs.List.{flat_map, AllByRecursion}
use Rattle.fh_event.specs.Answers.{◌>>=◌}
use Rattle.fh_event.specs.Fields.{Field, number, words, form, masks, flag, spelled, IsField}
use Rattle.fh_event.specs.Settings.{PlainType, number_type, words_type, masks_type, flag_type, HeldPlain}
use Rattle.fh_event.specs.Tables.{Taking}
use Rattle.fh_event.specs.Reading.{byte_at, plain_at, formed}
use Rattle.fh_event.proofs.Steps.{IsBytes, IsBytes-rest, Takes, Takes-one}
use Rattle.fh_event.proofs.FieldLaws.{numbers, texts, mask_lists, flags}
use Rattle.fh_event.proofs.TableLaws.{ReadsFields, one_field, IsTable, variant_takes, variant_again}

abbrev pub plain_field : (type : PlainType) → HeldPlain type → List Field
plain_field number_type n = number n ∷ []
plain_field words_type text = words text ∷ []
plain_field masks_type times = masks times ∷ []
plain_field flag_type b = flag b ∷ []

plain_reads : (type : PlainType) (i : ℕ) → ReadsFields (plain_at type i) (plain_field type)
plain_reads number_type i = one_field number (numbers i)
plain_reads words_type i = one_field words (texts i)
plain_reads masks_type i = one_field masks (mask_lists i)
plain_reads flag_type i = one_field flag (flags i)

-- each form has its byte and its table
pub record HasForms {K X : Type 0} (number_of : K → ℕ) (form_of : X → K) (fields_behind : X → List Field)
    (form_at : ℕ → Option K) (types_of : K → List PlainType) (made : (k : K) → Taking HeldPlain X (types_of k))
    : Type 0 where
  pub table : IsTable plain_field form_of fields_behind types_of made
  pub found : (k : K) → form_at (number_of k) ≡ Some k
  pub numbered : (n : ℕ) (k : K) → form_at n ≡ Some k → number_of k ≡ n
  pub is_byte : (k : K) → number_of k < 2 ^ 8

formed_takes : {K X : Type 0} {number_of : K → ℕ} {form_of : X → K} {fields_behind : X → List Field}
    {form_at : ℕ → Option K} {types_of : K → List PlainType} {made : (k : K) → Taking HeldPlain X (types_of k)}
    → HasForms number_of form_of fields_behind form_at types_of made
    → (i n : ℕ) (o : Option K) (bytes : List ℕ) (x : X × List ℕ) → IsBytes bytes → form_at n ≡ o
    → formed types_of made i o bytes ≡ Ok x
    → Takes (n ∷ bytes) (flat_map spelled (form (number_of (form_of x.0)) ∷ fields_behind x.0)) x.1
    × AllByRecursion IsField (form (number_of (form_of x.0)) ∷ fields_behind x.0)
formed_takes forms i n None bytes x fits is e = absurd cc
formed_takes {K} {X} {number_of} {form_of} {fields_behind} {form_at} {types_of} {made} forms i n (Some f) bytes x
    fits is e =
    let t = variant_takes plain_reads forms.table f 0 i bytes x fits e in
    let number-is : n ≡ number_of (form_of x.0) = sym (forms.numbered n f is) ∙ ap number_of (sym t.kind) in (
      subst (λ (k : ℕ). Takes (k ∷ bytes) (flat_map spelled (form (number_of (form_of x.0)) ∷ fields_behind x.0)) x.1)
          (sym number-is)
          (Takes-one (number_of (form_of x.0)) bytes (flat_map spelled (fields_behind x.0)) x.1 t.taken),
      (forms.is_byte (form_of x.0), t.are_fields),
    )

form_takes : {K X : Type 0} {number_of : K → ℕ} {form_of : X → K} {fields_behind : X → List Field}
    {form_at : ℕ → Option K} {types_of : K → List PlainType} {made : (k : K) → Taking HeldPlain X (types_of k)}
    → HasForms number_of form_of fields_behind form_at types_of made
    → (i : ℕ) (bytes : List ℕ) (x : X × List ℕ) → IsBytes bytes
    → (byte_at i bytes >>= λ b. formed types_of made i (form_at b.0) b.1) ≡ Ok x
    → Takes bytes (flat_map spelled (form (number_of (form_of x.0)) ∷ fields_behind x.0)) x.1
    × AllByRecursion IsField (form (number_of (form_of x.0)) ∷ fields_behind x.0)
unfolding byte_at
form_takes forms i [] x fits e = absurd cc
form_takes {K} {X} {number_of} {form_of} {fields_behind} {form_at} forms i (n ∷ bytes) x fits e =
    formed_takes forms i n (form_at n) bytes x (IsBytes-rest n bytes fits) refl e

form_again : {K X : Type 0} {number_of : K → ℕ} {form_of : X → K} {fields_behind : X → List Field}
    {form_at : ℕ → Option K} {types_of : K → List PlainType} {made : (k : K) → Taking HeldPlain X (types_of k)}
    → HasForms number_of form_of fields_behind form_at types_of made
    → (i : ℕ) (x : X) (rest : List ℕ) → AllByRecursion IsField (form (number_of (form_of x)) ∷ fields_behind x)
    → (byte_at i (flat_map spelled (form (number_of (form_of x)) ∷ fields_behind x) ++ rest)
    >>= λ b. formed types_of made i (form_at b.0) b.1) ≡ Ok (x, rest)
unfolding byte_at
form_again {K} {X} {number_of} {form_of} {fields_behind} {form_at} {types_of} {made} forms i x rest h =
    ap (λ (o : Option K). formed types_of made i o (flat_map spelled (fields_behind x) ++ rest))
    (forms.found (form_of x))
    ∙ variant_again plain_reads forms.table x 0 i rest h.1

pub formed_reads : {K X : Type 0} {number_of : K → ℕ} {form_of : X → K} {fields_behind : X → List Field}
    {form_at : ℕ → Option K} {types_of : K → List PlainType} {made : (k : K) → Taking HeldPlain X (types_of k)}
    → HasForms number_of form_of fields_behind form_at types_of made → (i : ℕ)
    → ReadsFields (λ bytes. byte_at i bytes >>= λ b. formed types_of made i (form_at b.0) b.1)
    (λ x. form (number_of (form_of x)) ∷ fields_behind x)
formed_reads forms i = record {
  takes = λ bytes x fits e. form_takes forms i bytes x fits e;
  again = λ x rest h. form_again forms i x rest h;
}
