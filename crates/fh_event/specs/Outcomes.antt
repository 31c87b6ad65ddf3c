-- The outcome of an invocation: its fields, and the forms of outputs, the byte of each and its fields.
use Rattle.std.specs.Prelude.{⊤, ℕ, ◌==◌, ◌≤◌, true, false, List, [], ◌∷◌, length, Option, find}
use Rattle.std.specs.List.{flat_map}
use Rattle.fh_event.specs.declared.outcome.Outcome.{Outcome}
use Rattle.fh_event.specs.declared.outcome.Outcome.TheVariants.{Failed, Done}
use Rattle.fh_event.specs.declared.outcome.Output.{Output}
use Rattle.fh_event.specs.declared.outcome.Output.TheVariants.{Queue, Blob}
use Rattle.fh_event.specs.Fields.{Field, words, form, flag, item_count, longest_list}
use Rattle.fh_event.specs.Settings.{PlainType, words_type, HeldPlain}
use Rattle.fh_event.specs.Tables.{Taking}

pub data OutputForm : Type 0 where
  queue_output : OutputForm
  blob_output : OutputForm

-- the byte by which entries name the form
abbrev pub output_form_number : OutputForm → ℕ
output_form_number queue_output = 1
output_form_number blob_output = 2

abbrev pub output_form_of : Output → OutputForm
output_form_of (Queue queue text) = queue_output
output_form_of (Blob container blob text) = blob_output

-- the fields behind the byte in order
abbrev pub fields_behind_output_form : Output → List Field
fields_behind_output_form (Queue queue text) = words queue ∷ words text ∷ []
fields_behind_output_form (Blob container blob text) = words container ∷ words blob ∷ words text ∷ []

abbrev pub fields_of_output : Output → List Field
fields_of_output output = form (output_form_number (output_form_of output)) ∷ fields_behind_output_form output

-- how many outputs there are, and the fields of each
abbrev pub fields_of_outputs : List Output → List Field
fields_of_outputs outputs = item_count (length outputs) ∷ flat_map fields_of_output outputs

-- whether it is a success, and then the cause of the failure or the outputs
abbrev pub fields_of_outcome : Outcome → List Field
fields_of_outcome (Failed cause) = flag false ∷ words cause ∷ []
fields_of_outcome (Done outputs) = flag true ∷ fields_of_outputs outputs

abbrev pub all_output_forms : List OutputForm
all_output_forms = queue_output ∷ blob_output ∷ []

-- the form of this byte
unfoldable pub output_form_at : ℕ → Option OutputForm
output_form_at n = find (λ f. output_form_number f == n) all_output_forms

-- the types of the fields, from which an output of the form is read
abbrev pub types_of_output_form : OutputForm → List PlainType
types_of_output_form queue_output = words_type ∷ words_type ∷ []
types_of_output_form blob_output = words_type ∷ words_type ∷ words_type ∷ []

-- the output of the form with its fields
abbrev pub made_output : (f : OutputForm) → Taking HeldPlain Output (types_of_output_form f)
made_output queue_output = λ queue text. Queue queue text
made_output blob_output = λ container blob text. Blob container blob text

-- there aren't too many outputs for an entry
abbrev pub HasShortList : Outcome → Type 0
HasShortList (Failed cause) = ⊤
HasShortList (Done outputs) = length outputs ≤ longest_list
