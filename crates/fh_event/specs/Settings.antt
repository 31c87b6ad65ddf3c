-- The forms of a function's settings: the byte of each, and its fields.
use Rattle.std.specs.Prelude.{◌≡◌, ⊤, ℕ, ◌==◌, Bool, true, List, [], ◌∷◌, Option, find}
use Rattle.fh_event.specs.declared.settings.FunctionSettings.{FunctionSettings}
use Rattle.fh_event.specs.declared.settings.FunctionSettings.TheVariants.{Queue, Blob, Timer}
use Rattle.fh_event.specs.Masks.{schedule_ranges, are_masks}
use Rattle.fh_event.specs.Fields.{Field, number, words, form, masks, flag}
use Rattle.fh_event.specs.Tables.{Taking}

pub data Form : Type 0 where
  queue_form : Form
  blob_form : Form
  timer_form : Form

-- the byte by which entries name the form
abbrev pub form_number : Form → ℕ
form_number queue_form = 1
form_number blob_form = 2
form_number timer_form = 3

abbrev pub form_of : FunctionSettings → Form
form_of (Queue queue batch threshold limit retry singleton) = queue_form
form_of (Blob batch threshold limit retry singleton) = blob_form
form_of (Timer times startup monitor singleton) = timer_form

-- the fields behind the byte in order
abbrev pub fields_behind_form : FunctionSettings → List Field
fields_behind_form (Queue queue batch threshold limit retry singleton) =
    words queue ∷ number batch ∷ number threshold ∷ number limit ∷ number retry ∷ number singleton ∷ []
fields_behind_form (Blob batch threshold limit retry singleton) =
    number batch ∷ number threshold ∷ number limit ∷ number retry ∷ number singleton ∷ []
fields_behind_form (Timer times startup monitor singleton) =
    masks times ∷ flag startup ∷ flag monitor ∷ number singleton ∷ []

abbrev pub fields_of_settings : FunctionSettings → List Field
fields_of_settings settings = form (form_number (form_of settings)) ∷ fields_behind_form settings

abbrev pub all_forms : List Form
all_forms = queue_form ∷ blob_form ∷ timer_form ∷ []

-- the form of this byte
unfoldable pub form_at : ℕ → Option Form
form_at n = find (λ f. form_number f == n) all_forms

-- the types that the fields of settings have
pub data PlainType : Type 0 where
  number_type : PlainType
  words_type : PlainType
  masks_type : PlainType
  flag_type : PlainType

abbrev pub HeldPlain : PlainType → Type 0
HeldPlain number_type = ℕ
HeldPlain words_type = List ℕ
HeldPlain masks_type = List ℕ
HeldPlain flag_type = Bool

-- the types of the fields, from which settings of the form are read
abbrev pub types_of_form : Form → List PlainType
types_of_form queue_form =
    words_type ∷ number_type ∷ number_type ∷ number_type ∷ number_type ∷ number_type ∷ []
types_of_form blob_form = number_type ∷ number_type ∷ number_type ∷ number_type ∷ number_type ∷ []
types_of_form timer_form = masks_type ∷ flag_type ∷ flag_type ∷ number_type ∷ []

-- the settings of the form with their fields
abbrev pub made_settings : (f : Form) → Taking HeldPlain FunctionSettings (types_of_form f)
made_settings queue_form =
    λ queue batch threshold limit retry singleton. Queue queue batch threshold limit retry singleton
made_settings blob_form = λ batch threshold limit retry singleton. Blob batch threshold limit retry singleton
made_settings timer_form = λ times startup monitor singleton. Timer times startup monitor singleton

-- the masks of a timer have numbers of their fields
abbrev pub HasGoodMasks : FunctionSettings → Type 0
HasGoodMasks (Timer times startup monitor singleton) = are_masks schedule_ranges times ≡ true
HasGoodMasks settings = ⊤
