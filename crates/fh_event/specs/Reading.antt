-- Reading an entry from left to right, with the first fault that is met. A field is answered with the
-- bytes behind it.
use Rattle.std.specs.Prelude.{ℕ, zero, suc, ◌+◌, ◌==◌, nat_lt, Bool, true, false, if◌then◌else◌, List, [], ◌∷◌, length, take, drop, Option, Some, None, Result, Ok, Err}
use Rattle.std.specs.Int.{Width, w32, w64, byte_len, from_be_bytes}
use Rattle.std.specs.Str.{is_utf8}
use Rattle.fh_base.specs.Moments.{greatest_moment}
use Rattle.fh_event.specs.declared.command.Command.{Command}
use Rattle.fh_event.specs.declared.faults.EventFault.{EventFault}
use Rattle.fh_event.specs.declared.faults.EventFault.TheVariants.{BadKind, ShortField, LongField, BadField, Trailing}
use Rattle.fh_event.specs.declared.tables.FieldType.{FieldType}
use Rattle.fh_event.specs.declared.tables.FieldType.TheVariants.{Number, Words, MaybeNumber, MaybeWords, Settings, Outcome as OutcomeType}
use Rattle.fh_event.specs.Answers.{◌>>=◌}
use Rattle.fh_base.specs.Limits.{longest_payload}
use Rattle.fh_event.specs.declared.settings.FunctionSettings.{FunctionSettings}
use Rattle.fh_event.specs.declared.outcome.Outcome.{Outcome}
use Rattle.fh_event.specs.declared.outcome.Outcome.TheVariants.{Failed, Done}
use Rattle.fh_event.specs.declared.outcome.Output.{Output}
use Rattle.fh_event.specs.Fields.{longest_list}
use Rattle.fh_event.specs.Tables.{Taking}
use Rattle.fh_event.specs.Masks.{is_mask, schedule_ranges}
use Rattle.fh_event.specs.Settings.{form_at, PlainType, number_type, words_type, masks_type, flag_type, HeldPlain, types_of_form, made_settings}
use Rattle.fh_event.specs.Outcomes.{output_form_at, types_of_output_form, made_output}
use Rattle.fh_event.specs.Kinds.{Kind, kind_at, types_of, Held, made}

unfoldable pub byte_at : ℕ → List ℕ → Result (ℕ × List ℕ) EventFault
byte_at field [] = Err (ShortField field)
byte_at field (byte ∷ rest) = Ok (byte, rest)

abbrev pub number_at : Width → ℕ → List ℕ → Result (ℕ × List ℕ) EventFault
number_at w field bytes =
    if nat_lt (length bytes) (byte_len w) then Err (ShortField field)
    else Ok (from_be_bytes w (take (byte_len w) bytes), drop (byte_len w) bytes)

-- the text of so many bytes
abbrev pub text_of_length : ℕ → ℕ → List ℕ → Result (List ℕ × List ℕ) EventFault
text_of_length field n bytes =
    if nat_lt longest_payload n then Err (LongField field)
    else (if nat_lt (length bytes) n then Err (ShortField field)
    else (if is_utf8 (take n bytes) then Ok (take n bytes, drop n bytes) else Err (BadField field)))

unfoldable pub text_at : ℕ → List ℕ → Result (List ℕ × List ℕ) EventFault
text_at field bytes = do
  n ← number_at w32 field bytes
  text_of_length field n.0 n.1

-- a byte 0 or 1
unfoldable pub flag_at : ℕ → List ℕ → Result (Bool × List ℕ) EventFault
flag_at field [] = Err (ShortField field)
flag_at field (zero ∷ rest) = Ok (false, rest)
flag_at field (suc zero ∷ rest) = Ok (true, rest)
flag_at field (suc (suc b) ∷ rest) = Err (BadField field)

-- a number that is a mask of the field from low to high
unfoldable pub mask_at : ℕ → ℕ → ℕ → List ℕ → Result (ℕ × List ℕ) EventFault
mask_at low high field bytes = do
  n ← number_at w64 field bytes
  if is_mask low high n.0 then Ok n else Err (BadField field)

-- one mask for each field of a schedule
abbrev pub masks_at : List (ℕ × ℕ) → ℕ → List ℕ → Result (List ℕ × List ℕ) EventFault
masks_at [] field bytes = Ok ([], bytes)
masks_at (range ∷ ranges) field bytes = do
  mask ← mask_at range.0 range.1 field bytes
  masks ← masks_at ranges field mask.1
  Ok (mask.0 ∷ masks.0, masks.1)

abbrev pub behind_flag : {X : Type 0} → (List ℕ → Result (X × List ℕ) EventFault) → Bool → List ℕ
    → Result (Option X × List ℕ) EventFault
behind_flag reader false rest = Ok (None, rest)
behind_flag reader true rest = reader rest >>= λ x. Ok (Some x.0, x.1)

-- a byte 0, or a byte 1 and what the reader reads
unfoldable pub maybe_at : {X : Type 0} → (List ℕ → Result (X × List ℕ) EventFault) → ℕ → List ℕ
    → Result (Option X × List ℕ) EventFault
maybe_at reader field bytes = flag_at field bytes >>= λ flag. behind_flag reader flag.0 flag.1

-- the fields of these types in order: the number of each is that of the one before with a step
abbrev pub taken_at : {T X : Type 0} {Held : T → Type 0}
    → ((type : T) → ℕ → List ℕ → Result (Held type × List ℕ) EventFault)
    → ℕ → (types : List T) → Taking Held X types → ℕ → List ℕ → Result (X × List ℕ) EventFault
taken_at held step [] value field bytes = Ok (value, bytes)
taken_at held step (type ∷ types) taking field bytes =
    held type field bytes >>= λ x. taken_at held step types (taking x.0) (field + step) x.1

abbrev pub plain_at : (type : PlainType) → ℕ → List ℕ → Result (HeldPlain type × List ℕ) EventFault
plain_at number_type field bytes = number_at w64 field bytes
plain_at words_type field bytes = text_at field bytes
plain_at masks_type field bytes = masks_at schedule_ranges field bytes
plain_at flag_type field bytes = flag_at field bytes

-- the fields of a form, which all have the number of this field
abbrev pub formed : {K X : Type 0} (types : K → List PlainType) → ((form : K) → Taking HeldPlain X (types form))
    → ℕ → Option K → List ℕ → Result (X × List ℕ) EventFault
formed types made field None bytes = Err (BadField field)
formed types made field (Some form) bytes = taken_at plain_at 0 (types form) (made form) field bytes

-- the byte of a form, and the fields of that form
unfoldable pub settings_at : ℕ → List ℕ → Result (FunctionSettings × List ℕ) EventFault
settings_at field bytes =
    byte_at field bytes >>= λ form. formed types_of_form made_settings field (form_at form.0) form.1

-- the byte of a form, and the fields of that form
unfoldable pub output_at : ℕ → List ℕ → Result (Output × List ℕ) EventFault
output_at field bytes =
    byte_at field bytes >>= λ form. formed types_of_output_form made_output field (output_form_at form.0) form.1

-- so many outputs
abbrev pub outputs_in_turn : ℕ → ℕ → List ℕ → Result (List Output × List ℕ) EventFault
outputs_in_turn field zero bytes = Ok ([], bytes)
outputs_in_turn field (suc n) bytes = do
  first ← output_at field bytes
  others ← outputs_in_turn field n first.1
  Ok (first.0 ∷ others.0, others.1)

-- how many items a list has
unfoldable pub count_at : ℕ → List ℕ → Result (ℕ × List ℕ) EventFault
count_at field bytes = do
  n ← number_at w32 field bytes
  if nat_lt longest_list n.0 then Err (LongField field) else Ok n

unfoldable pub outputs_at : ℕ → List ℕ → Result (List Output × List ℕ) EventFault
outputs_at field bytes = count_at field bytes >>= λ n. outputs_in_turn field n.0 n.1

abbrev pub outcome_behind : ℕ → Bool → List ℕ → Result (Outcome × List ℕ) EventFault
outcome_behind field false bytes = text_at field bytes >>= λ cause. Ok (Failed cause.0, cause.1)
outcome_behind field true bytes = outputs_at field bytes >>= λ outputs. Ok (Done outputs.0, outputs.1)

-- a byte 0 and the cause, or a byte 1 and the outputs; all fields have the number of this field
unfoldable pub outcome_at : ℕ → List ℕ → Result (Outcome × List ℕ) EventFault
outcome_at field bytes = flag_at field bytes >>= λ success. outcome_behind field success.0 success.1

abbrev pub held_at : (type : FieldType) → ℕ → List ℕ → Result (Held type × List ℕ) EventFault
held_at Number field bytes = number_at w64 field bytes
held_at Words field bytes = text_at field bytes
held_at MaybeNumber field bytes = maybe_at (number_at w64 field) field bytes
held_at MaybeWords field bytes = maybe_at (text_at field) field bytes
held_at Settings field bytes = settings_at field bytes
held_at OutcomeType field bytes = outcome_at field bytes

abbrev pub command_of_kind : ℕ → Option Kind → List ℕ → Result (Command × List ℕ) EventFault
command_of_kind n None bytes = Err (BadKind n)
command_of_kind n (Some kind) bytes = taken_at held_at 1 (types_of kind) (made kind) 1 bytes

-- the command of the kind of this number
unfoldable pub command_at : ℕ → List ℕ → Result (Command × List ℕ) EventFault
command_at n bytes = command_of_kind n (kind_at n) bytes

unfoldable pub moment_at : List ℕ → Result (ℕ × List ℕ) EventFault
moment_at bytes = do
  n ← number_at w64 0 bytes
  if nat_lt greatest_moment n.0 then Err (BadField 0) else Ok n

-- all of the bytes
unfoldable pub entry_read : List ℕ → Result (ℕ × Command) EventFault
entry_read bytes = do
  moment ← moment_at bytes
  kind ← byte_at 0 moment.1
  command ← command_at kind.0 kind.1
  if length command.1 == 0 then Ok (moment.0, command.0) else Err (Trailing (length command.1))
