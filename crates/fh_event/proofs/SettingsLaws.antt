-- Settings of functions are read as their fields.
use Rattle.std.proofs.Common.{◌≡◌, ℕ, ◌^◌, ◌<◌, eqb, Some, refl, arith}
use Rattle.std.proofs.lemmas.Bool.{eqb-true}
use Rattle.fh_event.specs.declared.settings.FunctionSettings.{FunctionSettings}
use Rattle.fh_event.specs.declared.settings.FunctionSettings.TheVariants.{Queue, Blob, Timer}
use Rattle.fh_event.specs.Settings.{Form, queue_form, blob_form, timer_form, form_number, form_of, fields_behind_form, fields_of_settings, all_forms, form_at, HeldPlain, types_of_form, made_settings}
use Rattle.fh_event.specs.Reading.{settings_at}
use Rattle.fh_event.proofs.TableLaws.{ReadsFields, Values, applied, fields_with, find_passes}
use Rattle.fh_event.proofs.FormLaws.{plain_field, HasForms, formed_reads}

agree : (f : Form) (values : Values HeldPlain (types_of_form f))
    → (form_of (applied HeldPlain (types_of_form f) (made_settings f) values) ≡ f)
    × (fields_behind_form (applied HeldPlain (types_of_form f) (made_settings f) values)
    ≡ fields_with plain_field (types_of_form f) values)
agree queue_form values = (refl, refl)
agree blob_form values = (refl, refl)
agree timer_form values = (refl, refl)

abbrev values_of : (s : FunctionSettings) → Values HeldPlain (types_of_form (form_of s))
values_of (Queue queue batch threshold limit retry singleton) =
    (queue, (batch, (threshold, (limit, (retry, (singleton, tt))))))
values_of (Blob batch threshold limit retry singleton) = (batch, (threshold, (limit, (retry, (singleton, tt)))))
values_of (Timer times startup monitor singleton) = (times, (startup, (monitor, (singleton, tt))))

rebuilt : (s : FunctionSettings)
    → (applied HeldPlain (types_of_form (form_of s)) (made_settings (form_of s)) (values_of s) ≡ s)
    × (fields_with plain_field (types_of_form (form_of s)) (values_of s) ≡ fields_behind_form s)
rebuilt (Queue queue batch threshold limit retry singleton) = (refl, refl)
rebuilt (Blob batch threshold limit retry singleton) = (refl, refl)
rebuilt (Timer times startup monitor singleton) = (refl, refl)

found : (f : Form) → form_at (form_number f) ≡ Some f
unfolding form_at
found queue_form = refl
found blob_form = refl
found timer_form = refl

numbered : (n : ℕ) (f : Form) → form_at n ≡ Some f → form_number f ≡ n
unfolding form_at
numbered n f e = eqb-true _ _ (find_passes (λ (g : Form). eqb (form_number g) n) all_forms f e)

is_byte : (f : Form) → form_number f < 2 ^ 8
is_byte queue_form = omega arith
is_byte blob_form = omega arith
is_byte timer_form = omega arith

forms : HasForms form_number form_of fields_behind_form form_at types_of_form made_settings
forms = record {
  table = record { agrees = agree; values_of = values_of; rebuilt = rebuilt };
  found = found;
  numbered = numbered;
  is_byte = is_byte;
}

pub settings : (i : ℕ) → ReadsFields (settings_at i) fields_of_settings
unfolding settings_at
settings i = formed_reads forms i
