use Rattle.std.proofs.Common.{ap, ◌∙◌, rules}
use Rattle.percent_encoding.specs.Percent.{percent_decode}
use Rattle.fh_script.proofs.Decoding.{text_of-decoded, text_of-bad}
use Rattle.fh_script.proofs.forms.text.Goals as goal

pub returns-in_ok-from_str-in-Ok-Borrowed : goal.returns-in_ok-from_str-in-Ok-Borrowed
returns-in_ok-from_str-in-Ok-Borrowed c =
    let told = rw c.in-Ok-Borrowed.field-0-is at c.in-Ok-Borrowed.ensures in
    text_of-decoded _ _ (search rules) (c.percent_decode.ensures.bytes ∙ ap percent_decode c.as_bytes.ensures.value) _
    told.ok_only_if_utf8 (c.in_ok-from_str-in-Ok-Borrowed.ensures ∙ told.value)

pub returns-in-Ok-Owned : goal.returns-in-Ok-Owned
returns-in-Ok-Owned c =
    let told = rw c.in-Ok-Owned.field-0-is at c.in-Ok-Owned.ensures in
    text_of-decoded _ _ (search rules) (c.percent_decode.ensures.bytes ∙ ap percent_decode c.as_bytes.ensures.value) _
    told.ok_only_if_utf8 (c.new.ensures ∙ told.value)

pub returns-in-Err-Utf8 : goal.returns-in-Err-Utf8
returns-in-Err-Utf8 c = λ other.
    let told = rw c.in-Err-Utf8.field-0-is at c.in-Err-Utf8.ensures in
    text_of-bad _ _ (search rules) (c.percent_decode.ensures.bytes ∙ ap percent_decode c.as_bytes.ensures.value)
    (λ utf8. let memory = told.utf8 utf8 in cc)
