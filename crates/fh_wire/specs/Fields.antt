-- What the fields of a head, each a name and a value, say of the body behind it.
use Rattle.std.specs.Prelude.{ℕ, ◌==◌, Bool, true, false, not, ◌||◌, if◌then◌else◌, List, codes, Option, Some, None, Result, Ok, Err}
use Rattle.std.specs.List.{fold, list_all}
use Rattle.std.specs.Char.{is_ascii}
use Rattle.std.specs.Str.{str_eq_ignore_ascii_case}
use Rattle.fh_base.specs.Numbers.{number_of}
use Rattle.fh_wire.specs.declared.fault.WireFault.{WireFault}
use Rattle.fh_wire.specs.declared.fault.WireFault.TheVariants.{BadHead, BadLength, Chunked, Coded}
use Rattle.fh_wire.specs.declared.fields.FieldKind.{FieldKind}
use Rattle.fh_wire.specs.declared.fields.FieldKind.TheVariants.{TransferEncoding, ContentEncoding, ContentLength, Other}
use Rattle.fh_wire.specs.declared.fields.Framing.{Framing}

unfoldable pub kind_of : List ℕ → FieldKind
kind_of name =
    if str_eq_ignore_ascii_case (codes "transfer-encoding") name then TransferEncoding
    else if str_eq_ignore_ascii_case (codes "content-encoding") name then ContentEncoding
    else if str_eq_ignore_ascii_case (codes "content-length") name then ContentLength
    else Other

-- a length is there that a length before doesn't gainsay
abbrev pub agree : Option ℕ → Option ℕ → Bool
agree before None = false
agree None (Some second) = true
agree (Some first) (Some second) = first == second

-- no field was seen
abbrev pub plain : Framing
plain = record { wide = false; chunked = false; coded = false; unread = false; length = None }

-- with one more value of a field of this kind
abbrev pub noted_as : FieldKind → Framing → List ℕ → Framing
noted_as Other s value = s
noted_as TransferEncoding s value = record s { wide = s.wide || not (list_all is_ascii value); chunked = true }
noted_as ContentEncoding s value = record s {
  wide = s.wide || not (list_all is_ascii value);
  coded = s.coded || not (str_eq_ignore_ascii_case (codes "identity") value);
}
noted_as ContentLength s value = record s {
  wide = s.wide || not (list_all is_ascii value);
  unread = s.unread || not (agree s.length (number_of value));
  length = number_of value;
}

-- with one more field
abbrev pub noted : Framing → List ℕ × List ℕ → Framing
noted s field = noted_as (kind_of field.0) s field.1

abbrev pub framing : List (List ℕ × List ℕ) → Framing
framing fields = fold noted plain fields

-- the length of the body where one is stated, or the first fault
abbrev pub stated : Framing → Result (Option ℕ) WireFault
stated s =
    if s.wide then Err BadHead
    else if s.chunked then Err Chunked
    else if s.coded then Err Coded
    else if s.unread then Err BadLength
    else Ok s.length
