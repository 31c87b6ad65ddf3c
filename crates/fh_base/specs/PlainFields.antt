-- A plain name as a padded array and a length.
use Rattle.std.specs.Prelude.{◌≡◌, ℕ, List, length, take}
use Rattle.fh_base.specs.PlainNames.{is_plain_name}
use Rattle.fh_base.specs.PaddedNames.{IsPadded, padding, padding-name, length-name}
use Rattle.fh_base.specs.declared.plain_name.PlainName.TheInside.{Inside}

abbrev pub name_of : Inside → List ℕ
name_of a = take a.length a.bytes

abbrev pub IsNamed : Inside → Type 0
IsNamed a = IsPadded 127 is_plain_name a.bytes a.length

abbrev pub padded : List ℕ → Inside
padded text = record { bytes = padding 127 text; length = length text }

pub padded_ok : (a : Inside) → IsNamed a → padded (name_of a) ≡ a
padded_ok a h =
    rw (padding-name 127 a.length a.bytes h.short h.sized h.zeros, length-name 127 a.length a.bytes h.short h.sized)
