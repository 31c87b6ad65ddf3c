-- A queue name as a padded array and a length.
use Rattle.std.specs.Prelude.{◌≡◌, ℕ, List, length, take}
use Rattle.fh_base.specs.Names.{is_queue_name}
use Rattle.fh_base.specs.PaddedNames.{IsPadded, padding, padding-name, length-name}
use Rattle.fh_base.specs.declared.queue_name.QueueName.TheInside.{Inside}

abbrev pub name_of : Inside → List ℕ
name_of a = take a.length a.bytes

abbrev pub IsNamed : Inside → Type 0
IsNamed a = IsPadded 63 is_queue_name a.bytes a.length

abbrev pub padded : List ℕ → Inside
padded text = record { bytes = padding 63 text; length = length text }

pub padded_ok : (a : Inside) → IsNamed a → padded (name_of a) ≡ a
padded_ok a h =
    rw (padding-name 63 a.length a.bytes h.short h.sized h.zeros, length-name 63 a.length a.bytes h.short h.sized)
