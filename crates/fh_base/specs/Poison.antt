-- The names of poison queues.
use Rattle.std.specs.Prelude.{ℕ, nat_lt, nat_eq, ◌||◌, if◌then◌else◌, List, ◌++◌, length, codes, Option, Some, None}
use Rattle.std.specs.List.{ends_with}

abbrev pub poison_ending : List ℕ
poison_ending = codes "-poison"

-- the name with the ending; none for a name that has it already, or would be too long with it
abbrev pub poison_name : List ℕ → Option (List ℕ)
poison_name name =
    if nat_lt 56 (length name) || ends_with nat_eq name poison_ending then None
    else Some (name ++ poison_ending)
