-- Rows stand in order of number, and queues in order of bytes.
use Rattle.std.specs.Prelude.{ℕ, nat_lt, Bool, true, ◌&&◌, if◌then◌else◌, List, [], ◌∷◌}
use Rattle.std.specs.Cmp.Lexicographic.{slice_cmp}
use Rattle.std.specs.List.{list_all}
use Rattle.std.specs.Ordering.{nat_cmp, is_lt}
use Rattle.std.specs.Str.{bytes_eq}
use Rattle.fh_event.specs.declared.reply.Item.{Item}
use Rattle.fh_queues.specs.declared.row.Message.{Message}

-- each number is above the one before it
abbrev pub are_rising : ℕ → List Message → Bool
are_rising low [] = true
are_rising low (row ∷ rows) = nat_lt low row.number && are_rising row.number rows

-- so do the items of an answer
abbrev pub are_listed : ℕ → List Item → Bool
are_listed low [] = true
are_listed low (item ∷ items) = nat_lt low item.number && are_listed item.number items

-- the first byte that differs is less, or there is none and the first name is the shorter one
abbrev pub comes_before : List ℕ → List ℕ → Bool
comes_before name other = is_lt (slice_cmp nat_cmp name other)

-- each name comes before all behind it
abbrev pub are_in_order : List (List ℕ) → Bool
are_in_order [] = true
are_in_order (name ∷ names) = list_all (comes_before name) names && are_in_order names

-- the name is at its place among names in order; where it is there already, nothing changes
abbrev pub with_name : List ℕ → List (List ℕ) → List (List ℕ)
with_name name [] = name ∷ []
with_name name (first ∷ names) =
    if comes_before first name then first ∷ with_name name names
    else if bytes_eq first name then first ∷ names else name ∷ first ∷ names
