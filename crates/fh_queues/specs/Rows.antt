-- What a row is at a moment, and lists of rows.
use Rattle.std.specs.Prelude.{◌≡◌, ℕ, ◌==◌, ◌<◌, nat_le, nat_lt, Bool, true, false, not, ◌&&◌, if◌then◌else◌, List, [], ◌∷◌, length, filter, find, Option, Some, None}
use Rattle.std.specs.List.{AllWithin, HoldsAt}
use Rattle.std.specs.Str.{bytes_eq}
use Rattle.fh_queues.specs.declared.row.Message.{Message}

abbrev pub is_before : ℕ → Option ℕ → Bool
is_before m None = true
is_before m (Some end) = nat_lt m end

-- it has no expiry, or a later one
abbrev pub is_live : ℕ → Message → Bool
is_live m row = is_before m row.expiry

abbrev pub is_of : List ℕ → Message → Bool
is_of queue row = bytes_eq row.queue queue

-- in this queue, live, and no longer hidden
abbrev pub is_visible : List ℕ → ℕ → Message → Bool
is_visible queue m row = is_of queue row && nat_le row.visible_at m && is_live m row

-- the visible list of a queue: the rows stand in order of number
abbrev pub visible : List ℕ → ℕ → List Message → List Message
visible queue m rows = filter (is_visible queue m) rows

abbrev pub live : ℕ → List Message → List Message
live m rows = filter (is_live m) rows

abbrev pub is_dead : ℕ → Message → Bool
is_dead m row = not (is_live m row)

abbrev pub dead : ℕ → List Message → List Message
dead m rows = filter (is_dead m) rows

-- the row of this number; each number has one row at most
abbrev pub row_of : ℕ → List Message → Option Message
row_of number rows = find (λ row. row.number == number) rows

-- the row of this number, where it is live
abbrev pub live_row : ℕ → ℕ → List Message → Option Message
live_row number m rows = find (λ row. (row.number == number) && is_live m row) rows

-- the live row of this number in this queue
abbrev pub row_in : List ℕ → ℕ → ℕ → List Message → Option Message
row_in queue number m rows = find (λ row. (row.number == number) && is_of queue row && is_live m row) rows

-- the row of this number is changed
abbrev pub with_change : ℕ → (Message → Message) → List Message → List Message
with_change number change [] = []
with_change number change (row ∷ rows) =
    if row.number == number then change row ∷ rows else row ∷ with_change number change rows

-- the first row of this number stands at this place, or none has the number
abbrev pub IsPlaceOf : ℕ → List Message → Option ℕ → Type 0
IsPlaceOf number rows None = AllWithin (λ row. (row.number == number) ≡ false) rows 0 (length rows)
IsPlaceOf number rows (Some place) =
    (place < length rows) × HoldsAt (λ row. (row.number == number) ≡ true) rows place
    × AllWithin (λ row. (row.number == number) ≡ false) rows 0 place
