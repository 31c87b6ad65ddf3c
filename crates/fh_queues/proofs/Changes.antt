-- What a change of one row comes to, by the place of the row.
use Rattle.std.proofs.Common.{◌≡◌, ℕ, zero, suc, ◌<◌, true, false, List, [], ◌∷◌, length, refl, ap, slice_index_or, slice_set, arith}
use Rattle.std.specs.Prelude.{◌==◌}
use Rattle.std.specs.List.{AllWithin, HoldsAt}
use Rattle.fh_queues.specs.declared.row.Message.{Message}
use Rattle.fh_queues.specs.Rows.{with_change}

-- no row of the number before this place
abbrev HasNoneBefore : ℕ → List Message → ℕ → Type 0
HasNoneBefore number rows place = AllWithin (λ row. (row.number == number) ≡ false) rows 0 place

none_behind : (number : ℕ) (row : Message) (rows : List Message) (place : ℕ) → HasNoneBefore number (row ∷ rows) (suc place) → HasNoneBefore number rows place
none_behind number row rows place none k d low high = none (suc k) d (omega arith) (omega arith)

first_differs : (number : ℕ) (row : Message) (rows : List Message) (place : ℕ) → HasNoneBefore number (row ∷ rows) (suc place) → (row.number == number) ≡ false
first_differs number row rows place none = none 0 row (omega arith) (omega arith)

pub with_change-none : (number : ℕ) (change : Message → Message) (rows : List Message) → HasNoneBefore number rows (length rows) → with_change number change rows ≡ rows
with_change-none number change [] none = refl
with_change-none number change (row ∷ rows) none =
    rw (first_differs number row rows (length rows) none) (ap (λ more. row ∷ more) (with_change-none number change rows (none_behind number row rows (length rows) none)))

pub with_change-at : (number : ℕ) (change : Message → Message) (rows : List Message) (place : ℕ) (d : Message) → place < length rows → HoldsAt (λ row. (row.number == number) ≡ true) rows place → HasNoneBefore number rows place → with_change number change rows ≡ slice_set rows place (change (slice_index_or rows place d))
with_change-at number change [] place d within at none = absurd (omega (arith, within))
with_change-at number change (row ∷ rows) zero d within at none = rw (at row) refl
with_change-at number change (row ∷ rows) (suc place) d within at none =
    rw (first_differs number row rows place none)
    (ap (λ more. row ∷ more) (with_change-at number change rows place d (omega (arith, within)) at (none_behind number row rows place none)))
