-- Where a row stands, or would stand.
use Rattle.std.specs.Prelude.{◌≡◌, ℕ, ◌+◌, ◌<◌, ◌≤◌, List, length, Result, Ok, Err}
use Rattle.std.specs.List.{AllWithin, HoldsAt}
use Rattle.std.specs.declared.cmp.Ordering.{Ordering}
use Rattle.std.specs.declared.cmp.Ordering.TheVariants.{Less, Equal, Greater}

-- the row at this place is there, or it would stand at this place
abbrev pub IsPlace : {Row : Type 0} → (Row → Ordering) → List Row → Result ℕ ℕ → Type 0
IsPlace place rows (Ok i) =
    (i < length rows) × AllWithin (λ row. place row ≡ Less) rows 0 i × HoldsAt (λ row. place row ≡ Equal) rows i
    × AllWithin (λ row. place row ≡ Greater) rows (i + 1) (length rows)
IsPlace place rows (Err i) =
    (i ≤ length rows) × AllWithin (λ row. place row ≡ Less) rows 0 i
    × AllWithin (λ row. place row ≡ Greater) rows i (length rows)
