-- Lists of rows in order, each key once.
use Rattle.std.specs.Prelude.{◌≡◌, ℕ, Bool, true, ◌&&◌, List, [], ◌∷◌, ◌++◌, find, filter, map, if◌then◌else◌, Option}
use Rattle.std.specs.List.{list_all}
use Rattle.std.specs.Ordering.{is_lt, is_eq, is_ne, is_gt}
use Rattle.std.specs.declared.cmp.Ordering.{Ordering}
use Rattle.std.specs.declared.cmp.Ordering.TheVariants.{Less, Equal}

-- the rows, and for how many more there is room
pub record RowsState (Row : Type 0) : Type 0 where
  pub rows : List Row
  pub room : ℕ

module _ {Row : Type 0} (place : Row → Ordering) where
  -- the row there
  abbrev pub row_at : List Row → Option Row
  row_at rows = find (λ row. is_eq (place row)) rows

  -- all rows there
  abbrev pub rows_at : List Row → List Row
  rows_at rows = filter (λ row. is_eq (place row)) rows

  -- this row there, behind those that come before and before those that come behind
  abbrev pub with_row_at : Row → List Row → List Row
  with_row_at new rows = filter (λ row. is_lt (place row)) rows ++ new ∷ filter (λ row. is_gt (place row)) rows

  -- the row there, changed so
  abbrev pub with_change_at : (Row → Row) → List Row → List Row
  with_change_at change rows = map (λ row. if is_eq (place row) then change row else row) rows

  -- no row there
  abbrev pub without_row_at : List Row → List Row
  without_row_at rows = filter (λ row. is_ne (place row)) rows

module _ {Row : Type 0} (order : Row → Row → Ordering) where
  -- this row in its place, instead of one with the same key
  abbrev pub with_row : Row → List Row → List Row
  with_row new rows = with_row_at (λ row. order row new) new rows

  -- each row stands before those behind it
  abbrev pub are_in_order : List Row → Bool
  are_in_order [] = true
  are_in_order (row ∷ rows) = list_all (λ later. is_lt (order row later)) rows && are_in_order rows

  -- rows before, in and behind the part come in this order
  pub record IsSpan (place : Row → Ordering) : Type 0 where
    pub inside : (row later : Row) → order row later ≡ Less → place later ≡ Equal → is_gt (place row) ≡ true → ⊥
    pub before : (row later : Row) → order row later ≡ Less → place later ≡ Less → place row ≡ Less
