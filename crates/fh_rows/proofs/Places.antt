-- What the rows are at a key, by its place.
use Rattle.std.proofs.Common.{◌≡◌, ℕ, ◌+◌, Bool, false, List, ◌∷◌, ◌++◌, length, take, filter, Some, None, Ok, Err, refl, ap, sym, ◌∙◌, subst, ⊎_elim, slice_index_or, slice_set, arith}
use Rattle.std.specs.Prelude.{insert, remove}
use Rattle.std.specs.List.{AllWithin, HoldsAt}
use Rattle.std.specs.Ordering.{is_lt, is_eq, is_ne, is_gt}
use Rattle.std.specs.declared.cmp.Ordering.{Ordering}
use Rattle.std.specs.declared.cmp.Ordering.TheVariants.{Less, Equal, Greater}
use Rattle.std.proofs.lemmas.Bool.{cases_lt}
use Rattle.fh_rows.specs.Rows.{row_at, with_row_at, with_change_at, without_row_at}
use Rattle.fh_rows.specs.Places.{IsPlace}
use Rattle.fh_rows.proofs.Parts.{filter-all, filter-first, filter-last, filter-but, find-at, find-none, map-same, map-but, slice_set-parts}

module _ {Row : Type 0} (place : Row → Ordering) (rows : List Row) where
  -- what a test says of rows that stand so
  tested : (test : Ordering → Bool) (o : Ordering) (low high : ℕ) → AllWithin (λ row. place row ≡ o) rows low high
      → AllWithin (λ row. test (place row) ≡ test o) rows low high
  tested test o low high all k d from below = ap test (all k d from below)

  -- and of those from i on, where one stands at the key
  tested_from : (test : Ordering → Bool) (b : Bool) (i : ℕ) → test Equal ≡ b → test Greater ≡ b
      → HoldsAt (λ row. place row ≡ Equal) rows i
      → AllWithin (λ row. place row ≡ Greater) rows (i + 1) (length rows)
      → AllWithin (λ row. test (place row) ≡ b) rows i (length rows)
  tested_from test b i equal greater here after k d from below =
      ⊎_elim (λ later. ap test (after k d (omega arith) below) ∙ greater) (λ early. at_it (omega arith)) (cases_lt i k)
    where
      at_it : i ≡ k → test (place (slice_index_or rows k d)) ≡ b
      at_it same = subst (λ (n : ℕ). test (place (slice_index_or rows n d)) ≡ b) same (ap test (here d) ∙ equal)

  tested_upto : (test : Ordering → Bool) (b : Bool) (i : ℕ) → test Less ≡ b → test Equal ≡ b
      → AllWithin (λ row. place row ≡ Less) rows 0 i → HoldsAt (λ row. place row ≡ Equal) rows i
      → AllWithin (λ row. test (place row) ≡ b) rows 0 (i + 1)
  tested_upto test b i less equal before here k d from below =
      ⊎_elim (λ early. ap test (before k d from early) ∙ less) (λ late. at_it (omega arith)) (cases_lt k i)
    where
      at_it : i ≡ k → test (place (slice_index_or rows k d)) ≡ b
      at_it same = subst (λ (n : ℕ). test (place (slice_index_or rows n d)) ≡ b) same (ap test (here d) ∙ equal)

  pub row_at-found : (i : ℕ) (d : Row) → IsPlace place rows (Ok i) → row_at place rows ≡ Some (slice_index_or rows i d)
  row_at-found i d at =
      find-at (λ row. is_eq (place row)) rows i d at.0 (tested is_eq Less 0 i at.1) (λ e. ap is_eq (at.2 e))

  pub row_at-none : (i : ℕ) → IsPlace place rows (Err i) → row_at place rows ≡ None
  row_at-none i at = find-none (λ row. is_eq (place row)) rows (λ k d from below. ⊎_elim (λ early. ap is_eq
      (at.1 k d from early)) (λ late. ap is_eq (at.2 k d late below)) (cases_lt k i))

  pub with_row_at-found : (i : ℕ) (new : Row) → IsPlace place rows (Ok i)
      → with_row_at place new rows ≡ slice_set rows i new
  with_row_at-found i new at =
      ap (λ front. front ++ new ∷ filter (λ row. is_gt (place row)) rows) (filter-first (λ row. is_lt
      (place row)) rows i (omega (arith, at.0)) (tested is_lt Less 0 i at.1)
      (tested_from is_lt false i refl refl at.2 at.3))
      ∙ ap (λ back. take i rows ++ new ∷ back) (filter-last (λ row. is_gt (place row)) rows (i + 1) (omega
      (arith, at.0)) (tested_upto is_gt false i refl refl at.1 at.2) (tested is_gt Greater (i + 1)
      (length rows) at.3))
      ∙ sym (slice_set-parts rows i new at.0)

  pub with_row_at-none : (i : ℕ) (new : Row) → IsPlace place rows (Err i)
      → with_row_at place new rows ≡ insert rows i new
  with_row_at-none i new at =
      ap (λ front. front ++ new ∷ filter (λ row. is_gt (place row)) rows) (filter-first (λ row. is_lt
      (place row)) rows i at.0 (tested is_lt Less 0 i at.1) (tested is_lt Greater i (length rows) at.2))
      ∙ ap (λ back. take i rows ++ new ∷ back) (filter-last (λ row. is_gt (place row)) rows i at.0
      (tested is_gt Less 0 i at.1) (tested is_gt Greater i (length rows) at.2))

  pub without_row_at-found : (i : ℕ) → IsPlace place rows (Ok i) → without_row_at place rows ≡ remove rows i
  without_row_at-found i at =
      filter-but (λ row. is_ne (place row)) rows i at.0 (tested is_ne Less 0 i at.1) (λ e. ap is_ne (at.2 e))
      (tested is_ne Greater (i + 1) (length rows) at.3)

  pub without_row_at-none : (i : ℕ) → IsPlace place rows (Err i) → without_row_at place rows ≡ rows
  without_row_at-none i at = filter-all (λ row. is_ne (place row)) rows (λ k d from below. ⊎_elim
      (λ early. ap is_ne (at.1 k d from early)) (λ late. ap is_ne (at.2 k d late below)) (cases_lt k i))

  pub with_change_at-found : (change : Row → Row) (i : ℕ) (d : Row) → IsPlace place rows (Ok i)
      → with_change_at place change rows ≡ slice_set rows i (change (slice_index_or rows i d))
  with_change_at-found change i d at =
      map-but (λ row. is_eq (place row)) change rows i d at.0 (tested is_eq Less 0 i at.1) (λ e. ap is_eq (at.2 e))
      (tested is_eq Greater (i + 1) (length rows) at.3)

  pub with_change_at-none : (change : Row → Row) (i : ℕ) → IsPlace place rows (Err i)
      → with_change_at place change rows ≡ rows
  with_change_at-none change i at = map-same (λ row. is_eq (place row)) change rows (λ k d from below. ⊎_elim
      (λ early. ap is_eq (at.1 k d from early)) (λ late. ap is_eq (at.2 k d late below)) (cases_lt k i))
