-- Where the rows of a part of the order stand.
use Rattle.std.proofs.Common.{◌≡◌, ℕ, ◌≤◌, Bool, true, false, List, [], ◌∷◌, length, refl, ap, ⊎_elim, slice_index_or, arith}
use Rattle.std.specs.List.{slice_range, remove_range}
use Rattle.std.specs.List.Sorted.{IsPartitionedBy, IsPartitionPoint}
use Rattle.std.specs.Ordering.{is_lt, is_le, is_eq, is_ne, is_gt}
use Rattle.std.specs.declared.cmp.Ordering.{Ordering}
use Rattle.std.specs.declared.cmp.Ordering.TheVariants.{Less, Equal, Greater}
use Rattle.std.proofs.lemmas.Bool.{cases_lt}
use Rattle.fh_rows.specs.Rows.{rows_at, without_row_at, are_in_order, IsSpan}
use Rattle.fh_rows.proofs.Parts.{filter-within, filter-without}
use Rattle.fh_rows.proofs.Order.{in_order-at}

less : (o : Ordering) → is_lt o ≡ true → o ≡ Less
less Less is = refl
less Equal is = cc
less Greater is = cc

module _ {Row : Type 0} (order : Row → Row → Ordering) (place : Row
    → Ordering) (span : IsSpan order place) (rows : List Row) (ordered : are_in_order order rows ≡ true) where
  -- a test that holds of a row holds of those before it
  parted : (test : Ordering → Bool) → ((row later : Row) → order row later ≡ Less → test (place later) ≡ true
      → test (place row) ≡ true) → IsPartitionedBy (λ row. test (place row)) rows
  parted test falls i j d early late is = ⊎_elim (λ apart. falls _ _
      (in_order-at order rows ordered i j d apart late) is) (λ same. equal (omega arith)) (cases_lt i j)
    where
      equal : i ≡ j → test (place (slice_index_or rows i d)) ≡ true
      equal at = rw at is

  pub parted_before : IsPartitionedBy (λ row. is_lt (place row)) rows
  parted_before = parted is_lt (λ row later before is. ap is_lt (span.before row later before (less _ is)))

  pub parted_upto : IsPartitionedBy (λ row. is_le (place row)) rows
  parted_upto = parted is_le by_later
    where
      by_row : (o : Ordering) → (is_gt o ≡ true → ⊥) → is_le o ≡ true
      by_row Less not_behind = refl
      by_row Equal not_behind = refl
      by_row Greater not_behind = absurd (not_behind refl)

      by_later : (row later : Row) → order row later ≡ Less → is_le (place later) ≡ true → is_le (place row) ≡ true
      by_later row later before is = by_place (place later) refl is
        where
          by_place : (o : Ordering) → place later ≡ o → is_le o ≡ true → is_le (place row) ≡ true
          by_place Less at upto = ap is_le (span.before row later before at)
          by_place Equal at upto = by_row (place row) (span.inside row later before at)
          by_place Greater at upto = cc

  module _ (start end : ℕ) (first : IsPartitionPoint (λ row. is_lt (place row) ≡ true) (λ row. is_lt
      (place row) ≡ false) rows start) (last : IsPartitionPoint (λ row. is_le (place row) ≡ true) (λ row. is_le
      (place row) ≡ false) rows end) (within : start ≤ length rows) (most : end ≤ length rows) where
    from_before : (o : Ordering) → is_lt o ≡ true → is_eq o ≡ false
    from_before Less is = refl
    from_before Equal is = cc
    from_before Greater is = cc

    from_inside : (o : Ordering) → is_lt o ≡ false → is_le o ≡ true → is_eq o ≡ true
    from_inside Less behind upto = cc
    from_inside Equal behind upto = refl
    from_inside Greater behind upto = cc

    from_behind : (o : Ordering) → is_le o ≡ false → is_eq o ≡ false
    from_behind Less is = cc
    from_behind Equal is = cc
    from_behind Greater is = refl

    before_upto : (o : Ordering) → is_lt o ≡ true → is_le o ≡ false → ⊥
    before_upto Less lt le = cc
    before_upto Equal lt le = cc
    before_upto Greater lt le = cc

    begins_before : (rows' : List Row) → rows' ≡ rows → start ≤ end
    begins_before [] is = ⊎_elim (λ late. omega (arith, within, ap length is)) (λ fine. fine) (cases_lt end start)
    begins_before (d ∷ more) is = ⊎_elim (λ late. absurd (before_upto _ (first.0 end d (omega arith) late)
        (last.1 end d (omega arith) (omega (arith, late, within))))) (λ fine. fine) (cases_lt end start)

    pub begins_first : start ≤ end
    begins_first = begins_before rows refl

    pub rows_at-range : rows_at place rows ≡ slice_range rows start end
    rows_at-range =
        filter-within (λ row. is_eq (place row)) rows start end begins_first most
        (λ k d from below. from_before _ (first.0 k d from below))
        (λ k d from below. from_inside _ (first.1 k d from (omega (arith, below, most))) (last.0 k d
        (omega arith) below))
        (λ k d from below. from_behind _ (last.1 k d from below))

    not_in : (o : Ordering) → is_eq o ≡ false → is_ne o ≡ true
    not_in Less is = refl
    not_in Equal is = cc
    not_in Greater is = refl

    inside_of : (o : Ordering) → is_eq o ≡ true → is_ne o ≡ false
    inside_of Less is = cc
    inside_of Equal is = refl
    inside_of Greater is = cc

    pub without_row_at-range : without_row_at place rows ≡ remove_range rows start end
    without_row_at-range =
        filter-without (λ row. is_ne (place row)) rows start end begins_first most
        (λ k d from below. not_in _ (from_before _ (first.0 k d from below)))
        (λ k d from below. inside_of _ (from_inside _ (first.1 k d from (omega (arith, below, most))) (last.0 k d
        (omega arith) below)))
        (λ k d from below. not_in _ (from_behind _ (last.1 k d from below)))
