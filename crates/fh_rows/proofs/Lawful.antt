-- What the layers above may cite: the row at a key after a row has come or gone.
use Rattle.std.proofs.Common.{◌≡◌, Bool, true, false, List, [], ◌∷◌, ◌++◌, find, filter, Option, Some, None, refl, sym, ◌∙◌, ap}
use Rattle.std.specs.Prelude.{if◌then◌else◌}
use Rattle.std.specs.Ordering.{is_lt, is_eq, is_ne, is_gt, ordering_reverse}
use Rattle.std.specs.Cmp.{IsTotalOrder}
use Rattle.std.specs.declared.cmp.Ordering.{Ordering}
use Rattle.std.specs.declared.cmp.Ordering.TheVariants.{Less, Equal, Greater}
use Rattle.fh_rows.specs.Rows.{row_at, with_row, without_row_at}

abbrev or_else : {X : Type 0} → Option X → Option X → Option X
or_else None other = other
or_else (Some x) other = Some x

module _ {X : Type 0} (q : X → Bool) where
  find-append : (xs ys : List X) → find q (xs ++ ys) ≡ or_else (find q xs) (find q ys)
  find-append [] ys = refl
  find-append (x ∷ xs) ys = by_test (q x) (find-append xs ys)
    where
      by_test : (b : Bool) → find q (xs ++ ys) ≡ or_else (find q xs) (find q ys)
          → (if b then Some x else find q (xs ++ ys)) ≡ or_else (if b then Some x else find q xs) (find q ys)
      by_test true rest = refl
      by_test false rest = rest

  -- all that is sought is kept
  find-kept : (keeps : X → Bool) → ((x : X) → q x ≡ true → keeps x ≡ true) → (xs : List X)
      → find q (filter keeps xs) ≡ find q xs
  find-kept keeps kept [] = refl
  find-kept keeps kept (x ∷ xs) = by_tests (q x) (keeps x) refl refl (find-kept keeps kept xs)
    where
      by_tests : (b k : Bool) → q x ≡ b → keeps x ≡ k → find q (filter keeps xs) ≡ find q xs
          → find q (if k then x ∷ filter keeps xs else filter keeps xs) ≡ (if b then Some x else find q xs)
      by_tests true true is keep rest = rw is refl
      by_tests true false is keep rest = absurd (cc (kept x is))
      by_tests false true is keep rest = rw is rest
      by_tests false false is keep rest = rest

  -- nothing that is sought is kept
  find-dropped : (keeps : X → Bool) → ((x : X) → keeps x ≡ true → q x ≡ false) → (xs : List X)
      → find q (filter keeps xs) ≡ None
  find-dropped keeps dropped [] = refl
  find-dropped keeps dropped (x ∷ xs) = by_test (keeps x) refl (find-dropped keeps dropped xs)
    where
      by_test : (k : Bool) → keeps x ≡ k → find q (filter keeps xs) ≡ None
          → find q (if k then x ∷ filter keeps xs else filter keeps xs) ≡ None
      by_test true keep rest = rw (dropped x keep) rest
      by_test false keep rest = rest

  -- the row that was found is one that is sought
  pub find-passes : (xs : List X) (x : X) → find q xs ≡ Some x → q x ≡ true
  find-passes [] x is = cc
  find-passes (y ∷ xs) x is = by_test (q y) refl is (find-passes xs x)
    where
      by_test : (b : Bool) → q y ≡ b → (if b then Some y else find q xs) ≡ Some x → (find q xs ≡ Some x
          → q x ≡ true) → q x ≡ true
      by_test true test found rest = let same : y ≡ x = cc in rw (← same) test
      by_test false test found rest = rest found

equal : (o : Ordering) → is_eq o ≡ true → o ≡ Equal
equal Less is = cc
equal Equal is = refl
equal Greater is = cc

module _ {Row : Type 0} (order : Row → Row → Ordering) (total : IsTotalOrder order) where
  alike : (row here like : Row) → order here like ≡ Equal → order row like ≡ order row here
  alike row here like same = total.antisymm row like ∙ ap ordering_reverse (sym (total.congr here like row same))
      ∙ sym (total.antisymm row here)

  -- a row of this key stands to another as any row of this key does
  stands : (row like other : Row) → order row like ≡ Equal → order row other ≡ order like other
  stands row like other same = total.congr row like other same

  not_less : (o : Ordering) → is_lt o ≡ true → is_eq o ≡ false
  not_less Less is = refl
  not_less Equal is = cc
  not_less Greater is = refl

  not_equal : (o : Ordering) → is_ne o ≡ true → is_eq o ≡ false
  not_equal Less is = refl
  not_equal Equal is = cc
  not_equal Greater is = refl

  pub row_at-with_same : (new like : Row) (rows : List Row) → order new like ≡ Equal
      → row_at (λ row. order row like) (with_row order new rows) ≡ Some new
  row_at-with_same new like rows same =
      let sought = λ (row : Row). is_eq (order row like) in
      find-append sought (filter (λ row. is_lt (order row new)) rows) _
      ∙ ap (λ found. or_else found (find sought (new ∷ filter (λ row. is_gt (order row new)) rows)))
      (find-dropped sought (λ row. is_lt (order row new)) (λ row is. ap is_eq (alike row new like same)
      ∙ not_less (order row new) is) rows)
      ∙ first (is_eq (order new like)) (ap is_eq same)
    where
      first : (b : Bool) → b ≡ true → (if b then Some new else find (λ row. is_eq (order row like)) (filter
          (λ row. is_gt (order row new)) rows)) ≡ Some new
      first true is = refl
      first false is = cc

  pub row_at-with_other : (new like : Row) (rows : List Row) → is_eq (order new like) ≡ false
      → row_at (λ row. order row like) (with_row order new rows) ≡ row_at (λ row. order row like) rows
  row_at-with_other new like rows apart = by_place (order like new) refl
    where
      turned : (o : Ordering) → is_eq (ordering_reverse o) ≡ is_eq o
      turned Less = refl
      turned Equal = refl
      turned Greater = refl

      skip : (b : Bool) (rest : Option Row) → b ≡ false → (if b then Some new else rest) ≡ rest
      skip true rest is = cc
      skip false rest is = refl

      place_of : (o : Ordering) → order like new ≡ o → (row : Row) → is_eq (order row like) ≡ true → order row new ≡ o
      place_of o is row same = stands row like new (equal (order row like) same) ∙ is

      no_eq : (o : Ordering) → order like new ≡ o → (test : Ordering → Bool) → test o ≡ false → (row : Row)
          → test (order row new) ≡ true → is_eq (order row like) ≡ false
      no_eq o is test fails row passes = by_test (is_eq (order row like)) refl
        where
          by_test : (b : Bool) → is_eq (order row like) ≡ b → b ≡ false
          by_test true same = cc (ap test (stands row like new (equal (order row like) same) ∙ is))
          by_test false same = refl

      parts : find (λ row. is_eq (order row like)) (with_row order new rows) ≡ or_else (find (λ row. is_eq
          (order row like)) (filter (λ row. is_lt (order row new)) rows)) (find (λ row. is_eq (order row like))
          (filter (λ row. is_gt (order row new)) rows))
      parts =
          find-append (λ row. is_eq (order row like)) (filter (λ row. is_lt (order row new)) rows) _
          ∙ ap (or_else (find (λ row. is_eq (order row like)) (filter (λ row. is_lt (order row new)) rows))) (skip
          (is_eq (order new like)) _ apart)

      none_behind : (found : Option Row) → or_else found None ≡ found
      none_behind None = refl
      none_behind (Some row) = refl

      none_before : (found : Option Row) → or_else None found ≡ found
      none_before found = refl

      by_place : (o : Ordering) → order like new ≡ o
          → find (λ row. is_eq (order row like)) (with_row order new rows) ≡ find (λ row. is_eq (order row like)) rows
      by_place Less is =
          parts
          ∙ ap (λ back. or_else (find (λ row. is_eq (order row like)) (filter (λ row. is_lt
          (order row new)) rows)) back) (find-dropped (λ row. is_eq (order row like)) (λ row. is_gt
          (order row new)) (no_eq Less is is_gt refl) rows)
          ∙ none_behind _
          ∙ find-kept (λ row. is_eq (order row like)) (λ row. is_lt (order row new)) (λ row same. ap is_lt
          (place_of Less is row same)) rows
      by_place Equal is = cc (ap is_eq (total.antisymm new like ∙ ap ordering_reverse is), apart)
      by_place Greater is =
          parts
          ∙ ap (λ front. or_else front (find (λ row. is_eq (order row like)) (filter (λ row. is_gt
          (order row new)) rows))) (find-dropped (λ row. is_eq (order row like)) (λ row. is_lt (order row new))
          (no_eq Greater is is_lt refl) rows)
          ∙ none_before _
          ∙ find-kept (λ row. is_eq (order row like)) (λ row. is_gt (order row new)) (λ row same. ap is_gt
          (place_of Greater is row same)) rows

  pub row_at-without_same : (gone like : Row) (rows : List Row) → order gone like ≡ Equal
      → row_at (λ row. order row like) (without_row_at (λ row. order row gone) rows) ≡ None
  row_at-without_same gone like rows same =
      find-dropped (λ row. is_eq (order row like)) (λ row. is_ne (order row gone)) (λ row is. ap is_eq
      (alike row gone like same) ∙ not_equal (order row gone) is) rows

  pub row_at-without_other : (gone like : Row) (rows : List Row) → is_eq (order gone like) ≡ false
      → row_at (λ row. order row like) (without_row_at (λ row. order row gone) rows) ≡ row_at (λ row. order row like) rows
  row_at-without_other gone like rows apart = find-kept (λ row. is_eq (order row like)) (λ row. is_ne
      (order row gone)) kept rows
    where
      apart_from : (o : Ordering) → is_eq o ≡ false → is_ne o ≡ true
      apart_from Less is = refl
      apart_from Equal is = cc
      apart_from Greater is = refl

      turned : (o : Ordering) → is_eq (ordering_reverse o) ≡ is_eq o
      turned Less = refl
      turned Equal = refl
      turned Greater = refl

      kept : (row : Row) → is_eq (order row like) ≡ true → is_ne (order row gone) ≡ true
      kept row same = ap is_ne (stands row like gone (equal (order row like) same))
          ∙ apart_from (order like gone) (ap is_eq (total.antisymm like gone) ∙ turned (order gone like) ∙ apart)
