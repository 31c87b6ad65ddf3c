-- Rows in order: where a search ends, and what keeps them in order.
use Rattle.std.proofs.Common.{◌≡◌, ℕ, zero, suc, ◌<◌, ◌≤◌, Bool, true, false, List, [], ◌∷◌, ◌++◌, length, filter, map, Result, Ok, Err, refl, ap, sym, ◌∙◌, ⊎_elim, slice_index_or, arith}
use Rattle.std.specs.Prelude.{◌&&◌, if◌then◌else◌}
use Rattle.std.specs.List.{list_all}
use Rattle.std.specs.List.Sorted.{IsBinarySearchResult, IsSearchInRange}
use Rattle.std.specs.Ordering.{is_lt, is_eq, is_gt, is_ne, ordering_index, ordering_reverse}
use Rattle.std.specs.Cmp.{IsTotalOrder}
use Rattle.std.specs.declared.cmp.Ordering.{Ordering}
use Rattle.std.specs.declared.cmp.Ordering.TheVariants.{Less, Equal, Greater}
use Rattle.std.proofs.lemmas.Bool.{cases_lt}
use Rattle.fh_rows.specs.Rows.{with_row, with_change_at, without_row_at, are_in_order}
use Rattle.fh_rows.specs.Places.{IsPlace}

less : (o : Ordering) → is_lt o ≡ true → o ≡ Less
less Less is = refl
less Equal is = cc
less Greater is = cc

pub both : (a b : Bool) → a ≡ true → b ≡ true → (a && b) ≡ true
both a b x y = rw x y

pub first_of_both : (a b : Bool) → (a && b) ≡ true → a ≡ true
first_of_both true b is = refl
first_of_both false b is = is

pub second_of_both : (a b : Bool) → (a && b) ≡ true → b ≡ true
second_of_both true b is = is
second_of_both false b is = cc

list_all-at : {X : Type 0} (p : X → Bool) (xs : List X) → list_all p xs ≡ true → (k : ℕ) (d : X) → k < length xs
    → p (slice_index_or xs k d) ≡ true
list_all-at p [] all k d within = absurd (omega (arith, within))
list_all-at p (x ∷ xs) all zero d within = first_of_both _ _ all
list_all-at p (x ∷ xs) all (suc k) d within = list_all-at p xs (second_of_both _ _ all) k d (omega (arith, within))

pub list_all-filter : {X : Type 0} (p keeps : X → Bool) (xs : List X) → list_all p xs ≡ true
    → list_all p (filter keeps xs) ≡ true
list_all-filter p keeps [] all = refl
list_all-filter p keeps (x ∷ xs) all = by_test (keeps x) (first_of_both _ _ all) (list_all-filter p keeps xs
    (second_of_both _ _ all))
  where
    by_test : (b : Bool) → p x ≡ true → list_all p (filter keeps xs) ≡ true
        → list_all p (if b then x ∷ filter keeps xs else filter keeps xs) ≡ true
    by_test true here rest = both _ _ here rest
    by_test false here rest = rest

-- what all that pass one test have by another
pub list_all-passing : {X : Type 0} (p keeps : X → Bool) → ((x : X) → keeps x ≡ true → p x ≡ true) → (xs : List X)
    → list_all p (filter keeps xs) ≡ true
list_all-passing p keeps gives [] = refl
list_all-passing p keeps gives (x ∷ xs) = by_test (keeps x) refl (list_all-passing p keeps gives xs)
  where
    by_test : (b : Bool) → keeps x ≡ b → list_all p (filter keeps xs) ≡ true
        → list_all p (if b then x ∷ filter keeps xs else filter keeps xs) ≡ true
    by_test true kept rest = both _ _ (gives x kept) rest
    by_test false out rest = rest

pub list_all-weaker : {X : Type 0} (p q : X → Bool) → ((x : X) → p x ≡ true → q x ≡ true) → (xs : List X)
    → list_all p xs ≡ true → list_all q xs ≡ true
list_all-weaker p q gives [] all = refl
list_all-weaker p q gives (x ∷ xs) all = both _ _ (gives x (first_of_both _ _ all)) (list_all-weaker p q gives xs
    (second_of_both _ _ all))

pub list_all-append : {X : Type 0} (p : X → Bool) (xs ys : List X) → list_all p xs ≡ true → list_all p ys ≡ true
    → list_all p (xs ++ ys) ≡ true
list_all-append p [] ys front back = back
list_all-append p (x ∷ xs) ys front back = both _ _ (first_of_both _ _ front) (list_all-append p xs ys
    (second_of_both _ _ front) back)

module _ {Row : Type 0} (order : Row → Row → Ordering) where
  -- of two rows the first stands before the second
  pub in_order-at : (rows : List Row) → are_in_order order rows ≡ true → (j k : ℕ) (d : Row) → j < k
      → k < length rows → order (slice_index_or rows j d) (slice_index_or rows k d) ≡ Less
  in_order-at [] ordered j k d order_of within = absurd (omega (arith, within))
  in_order-at (row ∷ rows) ordered j zero d apart within = absurd (omega (arith, apart))
  in_order-at (row ∷ rows) ordered zero (suc k) d apart within =
      less _ (list_all-at (λ later. is_lt (order row later)) rows (first_of_both _ _ ordered) k d (omega
      (arith, within)))
  in_order-at (row ∷ rows) ordered (suc j) (suc k) d apart within =
      in_order-at rows (second_of_both _ _ ordered) j k d (omega (arith, apart)) (omega (arith, within))

  pub in_order-filter : (keeps : Row → Bool) (rows : List Row) → are_in_order order rows ≡ true
      → are_in_order order (filter keeps rows) ≡ true
  in_order-filter keeps [] ordered = refl
  in_order-filter keeps (row ∷ rows) ordered = by_test (keeps row) (in_order-filter keeps rows
      (second_of_both _ _ ordered))
    where
      by_test : (b : Bool) → are_in_order order (filter keeps rows) ≡ true
          → are_in_order order (if b then row ∷ filter keeps rows else filter keeps rows) ≡ true
      by_test true rest = both _ _ (list_all-filter (λ later. is_lt (order row later)) keeps rows
          (first_of_both _ _ ordered)) rest
      by_test false rest = rest

  module _ (total : IsTotalOrder order) where
    -- how a row stands to another is how it stands to a third of the same key
    alike : (row here like : Row) → order here like ≡ Equal → order row like ≡ order row here
    alike row here like same = total.antisymm row like
        ∙ ap ordering_reverse (sym (total.congr here like row same)) ∙ sym (total.antisymm row here)

    lower : (row here like : Row) → order row here ≡ Less → order here like ≡ Equal → order row like ≡ Less
    lower row here like before same = alike row here like same ∙ before

    higher : (row here like : Row) → order here row ≡ Less → order here like ≡ Equal → order row like ≡ Greater
    higher row here like before same = alike row here like same ∙ total.antisymm row here ∙ ap ordering_reverse before

    rises : (row later like : Row) → order row later ≡ Less
        → ordering_index (order row like) ≤ ordering_index (order later like)
    rises row later like before = by_later (order later like) refl
      where
        most_two : (o : Ordering) → ordering_index o ≤ 2
        most_two Less = omega arith
        most_two Equal = omega arith
        most_two Greater = omega arith

        by_later : (o : Ordering) → order later like ≡ o → ordering_index (order row like) ≤ ordering_index o
        by_later Less is = rw (total.trans row later like before is) (omega arith)
        by_later Equal is = rw (lower row later like before is) (omega arith)
        by_later Greater is = most_two (order row like)

    -- a binary search by a key ends at its place
    pub place_of-search : (rows : List Row) (like : Row) (result : Result ℕ ℕ) → are_in_order order rows ≡ true
        → IsSearchInRange result (length rows) → IsBinarySearchResult (λ row. order row like) rows result
        → IsPlace (λ row. order row like) rows result
    place_of-search rows like (Ok i) ordered within found = (
      within,
      λ k d from below. lower _ _ like (in_order-at rows ordered k i d below within) (found d),
      found,
      λ k d from below. higher _ _ like (in_order-at rows ordered i k d (omega (arith, from)) below) (found d),
    )
    place_of-search rows like (Err i) ordered within found =
        let parted = found (λ j k d early late. by_apart j k d early late) in
        (within, parted.0, parted.1)
      where
        by_apart : (j k : ℕ) (d : Row) → j ≤ k → k < length rows
            → ordering_index (order (slice_index_or rows j d) like) ≤ ordering_index (order
            (slice_index_or rows k d) like)
        by_apart j k d early late = ⊎_elim (λ apart. rises _ _ like (in_order-at rows ordered j k d apart late))
            (λ same. equal (omega arith)) (cases_lt j k)
          where
            equal : j ≡ k → ordering_index (order (slice_index_or rows j d) like) ≤ ordering_index (order
                (slice_index_or rows k d) like)
            equal is = rw is (omega arith)

    pub in_order-without : (like : Row) (rows : List Row) → are_in_order order rows ≡ true
        → are_in_order order (without_row_at (λ row. order row like) rows) ≡ true
    in_order-without like rows ordered = in_order-filter (λ row. is_ne (order row like)) rows ordered

    before_all : (row new : Row) → order row new ≡ Less → (rows : List Row)
        → list_all (λ later. is_lt (order new later)) rows ≡ true
        → list_all (λ later. is_lt (order row later)) rows ≡ true
    before_all row new before rows all = list_all-weaker (λ later. is_lt (order new later)) (λ later. is_lt
        (order row later)) (λ later is. ap is_lt (total.trans row new later before (less _ is))) rows all

    in_order-joined : (front : List Row) (new : Row) (back : List Row) → are_in_order order front ≡ true
        → are_in_order order back ≡ true → list_all (λ row. is_lt (order row new)) front ≡ true
        → list_all (λ later. is_lt (order new later)) back ≡ true → are_in_order order (front ++ new ∷ back) ≡ true
    in_order-joined [] new back first last below above = both _ _ above last
    in_order-joined (row ∷ front) new back first last below above =
        let before = less _ (first_of_both _ _ below) in
        both _ _
        (list_all-append (λ later. is_lt (order row later)) front (new ∷ back) (first_of_both _ _ first) (both _ _
        (ap is_lt before) (before_all row new before back above)))
        (in_order-joined front new back (second_of_both _ _ first) last (second_of_both _ _ below) above)

    none_before : (row new : Row) → order row new ≡ Greater → (rows : List Row)
        → list_all (λ later. is_lt (order row later)) rows ≡ true → filter (λ later. is_lt (order later new)) rows ≡ []
    none_before row new behind [] all = refl
    none_before row new behind (later ∷ rows) all =
        by_place (order later new) refl (none_before row new behind rows (second_of_both _ _ all))
      where
        by_place : (o : Ordering) → order later new ≡ o → filter (λ later. is_lt (order later new)) rows ≡ []
            → (if is_lt o then later ∷ filter (λ later. is_lt (order later new)) rows
            else filter (λ later. is_lt (order later new)) rows) ≡ []
        by_place Less is rest = cc (total.trans row later new (less _ (first_of_both _ _ all)) is, behind)
        by_place Equal is rest = rest
        by_place Greater is rest = rest

    -- rows none of which has this key are those before it and those behind it
    pub parts-apart : (new : Row) (rows : List Row) → are_in_order order rows ≡ true
        → list_all (λ row. is_ne (order row new)) rows ≡ true
        → filter (λ row. is_lt (order row new)) rows ++ filter (λ row. is_gt (order row new)) rows ≡ rows
    parts-apart new [] ordered apart = refl
    parts-apart new (row ∷ rows) ordered apart =
        by_place (order row new) refl (parts-apart new rows (second_of_both _ _ ordered) (second_of_both _ _ apart))
      where
        front : List Row
        front = filter (λ row. is_lt (order row new)) rows

        back : List Row
        back = filter (λ row. is_gt (order row new)) rows

        stays : (b : Bool) → b ≡ true → b ≡ false → ⊥
        stays true is isnt = cc
        stays false is isnt = cc

        by_place : (o : Ordering) → order row new ≡ o → front ++ back ≡ rows
            → (if is_lt o then row ∷ front else front) ++ (if is_gt o then row ∷ back else back) ≡ row ∷ rows
        by_place Less is rest = ap (λ more. row ∷ more) rest
        by_place Equal is rest = absurd (stays (is_ne (order row new)) (first_of_both _ _ apart) (ap is_ne is))
        by_place Greater is rest =
            let none : front ≡ [] = none_before row new is rows (first_of_both _ _ ordered) in
            ap (λ more. more ++ row ∷ back) none
            ∙ ap (λ more. row ∷ more) (sym (ap (λ more. more ++ back) none) ∙ rest)

    pub in_order-with : (new : Row) (rows : List Row) → are_in_order order rows ≡ true
        → are_in_order order (with_row order new rows) ≡ true
    in_order-with new rows ordered =
        in_order-joined _ new _
        (in_order-filter (λ row. is_lt (order row new)) rows ordered)
        (in_order-filter (λ row. is_gt (order row new)) rows ordered)
        (list_all-passing (λ row. is_lt (order row new)) (λ row. is_lt (order row new)) (λ row is. is) rows)
        (list_all-passing (λ row. is_lt (order new row)) (λ row. is_gt (order row new)) behind rows)
      where
        turned : (o : Ordering) → is_gt o ≡ is_lt (ordering_reverse o)
        turned Less = refl
        turned Equal = refl
        turned Greater = refl

        behind : (row : Row) → is_gt (order row new) ≡ true → is_lt (order new row) ≡ true
        behind row is = ap is_lt (total.antisymm new row) ∙ sym (turned (order row new)) ∙ is

    -- changes that leave the keys leave the order
    module _ (change : Row → Row) (keeps : (row : Row) → order (change row) row ≡ Equal) (place : Row → Ordering) where
      abbrev changes : Row → Row
      changes row = if is_eq (place row) then change row else row

      itself : (o : Ordering) → o ≡ ordering_reverse o → o ≡ Equal
      itself Less is = cc
      itself Equal is = refl
      itself Greater is = cc

      same_key : (row : Row) → order (changes row) row ≡ Equal
      same_key row = by_test (is_eq (place row))
        where
          by_test : (b : Bool) → order (if b then change row else row) row ≡ Equal
          by_test true = keeps row
          by_test false = itself (order row row) (total.antisymm row row)

      apart_still : (row later : Row) → is_lt (order row later) ≡ true
          → is_lt (order (changes row) (changes later)) ≡ true
      apart_still row later is =
          ap is_lt (total.congr (changes row) row (changes later) (same_key row)
          ∙ alike row later (changes later) (total.antisymm later (changes later)
          ∙ ap ordering_reverse (same_key later))) ∙ is

      all_still : (row : Row) (rows : List Row) → list_all (λ later. is_lt (order row later)) rows ≡ true
          → list_all (λ later. is_lt (order (changes row) later)) (map changes rows) ≡ true
      all_still row [] all = refl
      all_still row (later ∷ rows) all = both _ _ (apart_still row later (first_of_both _ _ all))
          (all_still row rows (second_of_both _ _ all))

      pub in_order-changed : (rows : List Row) → are_in_order order rows ≡ true
          → are_in_order order (with_change_at place change rows) ≡ true
      in_order-changed [] ordered = refl
      in_order-changed (row ∷ rows) ordered = both _ _ (all_still row rows (first_of_both _ _ ordered))
          (in_order-changed rows (second_of_both _ _ ordered))
