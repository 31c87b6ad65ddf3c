-- Blobs of a container, and a function's marks of some of them.
use Rattle.std.proofs.Common.{◌≡◌, ℕ, zero, suc, ◌-◌, ◌<◌, ◌≤◌, Bool, true, false, List, [], ◌∷◌, length, take, drop, filter, find, Option, Some, None, refl, sym, ap, ◌∙◌, slice_index_or, arith}
use Rattle.std.specs.Prelude.{◌&&◌, not, if◌then◌else◌}
use Rattle.std.specs.List.{list_all}
use Rattle.std.specs.Cmp.{IsTotalOrder, then_total, on_total, nat_cmp_total}
use Rattle.std.specs.Cmp.Lexicographic.{nat_list_cmp_total, on_texts}
use Rattle.std.specs.Ordering.{nat_cmp, ordering_then, ordering_reverse, is_lt, is_eq}
use Rattle.std.specs.Str.{bytes_eq}
use Rattle.std.specs.declared.cmp.Ordering.{Ordering}
use Rattle.std.specs.declared.cmp.Ordering.TheVariants.{Less, Equal, Greater}
use Rattle.std.proofs.lemmas.Map.Text.{is_eq-slice_cmp}
use Rattle.std.proofs.lemmas.Map.Lookups.{exact_unsigned}
use Rattle.fh_rows.specs.Rows.{rows_at, are_in_order}
use Rattle.fh_rows.proofs.Lawful.{find-passes}
use Rattle.fh_rows.proofs.Order.{in_order-at}
use Rattle.fh_blobs.specs.declared.blob.BlobRow.{BlobRow}
use Rattle.fh_blobs.specs.declared.mark.Mark.{Mark}
use Rattle.fh_blobs.specs.declared.mark.Function.{Function}
use Rattle.fh_blobs.specs.Part.{BlobPart, by_text, by_container, by_blob, blob_of, is_noted}
use Rattle.fh_blobs.specs.Marks.{by_function, is_noted_there, is_right, AreNoted, by_name, go_along, IsAhead, unnoted_of}
use Rattle.fh_blobs.specs.Ahead.{AreAlike, behind_mark}
use Rattle.fh_blobs.proofs.Receipts.{equal, is_eq-then, first_of_both, second_of_both, same_text, all-found}
use Rattle.fh_blobs.proofs.Lawful.{both}

less : (o : Ordering) → is_lt o ≡ true → o ≡ Less
less Less is = refl
less Equal is = cc
less Greater is = cc

-- ---- rows of one part, in the order that decides within it

module _ {Row : Type 0} (first second : Row → Row → Ordering) (total : IsTotalOrder first) (like : Row) where
  alike : (row later : Row) → is_eq (first row like) ≡ true → is_eq (first later like) ≡ true
      → first row later ≡ Equal
  alike row later here there =
      total.congr row like later (equal _ here) ∙ total.antisymm like later ∙ ap ordering_reverse (equal _ there)

  before_all : (row : Row) → is_eq (first row like) ≡ true → (rows : List Row)
      → list_all (λ later. is_lt (ordering_then (first row later) (second row later))) rows ≡ true
      → list_all (λ later. is_lt (second row later)) (rows_at (λ r. first r like) rows) ≡ true
  before_all row here [] all = refl
  before_all row here (later ∷ rows) all =
      by_test (is_eq (first later like)) refl (before_all row here rows (second_of_both _ _ all))
    where
      by_test : (b : Bool) → is_eq (first later like) ≡ b
          → list_all (λ after. is_lt (second row after)) (rows_at (λ r. first r like) rows) ≡ true
          → list_all (λ after. is_lt (second row after)) (if b then later ∷ rows_at
          (λ r. first r like) rows else rows_at (λ r. first r like) rows) ≡ true
      by_test true is rest =
          both _ _ (sym (ap (λ o. is_lt (ordering_then o (second row later))) (alike row later here is))
          ∙ first_of_both _ _ all) rest
      by_test false is rest = rest

  order_within : (rows : List Row) → are_in_order (λ a b. ordering_then (first a b) (second a b)) rows ≡ true
      → are_in_order second (rows_at (λ r. first r like) rows) ≡ true
  order_within [] ordered = refl
  order_within (row ∷ rows) ordered =
      by_test (is_eq (first row like)) refl (order_within rows (second_of_both _ _ ordered))
    where
      by_test : (b : Bool) → is_eq (first row like) ≡ b
          → are_in_order second (rows_at (λ r. first r like) rows) ≡ true
          → are_in_order second (if b then row ∷ rows_at (λ r. first r like) rows else rows_at
          (λ r. first r like) rows) ≡ true
      by_test true is rest = both _ _ (before_all row is rows (first_of_both _ _ ordered)) rest
      by_test false is rest = rest

-- ---- at the beginning

-- what is found among all by two tests is found by one among those that pass the other
find-both : {X : Type 0} (p q : X → Bool) (xs : List X) → find (λ x. p x && q x) xs ≡ find q (filter p xs)
find-both p q [] = refl
find-both p q (x ∷ xs) = by_tests (p x) (q x) refl refl (find-both p q xs)
  where
    by_tests : (a b : Bool) → p x ≡ a → q x ≡ b → find (λ y. p y && q y) xs ≡ find q (filter p xs)
        → (if a && b then Some x else find (λ y. p y && q y) xs) ≡ find q (if a then x ∷ filter p xs else filter p xs)
    by_tests true true is at rest = rw at refl
    by_tests true false is at rest = rw at rest
    by_tests false b is at rest = rest

find-alike : {X : Type 0} (p q : X → Bool) → ((x : X) → p x ≡ q x) → (xs : List X) → find p xs ≡ find q xs
find-alike p q same [] = refl
find-alike p q same (x ∷ xs) = ap (λ b. if b then Some x else find p xs) (same x) ∙ ap
    (λ found. if q x then Some x else found) (find-alike p q same xs)

-- what those have that pass a test
all-kept : {X : Type 0} (p q keeps : X → Bool) → ((x : X) → keeps x ≡ true → p x ≡ true → q x ≡ true) → (xs : List X)
    → list_all p xs ≡ true → list_all q (filter keeps xs) ≡ true
all-kept p q keeps gives [] all = refl
all-kept p q keeps gives (x ∷ xs) all = by_test (keeps x) refl (all-kept p q keeps gives xs (second_of_both _ _ all))
  where
    by_test : (b : Bool) → keeps x ≡ b → list_all q (filter keeps xs) ≡ true
        → list_all q (if b then x ∷ filter keeps xs else filter keeps xs) ≡ true
    by_test true is rest = both _ _ (gives x is (first_of_both _ _ all)) rest
    by_test false is rest = rest

abbrev named : List ℕ → List BlobRow → Option BlobRow
named name rows = find (λ row. is_eq (by_text row.blob name)) rows

module _ (part : BlobPart) (f : ℕ) where
  abbrev noted : BlobRow → Bool
  noted = is_noted part f

  abbrev there : List BlobRow → Mark → Bool
  there rows mark = is_noted_there part f (named mark.blob rows)

  -- a blob before those of the marks is none of theirs
  all-behind : (row : BlobRow) (rows : List BlobRow) (marks : List Mark)
      → list_all (λ mark. is_lt (by_text row.blob mark.blob)) marks ≡ true
      → list_all (there (row ∷ rows)) marks ≡ true → list_all (there rows) marks ≡ true
  all-behind row rows [] before all = refl
  all-behind row rows (mark ∷ marks) before all =
      both _ _ (by_order (by_text row.blob mark.blob) (less _ (first_of_both _ _ before)) (first_of_both _ _ all))
      (all-behind row rows marks (second_of_both _ _ before) (second_of_both _ _ all))
    where
      by_order : (o : Ordering) → o ≡ Less
          → is_noted_there part f (if is_eq o then Some row else named mark.blob rows) ≡ true → there rows mark ≡ true
      by_order Less is found = found
      by_order Equal is found = cc
      by_order Greater is found = cc

  -- the blob of a mark is behind one that is before all
  before_found : (row : BlobRow) (rows : List BlobRow) (mark : Mark)
      → list_all (λ later. is_lt (by_name row later)) rows ≡ true → there rows mark ≡ true
      → by_text row.blob mark.blob ≡ Less
  before_found row rows mark before found = by_found (named mark.blob rows) refl found
    where
      by_found : (o : Option BlobRow) → named mark.blob rows ≡ o → is_noted_there part f o ≡ true
          → by_text row.blob mark.blob ≡ Less
      by_found None is found = cc
      by_found (Some other) is found =
          let same : other.blob ≡ mark.blob =
          same_text other.blob mark.blob (sym (is_eq-slice_cmp other.blob mark.blob) ∙ find-passes (λ r. is_eq
          (by_text r.blob mark.blob)) rows other is) in
          ap (λ name. by_text row.blob name) (sym same)
          ∙ less _ (all-found (λ later. is_lt (by_name row later)) (λ r. is_eq
          (by_text r.blob mark.blob)) rows other before is)

  later_marks : (row : BlobRow) (mark : Mark) → by_text row.blob mark.blob ≡ Less → (marks : List Mark)
      → list_all (λ later. is_lt (by_text mark.blob later.blob)) marks ≡ true
      → list_all (λ later. is_lt (by_text row.blob later.blob)) marks ≡ true
  later_marks row mark before [] all = refl
  later_marks row mark before (later ∷ marks) all =
      both _ _
      (ap is_lt (nat_list_cmp_total.trans row.blob mark.blob later.blob before (less _ (first_of_both _ _ all))))
      (later_marks row mark before marks (second_of_both _ _ all))

  -- marks in order, of blobs that are there, go along with them
  along : (rows : List BlobRow) → are_in_order by_name rows ≡ true → (marks : List Mark)
      → are_in_order (λ (a b : Mark). by_text a.blob b.blob) marks ≡ true → list_all (there rows) marks ≡ true
      → go_along noted marks rows ≡ true
  along [] order [] rising all = refl
  along [] order (mark ∷ marks) rising all = first_of_both false (list_all (there []) marks) all
  along (row ∷ rows) order [] rising all = refl
  along (row ∷ rows) order (mark ∷ marks) rising all =
      by_test (along rows (second_of_both _ _ order) marks (second_of_both _ _ rising))
      (along rows (second_of_both _ _ order) (mark ∷ marks) rising) (bytes_eq mark.blob row.blob) refl
    where
      first_found : (b : Bool) → b ≡ true
          → is_noted_there part f (if b then Some row else named mark.blob rows) ≡ true → noted row ≡ true
      first_found true is found = found
      first_found false is found = cc

      rest_found : (b : Bool) → b ≡ false
          → is_noted_there part f (if b then Some row else named mark.blob rows) ≡ true → there rows mark ≡ true
      rest_found true is found = cc
      rest_found false is found = found

      turned : bytes_eq row.blob mark.blob ≡ true → bytes_eq mark.blob row.blob ≡ true
      turned is = let same = same_text row.blob mark.blob is in ap (λ name. bytes_eq name row.blob) (sym same) ∙ ap
          (λ name. bytes_eq row.blob name) same ∙ is

      apart_too : (b : Bool) → bytes_eq row.blob mark.blob ≡ b → bytes_eq mark.blob row.blob ≡ false → b ≡ false
      apart_too true is apart = cc (turned is)
      apart_too false is apart = refl

      by_test : (list_all (there rows) marks ≡ true → go_along noted marks rows ≡ true)
          → (list_all (there rows) (mark ∷ marks) ≡ true → go_along noted (mark ∷ marks) rows ≡ true)
          → (b : Bool) → bytes_eq mark.blob row.blob ≡ b
          → (if b then noted row && go_along noted marks rows else go_along noted (mark ∷ marks) rows) ≡ true
      by_test fewer same_marks true is =
          let same = same_text mark.blob row.blob is in
          let here : is_eq (by_text row.blob mark.blob) ≡ true =
          is_eq-slice_cmp row.blob mark.blob ∙ ap (λ name. bytes_eq name mark.blob) (sym same) ∙ ap
          (λ name. bytes_eq mark.blob name) same ∙ is in
          let behind : list_all (λ later. is_lt (by_text row.blob later.blob)) marks ≡ true =
          ap (λ name. list_all (λ (later : Mark). is_lt (by_text name later.blob)) marks) (sym same)
          ∙ first_of_both _ _ rising in
          both _ _ (first_found (is_eq (by_text row.blob mark.blob)) here (first_of_both _ _ all))
          (fewer (all-behind row rows marks behind (second_of_both _ _ all)))
      by_test fewer same_marks false apart =
          let not_here : is_eq (by_text row.blob mark.blob) ≡ false =
          is_eq-slice_cmp row.blob mark.blob ∙ apart_too (bytes_eq row.blob mark.blob) refl apart in
          let found = rest_found (is_eq (by_text row.blob mark.blob)) not_here (first_of_both _ _ all) in
          let before = before_found row rows mark (first_of_both _ _ order) found in
          same_marks
          (both _ _ found (all-behind row rows marks (later_marks row mark before marks (first_of_both _ _ rising))
          (second_of_both _ _ all)))

  -- of a store, a container's blobs and the function's marks
  pub at_start : (c : List ℕ) (marks : List Mark) (functions : List Function) → AreNoted part marks functions
      → IsAhead noted (rows_at (by_container c) part.blobs) (rows_at (by_function f c) marks)
  at_start c marks functions noted_marks = record {
    order = names;
    along = along (rows_at
        (by_container c) part.blobs) names (rows_at (by_function f c) marks) rising all;
  }
    where
      names : are_in_order by_name (rows_at (by_container c) part.blobs) ≡ true
      names =
          order_within (λ (a b : BlobRow). by_text a.container b.container) (λ (a b : BlobRow). by_text a.blob b.blob)
          (on_texts (λ (r : BlobRow). r.container))
          (record { container = c; blob = []; version = 0; text = [] }) part.blobs noted_marks.blobs

      rising : are_in_order (λ (a b : Mark). by_text a.blob b.blob) (rows_at (by_function f c) marks) ≡ true
      rising =
          order_within (λ (a b : Mark). by_function b.function b.container a) (λ (a b : Mark). by_text a.blob b.blob)
          (then_total (on_total (λ (m : Mark). m.function) nat_cmp_total) (on_texts (λ (m : Mark). m.container)))
          (record { function = f; container = c; blob = [] }) marks noted_marks.order

      gives : (mark : Mark) → is_eq (by_function f c mark) ≡ true → is_right part mark ≡ true
          → there (rows_at (by_container c) part.blobs) mark ≡ true
      gives mark here right =
          let parts = sym (is_eq-then (nat_cmp mark.function f) (by_text mark.container c)) ∙ here in
          let function : mark.function ≡ f = number mark.function f (first_of_both _ _ parts) in
          let container : mark.container ≡ c = same_text mark.container c (sym (is_eq-slice_cmp mark.container c)
          ∙ second_of_both (is_eq (nat_cmp mark.function f)) _ parts) in
          let same : named mark.blob (rows_at (by_container c) part.blobs) ≡ blob_of c mark.blob part.blobs =
          sym (find-both (λ (r : BlobRow). is_eq (by_container c r)) (λ r. is_eq
          (by_text r.blob mark.blob)) part.blobs)
          ∙ find-alike (λ (r : BlobRow). is_eq (by_container c r) && is_eq (by_text r.blob mark.blob)) (λ r. is_eq
          (by_blob c mark.blob r)) (λ r. sym (is_eq-then (by_container c r)
          (by_text r.blob mark.blob))) part.blobs in
          ap (is_noted_there part f) same
          ∙ ap (λ n. is_noted_there part n (blob_of c mark.blob part.blobs)) (sym function)
          ∙ ap (λ name. is_noted_there part mark.function (blob_of name mark.blob part.blobs)) (sym container)
          ∙ right
        where
          number : (a b : ℕ) → is_eq (nat_cmp a b) ≡ true → a ≡ b
          number a b is = exact_unsigned a b (equal (nat_cmp a b) is)

      all : list_all (there (rows_at (by_container c) part.blobs)) (rows_at (by_function f c) marks) ≡ true
      all = all-kept (is_right part) (there (rows_at (by_container c) part.blobs)) (λ mark. is_eq
          (by_function f c mark)) gives marks noted_marks.right

-- ---- on the way

all_taken : {X : Type 0} (xs : List X) → take (length xs) xs ≡ xs
all_taken [] = refl
all_taken (x ∷ xs) = ap (λ more. x ∷ more) (all_taken xs)

pub shorter : {X : Type 0} (many : ℕ) (xs : List X) → length (drop many xs) ≤ length xs
shorter zero xs = omega arith
shorter (suc many) [] = omega arith
shorter (suc many) (x ∷ xs) = let few = shorter many xs in omega (arith, few)

none_taken : {X : Type 0} (n : ℕ) → take {A = X} n [] ≡ []
none_taken zero = refl
none_taken (suc n) = refl

-- a slice from a place on
pub rest_of : {X : Type 0} (many : ℕ) (xs : List X) → take (length xs - many) (drop many xs) ≡ drop many xs
rest_of zero xs = let same : length xs - 0 ≡ length xs = omega arith in ap (λ n. take n xs) same ∙ all_taken xs
rest_of (suc many) [] = none_taken (0 - suc many)
rest_of (suc many) (x ∷ xs) =
    let same : suc (length xs) - suc many ≡ length xs - many = omega arith in
    ap (λ n. take n (drop many xs)) same ∙ rest_of many xs

module _ (noted : BlobRow → Bool) where
  no_more : (marks : List Mark) (rows : List BlobRow) → go_along noted marks rows ≡ true → length marks ≤ length rows
  no_more [] rows go = omega arith
  no_more (mark ∷ marks) [] go = cc
  no_more (mark ∷ marks) (row ∷ rows) go =
      by_test (no_more marks rows) (no_more (mark ∷ marks) rows) (bytes_eq mark.blob row.blob) go
    where
      by_test : (go_along noted marks rows ≡ true → length marks ≤ length rows)
          → (go_along noted (mark ∷ marks) rows ≡ true → length (mark ∷ marks) ≤ length rows)
          → (b : Bool) → (if b then noted row && go_along noted marks rows else go_along noted
          (mark ∷ marks) rows) ≡ true
          → suc (length marks) ≤ suc (length rows)
      by_test fewer all true is = let few = fewer (second_of_both (noted row) _ is) in omega (arith, few)
      by_test fewer all false is = let few = all is in omega (arith, few)

  -- where the first blob has no mark, each mark is of a later blob than that at its place
  behind_all : (row : BlobRow) (rows : List BlobRow) → are_in_order by_name (row ∷ rows) ≡ true → (marks : List Mark)
      → go_along noted marks rows ≡ true → (j : ℕ) (d : BlobRow) (e : Mark) → j < length marks
      → by_text (slice_index_or (row ∷ rows) j d).blob (slice_index_or marks j e).blob ≡ Less
  behind_all row rows order [] go j d e within = absurd (omega (arith, within))
  behind_all row [] order (mark ∷ marks) go j d e within = cc
  behind_all row (next ∷ rows) order (mark ∷ marks) go j d e within =
      by_test (λ ms rest i low. behind_all next rows (second_of_both _ _ order) ms rest i d e low)
      (bytes_eq mark.blob next.blob) refl go j within
    where
      by_test : ((ms : List Mark) → go_along noted ms rows ≡ true → (i : ℕ) → i < length ms
          → by_text (slice_index_or (next ∷ rows) i d).blob (slice_index_or ms i e).blob ≡ Less)
          → (b : Bool) → bytes_eq mark.blob next.blob ≡ b
          → (if b then noted next && go_along noted marks rows else go_along noted (mark ∷ marks) rows) ≡ true
          → (j : ℕ) → j < length (mark ∷ marks)
          → by_text (slice_index_or (row ∷ next ∷ rows) j d).blob (slice_index_or (mark ∷ marks) j e).blob ≡ Less
      by_test on true is rest zero within =
          ap (λ name. by_text row.blob name) (same_text mark.blob next.blob is)
          ∙ less _ (first_of_both (is_lt (by_name row next)) (list_all (λ after. is_lt (by_name row after)) rows)
          (first_of_both (list_all (λ after. is_lt (by_name row after)) (next ∷ rows)) (are_in_order by_name
          (next ∷ rows)) order))
      by_test on true is rest (suc j) within =
          on marks (second_of_both (noted next) (go_along noted marks rows) rest) j (omega (arith, within))
      by_test on false is rest j within =
          let few = no_more (mark ∷ marks) rows rest in
          nat_list_cmp_total.trans (slice_index_or (row ∷ next ∷ rows) j d).blob (slice_index_or
          (next ∷ rows) j d).blob
          (slice_index_or (mark ∷ marks) j e).blob
          (in_order-at by_name (row ∷ next ∷ rows) order j (suc j) d (omega arith) (omega (arith, few, within)))
          (on (mark ∷ marks) rest j within)

  pub record Passed (rows : List BlobRow) (marks : List Mark) (many : ℕ) : Type 0 where
    pub unnoted : unnoted_of noted (drop many rows) ≡ unnoted_of noted rows
    pub ahead : IsAhead noted (drop many rows) (drop many marks)

  pub passed : (many : ℕ) (rows : List BlobRow) (marks : List Mark) → IsAhead noted rows marks
      → many ≤ length rows → many ≤ length marks → AreAlike rows marks many → Passed rows marks many
  passed zero rows marks ahead few_rows few_marks alike = record { unnoted = refl; ahead = ahead }
  passed (suc many) [] marks ahead few_rows few_marks alike = absurd (omega (arith, few_rows))
  passed (suc many) (row ∷ rows) [] ahead few_rows few_marks alike = absurd (omega (arith, few_marks))
  passed (suc many) (row ∷ rows) (mark ∷ marks) ahead few_rows few_marks same_names =
      by_test (λ on. passed many rows marks on (omega (arith, few_rows)) (omega (arith, few_marks))
      (λ k r m at. same_names (suc k) r m (omega (arith, at)))) (bytes_eq mark.blob row.blob) refl ahead.along
    where
      without : (b : Bool) → b ≡ true → unnoted_of noted rows ≡
          (if not b then row ∷ unnoted_of noted rows else unnoted_of noted rows)
      without true is = refl
      without false is = cc

      by_test : (IsAhead noted rows marks → Passed rows marks many)
          → (b : Bool) → bytes_eq mark.blob row.blob ≡ b
          → (if b then noted row && go_along noted marks rows else go_along noted (mark ∷ marks) rows) ≡ true
          → Passed (row ∷ rows) (mark ∷ marks) (suc many)
      by_test on true is rest =
          let behind = on (record {
            order = second_of_both (list_all (λ after. is_lt (by_name row after)) rows)
                (are_in_order by_name rows) ahead.order;
            along = second_of_both (noted row)
                (go_along noted marks rows) rest;
          }) in
          record {
            unnoted = behind.unnoted ∙ without (noted row) (first_of_both (noted row)
                (go_along noted marks rows) rest);
            ahead = behind.ahead;
          }
      by_test on false is rest =
          let last : many < length (mark ∷ marks) = omega (arith, few_marks) in
          let apart = behind_all row rows ahead.order (mark ∷ marks) rest many row mark last in
          let same = same_text (slice_index_or (mark ∷ marks) many mark).blob (slice_index_or
          (row ∷ rows) many row).blob (same_names many row mark (omega arith)) in
          absurd (itself (slice_index_or (row ∷ rows) many row).blob (ap (λ name. by_text (slice_index_or
          (row ∷ rows) many row).blob name) (sym same) ∙ apart))
        where
          itself : (name : List ℕ) → by_text name name ≡ Less → ⊥
          itself name is = not_both (by_text name name) is (nat_list_cmp_total.antisymm name name)
            where
              not_both : (o : Ordering) → o ≡ Less → o ≡ ordering_reverse o → ⊥
              not_both Less is turned = cc
              not_both Equal is turned = cc
              not_both Greater is turned = cc

  pub behind_first : (row : BlobRow) (rows : List BlobRow) (marks : List Mark) → IsAhead noted (row ∷ rows) marks
      → IsAhead noted rows (behind_mark row marks)
  behind_first row rows [] ahead = record { order = second_of_both _ _ ahead.order; along = refl }
  behind_first row rows (mark ∷ marks) ahead =
      record { order = second_of_both _ _ ahead.order; along = by_test (bytes_eq mark.blob row.blob) ahead.along }
    where
      by_test : (b : Bool)
          → (if b then noted row && go_along noted marks rows else go_along noted (mark ∷ marks) rows) ≡ true
          → go_along noted (if b then marks else mark ∷ marks) rows ≡ true
      by_test true is = second_of_both (noted row) _ is
      by_test false is = is
