-- Marks after a change: each is still of a blob that its function has noted as it is.
use Rattle.std.proofs.Common.{◌≡◌, ℕ, Bool, true, false, List, [], ◌∷◌, ◌++◌, Option, Some, None, refl, sym, ap, ◌∙◌}
use Rattle.std.specs.Prelude.{◌&&◌, ◌||◌, not, if◌then◌else◌, is_some}
use Rattle.std.specs.List.{list_all}
use Rattle.std.specs.Cmp.{IsTotalOrder, then_total, nat_cmp_total, unsigned_tied}
use Rattle.std.specs.Cmp.Lexicographic.{nat_list_cmp_total, on_texts}
use Rattle.std.specs.Ordering.{nat_cmp, ordering_reverse, is_lt, is_eq, is_ne, is_gt}
use Rattle.std.specs.Str.{bytes_eq}
use Rattle.std.specs.declared.cmp.Ordering.{Ordering}
use Rattle.std.specs.declared.cmp.Ordering.TheVariants.{Less, Equal, Greater}
use Rattle.std.proofs.lemmas.Map.Text.{is_eq-slice_cmp}
use Rattle.std.proofs.lemmas.Map.Lookups.{exact_unsigned}
use Rattle.fh_rows.specs.Rows.{row_at, with_row_at, without_row_at}
use Rattle.fh_rows.proofs.Lawful.{row_at-with_same, row_at-with_other, row_at-without_other}
use Rattle.fh_rows.proofs.Order.{list_all-passing, in_order-with, in_order-without}
use Rattle.fh_blobs.specs.declared.blob.BlobRow.{BlobRow}
use Rattle.fh_blobs.specs.declared.receipt.Receipt.{Receipt}
use Rattle.fh_blobs.specs.declared.mark.Mark.{Mark}
use Rattle.fh_blobs.specs.declared.mark.Function.{Function}
use Rattle.fh_blobs.specs.Part.{BlobPart, by_text, by_blob, blob_of}
use Rattle.fh_blobs.specs.Orders.{marks_total, numbers_total}
use Rattle.fh_blobs.specs.Acts.{without_blob, with_receipt}
use Rattle.fh_blobs.specs.Marks.{by_function, by_mark, with_mark, with_number, with_mark_if, with_number_if, without_marks, mark_of, is_of_version, is_current, is_noted_there, is_right, is_among, are_marks_in_order, are_blobs_in_order, AreNoted}
use Rattle.fh_blobs.proofs.Receipts.{equal, is_eq-then, has_receipt-made, first_of_both, second_of_both, same_text, blob_of-names}
use Rattle.fh_blobs.proofs.Lawful.{both, all-filter, all-joined, all-weaker}

blobs_total : IsTotalOrder (λ (a b : BlobRow). by_blob b.container b.blob a)
blobs_total = then_total (on_texts (λ (r : BlobRow). r.container)) (on_texts (λ (r : BlobRow). r.blob))

-- what two tests give of each
all-two : {X : Type 0} (p q r : X → Bool) → ((x : X) → p x ≡ true → q x ≡ true → r x ≡ true) → (xs : List X)
    → list_all p xs ≡ true → list_all q xs ≡ true → list_all r xs ≡ true
all-two p q r gives [] one two = refl
all-two p q r gives (x ∷ xs) one two =
    both _ _ (gives x (first_of_both _ _ one) (first_of_both _ _ two))
    (all-two p q r gives xs (second_of_both _ _ one) (second_of_both _ _ two))

all-always : {X : Type 0} (p : X → Bool) → ((x : X) → p x ≡ true) → (xs : List X) → list_all p xs ≡ true
all-always p always [] = refl
all-always p always (x ∷ xs) = both _ _ (always x) (all-always p always xs)

tied : {X : Type 0} (order : X → X → Ordering) → IsTotalOrder order → (x : X) → order x x ≡ Equal
tied order total x = by_turn (order x x) (total.antisymm x x)
  where
    by_turn : (o : Ordering) → o ≡ ordering_reverse o → o ≡ Equal
    by_turn Less is = cc
    by_turn Equal is = refl
    by_turn Greater is = cc

itself : (text : List ℕ) → is_eq (by_text text text) ≡ true
itself text = ap is_eq (tied by_text nat_list_cmp_total text)

own : (number : ℕ) → is_eq (nat_cmp number number) ≡ true
own number = ap is_eq (tied nat_cmp nat_cmp_total number)

-- ---- marks that are taken out

abbrev with_row_put : BlobRow → ℕ → BlobPart → BlobPart
with_row_put row next part =
    record part { blobs = with_row_at (by_blob row.container row.blob) row part.blobs; next_version = next }

pub without_marks-push : (c n : List ℕ) (functions : List Function) (f : Function) (marks : List Mark)
    → without_marks c n (functions ++ f ∷ []) marks ≡ without_row_at (by_mark f.number c n)
    (without_marks c n functions marks)
without_marks-push c n [] f marks = refl
without_marks-push c n (one ∷ functions) f marks = without_marks-push c n functions f (without_row_at
    (by_mark one.number c n) marks)

module _ (c n : List ℕ) where
  -- the mark is of this blob
  abbrev is_of : Mark → Bool
  is_of mark = is_eq (by_blob mark.container mark.blob (record { container = c; blob = n; version = 0; text = [] }))

  all-left : (p : Mark → Bool) (functions : List Function) (marks : List Mark) → list_all p marks ≡ true
      → list_all p (without_marks c n functions marks) ≡ true
  all-left p [] marks all = all
  all-left p (f ∷ functions) marks all =
      all-left p functions (without_row_at (by_mark f.number c n) marks)
      (all-filter p (λ mark. is_ne (by_mark f.number c n mark)) marks all)

  order_left : (functions : List Function) (marks : List Mark) → are_marks_in_order marks ≡ true
      → are_marks_in_order (without_marks c n functions marks) ≡ true
  order_left [] marks order = order
  order_left (f ∷ functions) marks order =
      order_left functions (without_row_at (by_mark f.number c n) marks)
      (in_order-without (λ (a b : Mark). by_mark b.function b.container b.blob a) marks_total
      (record { function = f.number; container = c; blob = n }) marks order)

  abbrev is_left : List Function → Mark → Bool
  is_left functions mark = not (is_of mark && is_among functions mark.function)

  -- of these functions, none of its marks is left
  none_left : (functions : List Function) (marks : List Mark)
      → list_all (is_left functions) (without_marks c n functions marks) ≡ true
  none_left [] marks = all-always (is_left []) (λ mark. neither (is_of mark)) marks
    where
      neither : (b : Bool) → not (b && false) ≡ true
      neither true = refl
      neither false = refl
  none_left (f ∷ functions) marks =
      let apart = all-left (λ mark. is_ne (by_mark f.number c n mark)) functions _
      (list_all-passing (λ mark. is_ne (by_mark f.number c n mark)) (λ mark. is_ne (by_mark f.number c n mark))
      (λ mark is. is) marks) in
      all-two (λ mark. is_ne (by_mark f.number c n mark)) (is_left functions) (is_left (f ∷ functions)) gives _ apart
      (none_left functions (without_row_at (by_mark f.number c n) marks))
    where
      gives : (mark : Mark) → is_ne (by_mark f.number c n mark) ≡ true → is_left functions mark ≡ true
          → is_left (f ∷ functions) mark ≡ true
      gives mark apart left = by_tests (is_of mark) (is_eq (nat_cmp f.number mark.function)) refl refl left
        where
          differs : (o : Ordering) → is_eq o ≡ true → is_ne o ≡ true → ⊥
          differs Less is isnt = cc
          differs Equal is isnt = cc
          differs Greater is isnt = cc

          by_tests : (a b : Bool) → is_of mark ≡ a → is_eq (nat_cmp f.number mark.function) ≡ b
              → not (a && is_among functions mark.function) ≡ true
              → not (a && is_some (if b then Some f else row_at
              (λ function. nat_cmp function.number mark.function) functions)) ≡ true
          by_tests false b of number rest = refl
          by_tests true false of number rest = rest
          by_tests true true of number rest =
              let names = sym (is_eq-then (by_text c mark.container) (by_text n mark.blob)) ∙ of in
              let container : c ≡ mark.container = same_text c mark.container (sym
              (is_eq-slice_cmp c mark.container) ∙ first_of_both _ _ names) in
              let blob : n ≡ mark.blob = same_text n mark.blob (sym (is_eq-slice_cmp n mark.blob) ∙ second_of_both
              (is_eq (by_text c mark.container)) _ names) in
              let function : f.number ≡ mark.function = exact_unsigned f.number mark.function (equal _ number) in
              let here : is_eq (by_mark f.number c n mark) ≡ true =
              ap (λ k. is_eq (by_mark k c n mark)) function
              ∙ ap (λ name. is_eq (by_mark mark.function name n mark)) container
              ∙ ap (λ name. is_eq (by_mark mark.function mark.container name mark)) blob
              ∙ is_eq-then (by_function mark.function mark.container mark) (by_text mark.blob mark.blob)
              ∙ both _ _ (is_eq-then (nat_cmp mark.function mark.function) (by_text mark.container mark.container)
              ∙ both _ _ (own mark.function) (itself mark.container)) (itself mark.blob) in
              absurd (differs (by_mark f.number c n mark) here apart)

  -- where all functions are known, marks of this blob aren't left, and the others are right as before
  module _ (part after : BlobPart) (stays : (mark : Mark) → is_of mark ≡ false → is_right part mark ≡ true
      → is_right after mark ≡ true) where
    stay_noted : (marks : List Mark) (functions : List Function) → are_blobs_in_order after.blobs ≡ true
        → AreNoted part marks functions → AreNoted after (without_marks c n functions marks) functions
    stay_noted marks functions blobs noted =
        let known = all-left (λ mark. is_among functions mark.function) functions marks noted.known in
        let apart = all-two (λ (mark : Mark). is_among functions mark.function) (is_left functions) (λ mark. not
        (is_of mark)) not_of _ known (none_left functions marks) in
        record {
          blobs = blobs;
          order = order_left functions marks noted.order;
          right = all-two (λ mark. not (is_of mark)) (is_right part) (is_right after) (λ mark of right. stays mark
              (no (is_of mark) of) right) _ apart (all-left (is_right part) functions marks noted.right);
          known = known;
        }
      where
        no : (b : Bool) → not b ≡ true → b ≡ false
        no true is = cc
        no false is = refl

        not_of : (mark : Mark) → is_among functions mark.function ≡ true → is_left functions mark ≡ true → not
            (is_of mark) ≡ true
        not_of mark among left = by_tests (is_of mark) (is_among functions mark.function) among left
          where
            by_tests : (a b : Bool) → b ≡ true → not (a && b) ≡ true → not a ≡ true
            by_tests true true is rest = rest
            by_tests true false is rest = cc
            by_tests false b is rest = refl

-- a put takes the marks of its blob out
pub noted-put : (row : BlobRow) (next : ℕ) (part : BlobPart) (marks : List Mark) (functions : List Function)
    → AreNoted part marks functions
    → AreNoted (with_row_put row next part) (without_marks row.container row.blob functions marks) functions
noted-put row next part marks functions noted =
    stay_noted row.container row.blob part (with_row_put row next part) stays marks functions
    (in_order-with (λ (a b : BlobRow). by_blob b.container b.blob a) blobs_total row part.blobs noted.blobs) noted
  where
    stays : (mark : Mark) → is_of row.container row.blob mark ≡ false → is_right part mark ≡ true → is_right
        (with_row_put row next part) mark ≡ true
    stays mark apart right =
        ap (is_noted_there part mark.function)
        (row_at-with_other (λ (a b : BlobRow). by_blob b.container b.blob a) blobs_total row
        (record { container = mark.container; blob = mark.blob; version = 0; text = [] }) part.blobs apart)
        ∙ right

-- so does a removal
pub noted-removed : (c n : List ℕ) (part : BlobPart) (marks : List Mark) (functions : List Function)
    → AreNoted part marks functions
    → AreNoted (without_blob c n part) (without_marks c n functions marks) functions
noted-removed c n part marks functions noted =
    stay_noted c n part (without_blob c n part) stays marks functions
    (in_order-without (λ (a b : BlobRow). by_blob b.container b.blob a) blobs_total
    (record { container = c; blob = n; version = 0; text = [] }) part.blobs noted.blobs) noted
  where
    stays : (mark : Mark) → is_of c n mark ≡ false → is_right part mark ≡ true → is_right
        (without_blob c n part) mark ≡ true
    stays mark apart right =
        ap (is_noted_there part mark.function)
        (row_at-without_other (λ (a b : BlobRow). by_blob b.container b.blob a) blobs_total
        (record { container = c; blob = n; version = 0; text = [] })
        (record { container = mark.container; blob = mark.blob; version = 0; text = [] }) part.blobs apart)
        ∙ right

-- ---- marks that come

module _ (receipt : Receipt) (part : BlobPart) where
  or_first : (a b : Bool) → a ≡ true → (a || b) ≡ true
  or_first true b is = refl
  or_first false b is = cc

  or_second : (a b : Bool) → b ≡ true → (a || b) ≡ true
  or_second true b is = refl
  or_second false b is = is

  -- what was noted stays noted
  still_right : (mark : Mark) → is_right part mark ≡ true → is_right (with_receipt receipt part) mark ≡ true
  still_right mark right = by_blob_there (blob_of mark.container mark.blob part.blobs) right
    where
      by_blob_there : (found : Option BlobRow) → is_noted_there part mark.function found ≡ true
          → is_noted_there (with_receipt receipt part) mark.function found ≡ true
      by_blob_there None is = is
      by_blob_there (Some row) is =
          has_receipt-made receipt part mark.function row.container row.blob row.version ∙ or_first _ _ is

  noted-receipt : (marks : List Mark) (functions : List Function) → AreNoted part marks functions
      → AreNoted (with_receipt receipt part) marks functions
  noted-receipt marks functions noted = record {
    blobs = noted.blobs;
    order = noted.order;
    right = all-weaker (is_right part) (is_right (with_receipt receipt part)) still_right marks noted.right;
    known = noted.known;
  }

  new_right : is_current part receipt ≡ true → is_right (with_receipt receipt part) (mark_of receipt) ≡ true
  new_right current = by_found (blob_of receipt.container receipt.blob part.blobs) refl current
    where
      same_bytes : (a b : List ℕ) → a ≡ b → bytes_eq a b ≡ true
      same_bytes a b is = ap (λ name. bytes_eq a name) (sym is) ∙ sym (is_eq-slice_cmp a a) ∙ itself a

      by_found : (found : Option BlobRow) → blob_of receipt.container receipt.blob part.blobs ≡ found
          → is_of_version receipt.version found ≡ true
          → is_noted_there (with_receipt receipt part) receipt.function found ≡ true
      by_found None is version = version
      by_found (Some row) is version =
          let names = blob_of-names receipt.container receipt.blob part.blobs row is in
          has_receipt-made receipt part receipt.function row.container row.blob row.version
          ∙ or_second _ _
          (both _ _ (sym (unsigned_tied receipt.function receipt.function) ∙ own receipt.function)
          (both _ _ (same_bytes receipt.container row.container (sym names.0))
          (both _ _ (same_bytes receipt.blob row.blob (sym names.1)) version)))

  among-more : (number : ℕ) (functions : List Function) (other : ℕ) → is_among functions other ≡ true
      → is_among (with_number number functions) other ≡ true
  among-more number functions other among = by_test (is_eq (nat_cmp number other)) refl
    where
      by_test : (b : Bool) → is_eq (nat_cmp number other) ≡ b → is_among (with_number number functions) other ≡ true
      by_test true is = ap is_some (row_at-with_same (λ (a b : Function). nat_cmp a.number b.number) numbers_total
          (record { number = number }) (record { number = other }) functions (equal _ is))
      by_test false is = ap is_some (row_at-with_other (λ (a b : Function). nat_cmp a.number b.number) numbers_total
          (record { number = number }) (record { number = other }) functions is) ∙ among

  among-own : (number : ℕ) (functions : List Function) → is_among (with_number number functions) number ≡ true
  among-own number functions = ap is_some (row_at-with_same
      (λ (a b : Function). nat_cmp a.number b.number) numbers_total (record { number = number })
      (record { number = number }) functions (tied nat_cmp nat_cmp_total number))

  -- a note of the version that its blob has makes its mark
  noted-mark : (marks : List Mark) (functions : List Function) → is_current part receipt ≡ true
      → AreNoted part marks functions
      → AreNoted (with_receipt receipt part) (with_mark (mark_of receipt) marks)
      (with_number receipt.function functions)
  noted-mark marks functions current noted = record {
    blobs = noted.blobs;
    order = in_order-with (λ (a b : Mark). by_mark b.function b.container b.blob a) marks_total
        (mark_of receipt) marks noted.order;
    right =
        all-joined (is_right (with_receipt receipt part)) (λ mark. is_lt
        (by_mark receipt.function receipt.container receipt.blob mark)) (λ mark. is_gt
        (by_mark receipt.function receipt.container receipt.blob mark)) (mark_of receipt) marks
        (new_right current) (all-weaker (is_right part) (is_right
        (with_receipt receipt part)) still_right marks noted.right);
    known =
        let more = all-weaker (λ (mark : Mark). is_among functions mark.function) (λ mark. is_among
        (with_number receipt.function functions) mark.function)
        (λ mark is. among-more receipt.function functions mark.function is) marks noted.known in
        all-joined (λ mark. is_among (with_number receipt.function functions) mark.function) (λ mark. is_lt
        (by_mark receipt.function receipt.container receipt.blob mark)) (λ mark. is_gt
        (by_mark receipt.function receipt.container receipt.blob mark)) (mark_of receipt) marks
        (among-own receipt.function functions) more;
  }

  pub noted-note : (marks : List Mark) (functions : List Function) → AreNoted part marks functions
      → AreNoted (with_receipt receipt part) (with_mark_if (is_current part receipt) (mark_of receipt) marks)
      (with_number_if (is_current part receipt) receipt.function functions)
  noted-note marks functions noted = by_test (is_current part receipt) refl
    where
      by_test : (b : Bool) → is_current part receipt ≡ b
          → AreNoted (with_receipt receipt part) (with_mark_if b (mark_of receipt) marks)
          (with_number_if b receipt.function functions)
      by_test true is = noted-mark marks functions is noted
      by_test false is = noted-receipt marks functions noted
