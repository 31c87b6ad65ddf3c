-- Receipts after one is made, and blobs by their names.
use Rattle.std.proofs.Common.{◌≡◌, ℕ, Bool, true, false, List, [], ◌∷◌, find, Some, refl, sym, ap, ◌∙◌}
use Rattle.std.specs.Prelude.{◌==◌, ◌&&◌, ◌||◌, if◌then◌else◌, is_some}
use Rattle.std.specs.List.{list_all}
use Rattle.std.specs.Cmp.{unsigned_tied}
use Rattle.std.specs.Ordering.{nat_cmp, ordering_then, is_eq}
use Rattle.std.specs.Str.{bytes_eq}
use Rattle.std.specs.declared.cmp.Ordering.{Ordering}
use Rattle.std.specs.declared.cmp.Ordering.TheVariants.{Less, Equal, Greater}
use Rattle.std.proofs.lemmas.Map.Text.{is_eq-slice_cmp}
use Rattle.std.proofs.lemmas.Slice.Eq.{bytes_eq-Decides}
use Rattle.fh_rows.proofs.Lawful.{find-passes, row_at-with_same, row_at-with_other}
use Rattle.fh_blobs.specs.declared.blob.BlobRow.{BlobRow}
use Rattle.fh_blobs.specs.declared.receipt.Receipt.{Receipt}
use Rattle.fh_blobs.specs.Part.{BlobPart, by_text, by_blob, by_receipt, blob_of, has_receipt}
use Rattle.fh_blobs.specs.Orders.{receipts_total}
use Rattle.fh_blobs.specs.Acts.{with_receipt}

pub equal : (o : Ordering) → is_eq o ≡ true → o ≡ Equal
equal Less is = cc
equal Equal is = refl
equal Greater is = cc

pub is_eq-then : (a b : Ordering) → is_eq (ordering_then a b) ≡ (is_eq a && is_eq b)
is_eq-then Less b = refl
is_eq-then Equal b = refl
is_eq-then Greater b = refl

-- it is the receipt of this
abbrev pub is_this : ℕ → List ℕ → List ℕ → ℕ → Receipt → Bool
is_this f c b v row = (row.function == f) && (bytes_eq row.container c && (bytes_eq row.blob b && (row.version == v)))

pub is_eq-by_receipt : (f : ℕ) (c b : List ℕ) (v : ℕ) (row : Receipt) → is_eq (by_receipt f c b v row) ≡ is_this f c b v row
is_eq-by_receipt f c b v row =
    is_eq-then (nat_cmp row.function f) _
    ∙ ap (λ rest. is_eq (nat_cmp row.function f) && rest) (is_eq-then (by_text row.container c) _ ∙ ap (λ rest. is_eq (by_text row.container c) && rest) (is_eq-then (by_text row.blob b) (nat_cmp row.version v)))
    ∙ rw (unsigned_tied row.function f, is_eq-slice_cmp row.container c, is_eq-slice_cmp row.blob b, unsigned_tied row.version v) refl

abbrev this : ℕ → List ℕ → List ℕ → ℕ → Receipt
this f c b v = record { function = f; container = c; blob = b; version = v }

pub has_receipt-made : (row : Receipt) (part : BlobPart) (f : ℕ) (c b : List ℕ) (v : ℕ) → has_receipt (with_receipt row part) f c b v ≡ (has_receipt part f c b v || is_this f c b v row)
has_receipt-made row part f c b v = by_test (is_this f c b v row) refl
  where
    or_true : (b : Bool) → true ≡ (b || true)
    or_true true = refl
    or_true false = refl

    or_false : (b : Bool) → b ≡ (b || false)
    or_false true = refl
    or_false false = refl

    by_test : (t : Bool) → is_this f c b v row ≡ t → has_receipt (with_receipt row part) f c b v ≡ (has_receipt part f c b v || t)
    by_test true is =
        ap is_some (row_at-with_same (λ (x y : Receipt). by_receipt y.function y.container y.blob y.version x) receipts_total row (this f c b v) part.receipts (equal (by_receipt f c b v row) (is_eq-by_receipt f c b v row ∙ is)))
        ∙ or_true (has_receipt part f c b v)
    by_test false is =
        ap is_some (row_at-with_other (λ (x y : Receipt). by_receipt y.function y.container y.blob y.version x) receipts_total row (this f c b v) part.receipts (is_eq-by_receipt f c b v row ∙ is))
        ∙ or_false (has_receipt part f c b v)

pub first_of_both : (a b : Bool) → (a && b) ≡ true → a ≡ true
first_of_both true b is = refl
first_of_both false b is = is

pub second_of_both : (a b : Bool) → (a && b) ≡ true → b ≡ true
second_of_both true b is = is
second_of_both false b is = cc

pub same_text : (a b : List ℕ) → bytes_eq a b ≡ true → a ≡ b
same_text a b is = (bytes_eq-Decides a b).0 is

-- the blob of a container and a name has these
pub blob_of-names : (c n : List ℕ) (blobs : List BlobRow) (row : BlobRow) → blob_of c n blobs ≡ Some row → (row.container ≡ c) × (row.blob ≡ n)
blob_of-names c n blobs row is =
    let passes : (is_eq (by_text row.container c) && is_eq (by_text row.blob n)) ≡ true = sym (is_eq-then (by_text row.container c) (by_text row.blob n)) ∙ find-passes (λ r. is_eq (by_blob c n r)) blobs row is in
    (same_text row.container c (sym (is_eq-slice_cmp row.container c) ∙ first_of_both _ _ passes), same_text row.blob n (sym (is_eq-slice_cmp row.blob n) ∙ second_of_both (is_eq (by_text row.container c)) _ passes))

-- what holds of all holds of the one that is found
pub all-found : {X : Type 0} (p q : X → Bool) (xs : List X) (x : X) → list_all p xs ≡ true → find q xs ≡ Some x → p x ≡ true
all-found p q [] x all is = cc
all-found p q (y ∷ xs) x all is = by_test (q y) is (all-found p q xs x (second_of_both (p y) (list_all p xs) all))
  where
    by_test : (b : Bool) → (if b then Some y else find q xs) ≡ Some x → (find q xs ≡ Some x → p x ≡ true) → p x ≡ true
    by_test true found rest = let same : y ≡ x = cc in rw (← same) (first_of_both (p y) (list_all p xs) all)
    by_test false found rest = rest found
