-- Receipts and marks have one order, and the blobs of a container, and a function's marks in it, stand next to
-- each other.
use Rattle.std.specs.Prelude.{◌≡◌, ℕ, true, List, [], refl}
use Rattle.std.proofs.Common.{sym, ap, ◌∙◌}
use Rattle.std.specs.Cmp.{IsTotalOrder, then_total, on_total, nat_cmp_total}
use Rattle.std.specs.Cmp.Lexicographic.{on_texts}
use Rattle.std.specs.Ordering.{nat_cmp, ordering_then, ordering_reverse, is_gt}
use Rattle.std.specs.declared.cmp.Ordering.{Ordering}
use Rattle.std.specs.declared.cmp.Ordering.TheVariants.{Less, Equal, Greater}
use Rattle.fh_rows.specs.Rows.{IsSpan}
use Rattle.fh_blobs.specs.declared.blob.BlobRow.{BlobRow}
use Rattle.fh_blobs.specs.declared.receipt.Receipt.{Receipt}
use Rattle.fh_blobs.specs.declared.mark.Mark.{Mark}
use Rattle.fh_blobs.specs.declared.mark.Function.{Function}
use Rattle.fh_blobs.specs.Part.{by_text, by_container, by_blob, by_receipt}
use Rattle.fh_blobs.specs.Marks.{by_function, by_mark}

pub receipts_total : IsTotalOrder (λ (a b : Receipt). by_receipt b.function b.container b.blob b.version a)
receipts_total =
    then_total (on_total (λ (r : Receipt). r.function) nat_cmp_total)
    (then_total (on_texts (λ (r : Receipt). r.container))
    (then_total (on_texts (λ (r : Receipt). r.blob)) (on_total (λ (r : Receipt). r.version) nat_cmp_total)))

pub marks_total : IsTotalOrder (λ (a b : Mark). by_mark b.function b.container b.blob a)
marks_total =
    then_total (then_total (on_total (λ (m : Mark). m.function) nat_cmp_total) (on_texts (λ (m : Mark). m.container)))
    (on_texts (λ (m : Mark). m.blob))

pub numbers_total : IsTotalOrder (λ (a b : Function). nat_cmp a.number b.number)
numbers_total = on_total (λ (f : Function). f.number) nat_cmp_total

-- where one order decides before another, rows that are alike by the first stand next to each other
module _ {Row : Type 0} (first second : Row → Row → Ordering) (total : IsTotalOrder first) (like : Row) where
  -- of two rows in order, the first is in no later part
  not_later : (one other : Ordering) → ordering_then one other ≡ Less → one ≡ Greater → ⊥
  not_later Less other is behind = cc
  not_later Equal other is behind = cc
  not_later Greater other is behind = cc

  behind : (o : Ordering) → is_gt o ≡ true → o ≡ Greater
  behind Less is = cc
  behind Equal is = cc
  behind Greater is = refl

  inside : (row later : Row) → ordering_then (first row later) (second row later) ≡ Less → first later like ≡ Equal
      → is_gt (first row like) ≡ true → ⊥
  inside row later order here gt =
      let turned : first row like ≡ first row later =
      total.antisymm row like ∙ ap ordering_reverse (sym (total.congr later like row here)) ∙ sym
      (total.antisymm row later) in
      not_later (first row later) (second row later) order (sym turned ∙ behind (first row like) gt)

  by_first : (o : Ordering) (row later : Row) → first row later ≡ o → ordering_then o (second row later) ≡ Less
      → first later like ≡ Less → first row like ≡ Less
  by_first Less row later is order front = total.trans row later like is front
  by_first Equal row later is order front = total.congr row later like is ∙ front
  by_first Greater row later is order front = cc

  before : (row later : Row) → ordering_then (first row later) (second row later) ≡ Less → first later like ≡ Less
      → first row like ≡ Less
  before row later order front = by_first (first row later) row later refl order front

  part_span : IsSpan (λ a b. ordering_then (first a b) (second a b)) (λ row. first row like)
  part_span = record { inside = inside; before = before }

pub containers_span : (container : List ℕ) → IsSpan (λ (a b : BlobRow). by_blob b.container b.blob a)
    (by_container container)
containers_span container =
    part_span (λ (a b : BlobRow). by_text a.container b.container) (λ (a b : BlobRow). by_text a.blob b.blob)
    (on_texts (λ (r : BlobRow). r.container)) (record { container = container; blob = []; version = 0; text = [] })

pub functions_span :
    (function : ℕ) (container : List ℕ)
    → IsSpan (λ (a b : Mark). by_mark b.function b.container b.blob a) (by_function function container)
functions_span function container =
    part_span (λ (a b : Mark). by_function b.function b.container a) (λ (a b : Mark). by_text a.blob b.blob)
    (then_total (on_total (λ (m : Mark). m.function) nat_cmp_total) (on_texts (λ (m : Mark). m.container)))
    (record { function = function; container = container; blob = [] })
