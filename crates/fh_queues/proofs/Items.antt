-- The items of an answer, row by row.
use Rattle.std.proofs.Common.{◌≡◌, ℕ, zero, suc, ◌+◌, ◌<◌, Bool, true, List, [], ◌∷◌, ◌++◌, length, map, ap, ◌∙◌, Bor, slice_index_or, arith}
use Rattle.std.specs.List.{list_all}
use Rattle.std.proofs.lemmas.Grind.{common_steps}
use Rattle.fh_queues.specs.declared.row.Message.{Message}
use Rattle.fh_queues.specs.Outcome.{taken_items}
use Rattle.fh_queues.specs.Whole.{is_counted}

-- one more row is taken with the next receipt
pub taken_items-push : (receipt : ℕ) (rows : List Message) (row : Message) → taken_items receipt (rows ++ row ∷ []) ≡ taken_items receipt rows ++ record { number = row.number; receipt = receipt + length rows; count = row.count + 1; text = row.text } ∷ []
taken_items-push receipt [] row = ap (λ n. record { number = row.number; receipt = n; count = row.count + 1; text = row.text } ∷ []) (omega arith)
taken_items-push receipt (first ∷ rows) row =
    ap (λ more. record { number = first.number; receipt = receipt; count = first.count + 1; text = first.text } ∷ more)
    (taken_items-push (receipt + 1) rows row
    ∙ ap (λ n. taken_items (receipt + 1) rows ++ record { number = row.number; receipt = n; count = row.count + 1; text = row.text } ∷ []) (omega arith))

pub list_all-at : {X : Type 0} (q : X → Bool) (xs : List X) (i : ℕ) (d : X) → list_all q xs ≡ true → i < length xs → q (slice_index_or xs i d) ≡ true
list_all-at q [] i d all within = absurd (omega (arith, within))
list_all-at q (x ∷ xs) zero d all within = grind (arith, common_steps, all)
list_all-at q (x ∷ xs) (suc i) d all within = list_all-at q xs i d (grind (arith, common_steps, all)) (omega (arith, within))

pub counted_at : (receipt : ℕ) (rows : List (Bor Message)) (i : ℕ) (d : Bor Message) → list_all (is_counted receipt) (map (λ row. row.now) rows) ≡ true → i < length rows → is_counted receipt (slice_index_or rows i d).now ≡ true
counted_at receipt [] i d all within = absurd (omega (arith, within))
counted_at receipt (row ∷ rows) zero d all within = grind (arith, common_steps, all)
counted_at receipt (row ∷ rows) (suc i) d all within = counted_at receipt rows i d (grind (arith, common_steps, all)) (omega (arith, within))
