-- The row of a number in a queue, and the end of a number, by its slot.
use Rattle.std.proofs.Common.{◌≡◌, ℕ, zero, suc, ◌+◌, ◌-◌, ◌<◌, Bool, true, false, List, [], ◌∷◌, length, Option, Some, None, refl, ap, ◌∙◌, inl, inr, arith}
use Rattle.std.specs.Prelude.{◌==◌, ◌&&◌, slice_index_or, ◌⊎◌}
use Rattle.std.proofs.lemmas.Bool.Decides.{nat_tests}
use Rattle.fh_queues.specs.declared.row.Message.{Message}
use Rattle.fh_queues.specs.declared.done.Ending.{Ending}
use Rattle.fh_queues.specs.declared.slot.Slot.{Slot}
use Rattle.fh_queues.specs.declared.slot.Slot.TheVariants.{Row, Ended}
use Rattle.fh_queues.specs.Rows.{is_of, is_live, row_of, row_in}
use Rattle.fh_queues.specs.Order.{are_rising}
use Rattle.fh_queues.specs.Part.{end_of}
use Rattle.fh_queues.specs.Index.{ends_of, slot_at}
use Rattle.fh_queues.proofs.Finding.{keep_if}
use Rattle.fh_queues.proofs.Ends.{end_of-past}
use Rattle.fh_queues.proofs.Guards.{row_in-above}

abbrev pub live_within : List ℕ → ℕ → Message → Bool
live_within queue m row = is_of queue row && is_live m row

pub row_in-is : (queue : List ℕ) (n m low : ℕ) (rows : List Message) → are_rising low rows ≡ true
    → row_in queue n m rows ≡ keep_if (live_within queue m) (row_of n rows)
row_in-is queue n m low [] rising = refl
row_in-is queue n m low (row ∷ rows) rising =
    by_tests (row.number == n) (is_of queue row) (is_live m row) refl refl refl
    (row_in-is queue n m row.number rows later)
  where
    later : are_rising row.number rows ≡ true
    later = grind (arith, nat_tests)

    by_tests : (same here alive : Bool) → (row.number == n) ≡ same → is_of queue row ≡ here → is_live m row ≡ alive
        → row_in queue n m rows ≡ keep_if (live_within queue m) (row_of n rows)
        → row_in queue n m (row ∷ rows) ≡ keep_if (live_within queue m) (row_of n (row ∷ rows))
    by_tests true true true is of its more = rw (is, of, its) refl
    by_tests true false alive is of its more =
        let none : row_in queue n m rows ≡ None =
        row_in-above queue n m row.number rows (grind (arith, nat_tests)) later in
        rw (is, of) none
    by_tests true true false is of its more =
        let none : row_in queue n m rows ≡ None =
        row_in-above queue n m row.number rows (grind (arith, nat_tests)) later in
        rw (is, of, its) none
    by_tests false here alive is of its more = rw is more

end-at : (at : ℕ) (slots : List Slot) (ending : Ending) → slot_at slots at ≡ Ended ending → at < length slots
    → slice_index_or (ends_of slots) at None ≡ Some ending
end-at at [] ending is within = absurd (omega (arith, within))
end-at zero (Row row place ∷ slots) ending is within = absurd (cc)
end-at zero (Ended end ∷ slots) ending is within = let same : end ≡ ending = cc in ap (λ (e : Ending). Some e) same
end-at (suc at) (slot ∷ slots) ending is within = end-at at slots ending is (omega (arith, within))

pub end_of-at : (number at : ℕ) (slots : List Slot) (ending : Ending) → at + 1 ≡ number → at < length slots
    → slot_at slots at ≡ Ended ending → end_of number (ends_of slots) ≡ Some ending
end_of-at number at slots ending is within stands =
    let some : (number == 0) ≡ false = grind (arith, nat_tests) in
    let before : number - 1 ≡ at = omega (arith, is) in
    rw some (ap (λ k. slice_index_or (ends_of slots) k None) before ∙ end-at at slots ending stands within)

pub end_of-none : (number : ℕ) (ends : List (Option Ending)) → (number ≡ 0) ⊎ (length ends < number)
    → end_of number ends ≡ None
end_of-none number ends (inl zero_is) = ap (λ n. end_of n ends) zero_is
end_of-none number ends (inr past) = end_of-past number ends past
