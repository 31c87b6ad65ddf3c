-- The rows of the first slots that pass a test, step by step.
use Rattle.std.proofs.Common.{◌≡◌, ℕ, zero, suc, ◌+◌, ◌-◌, ◌<◌, ◌≤◌, Bool, true, false, List, [], ◌∷◌, ◌++◌, length, take, drop, filter, refl, sym, ap, ◌∙◌, arith}
use Rattle.std.specs.Prelude.{nat_lt}
use Rattle.std.proofs.lemmas.Bool.Decides.{nat_tests}
use Rattle.std.proofs.lemmas.Grind.{common_steps}
use Rattle.std.proofs.lemmas.List.{take_more, take_all, take-append-drop, append-nil}
use Rattle.fh_queues.specs.declared.row.Message.{Message}
use Rattle.fh_queues.specs.declared.done.Ending.TheVariants.{Expired}
use Rattle.fh_queues.specs.declared.slot.Slot.{Slot}
use Rattle.fh_queues.specs.declared.slot.Slot.TheVariants.{Row, Ended}
use Rattle.fh_queues.specs.Rows.{is_dead, is_live, live}
use Rattle.fh_queues.specs.Index.{kept, slot_at, Skips}
use Rattle.fh_queues.proofs.Filters.{filter-append, length-filter_not}
use Rattle.fh_queues.proofs.Slots.{kept-append}

-- the rows of the first slots that pass
abbrev pub passed : (Message → Bool) → ℕ → List Slot → List Message
passed p n slots = filter p (kept (take n slots))

-- the row of one slot, where it passes
abbrev pub passing : (Message → Bool) → Slot → List Message
passing p slot = filter p (kept (slot ∷ []))

pub passed-more : (p : Message → Bool) (n : ℕ) (slots : List Slot) → n < length slots → passed p (n + 1) slots ≡ passed p n slots ++ passing p (slot_at slots n)
passed-more p n slots within =
    ap (λ some. filter p (kept some)) (take_more slots n (Ended Expired) within)
    ∙ ap (filter p) (kept-append (take n slots) (slot_at slots n ∷ []))
    ∙ filter-append p (kept (take n slots)) (kept (slot_at slots n ∷ []))

none_passing : (p : Message → Bool) (slot : Slot) → ((row : Message) (place : ℕ) → slot ≡ Row row place → p row ≡ false) → passing p slot ≡ []
none_passing p (Row row place) fails = rw (fails row place refl) refl
none_passing p (Ended ending) fails = refl

pub passed-skip : (p : Message → Bool) (from more : ℕ) (slots : List Slot) → from + more ≤ length slots → Skips p slots from (from + more) → passed p (from + more) slots ≡ passed p from slots
passed-skip p from zero slots within skips = ap (λ n. passed p n slots) (omega arith)
passed-skip p from (suc more) slots within skips =
    let one = none_passing p (slot_at slots (from + more)) (λ row place is. skips (from + more) row place (omega arith) (omega arith) is) in
    ap (λ n. passed p n slots) (omega arith)
    ∙ passed-more p (from + more) slots (omega arith)
    ∙ ap (λ rows. passed p (from + more) slots ++ rows) one
    ∙ append-nil (passed p (from + more) slots)
    ∙ passed-skip p from more slots (omega arith) (λ i row place low high is. skips i row place low (omega arith) is)

-- the same up to any later slot
pub passed-to : (p : Message → Bool) (from to : ℕ) (slots : List Slot) → from ≤ to → to ≤ length slots → Skips p slots from to → passed p to slots ≡ passed p from slots
passed-to p from to slots order within skips =
    let split : from + (to - from) ≡ to = omega arith in
    ap (λ n. passed p n slots) (sym split)
    ∙ passed-skip p from (to - from) slots (omega arith) (λ i row place low high is. skips i row place low (omega arith) is)

pub passed-all : (p : Message → Bool) (slots : List Slot) → passed p (length slots) slots ≡ filter p (kept slots)
passed-all p slots = ap (λ some. filter p (kept some)) (take_all (length slots) slots (omega arith))

-- the first n rows that pass are among those of the first slots, where n of these do
pub passed-full : (p : Message → Bool) (n i : ℕ) (slots : List Slot) → length (passed p i slots) ≡ n → take n (filter p (kept slots)) ≡ passed p i slots
passed-full p n i slots full =
    ap (λ all. take n (filter p (kept all))) (sym (take-append-drop i slots))
    ∙ ap (λ rows. take n (filter p rows)) (kept-append (take i slots) (drop i slots))
    ∙ ap (take n) (filter-append p (kept (take i slots)) (kept (drop i slots)))
    ∙ grind (arith, common_steps, full)

pub skips-join : (p : Message → Bool) (slots : List Slot) (from middle to : ℕ) → Skips p slots from middle → Skips p slots middle to → Skips p slots from to
skips-join p slots from middle to first second i row place low high is = by_test (nat_lt i middle) refl
  where
    by_test : (b : Bool) → nat_lt i middle ≡ b → p row ≡ false
    by_test true below = first i row place low (grind (arith, nat_tests)) is
    by_test false above = second i row place (grind (arith, nat_tests)) high is

-- the rows that aren't dead are live
pub live-rest : (m from : ℕ) (slots : List Slot) → from ≤ length slots → Skips (is_dead m) slots from (length slots) → length (passed (is_dead m) from slots) + length (live m (kept slots)) ≡ length (kept slots)
live-rest m from slots order skips =
    let all : passed (is_dead m) from slots ≡ filter (is_dead m) (kept slots) = sym (passed-to (is_dead m) from (length slots) slots order (omega arith) skips) ∙ passed-all (is_dead m) slots in
    omega (arith, ap length all, length-filter_not (is_live m) (kept slots))

-- one more slot, behind some that are passed over
pub passed-step : (p : Message → Bool) (from at : ℕ) (slots : List Slot) → from ≤ at → at < length slots → Skips p slots from at → passed p (at + 1) slots ≡ passed p from slots ++ passing p (slot_at slots at)
passed-step p from at slots order within skips =
    passed-more p at slots within ∙ ap (λ rows. rows ++ passing p (slot_at slots at)) (passed-to p from at slots order (omega arith) skips)

-- all rows that pass
pub passed-end : (p : Message → Bool) (from : ℕ) (slots : List Slot) → from ≤ length slots → Skips p slots from (length slots) → passed p from slots ≡ filter p (kept slots)
passed-end p from slots order skips = sym (passed-to p from (length slots) slots order (omega arith) skips) ∙ passed-all p slots

-- what was found up to there is all, and not too much
pub chosen-all : (p : Message → Bool) (count from : ℕ) (slots : List Slot) (found : List Message) → found ≡ passed p from slots → length found ≤ count → from ≤ length slots → Skips p slots from (length slots) → found ≡ take count (filter p (kept slots))
chosen-all p count from slots found is few order skips =
    let all : found ≡ filter p (kept slots) = is ∙ sym (passed-to p from (length slots) slots order (omega arith) skips) ∙ passed-all p slots in
    all ∙ sym (take_all count (filter p (kept slots)) (omega (arith, few, ap length all)))

pub passing-le : (p : Message → Bool) (slot : Slot) → length (passing p slot) ≤ 1
passing-le p (Row row place) = by_test (p row) refl
  where
    by_test : (b : Bool) → p row ≡ b → length (passing p (Row row place)) ≤ 1
    by_test true is = rw is (omega arith)
    by_test false is = rw is (omega arith)
passing-le p (Ended ending) = omega arith
