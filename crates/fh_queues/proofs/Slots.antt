-- The rows at numbers, as slots change.
use Rattle.std.proofs.Common.{◌≡◌, ◌≢◌, ℕ, zero, suc, ◌+◌, ◌-◌, ◌<◌, ◌≤◌, Bool, true, false, List, [], ◌∷◌, ◌++◌, length, map, fold, filter, refl, sym, ap, ◌∙◌, arith}
use Rattle.std.specs.Prelude.{set, not, Option, Some, None, ◌⊎◌}
use Rattle.std.proofs.lemmas.Bool.Decides.{nat_tests}
use Rattle.std.proofs.lemmas.Grind.{common_steps}
use Rattle.std.proofs.lemmas.List.{append_assoc}
use Rattle.fh_queues.specs.declared.row.Message.{Message}
use Rattle.fh_queues.specs.declared.done.Ending.{Ending}
use Rattle.fh_queues.specs.declared.slot.Slot.{Slot}
use Rattle.fh_queues.specs.declared.slot.Slot.TheVariants.{Row, Ended}
use Rattle.fh_queues.specs.Rows.{with_change, row_of}
use Rattle.fh_queues.specs.Acts.{with_end}
use Rattle.fh_queues.specs.Index.{kept, ending_of, ends_of, slot_at, ended_slot}

-- each row has the number of its slot, counted on from there
abbrev pub AreNumbered : ℕ → List Slot → Type 0
AreNumbered from slots = (i : ℕ) (row : Message) (place : ℕ) → slot_at slots i ≡ Row row place → row.number ≡ from + i + 1

-- no row has the number
abbrev pub HasNone : ℕ → List Slot → Type 0
HasNone number slots = (i : ℕ) (row : Message) (place : ℕ) → slot_at slots i ≡ Row row place → row.number ≢ number

behind : (from : ℕ) (slot : Slot) (slots : List Slot) → AreNumbered from (slot ∷ slots) → AreNumbered (from + 1) slots
behind from slot slots numbered i row place is = omega (arith, numbered (suc i) row place is)

none_behind : (from number : ℕ) (slot : Slot) (slots : List Slot) → AreNumbered from (slot ∷ slots) → number ≤ from + 1 → HasNone number slots
none_behind from number slot slots numbered low i row place is = omega (arith, numbered (suc i) row place is)

pub slot_within : (slots : List Slot) (at : ℕ) (row : Message) (place : ℕ) → slot_at slots at ≡ Row row place → at < length slots
slot_within [] at row place stands = absurd (cc)
slot_within (slot ∷ slots) zero row place stands = omega arith
slot_within (slot ∷ slots) (suc at) row place stands = omega (arith, slot_within slots at row place stands)

pub kept-append : (xs ys : List Slot) → kept (xs ++ ys) ≡ kept xs ++ kept ys
kept-append [] ys = refl
kept-append (Row row place ∷ xs) ys = ap (λ rows. row ∷ rows) (kept-append xs ys)
kept-append (Ended ending ∷ xs) ys = kept-append xs ys

pub with_change-none : (number : ℕ) (change : Message → Message) (slots : List Slot) → HasNone number slots → with_change number change (kept slots) ≡ kept slots
with_change-none number change [] none = refl
with_change-none number change (Row row place ∷ slots) none = grind (arith, nat_tests, none 0 row place refl, with_change-none number change slots (λ i. none (suc i)))
with_change-none number change (Ended ending ∷ slots) none = with_change-none number change slots (λ i. none (suc i))

pub row_of-none : (number : ℕ) (slots : List Slot) → HasNone number slots → row_of number (kept slots) ≡ None
row_of-none number [] none = refl
row_of-none number (Row row place ∷ slots) none = grind (arith, nat_tests, none 0 row place refl, row_of-none number slots (λ i. none (suc i)))
row_of-none number (Ended ending ∷ slots) none = row_of-none number slots (λ i. none (suc i))

-- the row of a number changes as it does in its slot
pub with_change-at : (from number at : ℕ) (change : Message → Message) (slots : List Slot) (row : Message) (place : ℕ) → AreNumbered from slots → number ≡ from + at + 1 → slot_at slots at ≡ Row row place → with_change number change (kept slots) ≡ kept (set slots at (Row (change row) place))
with_change-at from number at change [] row place numbered is stands = absurd (cc)
with_change-at from number zero change (Row first its ∷ slots) row place numbered is stands = grind (arith, nat_tests, numbered 0 first its refl)
with_change-at from number zero change (Ended ending ∷ slots) row place numbered is stands = absurd (cc)
with_change-at from number (suc at) change (Row first its ∷ slots) row place numbered is stands = grind (arith, nat_tests, numbered 0 first its refl, with_change-at (from + 1) number at change slots row place (behind from (Row first its) slots numbered) (omega arith) stands)
with_change-at from number (suc at) change (Ended ending ∷ slots) row place numbered is stands = with_change-at (from + 1) number at change slots row place (behind from (Ended ending) slots numbered) (omega arith) stands

pub row_of-at : (from number at : ℕ) (slots : List Slot) (row : Message) (place : ℕ) → AreNumbered from slots → number ≡ from + at + 1 → slot_at slots at ≡ Row row place → row_of number (kept slots) ≡ Some row
row_of-at from number at [] row place numbered is stands = absurd (cc)
row_of-at from number zero (Row first its ∷ slots) row place numbered is stands = grind (arith, nat_tests, numbered 0 first its refl)
row_of-at from number zero (Ended ending ∷ slots) row place numbered is stands = absurd (cc)
row_of-at from number (suc at) (Row first its ∷ slots) row place numbered is stands = grind (arith, nat_tests, numbered 0 first its refl, row_of-at (from + 1) number at slots row place (behind from (Row first its) slots numbered) (omega arith) stands)
row_of-at from number (suc at) (Ended ending ∷ slots) row place numbered is stands = row_of-at (from + 1) number at slots row place (behind from (Ended ending) slots numbered) (omega arith) stands

-- a slot whose message has ended has no row
pub none_at : (number at : ℕ) (slots : List Slot) (ending : Ending) → AreNumbered 0 slots → number ≡ at + 1 → slot_at slots at ≡ Ended ending → HasNone number slots
none_at number at slots ending numbered is gone i row place stands same =
    let here : i ≡ at = omega (arith, numbered i row place stands, same, is) in
    let both : Row row place ≡ Ended ending = sym stands ∙ ap (slot_at slots) here ∙ gone in
    absurd (cc)

-- a number that has no slot has no row
pub none_beyond : (number : ℕ) (slots : List Slot) → AreNumbered 0 slots → (number ≡ 0) ⊎ (length slots < number) → HasNone number slots
none_beyond number slots numbered beyond i row place stands same = absurd (omega (arith, numbered i row place stands, slot_within slots i row place stands, beyond, same))

pub fewer-at : (at : ℕ) (slots : List Slot) (row : Message) (place : ℕ) (ending : Ending) → slot_at slots at ≡ Row row place → length (kept (set slots at (Ended ending))) + 1 ≡ length (kept slots)
fewer-at at [] row place ending stands = absurd (cc)
fewer-at zero (Row first its ∷ slots) row place ending stands = omega arith
fewer-at zero (Ended end ∷ slots) row place ending stands = absurd (cc)
fewer-at (suc at) (Row first its ∷ slots) row place ending stands = omega (arith, fewer-at at slots row place ending stands)
fewer-at (suc at) (Ended end ∷ slots) row place ending stands = fewer-at at slots row place ending stands

pub length-kept : (slots : List Slot) → length (kept slots) ≤ length slots
length-kept [] = omega arith
length-kept (Row row place ∷ slots) = omega (arith, length-kept slots)
length-kept (Ended ending ∷ slots) = omega (arith, length-kept slots)

pub as_many-at : (at : ℕ) (slots : List Slot) (row new : Message) (place its : ℕ) → slot_at slots at ≡ Row row place → length (kept (set slots at (Row new its))) ≡ length (kept slots)
as_many-at at [] row new place its stands = absurd (cc)
as_many-at zero (Row first old ∷ slots) row new place its stands = refl
as_many-at zero (Ended ending ∷ slots) row new place its stands = absurd (cc)
as_many-at (suc at) (Row first old ∷ slots) row new place its stands = ap (λ n. suc n) (as_many-at at slots row new place its stands)
as_many-at (suc at) (Ended ending ∷ slots) row new place its stands = as_many-at at slots row new place its stands

pub ends-change : (at : ℕ) (slots : List Slot) (row new : Message) (place : ℕ) → slot_at slots at ≡ Row row place → ends_of (set slots at (Row new place)) ≡ ends_of slots
ends-change at [] row new place stands = refl
ends-change zero (Row first its ∷ slots) row new place stands = refl
ends-change zero (Ended ending ∷ slots) row new place stands = absurd (cc)
ends-change (suc at) (slot ∷ slots) row new place stands = ap (λ ends. ending_of slot ∷ ends) (ends-change at slots row new place stands)

pub ends-append : (xs ys : List Slot) → ends_of (xs ++ ys) ≡ ends_of xs ++ ends_of ys
ends-append [] ys = refl
ends-append (x ∷ xs) ys = ap (λ ends. ending_of x ∷ ends) (ends-append xs ys)

-- what rows that end leave
module _ (test : Message → Bool) (ending : Ending) where
  pub kept-ended : (slots : List Slot) → kept (map (ended_slot test ending) slots) ≡ filter (λ row. not (test row)) (kept slots)
  kept-ended [] = refl
  kept-ended (Ended end ∷ slots) = kept-ended slots
  kept-ended (Row row place ∷ slots) = by_test (test row) refl (kept-ended slots)
    where
      by_test : (b : Bool) → test row ≡ b → kept (map (ended_slot test ending) slots) ≡ filter (λ r. not (test r)) (kept slots) → kept (map (ended_slot test ending) (Row row place ∷ slots)) ≡ filter (λ r. not (test r)) (kept (Row row place ∷ slots))
      by_test true is more = rw is more
      by_test false is more = rw is (ap (λ rows. row ∷ rows) more)

  set_last : (front : List (Option Ending)) (old new : Option Ending) (rest : List (Option Ending)) → set (front ++ old ∷ rest) (length front) new ≡ (front ++ new ∷ []) ++ rest
  set_last [] old new rest = refl
  set_last (end ∷ front) old new rest = ap (λ ends. end ∷ ends) (set_last front old new rest)

  -- behind the ends of so many slots before
  abbrev EndsBehind : List (Option Ending) → List Slot → Type 0
  EndsBehind front slots = fold (with_end ending) (front ++ ends_of slots) (filter test (kept slots)) ≡ front ++ ends_of (map (ended_slot test ending) slots)

  ends-ended_behind : (front : List (Option Ending)) (slots : List Slot) → AreNumbered (length front) slots → EndsBehind front slots
  ends-ended_behind front [] numbered = refl
  ends-ended_behind front (Ended end ∷ slots) numbered =
      let next : AreNumbered (length (front ++ Some end ∷ [])) slots = λ i row place is. omega (arith, numbered (suc i) row place is, long front (Some end)) in
      ap (λ ends. fold (with_end ending) ends (filter test (kept slots))) (sym (append_assoc front (Some end ∷ []) (ends_of slots)))
      ∙ ends-ended_behind (front ++ Some end ∷ []) slots next
      ∙ append_assoc front (Some end ∷ []) (ends_of (map (ended_slot test ending) slots))
    where
      long : (ends : List (Option Ending)) (end : Option Ending) → length (ends ++ end ∷ []) ≡ length ends + 1
      long ends end = grind (arith, common_steps)
  ends-ended_behind front (Row row place ∷ slots) numbered = by_test (test row) refl (ends-ended_behind (front ++ Some ending ∷ []) slots (next (Some ending))) (ends-ended_behind (front ++ None ∷ []) slots (next None))
    where
      long : (end : Option Ending) → length (front ++ end ∷ []) ≡ length front + 1
      long end = grind (arith, common_steps)

      next : (end : Option Ending) → AreNumbered (length (front ++ end ∷ [])) slots
      next end i other its is = omega (arith, numbered (suc i) other its is, long end)

      by_test : (b : Bool) → test row ≡ b → EndsBehind (front ++ Some ending ∷ []) slots → EndsBehind (front ++ None ∷ []) slots → fold (with_end ending) (front ++ ends_of (Row row place ∷ slots)) (filter test (kept (Row row place ∷ slots))) ≡ front ++ ends_of (map (ended_slot test ending) (Row row place ∷ slots))
      by_test true is ended stood =
          let number : row.number - 1 ≡ length front = omega (arith, numbered 0 row place refl) in
          rw is
          (ap (λ n. fold (with_end ending) (set (front ++ None ∷ ends_of slots) n (Some ending)) (filter test (kept slots))) number
          ∙ ap (λ ends. fold (with_end ending) ends (filter test (kept slots))) (set_last front None (Some ending) (ends_of slots))
          ∙ ended
          ∙ append_assoc front (Some ending ∷ []) (ends_of (map (ended_slot test ending) slots)))
      by_test false is ended stood =
          rw is
          (ap (λ ends. fold (with_end ending) ends (filter test (kept slots))) (sym (append_assoc front (None ∷ []) (ends_of slots)))
          ∙ stood
          ∙ append_assoc front (None ∷ []) (ends_of (map (ended_slot test ending) slots)))

  pub ends-ended : (slots : List Slot) → AreNumbered 0 slots → fold (with_end ending) (ends_of slots) (filter test (kept slots)) ≡ ends_of (map (ended_slot test ending) slots)
  ends-ended slots numbered = ends-ended_behind [] slots numbered
