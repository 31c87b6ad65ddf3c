-- How the message of a number went, as ends are noted.
use Rattle.std.proofs.Common.{◌≡◌, ℕ, zero, suc, ◌-◌, ◌≤◌, ◌<◌, Bool, true, List, [], ◌∷◌, ◌++◌, length, fold, Option, Some, None, slice_index_or, slice_set, refl, ◌∙◌, ap, arith}
use Rattle.std.specs.Prelude.{◌==◌, nat_lt, nat_le, ◌&&◌, if◌then◌else◌}
use Rattle.std.specs.List.{list_all, list_any}
use Rattle.std.proofs.lemmas.Bool.Decides.{nat_tests}
use Rattle.fh_queues.specs.declared.row.Message.{Message}
use Rattle.fh_queues.specs.declared.done.Ending.{Ending}
use Rattle.fh_queues.specs.Part.{end_of}
use Rattle.fh_queues.specs.Acts.{with_end}

abbrev Ends : Type 0
Ends = List (Option Ending)

length-slice_set : (ends : Ends) (i : ℕ) (end : Option Ending) → length (slice_set ends i end) ≡ length ends
length-slice_set [] i end = refl
length-slice_set (e ∷ ends) zero end = refl
length-slice_set (e ∷ ends) (suc i) end = ap suc (length-slice_set ends i end)

slot-set : (ends : Ends) (i j : ℕ) (end : Option Ending) → i < length ends → slice_index_or (slice_set ends i end) j None ≡ (if i == j then end else slice_index_or ends j None)
slot-set [] i j end within = absurd (omega (arith, within))
slot-set (e ∷ ends) zero zero end within = refl
slot-set (e ∷ ends) zero (suc j) end within = grind (arith, nat_tests)
slot-set (e ∷ ends) (suc i) zero end within = grind (arith, nat_tests)
slot-set (e ∷ ends) (suc i) (suc j) end within = grind (arith, nat_tests, slot-set ends i j end)

slot-push : (ends : Ends) (j : ℕ) → slice_index_or (ends ++ None ∷ []) j None ≡ slice_index_or ends j None
slot-push [] zero = refl
slot-push [] (suc j) = refl
slot-push (e ∷ ends) zero = refl
slot-push (e ∷ ends) (suc j) = slot-push ends j

slot-past : (ends : Ends) (j : ℕ) → length ends ≤ j → slice_index_or ends j None ≡ None
slot-past [] j past = refl
slot-past (e ∷ ends) zero past = absurd (omega (arith, past))
slot-past (e ∷ ends) (suc j) past = slot-past ends j (omega (arith, past))

pub end_of-push : (n : ℕ) (ends : Ends) → end_of n (ends ++ None ∷ []) ≡ end_of n ends
end_of-push n ends = ap (λ end. if n == 0 then None else end) (slot-push ends (n - 1))

pub end_of-past : (n : ℕ) (ends : Ends) → length ends < n → end_of n ends ≡ None
end_of-past n ends past = grind (arith, nat_tests, slot-past ends (n - 1) (omega (arith, past)))

end_of-set : (n number : ℕ) (ends : Ends) (ending : Ending) → 1 ≤ number → number ≤ length ends → end_of n (slice_set ends (number - 1) (Some ending)) ≡ (if number == n then Some ending else end_of n ends)
end_of-set n number ends ending low high = grind (arith, nat_tests, slot-set ends (number - 1) (n - 1) (Some ending) (omega (arith, low, high)))

-- the number was given
abbrev pub is_given : ℕ → Message → Bool
is_given last row = nat_lt 0 row.number && nat_le row.number last

pub length-with_ends : (ending : Ending) (rows : List Message) (ends : Ends) → length (fold (with_end ending) ends rows) ≡ length ends
length-with_ends ending [] ends = refl
length-with_ends ending (row ∷ rows) ends =
    length-with_ends ending rows (with_end ending ends row) ∙ length-slice_set ends (row.number - 1) (Some ending)

pub end_of-with_ends : (n last : ℕ) (ending : Ending) (rows : List Message) (ends : Ends) → length ends ≡ last → list_all (is_given last) rows ≡ true → end_of n (fold (with_end ending) ends rows) ≡ (if list_any (λ row. row.number == n) rows then Some ending else end_of n ends)
end_of-with_ends n last ending [] ends long given = refl
end_of-with_ends n last ending (row ∷ rows) ends long given =
    let low : 1 ≤ row.number = grind (arith, nat_tests) in
    let high : row.number ≤ length ends = grind (arith, nat_tests) in
    let rest : list_all (is_given last) rows ≡ true = grind (arith, nat_tests) in
    let here = end_of-set n row.number ends ending low high in
    let later = end_of-with_ends n last ending rows (with_end ending ends row) (length-slice_set ends (row.number - 1) (Some ending) ∙ long) rest in
    later ∙ by_tests (row.number == n) (list_any (λ r. r.number == n) rows) refl refl here
  where
    by_tests : (same more : Bool) → (row.number == n) ≡ same → list_any (λ r. r.number == n) rows ≡ more → end_of n (with_end ending ends row) ≡ (if row.number == n then Some ending else end_of n ends)
        → (if list_any (λ r. r.number == n) rows then Some ending else end_of n (with_end ending ends row)) ≡ (if list_any (λ r. r.number == n) (row ∷ rows) then Some ending else end_of n ends)
    by_tests same more is among here = grind (arith, nat_tests)
