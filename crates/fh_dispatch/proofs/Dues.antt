-- Invocations that are due, one behind the other in order of number.
use Rattle.std.proofs.Common.{◌≡◌, ℕ, zero, suc, ◌+◌, ◌<◌, ◌^◌, Bool, true, false, List, [], ◌∷◌, ◌++◌, length, find, filter, Option, Some, None, refl, ap, sym, ◌∙◌, subst, arith}
use Rattle.std.specs.Prelude.{nat_le, nat_lt, ◌&&◌, if◌then◌else◌}
use Rattle.std.specs.List.{list_all}
use Rattle.std.specs.Option.{option_to_list}
use Rattle.std.specs.Ordering.{is_eq}
use Rattle.std.proofs.lemmas.Bool.Decides.{nat_tests}
use Rattle.fh_rows.specs.Rows.{rows_at, are_in_order}
use Rattle.fh_rows.proofs.Order.{both, first_of_both, second_of_both, list_all-append, list_all-passing, list_all-weaker}
use Rattle.fh_rows.proofs.Lawful.{find-passes}
use Rattle.fh_dispatch.specs.declared.running.Running.{Running}
use Rattle.fh_dispatch.specs.Invocations.{by_number, first_due, run_of}
use Rattle.fh_dispatch.specs.Runs.{order, in_turn, is_known, IsNextDue}
use Rattle.fh_dispatch.proofs.Filters.{filter-alike, find-head, head}
use Rattle.fh_dispatch.proofs.InTurn.{alone}
use Rattle.fh_dispatch.proofs.Keys.{eq-nat_cmp}

-- each number is above those before it
abbrev pub ascends : List Running → Bool
ascends [] = true
ascends (run ∷ runs) = list_all (λ later. nat_lt run.invocation later.invocation) runs && ascends runs

ascends-append : (n : ℕ) (runs last : List Running) → ascends runs ≡ true
    → list_all (λ run. nat_le run.invocation n) runs ≡ true → ascends last ≡ true
    → list_all (λ run. nat_lt n run.invocation) last ≡ true → ascends (runs ++ last) ≡ true
ascends-append n [] last up within up_last above = up_last
ascends-append n (run ∷ runs) last up within up_last above =
    let low : nat_le run.invocation n ≡ true = first_of_both _ _ within in
    both _ _
    (list_all-append (λ later. nat_lt run.invocation later.invocation) runs last (first_of_both _ _ up)
    (list_all-weaker (λ later. nat_lt n later.invocation) (λ later. nat_lt run.invocation later.invocation)
    (λ later is. grind (arith, nat_tests, low, is)) last above))
    (ascends-append n runs last (second_of_both _ _ up) (second_of_both _ _ within) up_last above)

ascends-one : (o : Option Running) → ascends (option_to_list o) ≡ true
ascends-one None = refl
ascends-one (Some run) = refl

module _ (functions : List ℕ) (rows : List Running) (ordered : are_in_order order rows ≡ true)
    (known : list_all (is_known functions) rows ≡ true) where
  within-in_turn : (n : ℕ) → list_all (λ run. nat_le run.invocation n) (in_turn n rows) ≡ true
  within-in_turn zero = refl
  within-in_turn (suc n) =
      list_all-append (λ run. nat_le run.invocation (suc n)) (in_turn n rows) (rows_at (by_number (n + 1)) rows)
      (list_all-weaker (λ run. nat_le run.invocation n) (λ run. nat_le run.invocation (suc n))
      (λ run is. grind (arith, nat_tests, is)) (in_turn n rows) (within-in_turn n))
      (list_all-passing (λ run. nat_le run.invocation (suc n)) (λ run. is_eq (by_number (n + 1) run))
      (λ run is. let same = eq-nat_cmp run.invocation (n + 1) is in grind (arith, nat_tests, same)) rows)

  pub ascends-in_turn : (n : ℕ) → ascends (in_turn n rows) ≡ true
  ascends-in_turn zero = refl
  ascends-in_turn (suc n) =
      ascends-append n (in_turn n rows) (rows_at (by_number (n + 1)) rows) (ascends-in_turn n) (within-in_turn n)
      (ap ascends (alone functions (n + 1) rows ordered known) ∙ ascends-one (run_of (n + 1) rows))
      (list_all-passing (λ run. nat_lt n run.invocation) (λ run. is_eq (by_number (n + 1) run))
      (λ run is. let same = eq-nat_cmp run.invocation (n + 1) is in grind (arith, nat_tests, same)) rows)

-- what holds of all holds of what is found
found-among : (holds sought : Running → Bool) (runs : List Running) (run : Running) → list_all holds runs ≡ true
    → find sought runs ≡ Some run → holds run ≡ true
found-among holds sought [] run all is = cc
found-among holds sought (other ∷ runs) run all is =
    by_test (sought other) is (found-among holds sought runs run (second_of_both _ _ all))
  where
    by_test : (b : Bool) → (if b then Some other else find sought runs) ≡ Some run
        → (find sought runs ≡ Some run → holds run ≡ true) → holds run ≡ true
    by_test true found rest = let same : other ≡ run = cc in
        rw (← same) (first_of_both (holds other) (list_all holds runs) all)
    by_test false found rest = rest found

module _ (p : Running → Bool) where
  -- those from a number on that pass
  abbrev pub passing_from : ℕ → List Running → List Running
  passing_from from runs = filter (λ run. nat_le from run.invocation && p run) runs

  -- what is found stands before those of greater numbers
  pub first-and-behind : (from : ℕ) (runs : List Running) (run : Running) → ascends runs ≡ true
      → find (λ run. nat_le from run.invocation && p run) runs ≡ Some run
      → passing_from from runs ≡ run ∷ passing_from (run.invocation + 1) runs
  first-and-behind from [] run up is = cc
  first-and-behind from (other ∷ runs) run up is =
      by_test (nat_le from other.invocation && p other) refl is
      (first-and-behind from runs run (second_of_both _ _ up))
    where
      later : list_all (λ later. nat_lt other.invocation later.invocation) runs ≡ true
      later = first_of_both _ _ up

      past : (n : ℕ) → other.invocation < n → (nat_le n other.invocation && p other) ≡ false
      past n above = let not_from : nat_le n other.invocation ≡ false = grind (arith, nat_tests, above) in
          rw not_from refl

      by_test : (b : Bool) → (nat_le from other.invocation && p other) ≡ b
          → (if b then Some other else find (λ run. nat_le from run.invocation && p run) runs) ≡ Some run
          → (find (λ run. nat_le from run.invocation && p run) runs ≡ Some run
          → passing_from from runs ≡ run ∷ passing_from (run.invocation + 1) runs)
          → (if b then other ∷ passing_from from runs else passing_from from runs)
          ≡ run ∷ passing_from (run.invocation + 1) (other ∷ runs)
      by_test true is found rest =
          let same : other ≡ run = cc in
          subst (λ (first : Running). other ∷ passing_from from runs
          ≡ first ∷ passing_from (first.invocation + 1) (other ∷ runs)) same
          (rw (past (other.invocation + 1) (omega arith)) (ap (λ more. other ∷ more)
          (filter-alike (λ run. nat_lt other.invocation run.invocation)
          (λ run. nat_le from run.invocation && p run) (λ run. nat_le (other.invocation + 1) run.invocation && p run)
          alike runs later)))
        where
          from_it : nat_le from other.invocation ≡ true
          from_it = first_of_both (nat_le from other.invocation) (p other) is

          alike : (run : Running) → nat_lt other.invocation run.invocation ≡ true
              → (nat_le from run.invocation && p run) ≡ (nat_le (other.invocation + 1) run.invocation && p run)
          alike run above =
              let one : nat_le from run.invocation ≡ true = grind (arith, nat_tests, from_it, above) in
              let two : nat_le (other.invocation + 1) run.invocation ≡ true = grind (arith, nat_tests, above) in
              rw (one, two) refl
      by_test false is found rest =
          let above : nat_lt other.invocation run.invocation ≡ true =
          found-among (λ later. nat_lt other.invocation later.invocation)
          (λ run. nat_le from run.invocation && p run) runs run later found in
          rw (past (run.invocation + 1) (grind (arith, nat_tests, above))) (rest found)

nothing-found : (p : Running → Bool) (runs : List Running) → find p runs ≡ None → filter p runs ≡ []
nothing-found p runs none = empty (filter p runs) (sym (find-head p runs) ∙ none)
  where
    empty : (ys : List Running) → head ys ≡ None → ys ≡ []
    empty [] is = refl
    empty (y ∷ ys) is = cc

pub is-next : (functions : List ℕ) (rows : List Running) → are_in_order order rows ≡ true
    → list_all (is_known functions) rows ≡ true → (from most : ℕ) → length functions + 1 < 2 ^ 64
    → (found : Option Running) → found ≡ first_due from most (in_turn (length functions) rows)
    → IsNextDue from most (length functions + 1) (in_turn (length functions) rows) found
is-next functions rows ordered known from most few None is =
    nothing-found (λ run. nat_le from run.invocation && nat_le run.due most) (in_turn (length functions) rows) (sym is)
is-next functions rows ordered known from most few (Some run) is =
    let passes = find-passes (λ run. nat_le from run.invocation && nat_le run.due most)
    (in_turn (length functions) rows) run (sym is) in
    let late : nat_le from run.invocation ≡ true = first_of_both (nat_le from run.invocation)
    (nat_le run.due most) passes in
    let within : nat_le run.invocation (length functions) ≡ true =
    found-among (λ run. nat_le run.invocation (length functions))
    (λ run. nat_le from run.invocation && nat_le run.due most) (in_turn (length functions) rows) run
    (within-in_turn functions rows ordered known (length functions)) (sym is) in (
      grind (arith, nat_tests, late),
      grind (arith, nat_tests, within),
      few,
      first-and-behind (λ run. nat_le run.due most) from (in_turn (length functions) rows) run
          (ascends-in_turn functions rows ordered known (length functions)) (sym is),
    )
