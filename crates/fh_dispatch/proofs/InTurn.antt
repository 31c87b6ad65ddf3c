-- Rows in order of function and number, seen in order of number.
use Rattle.std.proofs.Common.{◌≡◌, ℕ, zero, suc, ◌+◌, ◌<◌, Bool, true, false, List, [], ◌∷◌, ◌++◌, length, find, filter, map, Some, None, refl, ap, sym, ◌∙◌, ⊎_elim, arith}
use Rattle.std.specs.Prelude.{◌==◌, nat_le, ◌&&◌, if◌then◌else◌}
use Rattle.std.specs.List.{list_all}
use Rattle.std.specs.Option.{option_to_list}
use Rattle.std.specs.Ordering.{is_lt, is_eq, nat_cmp, ordering_then}
use Rattle.std.specs.declared.cmp.Ordering.TheVariants.{Equal}
use Rattle.std.proofs.Math.Numerals.{add-one}
use Rattle.std.proofs.lemmas.Bool.{cases_lt}
use Rattle.std.proofs.lemmas.Bool.Decides.{nat_tests}
use Rattle.std.proofs.lemmas.List.{map-append}
use Rattle.std.proofs.lemmas.List.Elements.{filter-append}
use Rattle.std.proofs.lemmas.List.Folds.{find-append}
use Rattle.fh_rows.specs.Rows.{rows_at, are_in_order}
use Rattle.fh_rows.proofs.Order.{both, first_of_both, second_of_both, list_all-filter, list_all-weaker}
use Rattle.fh_dispatch.specs.declared.running.Running.{Running}
use Rattle.fh_dispatch.specs.Invocations.{by_number, by_function, run_of, runs_of}
use Rattle.fh_dispatch.specs.Runs.{order, in_turn, is_known}
use Rattle.fh_dispatch.proofs.Filters.{filter-filter, filter-map, find-head, head}
use Rattle.fh_dispatch.proofs.Keys.{eq-nat_cmp, is_eq-nat_cmp, nat_cmp-same, known_at, function_at-within, apart_by_number}

pub in_turn-next : (n : ℕ) (rows : List Running)
    → in_turn (n + 1) rows ≡ in_turn n rows ++ rows_at (by_number (n + 1)) rows
in_turn-next n rows = ap (λ m. in_turn m rows) (add-one n)

pub in_turn-none : (n : ℕ) → in_turn n [] ≡ []
in_turn-none zero = refl
in_turn-none (suc n) = rw (in_turn-none n) refl

pub in_turn-filter : (p : Running → Bool) (n : ℕ) (rows : List Running)
    → filter p (in_turn n rows) ≡ in_turn n (filter p rows)
in_turn-filter p zero rows = refl
in_turn-filter p (suc n) rows =
    filter-append p (in_turn n rows) (rows_at (by_number (n + 1)) rows)
    ∙ ap (λ front. front ++ filter p (rows_at (by_number (n + 1)) rows)) (in_turn-filter p n rows)
    ∙ ap (λ back. in_turn n (filter p rows) ++ back) (filter-filter p (λ run. is_eq (by_number (n + 1) run)) rows)

pub in_turn-map : (change : Running → Running) → ((run : Running) → (change run).invocation ≡ run.invocation)
    → (n : ℕ) (rows : List Running) → map change (in_turn n rows) ≡ in_turn n (map change rows)
in_turn-map change same zero rows = refl
in_turn-map change same (suc n) rows =
    map-append change (in_turn n rows) (rows_at (by_number (n + 1)) rows)
    ∙ ap (λ front. front ++ map change (rows_at (by_number (n + 1)) rows)) (in_turn-map change same n rows)
    ∙ ap (λ back. in_turn n (map change rows) ++ back)
    (sym (filter-map (λ run. is_eq (by_number (n + 1) run)) change (λ run. ap (λ i. is_eq (nat_cmp i (n + 1)))
    (same run)) rows))

-- ---- what is found

module _ (p : Running → Bool) (rows : List Running) where
  -- nothing among those of no number, so nothing among all
  pub find-none : (n : ℕ) → ((i : ℕ) → i < n → find p (rows_at (by_number (i + 1)) rows) ≡ None)
      → find p (in_turn n rows) ≡ None
  find-none zero none = refl
  find-none (suc n) none =
      find-append p (in_turn n rows) (rows_at (by_number (n + 1)) rows)
      ∙ rw (find-none n (λ i below. none i (omega (arith, below))), none n (omega arith)) refl

  -- nothing among those of lower numbers, so what is found among those of this one
  pub find-first : (n place : ℕ) (run : Running) → place < n
      → ((i : ℕ) → i < place → find p (rows_at (by_number (i + 1)) rows) ≡ None)
      → find p (rows_at (by_number (place + 1)) rows) ≡ Some run → find p (in_turn n rows) ≡ Some run
  find-first zero place run below none here = absurd (omega (arith, below))
  find-first (suc n) place run below none here = ⊎_elim (λ lower. among (find-first n place run lower none here))
      (λ upper. at_it (omega (arith, below, upper))) (cases_lt place n)
    where
      among : find p (in_turn n rows) ≡ Some run → find p (in_turn (suc n) rows) ≡ Some run
      among found = find-append p (in_turn n rows) (rows_at (by_number (n + 1)) rows) ∙ rw found refl

      at_it : place ≡ n → find p (in_turn (suc n) rows) ≡ Some run
      at_it same =
          find-append p (in_turn n rows) (rows_at (by_number (n + 1)) rows)
          ∙ rw (find-none n (λ i lower. none i (omega (arith, lower, same))), ← same, here) refl

-- ---- rows that are in order of number already

abbrev rises : List Running → Bool
rises [] = true
rises (run ∷ runs) = list_all (λ later. nat_le run.invocation later.invocation) runs && rises runs

abbrev up_to : ℕ → List Running → List Running
up_to n runs = filter (λ run. nat_le run.invocation n) runs

-- none of those up to a number, where all are above it
up_to-none : (n low : ℕ) → n < low → (runs : List Running)
    → list_all (λ later. nat_le low later.invocation) runs ≡ true → up_to n runs ≡ []
up_to-none n low below [] all = refl
up_to-none n low below (run ∷ runs) all = by_test (nat_le run.invocation n) refl (up_to-none n low below runs
    (second_of_both _ _ all))
  where
    above : nat_le low run.invocation ≡ true
    above = first_of_both _ _ all

    by_test : (b : Bool) → nat_le run.invocation n ≡ b → up_to n runs ≡ []
        → (if b then run ∷ up_to n runs else up_to n runs) ≡ []
    by_test true is rest = absurd (grind (arith, nat_tests, is, above, below))
    by_test false is rest = rest

up_to-next : (n : ℕ) (runs : List Running) → rises runs ≡ true
    → up_to (n + 1) runs ≡ up_to n runs ++ rows_at (by_number (n + 1)) runs
up_to-next n [] up = refl
up_to-next n (run ∷ runs) up = by_tests (nat_le run.invocation n) (run.invocation == n + 1) refl refl
    (up_to-next n runs (second_of_both _ _ up))
  where
    later : list_all (λ later. nat_le run.invocation later.invocation) runs ≡ true
    later = first_of_both _ _ up

    at : (b : Bool) → (run.invocation == n + 1) ≡ b → is_eq (by_number (n + 1) run) ≡ b
    at b is = is_eq-nat_cmp run.invocation (n + 1) ∙ is

    by_tests : (low same : Bool) → nat_le run.invocation n ≡ low → (run.invocation == n + 1) ≡ same
        → up_to (n + 1) runs ≡ up_to n runs ++ rows_at (by_number (n + 1)) runs
        → up_to (n + 1) (run ∷ runs) ≡ (if low then run ∷ up_to n runs else up_to n runs)
        ++ rows_at (by_number (n + 1)) (run ∷ runs)
    by_tests true true low same rest = absurd (grind (arith, nat_tests, low, same))
    by_tests true false low same rest =
        let upto : nat_le run.invocation (n + 1) ≡ true = grind (arith, nat_tests, low) in
        rw (upto, at false same) (ap (λ more. run ∷ more) rest)
    by_tests false true low same rest =
        let upto : nat_le run.invocation (n + 1) ≡ true = grind (arith, nat_tests, same) in
        let none : up_to n runs ≡ [] = up_to-none n run.invocation (grind (arith, nat_tests, low)) runs later in
        rw (upto, at true same, none) (ap (λ more. run ∷ more) (rest
        ∙ ap (λ front. front ++ rows_at (by_number (n + 1)) runs) none))
    by_tests false false low same rest =
        let upto : nat_le run.invocation (n + 1) ≡ false = grind (arith, nat_tests, low, same) in
        rw (upto, at false same) rest

in_turn-up_to : (n : ℕ) (runs : List Running) → rises runs ≡ true
    → list_all (λ run. nat_le 1 run.invocation) runs ≡ true → in_turn n runs ≡ up_to n runs
in_turn-up_to zero runs up positive = sym (up_to-none 0 1 (omega arith) runs positive)
in_turn-up_to (suc n) runs up positive =
    ap (λ front. front ++ rows_at (by_number (n + 1)) runs) (in_turn-up_to n runs up positive)
    ∙ sym (up_to-next n runs up) ∙ ap (λ m. up_to m runs) (add-one n)

filter-whole : (p : Running → Bool) (runs : List Running) → list_all p runs ≡ true → filter p runs ≡ runs
filter-whole p [] all = refl
filter-whole p (run ∷ runs) all = rw (first_of_both (p run) (list_all p runs) all) (ap (λ more. run ∷ more)
    (filter-whole p runs (second_of_both _ _ all)))

-- ---- rows that were begun as ones of their functions

module _ (functions : List ℕ) where
  in_turn-same : (runs : List Running) → rises runs ≡ true → list_all (is_known functions) runs ≡ true
      → in_turn (length functions) runs ≡ runs
  in_turn-same runs up known =
      in_turn-up_to (length functions) runs up (list_all-weaker (is_known functions)
      (λ run. nat_le 1 run.invocation) low runs known)
      ∙ filter-whole (λ run. nat_le run.invocation (length functions)) runs (list_all-weaker (is_known functions)
      (λ run. nat_le run.invocation (length functions)) high runs known)
    where
      low : (run : Running) → is_known functions run ≡ true → nat_le 1 run.invocation ≡ true
      low run is = let within = (function_at-within functions run.invocation run.function
          (known_at functions run is)).0 in grind (arith, nat_tests, within)

      high : (run : Running) → is_known functions run ≡ true → nat_le run.invocation (length functions) ≡ true
      high run is = let within = (function_at-within functions run.invocation run.function
          (known_at functions run is)).1 in grind (arith, nat_tests, within)

  module _ (p : Running → Bool) (up : (run later : Running) → p run ≡ true → p later ≡ true
      → is_lt (order run later) ≡ true → nat_le run.invocation later.invocation ≡ true) where
    rising_behind : (run : Running) → p run ≡ true → (rows : List Running)
        → list_all (λ later. is_lt (order run later)) rows ≡ true
        → list_all (λ later. nat_le run.invocation later.invocation) (filter p rows) ≡ true
    rising_behind run passes [] all = refl
    rising_behind run passes (later ∷ rows) all = by_test (p later) refl (rising_behind run passes rows
        (second_of_both _ _ all))
      where
        by_test : (b : Bool) → p later ≡ b → list_all (λ later. nat_le run.invocation later.invocation)
            (filter p rows) ≡ true
            → list_all (λ later. nat_le run.invocation later.invocation)
            (if b then later ∷ filter p rows else filter p rows) ≡ true
        by_test true is rest = both _ _ (up run later passes is (first_of_both _ _ all)) rest
        by_test false is rest = rest

    rising : (rows : List Running) → are_in_order order rows ≡ true → rises (filter p rows) ≡ true
    rising [] ordered = refl
    rising (run ∷ rows) ordered = by_test (p run) refl (rising rows (second_of_both _ _ ordered))
      where
        by_test : (b : Bool) → p run ≡ b → rises (filter p rows) ≡ true
            → rises (if b then run ∷ filter p rows else filter p rows) ≡ true
        by_test true is rest = both _ _ (rising_behind run is rows (first_of_both _ _ ordered)) rest
        by_test false is rest = rest

    kept_in_turn : (rows : List Running) → are_in_order order rows ≡ true → list_all (is_known functions) rows ≡ true
        → filter p (in_turn (length functions) rows) ≡ filter p rows
    kept_in_turn rows ordered known =
        in_turn-filter p (length functions) rows
        ∙ in_turn-same (filter p rows) (rising rows ordered) (list_all-filter (is_known functions) p rows known)

  module _ (rows : List Running) (ordered : are_in_order order rows ≡ true) (known : list_all
      (is_known functions) rows ≡ true) where
    -- those of a number, or of a function, are the same in both orders
    pub rows_at-number : (i : ℕ) → rows_at (by_number i) (in_turn (length functions) rows) ≡ rows_at (by_number i) rows
    rows_at-number i = kept_in_turn (λ run. is_eq (by_number i run)) up rows ordered known
      where
        up : (run later : Running) → is_eq (by_number i run) ≡ true → is_eq (by_number i later) ≡ true
            → is_lt (order run later) ≡ true → nat_le run.invocation later.invocation ≡ true
        up run later is also apart =
            let here = eq-nat_cmp run.invocation i is in
            let there = eq-nat_cmp later.invocation i also in
            grind (arith, nat_tests, here, there)

    pub rows_at-function : (f : ℕ) → runs_of f (in_turn (length functions) rows) ≡ runs_of f rows
    rows_at-function f = kept_in_turn (λ run. is_eq (by_function f run)) up rows ordered known
      where
        no_more : (x y : ℕ) → is_lt (nat_cmp x y) ≡ true → nat_le x y ≡ true
        no_more x y is = by_test (nat_le x y) refl
          where
            by_test : (b : Bool) → nat_le x y ≡ b → b ≡ true
            by_test true le = refl
            by_test false le = let lt : is_lt (nat_cmp x y) ≡ false = above (omega_of le) in cc (is, lt)
              where
                omega_of : nat_le x y ≡ false → y < x
                omega_of le = grind (arith, nat_tests, le)

                above : y < x → is_lt (nat_cmp x y) ≡ false
                above gt = grind (arith, nat_tests, gt)

        up : (run later : Running) → is_eq (by_function f run) ≡ true → is_eq (by_function f later) ≡ true
            → is_lt (order run later) ≡ true → nat_le run.invocation later.invocation ≡ true
        up run later is also apart =
            let same : run.function ≡ later.function = eq-nat_cmp run.function f is
            ∙ sym (eq-nat_cmp later.function f also) in
            let first : nat_cmp run.function later.function ≡ Equal = ap (λ g. nat_cmp g later.function) same
            ∙ nat_cmp-same later.function in
            no_more run.invocation later.invocation (ap (λ o. is_lt (ordering_then o
            (nat_cmp run.invocation later.invocation))) (sym first) ∙ apart)

    pub run_of-number : (i : ℕ) → run_of i (in_turn (length functions) rows) ≡ run_of i rows
    run_of-number i =
        find-head (λ run. is_eq (by_number i run)) (in_turn (length functions) rows)
        ∙ ap head (rows_at-number i) ∙ sym (find-head (λ run. is_eq (by_number i run)) rows)

  -- none of its number stands behind one
  none_behind : (run : Running) → is_known functions run ≡ true → (rows : List Running)
      → list_all (λ later. is_lt (order run later)) rows ≡ true
      → list_all (is_known functions) rows ≡ true → rows_at (by_number run.invocation) rows ≡ []
  none_behind run is [] all known = refl
  none_behind run is (later ∷ rows) all known =
      by_test (is_eq (by_number run.invocation later)) refl (none_behind run is rows (second_of_both _ _ all)
      (second_of_both _ _ known))
    where
      by_test : (b : Bool) → is_eq (by_number run.invocation later) ≡ b → rows_at (by_number run.invocation) rows ≡ []
          → (if b then later ∷ rows_at (by_number run.invocation) rows else rows_at
          (by_number run.invocation) rows) ≡ []
      by_test true same rest = absurd (apart_by_number functions run later is (first_of_both _ _ known)
          (first_of_both _ _ all) (sym (eq-nat_cmp later.invocation run.invocation same)))
      by_test false other rest = rest

  -- one of a number at most
  pub alone : (i : ℕ) (rows : List Running) → are_in_order order rows ≡ true → list_all (is_known functions) rows ≡ true
      → rows_at (by_number i) rows ≡ option_to_list (run_of i rows)
  alone i [] ordered known = refl
  alone i (run ∷ rows) ordered known = by_test (is_eq (by_number i run)) refl (alone i rows
      (second_of_both _ _ ordered) (second_of_both _ _ known))
    where
      by_test : (b : Bool) → is_eq (by_number i run) ≡ b → rows_at (by_number i) rows ≡ option_to_list (run_of i rows)
          → (if b then run ∷ rows_at (by_number i) rows else rows_at (by_number i) rows) ≡ option_to_list
          (if b then Some run else run_of i rows)
      by_test true here rest =
          ap (λ more. run ∷ more)
          (ap (λ n. rows_at (by_number n) rows) (sym (eq-nat_cmp run.invocation i here))
          ∙ none_behind run (first_of_both _ _ known) rows (first_of_both _ _ ordered) (second_of_both _ _ known))
      by_test false other rest = rest
