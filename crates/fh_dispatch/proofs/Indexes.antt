-- What each change makes of the rows and of their index.
use Rattle.std.proofs.Common.{◌≡◌, ℕ, zero, suc, ◌+◌, ◌-◌, ◌<◌, ◌≤◌, Bool, true, false, List, [], ◌∷◌, ◌++◌, length, find, filter, map, Option, Some, None, refl, ap, sym, ◌∙◌, ⊎_elim, arith}
use Rattle.std.specs.Prelude.{◌==◌, nat_le, ◌&&◌, if◌then◌else◌, slice_index}
use Rattle.std.specs.List.{list_all}
use Rattle.std.specs.Option.{option_to_list}
use Rattle.std.specs.Ordering.{is_lt, is_eq, is_ne, is_gt, nat_cmp, ordering_then}
use Rattle.std.specs.declared.cmp.Ordering.{Ordering}
use Rattle.std.specs.declared.cmp.Ordering.TheVariants.{Less, Equal, Greater}
use Rattle.std.proofs.lemmas.Bool.{cases_lt}
use Rattle.std.proofs.lemmas.Bool.Decides.{nat_tests}
use Rattle.std.proofs.lemmas.List.Elements.{filter-append}
use Rattle.std.proofs.lemmas.List.Folds.{list_all-map}
use Rattle.fh_rows.specs.Rows.{row_at, rows_at, with_row, with_change_at, without_row_at}
use Rattle.fh_rows.proofs.Order.{both, first_of_both, second_of_both, list_all-filter, list_all-weaker, list_all-append, parts-apart, in_order-with, in_order-filter, in_order-changed}
use Rattle.fh_rows.proofs.Lawful.{find-passes}
use Rattle.fh_dispatch.specs.declared.running.Running.{Running}
use Rattle.fh_dispatch.specs.Invocations.{by_number, by_function, by_run, run_of, runs_of, renewed, lowest}
use Rattle.fh_dispatch.specs.Runs.{order, runs_total, renewed_key, in_turn, function_at, is_known, key_of, key_at, IsIndexed, HasKey, HasNoKeys, key_without, IsLengthened}
use Rattle.fh_dispatch.proofs.Filters.{filter-kept, filter-dropped, filter-filter, filter-map, find-head, head, filter-alike, find-alike, map-alike}
use Rattle.fh_dispatch.proofs.Keys.{is_eq-nat_cmp, eq-nat_cmp, is_ne-as_eq, known_at, known_from, known-append, function_at-within, function_at-next, by_run-number}
use Rattle.fh_dispatch.proofs.InTurn.{in_turn-next, in_turn-map, find-none, find-first, rows_at-number, run_of-number, alone}

-- ---- where no row passes

eq_as_ne : (o : Ordering) → is_ne o ≡ true → is_eq o ≡ false
eq_as_ne Less is = refl
eq_as_ne Equal is = cc
eq_as_ne Greater is = refl

module _ (place : Running → Ordering) where
  pub without-none : (rows : List Running) → rows_at place rows ≡ [] → without_row_at place rows ≡ rows
  without-none [] none = refl
  without-none (run ∷ rows) none = by_test (is_eq (place run)) refl none (without-none rows)
    where
      by_test : (b : Bool) → is_eq (place run) ≡ b → (if b then run ∷ rows_at place rows else rows_at place rows) ≡ []
          → (rows_at place rows ≡ [] → without_row_at place rows ≡ rows)
          → without_row_at place (run ∷ rows) ≡ run ∷ rows
      by_test true is none rest = cc
      by_test false is none rest = rw (is_ne-as_eq (place run) false is) (ap (λ more. run ∷ more) (rest none))

  pub change-none : (change : Running → Running) (rows : List Running) → rows_at place rows ≡ []
      → with_change_at place change rows ≡ rows
  change-none change [] none = refl
  change-none change (run ∷ rows) none = by_test (is_eq (place run)) none (change-none change rows)
    where
      by_test : (b : Bool) → (if b then run ∷ rows_at place rows else rows_at place rows) ≡ []
          → (rows_at place rows ≡ [] → with_change_at place change rows ≡ rows)
          → (if b then change run else run) ∷ with_change_at place change rows ≡ run ∷ rows
      by_test true none rest = cc
      by_test false none rest = ap (λ more. run ∷ more) (rest none)

pub head-none : {X : Type 0} (xs : List X) → head xs ≡ None → xs ≡ []
head-none [] is = refl
head-none (x ∷ xs) is = cc

filter-nothing : (rows : List Running) → filter (λ run. false) rows ≡ []
filter-nothing [] = refl
filter-nothing (run ∷ rows) = filter-nothing rows

in_turn-alike : (n : ℕ) (rows others : List Running)
    → ((i : ℕ) → i < n → rows_at (by_number (i + 1)) rows ≡ rows_at (by_number (i + 1)) others)
    → in_turn n rows ≡ in_turn n others
in_turn-alike zero rows others alike = refl
in_turn-alike (suc n) rows others alike = rw (
  in_turn-alike n rows others (λ i below. alike i (omega
      (arith, below))),
  alike n (omega arith),
) refl

module _ (rows : List Running) (functions dues : List ℕ) (indexed : IsIndexed rows functions dues) where
  abbrev running : List Running
  running = in_turn (length functions) rows

  -- ---- by function and number, and by number alone

  module _ (f i : ℕ) (at : function_at functions i ≡ Some f) where
    pub row_at-run : row_at (by_run f i) rows ≡ run_of i running
    row_at-run =
        find-alike (is_known functions) (λ run. is_eq (by_run f i run)) (λ run. is_eq (by_number i run))
        (by_run-number functions f i at) rows indexed.known
        ∙ sym (run_of-number functions rows indexed.ordered indexed.known i)

    pub without-run : without_row_at (by_run f i) rows ≡ without_row_at (by_number i) rows
    without-run =
        filter-alike (is_known functions) (λ run. is_ne (by_run f i run)) (λ run. is_ne (by_number i run))
        (λ run known. is_ne-as_eq (by_run f i run) (is_eq (by_number i run))
        (by_run-number functions f i at run known)
        ∙ sym (is_ne-as_eq (by_number i run) (is_eq (by_number i run)) refl)) rows indexed.known

    pub change-run : (change : Running → Running)
        → with_change_at (by_run f i) change rows ≡ with_change_at (by_number i) change rows
    change-run change = map-alike (is_known functions) (λ run. is_eq (by_run f i run)) (λ run. is_eq
        (by_number i run)) (by_run-number functions f i at) change rows indexed.known

  -- a number that wasn't given is that of none
  pub rows_at-missing : (i : ℕ) → function_at functions i ≡ None → rows_at (by_number i) running ≡ []
  rows_at-missing i missing =
      rows_at-number functions rows indexed.ordered indexed.known i
      ∙ filter-alike (is_known functions) (λ run. is_eq (by_number i run)) (λ run. false) other rows indexed.known
      ∙ filter-nothing rows
    where
      other : (run : Running) → is_known functions run ≡ true → is_eq (by_number i run) ≡ false
      other run known = by_test (is_eq (by_number i run)) refl
        where
          by_test : (b : Bool) → is_eq (by_number i run) ≡ b → b ≡ false
          by_test true is = cc (sym (known_at functions run known)
              ∙ ap (function_at functions) (eq-nat_cmp run.invocation i is) ∙ missing)
          by_test false is = refl

  pub run_of-missing : (i : ℕ) → function_at functions i ≡ None → run_of i running ≡ None
  run_of-missing i missing = find-head (λ run. is_eq (by_number i run)) running ∙ ap head (rows_at-missing i missing)

  pub rows_at-gone : (i : ℕ) → run_of i running ≡ None → rows_at (by_number i) running ≡ []
  rows_at-gone i none = head-none (rows_at (by_number i) running) (sym (find-head (λ run. is_eq
      (by_number i run)) running) ∙ none)

  -- ---- an end

  pub indexed-without : (i : ℕ) (changed : List ℕ) → length changed ≡ length dues
      → HasKey i 18446744073709551615 dues changed
      → IsIndexed (without_row_at (by_number i) rows) functions changed
  indexed-without i changed same key = record {
    ordered = in_order-filter order (λ run. is_ne (by_number i run)) rows indexed.ordered;
    known = list_all-filter (is_known functions) (λ run. is_ne (by_number i run)) rows indexed.known;
    keyed = λ j below. at_each j (omega (arith, below, same));
  }
    where
      at_each : (j : ℕ) → j < length dues → slice_index changed j ≡ key_at (rows_at (by_number (j + 1))
          (without_row_at (by_number i) rows))
      at_each j below = by_same (j + 1 == i) refl (key j below)
        where
          by_same : (same : Bool) → (j + 1 == i) ≡ same
              → slice_index changed j ≡ (if same then 18446744073709551615 else slice_index dues j)
              → slice_index changed j ≡ key_at (rows_at (by_number (j + 1)) (without_row_at (by_number i) rows))
          by_same true same to =
              let at : j + 1 ≡ i = grind (arith, nat_tests, same) in
              to ∙ sym (ap key_at (filter-dropped (λ run. is_eq (by_number (j + 1) run)) (λ run. is_ne
              (by_number i run)) (λ run keeps. ap (λ n. is_eq (by_number n run)) at
              ∙ eq_as_ne (by_number i run) keeps) rows))
          by_same false other to =
              to ∙ indexed.keyed j below
              ∙ sym (ap key_at (filter-kept (λ run. is_eq (by_number (j + 1) run)) (λ run. is_ne (by_number i run))
              (λ run here. kept run here) rows))
            where
              kept : (run : Running) → is_eq (by_number (j + 1) run) ≡ true → is_ne (by_number i run) ≡ true
              kept run here =
                  let number : run.invocation ≡ j + 1 = eq-nat_cmp run.invocation (j + 1) here in
                  is_ne-as_eq (by_number i run) false (is_eq-nat_cmp run.invocation i
                  ∙ grind (arith, nat_tests, other, number))

  -- ---- a renewal

  module _ (i receipt due : ℕ) where
    abbrev renews : Running → Running
    renews run = if is_eq (by_number i run) then renewed receipt due run else run

    abbrev renewed_rows : List Running
    renewed_rows = with_change_at (by_number i) (renewed receipt due) rows

    same_number : (run : Running) → (renews run).invocation ≡ run.invocation
    same_number run = by_test (is_eq (by_number i run))
      where
        by_test : (b : Bool) → (if b then renewed receipt due run else run).invocation ≡ run.invocation
        by_test true = refl
        by_test false = refl

    same_function : (run : Running) → is_known functions (renews run) ≡ is_known functions run
    same_function run = by_test (is_eq (by_number i run))
      where
        by_test : (b : Bool) → is_known functions (if b then renewed receipt due run else run) ≡ is_known functions run
        by_test true = refl
        by_test false = refl

    pub running-renewed : with_change_at (by_number i) (renewed receipt due) running ≡ in_turn
        (length functions) renewed_rows
    running-renewed = in_turn-map renews same_number (length functions) rows

    rows_at-renewed : (j : ℕ) → rows_at (by_number j) renewed_rows ≡ map renews (rows_at (by_number j) rows)
    rows_at-renewed j = filter-map (λ run. is_eq (by_number j run)) renews (λ run. ap (λ n. is_eq (nat_cmp n j))
        (same_number run)) rows

    all_known : (runs : List Running) → list_all (is_known functions) runs ≡ true
        → list_all (λ run. is_known functions (renews run)) runs ≡ true
    all_known runs known = list_all-weaker (is_known functions) (λ run. is_known functions (renews run))
        (λ run is. same_function run ∙ is) runs known

    pub indexed-renewed : (run : Running) → run_of i running ≡ Some run → (changed : List ℕ)
        → length changed ≡ length dues
        → HasKey i (key_of due) dues changed → IsIndexed renewed_rows functions changed
    indexed-renewed run here changed same key = record {
      ordered = in_order-changed order runs_total (renewed receipt due) (renewed_key receipt due)
          (by_number i) rows indexed.ordered;
      known = list_all-map (is_known functions) renews rows ∙ all_known rows indexed.known;
      keyed = λ j below. at_each j (omega (arith, below, same));
    }
      where
        found : run_of i rows ≡ Some run
        found = sym (run_of-number functions rows indexed.ordered indexed.known i) ∙ here

        own : key_at (map renews (rows_at (by_number i) rows)) ≡ key_of due
        own = rw (alone functions i rows indexed.ordered indexed.known, found) (by_test (is_eq (by_number i run))
            (find-passes (λ run. is_eq (by_number i run)) rows run found))
          where
            by_test : (b : Bool) → b ≡ true → key_of ((if b then renewed receipt due run else run).due) ≡ key_of due
            by_test true is = refl
            by_test false is = cc

        at_each : (j : ℕ) → j < length dues → slice_index changed j ≡ key_at (rows_at (by_number (j + 1)) renewed_rows)
        at_each j below = by_same (j + 1 == i) refl (key j below)
          where
            by_same : (same : Bool) → (j + 1 == i) ≡ same
                → slice_index changed j ≡ (if same then key_of due else slice_index dues j)
                → slice_index changed j ≡ key_at (rows_at (by_number (j + 1)) renewed_rows)
            by_same true same to =
                let at : j + 1 ≡ i = grind (arith, nat_tests, same) in
                to ∙ sym (ap (λ n. key_at (rows_at (by_number n) renewed_rows)) at ∙ ap key_at (rows_at-renewed i)
                ∙ own)
            by_same false other to =
                let none : rows_at (by_number i) (rows_at (by_number (j + 1)) rows) ≡ [] =
                filter-dropped (λ run. is_eq (by_number i run)) (λ run. is_eq (by_number (j + 1) run))
                (λ run at. apart run at) rows in
                to ∙ indexed.keyed j below
                ∙ sym (ap key_at (rows_at-renewed (j + 1)
                ∙ change-none (by_number i) (renewed receipt due) (rows_at (by_number (j + 1)) rows) none))
              where
                apart : (run : Running) → is_eq (by_number (j + 1) run) ≡ true → is_eq (by_number i run) ≡ false
                apart run at =
                    let number : run.invocation ≡ j + 1 = eq-nat_cmp run.invocation (j + 1) at in
                    is_eq-nat_cmp run.invocation i ∙ grind (arith, nat_tests, other, number)

  -- ---- a begin

  module _ (run : Running) (number : run.invocation ≡ length functions + 1) where
    abbrev more_rows : List Running
    more_rows = with_row order run rows

    abbrev more_functions : List ℕ
    more_functions = functions ++ run.function ∷ []

    lower : (other : Running) → is_known functions other ≡ true → is_eq (by_number run.invocation other) ≡ false
    lower other known =
        let within = (function_at-within functions other.invocation other.function
        (known_at functions other known)).1 in
        is_eq-nat_cmp other.invocation run.invocation ∙ grind (arith, nat_tests, within, number)

    apart : (other : Running) → is_known functions other ≡ true → is_ne (order other run) ≡ true
    apart other known = is_ne-as_eq (order other run) false (behind (by_function run.function other)
        (by_number run.invocation other) (lower other known))
      where
        behind : (first second : Ordering) → is_eq second ≡ false → is_eq (ordering_then first second) ≡ false
        behind Less second is = refl
        behind Equal second is = is
        behind Greater second is = refl

    abbrev before : List Running
    before = filter (λ other. is_lt (order other run)) rows

    abbrev behind : List Running
    behind = filter (λ other. is_gt (order other run)) rows

    parts : before ++ behind ≡ rows
    parts = parts-apart order runs_total run rows indexed.ordered (list_all-weaker (is_known functions)
        (λ other. is_ne (order other run)) apart rows indexed.known)

    none_yet : rows_at (by_number run.invocation) rows ≡ []
    none_yet = filter-alike (is_known functions) (λ other. is_eq (by_number run.invocation other))
        (λ other. false) lower rows indexed.known ∙ filter-nothing rows

    rows_at-parts : (j : ℕ) → rows_at (by_number j) more_rows ≡ rows_at (by_number j) before
        ++ rows_at (by_number j) (run ∷ behind)
    rows_at-parts j = filter-append (λ other. is_eq (by_number j other)) before (run ∷ behind)

    pub rows_at-begun : rows_at (by_number run.invocation) more_rows ≡ run ∷ []
    rows_at-begun =
        let mine = λ (other : Running). is_eq (by_number run.invocation other) in
        let front : filter mine before ≡ [] = filter-filter mine (λ other. is_lt (order other run)) rows
        ∙ ap (filter (λ other. is_lt (order other run))) none_yet in
        let back : filter mine behind ≡ [] = filter-filter mine (λ other. is_gt (order other run)) rows
        ∙ ap (filter (λ other. is_gt (order other run))) none_yet in
        let own : is_eq (by_number run.invocation run) ≡ true = is_eq-nat_cmp run.invocation run.invocation
        ∙ grind (arith, nat_tests) in
        rw (rows_at-parts run.invocation, front, own, back) refl

    pub rows_at-others : (j : ℕ) → (j == run.invocation) ≡ false
        → rows_at (by_number j) more_rows ≡ rows_at (by_number j) rows
    rows_at-others j other =
        let not_own : is_eq (by_number j run) ≡ false = is_eq-nat_cmp run.invocation j
        ∙ grind (arith, nat_tests, other) in
        rows_at-parts j
        ∙ rw not_own (sym (filter-append (λ other. is_eq (by_number j other)) before behind)
        ∙ ap (rows_at (by_number j)) parts)

    pub running-begun : in_turn (length functions + 1) more_rows ≡ running ++ run ∷ []
    running-begun =
        in_turn-next (length functions) more_rows
        ∙ ap (λ back. in_turn (length functions) more_rows
        ++ back) (ap (λ n. rows_at (by_number n) more_rows) (sym number) ∙ rows_at-begun)
        ∙ ap (λ front. front ++ run ∷ []) (in_turn-alike (length functions) more_rows rows
        (λ i below. rows_at-others (i + 1) (grind (arith, nat_tests, below, number))))

    still_known : (runs : List Running) → list_all (is_known functions) runs ≡ true
        → list_all (is_known more_functions) runs ≡ true
    still_known runs known = list_all-weaker (is_known functions) (is_known more_functions)
        (known-append functions run.function) runs known

    own_known : is_known more_functions run ≡ true
    own_known = known_from more_functions run (ap (function_at more_functions) number
        ∙ function_at-next functions run.function)

    pub indexed-begun : (changed : List ℕ) → length changed ≡ length dues
        → HasKey run.invocation (key_of run.due) dues changed
        → IsIndexed more_rows more_functions changed
    indexed-begun changed same key = record {
      ordered = in_order-with order runs_total run rows indexed.ordered;
      known =
          list_all-append (is_known more_functions) before (run ∷ behind)
          (still_known before (list_all-filter (is_known functions) (λ other. is_lt
          (order other run)) rows indexed.known))
          (both _ _ own_known (still_known behind (list_all-filter (is_known functions) (λ other. is_gt
          (order other run)) rows indexed.known)));
      keyed = λ j below. at_each j (omega (arith, below, same));
    }
      where
        at_each : (j : ℕ) → j < length dues → slice_index changed j ≡ key_at (rows_at (by_number (j + 1)) more_rows)
        at_each j below = by_same (j + 1 == run.invocation) refl (key j below)
          where
            by_same : (same : Bool) → (j + 1 == run.invocation) ≡ same
                → slice_index changed j ≡ (if same then key_of run.due else slice_index dues j)
                → slice_index changed j ≡ key_at (rows_at (by_number (j + 1)) more_rows)
            by_same true same to =
                let at : j + 1 ≡ run.invocation = grind (arith, nat_tests, same) in
                to ∙ sym (ap (λ n. key_at (rows_at (by_number n) more_rows)) at ∙ ap key_at rows_at-begun)
            by_same false other to = to ∙ indexed.keyed j below ∙ sym (ap key_at (rows_at-others (j + 1) other))

  -- ---- all of a function, and all

  pub indexed-cleared : (changed : List ℕ) → length changed ≡ length dues → HasNoKeys rows dues changed
      → IsIndexed [] functions changed
  indexed-cleared changed same keys = record {
    ordered = refl;
    known = refl;
    keyed = λ j below. at_each j (omega (arith, below, same));
  }
    where
      at_each : (j : ℕ) → j < length dues → slice_index changed j ≡ 18446744073709551615
      at_each j below = by_rows (rows_at (by_number (j + 1)) rows) (keys j below) (indexed.keyed j below)
        where
          by_rows : (there : List Running) → slice_index changed j ≡ key_without there (slice_index dues j)
              → slice_index dues j ≡ key_at there
              → slice_index changed j ≡ 18446744073709551615
          by_rows [] to was = to ∙ was
          by_rows (run ∷ there) to was = to

  pub indexed-dropped : (f : ℕ) (changed : List ℕ) → length changed ≡ length dues
      → HasNoKeys (runs_of f rows) dues changed
      → IsIndexed (without_row_at (by_function f) rows) functions changed
  indexed-dropped f changed same keys = record {
    ordered = in_order-filter order (λ run. is_ne (by_function f run)) rows indexed.ordered;
    known = list_all-filter (is_known functions) (λ run. is_ne (by_function f run)) rows indexed.known;
    keyed = λ j below. at_each j (omega (arith, below, same));
  }
    where
      at_each : (j : ℕ) → j < length dues → slice_index changed j ≡ key_at (rows_at (by_number (j + 1))
          (without_row_at (by_function f) rows))
      at_each j below =
          by_found (run_of (j + 1) rows) (rows_at (by_number (j + 1)) rows) (alone functions
          (j + 1) rows indexed.ordered indexed.known)
          (keys j below ∙ ap (λ there. key_without there (slice_index dues j)) (filter-filter (λ run. is_eq
          (by_number (j + 1) run)) (λ run. is_eq (by_function f run)) rows))
          (indexed.keyed j below)
          ∙ sym (ap key_at (filter-filter (λ run. is_eq (by_number (j + 1) run)) (λ run. is_ne
          (by_function f run)) rows))
        where
          by_test : (run : Running) (b : Bool) → is_eq (by_function f run) ≡ b
              → slice_index changed j ≡ key_without (if b then run ∷ [] else []) (slice_index dues j)
              → slice_index dues j ≡ key_of run.due
              → slice_index changed j ≡ key_at (without_row_at (by_function f) (run ∷ []))
          by_test run true is to was = rw (is_ne-as_eq (by_function f run) true is) to
          by_test run false is to was = rw (is_ne-as_eq (by_function f run) false is) (to ∙ was)

          by_found : (found : Option Running) (there : List Running) → there ≡ option_to_list found
              → slice_index changed j ≡ key_without (runs_of f there) (slice_index dues j)
              → slice_index dues j ≡ key_at there
              → slice_index changed j ≡ key_at (without_row_at (by_function f) there)
          by_found None there is to was = rw is (to ∙ rw is (was ∙ rw is refl))
          by_found (Some run) there is to was = rw is (by_test run (is_eq (by_function f run)) refl (to
              ∙ rw is refl) (was ∙ rw is refl))

  -- ---- room for more

  pub indexed-lengthened : length functions ≤ length dues → (longer : List ℕ) → IsLengthened dues longer
      → IsIndexed rows functions longer
  indexed-lengthened enough longer more = record {
    ordered = indexed.ordered;
    known = indexed.known;
    keyed = λ j below. ⊎_elim (λ old. more.kept j old
        ∙ indexed.keyed j old) (λ new. more.empty j (omega (arith, new)) below
        ∙ sym (ap key_at (beyond j (omega (arith, new, enough))))) (cases_lt j (length dues));
  }
    where
      beyond : (j : ℕ) → length functions ≤ j → rows_at (by_number (j + 1)) rows ≡ []
      beyond j far = filter-alike (is_known functions) (λ run. is_eq (by_number (j + 1) run))
          (λ run. false) lower' rows indexed.known ∙ filter-nothing rows
        where
          lower' : (run : Running) → is_known functions run ≡ true → is_eq (by_number (j + 1) run) ≡ false
          lower' run known =
              let within = (function_at-within functions run.invocation run.function
              (known_at functions run known)).1 in
              is_eq-nat_cmp run.invocation (j + 1) ∙ grind (arith, nat_tests, within, far)

  -- ---- one that is found

  find-known : (p q : Running → Bool) (runs : List Running) (run : Running) → list_all p runs ≡ true
      → find q runs ≡ Some run → p run ≡ true
  find-known p q [] run all is = cc
  find-known p q (other ∷ runs) run all is = by_test (q other) is (find-known p q runs run (second_of_both _ _ all))
    where
      by_test : (b : Bool) → (if b then Some other else find q runs) ≡ Some run → (find q runs ≡ Some run
          → p run ≡ true) → p run ≡ true
      by_test true found rest = let same : other ≡ run = cc in
          rw (← same) (first_of_both (p other) (list_all p runs) all)
      by_test false found rest = rest found

  pub function_at-found : (i : ℕ) (run : Running) → run_of i running ≡ Some run
      → function_at functions i ≡ Some run.function
  function_at-found i run here =
      let found : run_of i rows ≡ Some run = sym (run_of-number functions rows indexed.ordered indexed.known i)
      ∙ here in
      let known = find-known (is_known functions) (λ run. is_eq (by_number i run)) rows run indexed.known found in
      ap (function_at functions) (sym (eq-nat_cmp run.invocation i (find-passes (λ run. is_eq
      (by_number i run)) rows run found)))
      ∙ known_at functions run known

  -- a key above a bound is none of one that passes a test which only keys up to the bound pass
  module _ (p : Running → Bool) (from most : ℕ) (passes : (run : Running) → p run ≡ true
      → (from ≤ run.invocation) × (key_of run.due ≤ most)) where
    none_at : (i : ℕ) → i < length dues → (from ≤ i + 1 → most < slice_index dues i)
        → find p (rows_at (by_number (i + 1)) rows) ≡ None
    none_at i below above = by_found (run_of (i + 1) rows) refl (alone functions
        (i + 1) rows indexed.ordered indexed.known) (indexed.keyed i below)
      where
        by_found : (found : Option Running) → run_of (i + 1) rows ≡ found
            → rows_at (by_number (i + 1)) rows ≡ option_to_list found
            → slice_index dues i ≡ key_at (rows_at (by_number (i + 1)) rows)
            → find p (rows_at (by_number (i + 1)) rows) ≡ None
        by_found None here is key = rw is refl
        by_found (Some run) here is key = rw is (by_test (p run) refl)
          where
            number : run.invocation ≡ i + 1
            number = eq-nat_cmp run.invocation (i + 1) (find-passes (λ run. is_eq (by_number
                (i + 1) run)) rows run here)

            own : slice_index dues i ≡ key_of run.due
            own = key ∙ ap key_at is

            by_test : (b : Bool) → p run ≡ b → (if b then Some run else None) ≡ None
            by_test true test = let due = passes run test in
                absurd (omega (arith, own, due.1, above (omega (arith, due.0, number))))
            by_test false test = refl

    pub none-due : length functions ≤ length dues → ((i : ℕ) → from ≤ i + 1 → i < length dues
        → most < slice_index dues i) → find p running ≡ None
    none-due enough above = find-none p rows (length functions) (λ i below. none_at i (omega
        (arith, below, enough)) (λ low. above i low (omega (arith, below, enough))))

    pub first-due : (number : ℕ) → most < 18446744073709551615 → 1 ≤ number → number ≤ length dues
        → slice_index dues (number - 1) ≤ most
        → ((run : Running) → run.invocation ≡ number → key_of run.due ≤ most → p run ≡ true)
        → ((i : ℕ) → from ≤ i + 1 → i + 1 < number → most < slice_index dues i) → find p running ≡ run_of number running
    first-due number bound low high due tells above =
        by_found (run_of place_number rows) refl (alone functions place_number rows indexed.ordered indexed.known)
        (indexed.keyed place (omega (arith, low, high)))
      where
        place : ℕ
        place = number - 1

        place_number : ℕ
        place_number = number - 1 + 1

        same : place_number ≡ number
        same = omega (arith, low)

        by_found : (found : Option Running) → run_of place_number rows ≡ found
            → rows_at (by_number place_number) rows ≡ option_to_list found
            → slice_index dues place ≡ key_at (rows_at (by_number place_number) rows)
            → find p running ≡ run_of number running
        by_found None here is key = let own = key ∙ ap key_at is in absurd (omega (arith, own, due, bound))
        by_found (Some run) here is key =
            let given : run.invocation ≡ number = eq-nat_cmp run.invocation place_number (find-passes (λ run. is_eq
            (by_number place_number run)) rows run here) ∙ same in
            let own : slice_index dues place ≡ key_of run.due = key ∙ ap key_at is in
            let test : p run ≡ true = tells run given (omega (arith, own, due)) in
            let known = find-known (is_known functions) (λ run. is_eq
            (by_number place_number run)) rows run indexed.known here in
            let within = (function_at-within functions run.invocation run.function (known_at functions run known)).1 in
            find-first p rows (length functions) place run (omega (arith, within, given, low))
            (λ i below. none_at i (omega (arith, below, high)) (λ from_low. above i from_low (omega
            (arith, below, low))))
            (rw (is, test) refl)
            ∙ sym (run_of-number functions rows indexed.ordered indexed.known number
            ∙ ap (λ n. run_of n rows) (sym same) ∙ here)

  -- ---- the one of the least number

  pub lowest-is : (number : ℕ) → 1 ≤ number → number ≤ length dues
      → slice_index dues (number - 1) ≤ 18446744073709551614
      → find (λ run. true) running ≡ run_of number running → lowest running ≡ Some number
  lowest-is number low high due first = by_runs running refl
    where
      same : number - 1 + 1 ≡ number
      same = omega (arith, low)

      by_runs : (runs : List Running) → running ≡ runs → lowest running ≡ Some number
      by_runs [] is =
          let gone : run_of number running ≡ None = sym first ∙ ap (find (λ run. true)) is in
          let none : rows_at (by_number (number - 1 + 1)) rows ≡ [] =
          ap (λ n. rows_at (by_number n) rows) same
          ∙ sym (rows_at-number functions rows indexed.ordered indexed.known number) ∙ rows_at-gone number gone in
          let empty = indexed.keyed (number - 1) (omega (arith, low, high)) ∙ ap key_at none in
          absurd (omega (arith, empty, due))
      by_runs (run ∷ runs) is =
          let found : run_of number running ≡ Some run = sym first ∙ ap (find (λ run. true)) is in
          ap lowest is ∙ ap Some (eq-nat_cmp run.invocation number (find-passes (λ run. is_eq
          (by_number number run)) running run found))

pub lowest-none : (runs : List Running) → find (λ run. true) runs ≡ None → lowest runs ≡ None
lowest-none [] none = refl
lowest-none (run ∷ runs) none = cc

-- ---- keys

pub key-last : (due : ℕ) → key_of due ≤ 18446744073709551614
key-last due = by_test (nat_le due 18446744073709551614) refl
  where
    by_test : (b : Bool) → nat_le due 18446744073709551614 ≡ b
        → (if b then due else 18446744073709551614) ≤ 18446744073709551614
    by_test true is = grind (arith, nat_tests, is)
    by_test false is = omega arith

key-due : (due most : ℕ) → most < 18446744073709551614 → key_of due ≤ most → due ≤ most
key-due due most bound = by_test (nat_le due 18446744073709551614)
  where
    by_test : (b : Bool) → (if b then due else 18446744073709551614) ≤ most → due ≤ most
    by_test true le = le
    by_test false le = absurd (omega (arith, le, bound))

due-key : (due most : ℕ) → most < 18446744073709551614 → due ≤ most → key_of due ≤ most
due-key due most bound le = by_test (nat_le due 18446744073709551614) refl
  where
    by_test : (b : Bool) → nat_le due 18446744073709551614 ≡ b → (if b then due else 18446744073709551614) ≤ most
    by_test true is = le
    by_test false is = absurd (grind (arith, nat_tests, is, le, bound))

module _ (from most : ℕ) (bound : most < 18446744073709551614) (run : Running) where
  pub due-passes : (nat_le from run.invocation && nat_le run.due most) ≡ true
      → (from ≤ run.invocation) × (key_of run.due ≤ most)
  due-passes test =
      let late : nat_le from run.invocation ≡ true = first_of_both (nat_le from run.invocation)
      (nat_le run.due most) test in
      let due : nat_le run.due most ≡ true = second_of_both (nat_le from run.invocation) (nat_le run.due most) test in
      let le : run.due ≤ most = grind (arith, nat_tests, due) in
      (grind (arith, nat_tests, late), due-key run.due most bound le)

  pub due-tells : (number : ℕ) → from ≤ number → run.invocation ≡ number → key_of run.due ≤ most
      → (nat_le from run.invocation && nat_le run.due most) ≡ true
  due-tells number late same key =
      let from_late : nat_le from run.invocation ≡ true = grind (arith, nat_tests, late, same) in
      let le : run.due ≤ most = key-due run.due most bound key in
      let due : nat_le run.due most ≡ true = grind (arith, nat_tests, le) in
      both (nat_le from run.invocation) (nat_le run.due most) from_late due
