-- How running invocations are found: by function and number, by number alone, and by when they are due.
use Rattle.std.specs.Prelude.{◌≡◌, ℕ, zero, suc, ◌+◌, ◌-◌, ◌<◌, ◌≤◌, ◌==◌, ◌^◌, nat_le, ◌&&◌, Bool, true, false, if◌then◌else◌, List, [], ◌∷◌, ◌++◌, length, filter, slice_index, Option, Some, None, refl}
use Rattle.std.proofs.Common.{sym, ap, ◌∙◌}
use Rattle.std.specs.List.{list_all, slice_get}
use Rattle.std.specs.Cmp.{IsTotalOrder, then_total, on_total, nat_cmp_total}
use Rattle.std.specs.Ordering.{nat_cmp, ordering_then, ordering_reverse, is_gt}
use Rattle.std.specs.declared.cmp.Ordering.{Ordering}
use Rattle.std.specs.declared.cmp.Ordering.TheVariants.{Less, Equal, Greater}
use Rattle.fh_rows.specs.Rows.{IsSpan, rows_at, are_in_order}
use Rattle.fh_dispatch.specs.declared.running.Running.{Running}
use Rattle.fh_dispatch.specs.Invocations.{by_number, by_function, by_run, renewed}

abbrev pub order : Running → Running → Ordering
order a b = by_run b.function b.invocation a

pub runs_total : IsTotalOrder order
runs_total =
    then_total (on_total (λ (r : Running). r.function) nat_cmp_total)
    (on_total (λ (r : Running). r.invocation) nat_cmp_total)

pub renewed_key : (receipt due : ℕ) (run : Running) → order (renewed receipt due run) run ≡ Equal
renewed_key receipt due run = itself (order run run) (runs_total.antisymm run run)
  where
    itself : (o : Ordering) → o ≡ ordering_reverse o → o ≡ Equal
    itself Less is = cc
    itself Equal is = refl
    itself Greater is = cc

-- of two invocations in order, the first is of no later function
not_later : (first second : Ordering) → ordering_then first second ≡ Less → first ≡ Greater → ⊥
not_later Less second is behind = cc
not_later Equal second is behind = cc
not_later Greater second is behind = cc

pub functions_span : (function : ℕ) → IsSpan order (by_function function)
functions_span function = record { inside = inside; before = before }
  where
    behind : (o : Ordering) → is_gt o ≡ true → o ≡ Greater
    behind Less is = cc
    behind Equal is = cc
    behind Greater is = refl

    inside : (row later : Running) → order row later ≡ Less → by_function function later ≡ Equal
        → is_gt (by_function function row) ≡ true → ⊥
    inside row later apart here gt =
        let total = nat_cmp_total in
        let turned : nat_cmp row.function function ≡ nat_cmp row.function later.function =
        total.antisymm row.function function ∙ ap ordering_reverse (sym
        (total.congr later.function function row.function here))
        ∙ sym (total.antisymm row.function later.function) in
        not_later (nat_cmp row.function later.function) (nat_cmp row.invocation later.invocation) apart
        (sym turned ∙ behind (nat_cmp row.function function) gt)

    by_first : (o : Ordering) (row later : Running) → nat_cmp row.function later.function ≡ o
        → ordering_then o (nat_cmp row.invocation later.invocation) ≡ Less → by_function function later ≡ Less
        → by_function function row ≡ Less
    by_first Less row later is apart front = nat_cmp_total.trans row.function later.function function is front
    by_first Equal row later is apart front = nat_cmp_total.congr row.function later.function function is ∙ front
    by_first Greater row later is apart front = cc

    before : (row later : Running) → order row later ≡ Less → by_function function later ≡ Less
        → by_function function row ≡ Less
    before row later apart front = by_first (nat_cmp row.function later.function) row later refl apart front

-- those of the numbers from 1 up to n, in order of number
abbrev pub in_turn : ℕ → List Running → List Running
in_turn zero rows = []
in_turn (suc n) rows = in_turn n rows ++ rows_at (by_number (n + 1)) rows

-- the function of which the invocation of a number was begun
abbrev pub function_at : List ℕ → ℕ → Option ℕ
function_at functions zero = None
function_at functions (suc i) = slice_get functions i

abbrev pub is_some_of : ℕ → Option ℕ → Bool
is_some_of function None = false
is_some_of function (Some other) = other == function

-- it was begun as one of its function
abbrev pub is_known : List ℕ → Running → Bool
is_known functions run = is_some_of run.function (function_at functions run.invocation)

-- the key by which it is found when it is due: the greatest number is no key
abbrev pub key_of : ℕ → ℕ
key_of due = if nat_le due 18446744073709551614 then due else 18446744073709551614

abbrev pub key_at : List Running → ℕ
key_at [] = 18446744073709551615
key_at (run ∷ rows) = key_of run.due

-- each row is found by its function and number, by its number alone, and by its key, and no other key counts
pub record IsIndexed (rows : List Running) (functions dues : List ℕ) : Type 0 where
  pub ordered : are_in_order order rows ≡ true
  pub known : list_all (is_known functions) rows ≡ true
  pub keyed : (i : ℕ) → i < length dues → slice_index dues i ≡ key_at (rows_at (by_number (i + 1)) rows)

-- the index of these rows, and room for so many more in all that is kept
pub record IsHeld (rows : List Running) (functions dues : List ℕ) (room rows_left functions_left : ℕ) : Type 0 where
  pub indexed : IsIndexed rows functions dues
  pub keys : length functions + room ≤ length dues
  pub rows_room : room ≤ rows_left
  pub functions_room : room ≤ functions_left

-- the first number from one on whose key is at most that
abbrev pub IsFirstKey : List ℕ → ℕ → ℕ → Option ℕ → Type 0
IsFirstKey dues from most None = (i : ℕ) → from ≤ i + 1 → i < length dues → most < slice_index dues i
IsFirstKey dues from most (Some number) =
    (from ≤ number) × (1 ≤ number) × (number ≤ length dues) × (slice_index dues (number - 1) ≤ most)
    × ((i : ℕ) → from ≤ i + 1 → i + 1 < number → most < slice_index dues i)

-- those from a number on that are due by a moment
abbrev pub due_from : ℕ → ℕ → List Running → List Running
due_from from most running = filter (λ run. nat_le from run.invocation && nat_le run.due most) running

-- of those that are due, the first one, of a number that was given, stands before all of greater numbers
abbrev pub IsNextDue : ℕ → ℕ → ℕ → List Running → Option Running → Type 0
IsNextDue from most next running None = due_from from most running ≡ []
IsNextDue from most next running (Some run) =
    (from ≤ run.invocation) × (run.invocation < next) × (next < 2 ^ 64)
    × (due_from from most running ≡ run ∷ due_from (run.invocation + 1) most running)

-- the key of this number is another one
abbrev pub HasKey : ℕ → ℕ → List ℕ → List ℕ → Type 0
HasKey invocation key dues changed =
    (i : ℕ) → i < length dues → slice_index changed i ≡ (if i + 1 == invocation then key else slice_index dues i)

abbrev pub key_without : List Running → ℕ → ℕ
key_without [] key = key
key_without (run ∷ gone) key = 18446744073709551615

-- the numbers of these have no key
abbrev pub HasNoKeys : List Running → List ℕ → List ℕ → Type 0
HasNoKeys gone dues changed =
    (i : ℕ) → i < length dues
    → slice_index changed i ≡ key_without (rows_at (by_number (i + 1)) gone) (slice_index dues i)

-- keys that come are no keys
pub record IsLengthened (dues longer : List ℕ) : Type 0 where
  pub kept : (i : ℕ) → i < length dues → slice_index longer i ≡ slice_index dues i
  pub empty : (i : ℕ) → length dues < i + 1 → i < length longer → slice_index longer i ≡ 18446744073709551615
  pub no_less : length dues < length longer + 1
