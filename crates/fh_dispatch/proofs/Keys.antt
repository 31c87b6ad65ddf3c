-- What the tests by number and by function tell, also of invocations that were begun as ones of their functions.
use Rattle.std.proofs.Common.{◌≡◌, ℕ, zero, suc, ◌+◌, ◌-◌, ◌≤◌, Bool, true, false, List, [], ◌∷◌, ◌++◌, length, Option, Some, None, refl, ap, sym, ◌∙◌, arith}
use Rattle.std.specs.Prelude.{◌==◌, nat_lt, if◌then◌else◌}
use Rattle.std.specs.List.{slice_get}
use Rattle.std.specs.Ordering.{is_lt, is_eq, is_ne, nat_cmp, ordering_then}
use Rattle.std.specs.declared.cmp.Ordering.{Ordering}
use Rattle.std.specs.declared.cmp.Ordering.TheVariants.{Less, Equal, Greater}
use Rattle.std.proofs.Math.Numerals.{add-one}
use Rattle.std.proofs.lemmas.Bool.Decides.{nat_tests}
use Rattle.std.proofs.lemmas.Option.{slice_get_within}
use Rattle.fh_dispatch.specs.declared.running.Running.{Running}
use Rattle.fh_dispatch.specs.Invocations.{by_number, by_function, by_run}
use Rattle.fh_dispatch.specs.Runs.{order, function_at, is_some_of, is_known}

pub is_eq-nat_cmp : (x y : ℕ) → is_eq (nat_cmp x y) ≡ (x == y)
is_eq-nat_cmp x y = by_tests (nat_lt x y) (x == y) refl refl
  where
    by_tests : (below same : Bool) → nat_lt x y ≡ below → (x == y) ≡ same
        → is_eq (if below then Less else (if same then Equal else Greater)) ≡ same
    by_tests true true below same = absurd (grind (arith, nat_tests, below, same))
    by_tests true false below same = refl
    by_tests false true below same = refl
    by_tests false false below same = refl

pub eq-nat_cmp : (x y : ℕ) → is_eq (nat_cmp x y) ≡ true → x ≡ y
eq-nat_cmp x y is = let same = sym (is_eq-nat_cmp x y) ∙ is in grind (arith, nat_tests, same)

pub nat_cmp-same : (x : ℕ) → nat_cmp x x ≡ Equal
nat_cmp-same x = equal (nat_cmp x x) (is_eq-nat_cmp x x ∙ itself)
  where
    itself : (x == x) ≡ true
    itself = grind (arith, nat_tests)

    equal : (o : Ordering) → is_eq o ≡ true → o ≡ Equal
    equal Less is = cc
    equal Equal is = refl
    equal Greater is = cc

pub is_ne-as_eq : (o : Ordering) (b : Bool) → is_eq o ≡ b → is_ne o ≡ (if b then false else true)
is_ne-as_eq Less b is = rw (sym is) refl
is_ne-as_eq Equal b is = rw (sym is) refl
is_ne-as_eq Greater b is = rw (sym is) refl

-- ---- functions by the numbers of invocations

pub function_at-within : (functions : List ℕ) (i f : ℕ) → function_at functions i ≡ Some f
    → (1 ≤ i) × (i ≤ length functions)
function_at-within functions zero f is = cc
function_at-within functions (suc i) f is =
    let within = slice_get_within functions i f is in (omega arith, omega (arith, within))

pub function_from_place : (functions : List ℕ) (i : ℕ) → 1 ≤ i → function_at functions i ≡ slice_get functions (i - 1)
function_from_place functions zero given = absurd (omega (arith, given))
function_from_place functions (suc i) given = let place : i ≡ suc i - 1 = omega arith in ap (slice_get functions) place

pub function_at-place : (functions : List ℕ) (i : ℕ) → function_at functions (i + 1) ≡ slice_get functions i
function_at-place functions i = ap (function_at functions) (add-one i)

slice_get-append : (xs ys : List ℕ) (i x : ℕ) → slice_get xs i ≡ Some x → slice_get (xs ++ ys) i ≡ Some x
slice_get-append [] ys i x is = cc
slice_get-append (y ∷ xs) ys zero x is = is
slice_get-append (y ∷ xs) ys (suc i) x is = slice_get-append xs ys i x is

slice_get-last : (xs : List ℕ) (x : ℕ) → slice_get (xs ++ x ∷ []) (length xs) ≡ Some x
slice_get-last [] x = refl
slice_get-last (y ∷ xs) x = slice_get-last xs x

pub function_at-append : (functions : List ℕ) (g i f : ℕ) → function_at functions i ≡ Some f
    → function_at (functions ++ g ∷ []) i ≡ Some f
function_at-append functions g zero f is = cc
function_at-append functions g (suc i) f is = slice_get-append functions (g ∷ []) i f is

pub function_at-next : (functions : List ℕ) (g : ℕ) → function_at (functions ++ g ∷ []) (length functions + 1) ≡ Some g
function_at-next functions g = function_at-place (functions ++ g ∷ []) (length functions) ∙ slice_get-last functions g

pub known_at : (functions : List ℕ) (run : Running) → is_known functions run ≡ true
    → function_at functions run.invocation ≡ Some run.function
known_at functions run known = by_found (function_at functions run.invocation) known
  where
    by_found : (found : Option ℕ) → is_some_of run.function found ≡ true → found ≡ Some run.function
    by_found None is = cc
    by_found (Some g) is = ap Some (grind (arith, nat_tests, is))

pub known_from : (functions : List ℕ) (run : Running) → function_at functions run.invocation ≡ Some run.function
    → is_known functions run ≡ true
known_from functions run is = rw is (grind (arith, nat_tests))

pub known-append : (functions : List ℕ) (g : ℕ) (run : Running) → is_known functions run ≡ true
    → is_known (functions ++ g ∷ []) run ≡ true
known-append functions g run known =
    known_from (functions ++ g ∷ []) run (function_at-append functions g run.invocation run.function
    (known_at functions run known))

-- ---- tests by function and number, and by number alone

module _ (functions : List ℕ) (f i : ℕ) where
  abbrev with_function : Ordering → Ordering
  with_function o = ordering_then (nat_cmp f f) o

  -- where the number is one of the function, the number alone tells
  pub by_run-number : function_at functions i ≡ Some f → (run : Running) → is_known functions run ≡ true
      → is_eq (by_run f i run) ≡ is_eq (by_number i run)
  by_run-number at run known = by_test (is_eq (by_number i run)) refl
    where
      apart : (first second : Ordering) → is_eq second ≡ false → is_eq (ordering_then first second) ≡ false
      apart Less second is = refl
      apart Equal second is = is
      apart Greater second is = refl

      own : run.invocation ≡ i → run.function ≡ f
      own same = let found : Some run.function ≡ Some f = sym (known_at functions run known)
          ∙ ap (function_at functions) same ∙ at in cc

      by_test : (b : Bool) → is_eq (by_number i run) ≡ b → is_eq (by_run f i run) ≡ b
      by_test true is = rw (own (eq-nat_cmp run.invocation i is), nat_cmp-same f) is
      by_test false is = apart (by_function f run) (by_number i run) is

-- of two that were begun so, one stands before the other only where their numbers differ
pub apart_by_number : (functions : List ℕ) (run later : Running) → is_known functions run ≡ true
    → is_known functions later ≡ true → is_lt (order run later) ≡ true → run.invocation ≡ later.invocation → ⊥
apart_by_number functions run later known known_later apart same = before (ap is_lt alike ∙ apart')
  where
    own : run.function ≡ later.function
    own =
        let found : Some run.function ≡ Some later.function =
        sym (known_at functions run known) ∙ ap (function_at functions) same ∙ known_at functions later known_later in
        cc

    alike : Equal ≡ order run later
    alike = rw (own, same, nat_cmp-same later.function, nat_cmp-same later.invocation) refl

    apart' : is_lt (order run later) ≡ true
    apart' = apart

    before : is_lt Equal ≡ true → ⊥
    before is = cc
