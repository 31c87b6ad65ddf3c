-- The function of a name, after one was configured.
use Rattle.std.proofs.Common.{◌≡◌, ℕ, Bool, true, false, List, Some, refl, ◌∙◌, arith, rules}
use Rattle.std.specs.Prelude.{◌==◌, if◌then◌else◌}
use Rattle.std.specs.Cmp.{IsTotalOrder}
use Rattle.std.specs.Cmp.Rules.{comparing}
use Rattle.std.specs.Cmp.Lexicographic.{slice_cmp}
use Rattle.std.specs.Ordering.{nat_cmp, is_eq}
use Rattle.std.specs.Str.{bytes_eq}
use Rattle.std.specs.declared.cmp.Ordering.{Ordering}
use Rattle.std.specs.declared.cmp.Ordering.TheVariants.{Less, Equal, Greater}
use Rattle.std.proofs.lemmas.Bool.Decides.{nat_tests}
use Rattle.std.proofs.lemmas.Map.Text.{is_eq-slice_cmp}
use Rattle.std.proofs.lemmas.Slice.Eq.{bytes_eq-Decides}
use Rattle.fh_rows.proofs.Lawful.{row_at-with_same, row_at-with_other}
use Rattle.fh_event.specs.declared.settings.FunctionSettings.TheVariants.{Blob}
use Rattle.fh_dispatch.specs.declared.function.Function.{Function}
use Rattle.fh_dispatch.specs.Part.{WorkPart, by_name, function_of}
use Rattle.fh_dispatch.specs.Acts.{with_function}

total : IsTotalOrder (λ (a b : Function). by_name b.name a)
total = search (comparing, rules)

abbrev named : List ℕ → Function
named name = record { number = 0; name = name; settings = Blob 0 0 0 0 0 }

equal : (o : Ordering) → is_eq o ≡ true → o ≡ Equal
equal Less is = cc
equal Equal is = refl
equal Greater is = cc

pub same_name : (a b : List ℕ) → bytes_eq a b ≡ true → a ≡ b
same_name a b is = (bytes_eq-Decides a b).0 is

pub own_name : (a : List ℕ) → bytes_eq a a ≡ true
own_name a = (bytes_eq-Decides a a).1 refl

pub own_number : (n : ℕ) → (n == n) ≡ true
own_number n = grind (arith, nat_tests)

pub function_of-set : (function : Function) (part : WorkPart) (x : List ℕ)
    → function_of x (with_function function part).functions
    ≡ (if bytes_eq function.name x then Some function else function_of x part.functions)
function_of-set function part x = by_test (bytes_eq function.name x) refl
  where
    by_test : (b : Bool) → bytes_eq function.name x ≡ b
        → function_of x (with_function function part).functions
        ≡ (if b then Some function else function_of x part.functions)
    by_test true is = row_at-with_same (λ (a b : Function). by_name b.name a) total function (named x) part.functions
        (equal (slice_cmp nat_cmp function.name x) (is_eq-slice_cmp function.name x ∙ is))
    by_test false is = row_at-with_other (λ (a b : Function). by_name b.name a) total function (named x) part.functions
        (is_eq-slice_cmp function.name x ∙ is)
