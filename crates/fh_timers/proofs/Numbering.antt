-- The row of a function after a row is set or removed.
use Rattle.std.proofs.Common.{◌≡◌, ℕ, Bool, true, false, Some, None, refl, sym, ◌∙◌, rules, arith}
use Rattle.std.specs.Prelude.{◌==◌, if◌then◌else◌}
use Rattle.std.specs.Cmp.{IsTotalOrder, unsigned_tied}
use Rattle.std.specs.Cmp.Rules.{comparing}
use Rattle.std.specs.Ordering.{nat_cmp, is_eq}
use Rattle.std.specs.declared.cmp.Ordering.{Ordering}
use Rattle.std.specs.declared.cmp.Ordering.TheVariants.{Less, Equal, Greater}
use Rattle.std.proofs.lemmas.Bool.Decides.{nat_tests}
use Rattle.fh_rows.proofs.Lawful.{find-passes, row_at-with_same, row_at-with_other, row_at-without_same, row_at-without_other}
use Rattle.fh_timers.specs.declared.row.TimerRow.{TimerRow}
use Rattle.fh_timers.specs.declared.act.Act.TheVariants.{Set, Remove}
use Rattle.fh_timers.specs.Part.{TimerPart, by_function, row_of}
use Rattle.fh_timers.specs.Acts.{acted}

total : IsTotalOrder (λ (a b : TimerRow). by_function b.function a)
total = search (comparing, rules)

abbrev numbered : ℕ → TimerRow
numbered f = record { function = f; last = None; next = None; updated = 0 }

equal : (o : Ordering) → is_eq o ≡ true → o ≡ Equal
equal Less is = cc
equal Equal is = refl
equal Greater is = cc

pub same_number : (f g : ℕ) → (f == g) ≡ true → f ≡ g
same_number f g is = grind (arith, nat_tests, is)

pub row_of-set : (row : TimerRow) (part : TimerPart) (f : ℕ)
    → row_of f (acted part (Set row)).timers ≡ (if row.function == f then Some row else row_of f part.timers)
unfolding acted
row_of-set row part f = by_test (row.function == f) refl
  where
    by_test : (b : Bool) → (row.function == f) ≡ b
        → row_of f (acted part (Set row)).timers ≡ (if b then Some row else row_of f part.timers)
    by_test true is =
        row_at-with_same (λ (a b : TimerRow). by_function b.function a) total row (numbered f) part.timers
        (equal (nat_cmp row.function f) (unsigned_tied row.function f ∙ is))
    by_test false is =
        row_at-with_other (λ (a b : TimerRow). by_function b.function a) total row (numbered f) part.timers
        (unsigned_tied row.function f ∙ is)

pub row_of-removed : (g : ℕ) (part : TimerPart) (f : ℕ)
    → row_of f (acted part (Remove g)).timers ≡ (if g == f then None else row_of f part.timers)
unfolding acted
row_of-removed g part f = by_test (g == f) refl
  where
    by_test : (b : Bool) → (g == f) ≡ b
        → row_of f (acted part (Remove g)).timers ≡ (if b then None else row_of f part.timers)
    by_test true is =
        row_at-without_same (λ (a b : TimerRow). by_function b.function a) total (numbered g) (numbered f) part.timers
        (equal (nat_cmp g f) (unsigned_tied g f ∙ is))
    by_test false is =
        row_at-without_other (λ (a b : TimerRow). by_function b.function a) total (numbered g) (numbered f) part.timers
        (unsigned_tied g f ∙ is)

-- the row of a function has its number
pub row_of-number : (f : ℕ) (part : TimerPart) (row : TimerRow) → row_of f part.timers ≡ Some row → row.function ≡ f
row_of-number f part row is =
    same_number row.function f
    (sym (unsigned_tied row.function f) ∙ find-passes (λ r. is_eq (by_function f r)) part.timers row is)
