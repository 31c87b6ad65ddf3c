use Rattle.std.proofs.Common.{◌≡◌, ℕ, true, refl, Option, ap, sym, ◌∙◌, length, List, Some, None, arith}
use Rattle.fh_dispatch.specs.declared.running.Running.{Running}
use Rattle.fh_dispatch.specs.Invocations.{InvocationsState, lowest}
use Rattle.fh_dispatch.specs.Runs.{in_turn, IsFirstKey}
use Rattle.fh_dispatch.proofs.Indexes.{none-due, first-due, lowest-is, lowest-none, key-last}
use Rattle.fh_dispatch.proofs.invocations.Invocations.lowest.Goals as goal

pub returns : goal.returns
returns c = by_found c.first_key.result c.first_key.ensures
    ∙ ap (λ (s : InvocationsState). lowest s.running) c.self.view_is
  where
    rows : List Running
    rows = c.self.inside.rows.rows

    functions : List ℕ
    functions = c.self.inside.functions.items

    dues : List ℕ
    dues = c.self.inside.dues

    by_found : (found : Option ℕ) → IsFirstKey dues 0 18446744073709551614 found
        → found ≡ lowest (in_turn (length functions) rows)
    by_found None above =
        sym (lowest-none (in_turn (length functions) rows)
        (none-due rows functions dues c.self.invariant.indexed (λ run. true) 0 18446744073709551614 (λ run test.
        (omega arith, key-last run.due)) (omega (arith, c.self.invariant.keys)) above))
    by_found (Some number) first =
        sym (lowest-is rows functions dues c.self.invariant.indexed number first.1 first.2 first.3
        (first-due rows functions dues c.self.invariant.indexed (λ run. true) 0 18446744073709551614 (λ run test.
        (omega arith, key-last run.due)) number (omega arith) first.1 first.2 first.3 (λ run same key. refl) first.4))
