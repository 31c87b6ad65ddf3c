use Rattle.std.proofs.Common.{◌≡◌, ℕ, ◌+◌, ◌<◌, ◌^◌, Option, ap, sym, ◌∙◌, subst, length, Some, None, rules, arith}
use Rattle.std.specs.Prelude.{option_copied}
use Rattle.fh_dispatch.specs.Invocations.{InvocationsState, run_of, first_due}
use Rattle.fh_dispatch.specs.Runs.{IsFirstKey, IsNextDue}
use Rattle.fh_dispatch.proofs.Dues.{is-next}
use Rattle.fh_dispatch.proofs.Indexes.{none-due, first-due, due-passes, due-tells}
use Rattle.fh_dispatch.proofs.invocations.Invocations.first_due.Goals as goal

pub returns-in_err-invocation : goal.returns-in_err-invocation
returns-in_err-invocation c =
    let functions = c.self.inside.functions.items in
    let rows = c.self.inside.rows.rows in
    let dues = c.self.inside.dues in
    let was = c.self.invariant in
    let none : c.first_key.result ≡ None = search rules in
    let above = subst (λ (found : Option ℕ). IsFirstKey dues c.args.from c.args.most found) none c.first_key.ensures in
    let few : length functions + 1 < 2 ^ 64 = omega (arith, c.self.inside.functions.small) in
    let found = ap option_copied c.from_residual.ensures
    ∙ sym (none-due rows functions dues was.indexed _ c.args.from c.args.most
    (due-passes c.args.from c.args.most c.requires) (omega (arith, was.keys)) above) in
    record {
      first = found ∙ ap (λ (s : InvocationsState). first_due c.args.from c.args.most s.running) c.self.view_is;
      next = subst (λ (s : InvocationsState). IsNextDue c.args.from c.args.most s.next s.running
          (option_copied c.from_residual.result)) c.self.view_is
          (is-next functions rows was.indexed.ordered was.indexed.known c.args.from c.args.most few _ found);
    }

pub returns : goal.returns
returns c =
    let functions = c.self.inside.functions.items in
    let rows = c.self.inside.rows.rows in
    let dues = c.self.inside.dues in
    let was = c.self.invariant in
    let number = c.in_ok-invocation.invocation in
    let some : c.first_key.result ≡ Some number = search rules in
    let least = subst (λ (found : Option ℕ). IsFirstKey dues c.args.from c.args.most found) some c.first_key.ensures in
    let few : length functions + 1 < 2 ^ 64 = omega (arith, c.self.inside.functions.small) in
    let found = c.get.ensures
    ∙ ap (λ (s : InvocationsState). run_of number s.running) (sym c.self.view_is)
    ∙ sym (first-due rows functions dues was.indexed _ c.args.from c.args.most
    (due-passes c.args.from c.args.most c.requires) number (omega (arith, c.requires)) least.1 least.2 least.3
    (λ run same key. due-tells c.args.from c.args.most c.requires run number least.0 same key) least.4) in
    record {
      first = found ∙ ap (λ (s : InvocationsState). first_due c.args.from c.args.most s.running) c.self.view_is;
      next = subst (λ (s : InvocationsState). IsNextDue c.args.from c.args.most s.next s.running
          (option_copied c.get.result)) c.self.view_is
          (is-next functions rows was.indexed.ordered was.indexed.known c.args.from c.args.most few _ found);
    }
