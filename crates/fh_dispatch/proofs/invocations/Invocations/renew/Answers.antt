use Rattle.std.proofs.Common.{◌≡◌, ℕ, ap, sym, ◌∙◌, subst, length, List, Some, None, rules, arith}
use Rattle.fh_dispatch.specs.declared.running.Running.{Running}
use Rattle.fh_dispatch.specs.Invocations.{InvocationsState, by_number, run_of, with_renewal, renewed}
use Rattle.fh_dispatch.specs.Runs.{in_turn, IsIndexed, HasKey}
use Rattle.fh_dispatch.proofs.Indexes.{change-none, change-run, rows_at-gone, indexed-renewed, running-renewed, function_at-found}
use Rattle.fh_dispatch.proofs.invocations.Invocations.renew.Goals as goal

pub returns-in_default-clause-running : goal.returns-in_default-clause-running
returns-in_default-clause-running c =
    let i = c.args.invocation in
    let functions = c.self.inside.functions.items in
    let rows = c.self.inside.rows.rows in
    let none : run_of i c.args.self.now.running ≡ None = search rules in
    let missing : run_of i (in_turn (length functions) rows) ≡ None = ap (λ
    (s : InvocationsState). run_of i s.running) c.self.view_is ∙ none in
    subst (λ (s : InvocationsState). s.running ≡ with_renewal i c.args.receipt c.args.due s.running) c.self.view_is
    (sym (change-none (by_number i) (renewed c.args.receipt c.args.due) (in_turn (length functions) rows)
    (rows_at-gone rows functions c.self.inside.dues c.self.invariant.indexed i missing)))

pub invariant_of-self : goal.invariant_of-self
invariant_of-self c =
    let i = c.args.invocation in
    let functions = c.self.inside.functions.items in
    let rows = c.self.inside.rows.rows in
    let dues = c.self.inside.dues in
    let was = c.self.invariant in
    let run = c.in-Some.run'.now in
    let told : run_of i c.args.self.now.running ≡ Some run = search rules in
    let here : run_of i (in_turn (length functions) rows) ≡ Some run = ap (λ
    (s : InvocationsState). run_of i s.running) c.self.view_is ∙ told in
    let at = function_at-found rows functions dues was.indexed i run here in
    let after = c.change.ensures.rows ∙ change-run rows functions dues was.indexed run.function i at
    (renewed c.args.receipt c.args.due) in
    let key = subst (λ (k : ℕ). HasKey i k dues c.set_key.new.dues) c.key_of.ensures c.set_key.ensures.key in
    record {
      indexed =
          subst (λ (rows : List Running). IsIndexed rows functions c.set_key.new.dues) (sym after)
          (indexed-renewed rows functions dues was.indexed i c.args.receipt c.args.due run here c.set_key.new.dues
          c.set_key.ensures.len key);
      keys = omega (arith, was.keys, c.set_key.ensures.len);
      rows_room = omega (arith, was.rows_room, c.change.ensures.room);
      functions_room = was.functions_room;
    }

pub returns-clause-running : goal.returns-clause-running
returns-clause-running c =
    let i = c.args.invocation in
    let functions = c.self.inside.functions.items in
    let rows = c.self.inside.rows.rows in
    let dues = c.self.inside.dues in
    let was = c.self.invariant in
    let run = c.in-Some.run'.now in
    let told : run_of i c.args.self.now.running ≡ Some run = search rules in
    let here : run_of i (in_turn (length functions) rows) ≡ Some run = ap (λ
    (s : InvocationsState). run_of i s.running) c.self.view_is ∙ told in
    let at = function_at-found rows functions dues was.indexed i run here in
    ap (in_turn (length functions)) (c.change.ensures.rows
    ∙ change-run rows functions dues was.indexed run.function i at (renewed c.args.receipt c.args.due))
    ∙ sym (running-renewed rows functions dues was.indexed i c.args.receipt c.args.due)
    ∙ ap (λ (s : InvocationsState). with_renewal i c.args.receipt c.args.due s.running) c.self.view_is
