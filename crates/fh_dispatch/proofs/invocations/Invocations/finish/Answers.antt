use Rattle.std.proofs.Common.{◌≡◌, ap, sym, ◌∙◌, subst, length, List, Some, None, rules, arith}
use Rattle.std.specs.Ordering.{is_ne}
use Rattle.fh_dispatch.specs.declared.running.Running.{Running}
use Rattle.fh_dispatch.specs.Invocations.{InvocationsState, by_number, without_run}
use Rattle.fh_dispatch.specs.Runs.{function_at, in_turn, IsIndexed}
use Rattle.fh_dispatch.proofs.InTurn.{in_turn-filter}
use Rattle.fh_dispatch.proofs.Indexes.{without-none, without-run, rows_at-missing, indexed-without}
use Rattle.fh_dispatch.proofs.invocations.Invocations.finish.Goals as goal

pub returns-in_default-clause-running : goal.returns-in_default-clause-running
returns-in_default-clause-running c =
    let functions = c.self.inside.functions.items in
    let rows = c.self.inside.rows.rows in
    let i = c.args.invocation in
    let missing : function_at functions i ≡ None = search rules in
    let none = rows_at-missing rows functions c.self.inside.dues c.self.invariant.indexed i missing in
    subst (λ (s : InvocationsState). s.running ≡ without_run i s.running) c.self.view_is
    (sym (without-none (by_number i) (in_turn (length functions) rows) none))

pub invariant_of-self : goal.invariant_of-self
invariant_of-self c =
    let functions = c.self.inside.functions.items in
    let rows = c.self.inside.rows.rows in
    let dues = c.self.inside.dues in
    let was = c.self.invariant in
    let i = c.args.invocation in
    let at : function_at functions i ≡ Some c.in-Some.function = search rules in
    let after = c.remove.ensures.rows ∙ without-run rows functions dues was.indexed c.in-Some.function i at in
    record {
      indexed =
          subst (λ (rows : List Running). IsIndexed rows functions c.set_key.new.dues) (sym after)
          (indexed-without rows functions dues was.indexed i c.set_key.new.dues c.set_key.ensures.len
          c.set_key.ensures.key);
      keys = omega (arith, was.keys, c.set_key.ensures.len);
      rows_room = omega (arith, was.rows_room, c.remove.ensures.room);
      functions_room = was.functions_room;
    }

pub returns-clause-running : goal.returns-clause-running
returns-clause-running c =
    let functions = c.self.inside.functions.items in
    let rows = c.self.inside.rows.rows in
    let i = c.args.invocation in
    let at : function_at functions i ≡ Some c.in-Some.function = search rules in
    ap (in_turn (length functions)) (c.remove.ensures.rows
    ∙ without-run rows functions c.self.inside.dues c.self.invariant.indexed c.in-Some.function i at)
    ∙ sym (in_turn-filter (λ run. is_ne (by_number i run)) (length functions) rows)
    ∙ ap (λ (s : InvocationsState). without_run i s.running) c.self.view_is
