use Rattle.std.proofs.Common.{◌≡◌, ap, sym, ◌∙◌, Some, None, rules}
use Rattle.std.specs.Prelude.{option_copied}
use Rattle.fh_dispatch.specs.Invocations.{InvocationsState, run_of}
use Rattle.fh_dispatch.specs.Runs.{function_at}
use Rattle.fh_dispatch.proofs.Indexes.{row_at-run, run_of-missing}
use Rattle.fh_dispatch.proofs.invocations.Invocations.get.Goals as goal

pub returns-in_err-function : goal.returns-in_err-function
returns-in_err-function c =
    let functions = c.self.inside.functions.items in
    let none : function_at functions c.args.invocation ≡ None = search rules in
    let missing = run_of-missing c.self.inside.rows.rows functions c.self.inside.dues c.self.invariant.indexed
    c.args.invocation none in
    ap option_copied c.from_residual.ensures ∙ sym missing
    ∙ ap (λ (s : InvocationsState). run_of c.args.invocation s.running) c.self.view_is

pub returns : goal.returns
returns c =
    let functions = c.self.inside.functions.items in
    let at : function_at functions c.args.invocation ≡ Some c.in_ok-function.function = search rules in
    c.get.ensures
    ∙ row_at-run c.self.inside.rows.rows functions c.self.inside.dues c.self.invariant.indexed
    c.in_ok-function.function c.args.invocation at
    ∙ ap (λ (s : InvocationsState). run_of c.args.invocation s.running) c.self.view_is
