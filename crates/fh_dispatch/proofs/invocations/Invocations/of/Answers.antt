use Rattle.std.proofs.Common.{ap, sym, ◌∙◌}
use Rattle.fh_dispatch.specs.Invocations.{InvocationsState, runs_of}
use Rattle.fh_dispatch.proofs.InTurn.{rows_at-function}
use Rattle.fh_dispatch.proofs.invocations.Invocations.of.Goals as goal

pub returns : goal.returns
returns c =
    let indexed = c.self.invariant.indexed in
    c.all_at.ensures
    ∙ sym (rows_at-function c.self.inside.functions.items c.self.inside.rows.rows indexed.ordered indexed.known
    c.args.function)
    ∙ ap (λ (s : InvocationsState). runs_of c.args.function s.running) c.self.view_is
