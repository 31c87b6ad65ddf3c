use Rattle.std.proofs.Common.{◌∙◌, sym, subst}
use Rattle.httparse.specs.Grammar.{IsToken}
use Rattle.fh_wire.proofs.Tokens.{method_token}
use Rattle.fh_wire.proofs.request.request.Goals as goal

pub method-requires : goal.method-requires
method-requires c =
    let found = c.requires in
    method_token _ (subst IsToken (sym (c.of-2.ensures ∙ found.1.method)) found.1.reads.0.method)
