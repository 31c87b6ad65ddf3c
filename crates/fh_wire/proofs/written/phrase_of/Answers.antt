use Rattle.std.proofs.Common.{refl}
use Rattle.fh_wire.proofs.Phrases.{phrase_is}
use Rattle.fh_wire.proofs.written.phrase_of.Goals as goal

pub returns-in-Ok : goal.returns-in-Ok
returns-in-Ok c =
    phrase_is c.args.status c.in-Ok.status c.canonical_reason.result _ _ c.in-Ok.ensures.0 c.in-Ok.ensures.1
    c.canonical_reason.ensures.value c.unwrap_or.ensures refl
