use Rattle.std.proofs.Common.{◌∙◌, inr}
use Rattle.fh_wire.proofs.Sources.{begun_whole}
use Rattle.fh_wire.proofs.request.read_body.Goals as goal

pub returns-in-Ok-clause-answer : goal.returns-in-Ok-clause-answer
returns-in-Ok-clause-answer g c =
    inr (inr (begun_whole _ c.args.begun.now c.in-Ok.body c.args.needed (c.in-Ok.ensures ∙ c.split_at.ensures.front)
    c.if-needed-begun.true))
