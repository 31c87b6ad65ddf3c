use Rattle.std.proofs.Common.{◌∙◌, ap, take}
use Rattle.std.proofs.lemmas.List.{take_min}
use Rattle.fh_wire.proofs.front.front_of.Goals as goal

pub returns : goal.returns
returns c =
    c.split_at.ensures.front ∙ ap (λ n. take n c.args.bytes.now) c.min.ensures ∙ take_min 2097152 c.args.bytes.now
