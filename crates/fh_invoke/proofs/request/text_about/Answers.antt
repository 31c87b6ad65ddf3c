use Rattle.std.proofs.Common.{ap, ◌∙◌}
use Rattle.serde_json.specs.Written.{has_float, compact_text}
use Rattle.fh_invoke.proofs.NoFloats.{request_has_none}
use Rattle.fh_invoke.proofs.request.text_about.Goals as goal

pub returns : goal.returns
returns c =
    let none = ap has_float c.in_ok-value.ensures
    ∙ request_has_none c.args.begun.now c.args.name.now c.args.subject.now in
    c.in_ok-to_string.ensures.text none ∙ ap compact_text c.in_ok-value.ensures
