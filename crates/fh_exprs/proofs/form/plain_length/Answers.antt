use Rattle.std.proofs.Common.{ap, ◌∙◌, length}
use Rattle.std.specs.Prelude.{unwrap_or}
use Rattle.std.specs.List.{position}
use Rattle.fh_exprs.specs.Form.{is_brace}
use Rattle.fh_exprs.proofs.Elements.{unwrap_or-position}
use Rattle.fh_exprs.proofs.form.plain_length.Goals as goal

pub returns : goal.returns
returns c =
    c.unwrap_or.ensures
    ∙ ap (λ o. unwrap_or o (length c.args.text.now))
    (c.first_brace.ensures ∙ ap (position is_brace) c.as_bytes.ensures.value)
    ∙ unwrap_or-position is_brace c.args.text.now
