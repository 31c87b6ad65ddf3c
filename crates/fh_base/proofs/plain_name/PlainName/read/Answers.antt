use Rattle.std.proofs.Common.{refl, sym, ◌∙◌}
use Rattle.fh_base.specs.PlainNames.{is_plain_name}
use Rattle.fh_base.proofs.Padding.{is_padded}
use Rattle.fh_base.proofs.NameLengths.{plain_name_length}
use Rattle.fh_base.proofs.plain_name.PlainName.read.Goals as goal

pub invariant_of-result : goal.invariant_of-result
invariant_of-result c =
    let name = sym c.is_plain_name.ensures ∙ c.if-not-is_plain_name.false in
    is_padded 127 is_plain_name c.as_bytes-text.result.now _ _ _ refl c.copy_from_slice.ensures.after refl
    (plain_name_length _ name) name
