use Rattle.std.proofs.Common.{refl, sym, ◌∙◌}
use Rattle.fh_base.specs.Names.{is_queue_name}
use Rattle.fh_base.proofs.Padding.{is_padded}
use Rattle.fh_base.proofs.NameLengths.{queue_name_length}
use Rattle.fh_base.proofs.queue_name.QueueName.of_bytes.Goals as goal

pub invariant_of-result : goal.invariant_of-result
invariant_of-result c =
    let name = sym c.is_queue_name.ensures ∙ c.if-not-is_queue_name.false in
    is_padded 63 is_queue_name c.args.text.now _ _ _ refl c.copy_from_slice.ensures.after refl
    (queue_name_length _ name) name
