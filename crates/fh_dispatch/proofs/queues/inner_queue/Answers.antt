use Rattle.std.proofs.Common.{◌≡◌, true, false, ap, sym, ◌∙◌}
use Rattle.fh_base.specs.Names.{is_queue_name}
use Rattle.fh_dispatch.specs.Queues.{inner_queue}
use Rattle.fh_dispatch.proofs.InnerNames.{inner_queue-name}
use Rattle.fh_dispatch.proofs.queues.inner_queue.Goals as goal

pub unreachable-requires : goal.unreachable-requires
unreachable-requires c =
    let text : c.as_str.result.now ≡ inner_queue c.args.number = c.as_str.ensures.value ∙ c.in_ok-text.ensures.ok in
    let name = ap is_queue_name text ∙ inner_queue-name c.args.number c.ranges.number.fits in
    let clash : false ≡ true = sym c.in-None.ensures ∙ name in
    cc
