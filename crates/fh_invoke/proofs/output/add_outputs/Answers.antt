use Rattle.std.proofs.Common.{◌∙◌, Ok, ap, sym}
use Rattle.fh_invoke.proofs.Sending.{nothing_more, these_more}
use Rattle.fh_invoke.proofs.output.add_outputs.Goals as goal

pub returns-then-is_empty : goal.returns-then-is_empty
returns-then-is_empty c =
    nothing_more c.args.base64 c.args.known.now c.args.binding.now c.args.given.now c.args.outputs.now.items
    (sym c.is_empty.ensures ∙ c.if-is_empty.true)

pub returns : goal.returns
returns c =
    these_more c.args.base64 c.args.known.now c.args.binding.now c.args.given.now c.as_str.result.now
    c.args.outputs.now.items c.add_each.new.outputs.items (sym c.is_empty.ensures ∙ c.if-is_empty.false)
    (c.in_ok-place.ensures ∙ ap Ok (sym c.as_str.ensures)) c.in_ok-add_each.ensures
