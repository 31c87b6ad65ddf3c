use Rattle.std.proofs.Common.{◌≡◌, ◌++◌, drop}
use Rattle.serde_json.specs.View.{items_view}
use Rattle.fh_invoke.specs.Replies.{texts_among}
use Rattle.fh_invoke.proofs.answer.texts_among.Given as goal

abbrev pub invariant-loop-value : goal.invariant-loop-value
invariant-loop-value l = texts_among (items_view l.values)
    ≡ l.texts.items ++ texts_among (items_view (drop l.value-index l.values))
