use Rattle.std.proofs.Common.{◌≡◌, ◌++◌, List, map, drop}
use Rattle.serde_json.specs.View.{view}
use Rattle.fh_invoke.specs.Outputs.{Sent, sent_to, AreFirstOf}
use Rattle.fh_invoke.proofs.output.add_each.Given as goal

-- so much is sent, and the rest is to be sent behind it
abbrev pub invariant-loop-value : goal.invariant-loop-value
invariant-loop-value l = (before : List Sent) → AreFirstOf l.base64 before l.fn.outputs.items
    → (sent : List Sent)
    × (before ++ sent_to l.binding l.place (map view l.given)
    ≡ sent ++ sent_to l.binding l.place (map view (drop l.value-index l.given)))
    × AreFirstOf l.base64 sent l.outputs.items
