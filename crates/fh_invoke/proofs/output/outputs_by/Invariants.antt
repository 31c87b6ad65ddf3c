use Rattle.std.proofs.Common.{◌≡◌, List, [], drop}
use Rattle.fh_invoke.specs.Outputs.{Sent, sent_behind, AreFirstOf}
use Rattle.fh_invoke.specs.Replies.{parts_in}
use Rattle.fh_invoke.proofs.output.outputs_by.Given as goal

-- so much is sent, and the bindings left send the rest behind it
abbrev pub invariant-loop-binding : goal.invariant-loop-binding
invariant-loop-binding l = (sent : List Sent)
    × (sent_behind (parts_in l.answer) l.known [] l.bindings
    ≡ sent_behind (parts_in l.answer) l.known sent (drop l.binding-index l.bindings))
    × AreFirstOf l.base64 sent l.outputs.items
