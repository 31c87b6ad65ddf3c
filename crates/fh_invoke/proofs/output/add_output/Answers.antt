use Rattle.std.proofs.Common.{arith}
use Rattle.fh_invoke.specs.Outputs.{most}
use Rattle.fh_invoke.proofs.Sending.{one_more, no_more}
use Rattle.fh_invoke.proofs.output.add_output.Goals as goal

pub returns-in_ok-push : goal.returns-in_ok-push
returns-in_ok-push c = λ before are. rw c.in_ok-push.ensures.items
    (one_more c.args.base64 most _ c.in_ok-output.output before c.args.outputs.now.items are (omega arith)
    c.in_ok-output.ensures)

pub returns-else-len-lt-MOST : goal.returns-else-len-lt-MOST
returns-else-len-lt-MOST c = λ before are.
    no_more c.args.base64 most _ before c.args.outputs.now.items are (omega arith)
