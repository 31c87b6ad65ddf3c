use Rattle.std.proofs.Common.{List, ℕ, ◌++◌, ap, ◌∙◌, append_assoc}
use Rattle.std.specs.Prelude.{codes}
use Rattle.std.specs.String.{string_bytes}
use Rattle.fh_event.specs.Lines.{spaced}
use Rattle.fh_event.proofs.lines.push_reply.Goals as goal

-- a word of more than ten letters before a number is more than a search joins
pub returns-in_ok-push_ended-in-JobPoisoned : goal.returns-in_ok-push_ended-in-JobPoisoned
returns-in_ok-push_ended-in-JobPoisoned c = rw c.in-JobPoisoned.is c.in_ok-push_ended-in-JobPoisoned.ensures

pub returns-in_ok-push_ended-in-JobReleased : goal.returns-in_ok-push_ended-in-JobReleased
returns-in_ok-push_ended-in-JobReleased c = rw c.in-JobReleased.is c.in_ok-push_ended-in-JobReleased.ensures

pub returns-in_ok-write-in-Blocked : goal.returns-in_ok-write-in-Blocked
returns-in_ok-write-in-Blocked c =
    let values = spaced c.in-Blocked.holder ++ spaced c.in-Blocked.until in
    rw c.in-Blocked.is (
    c.in_ok-write-in-Blocked.ensures.bytes
    ∙ ap (λ (t : List ℕ). t ++ values) c.in_ok-push_str-in-Blocked.ensures.bytes
    ∙ append_assoc (string_bytes c.args.line.now) (codes "quiet blocked") values
    )
