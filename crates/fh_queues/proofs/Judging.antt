-- What a change with acts and one without come to.
use Rattle.std.proofs.Common.{◌≡◌, false, List, [], ◌∷◌, length, refl, arith}
use Rattle.std.specs.Prelude.{◌==◌}
use Rattle.std.proofs.lemmas.Bool.Decides.{nat_tests}
use Rattle.fh_event.specs.Judging.{Quiets, Makes}
use Rattle.fh_queues.specs.declared.act.Act.{Act}
use Rattle.fh_queues.specs.declared.done.QueueDone.{QueueDone}
use Rattle.fh_queues.specs.Part.{QueuePart}
use Rattle.fh_queues.specs.Acts.{by_acts}
use Rattle.fh_queues.specs.Edits.{judged}

pub judged_quiet : (acts : List Act) (answer : QueueDone) (part : QueuePart) → length acts ≡ 0 → judged part acts answer ≡ Quiets answer
judged_quiet [] answer part none = refl
judged_quiet (act ∷ acts) answer part none = absurd (omega arith)

pub judged_loud : (acts : List Act) (answer : QueueDone) (part : QueuePart) → (length acts == 0) ≡ false → judged part acts answer ≡ Makes (by_acts part acts) answer
judged_loud [] answer part some = absurd (grind (arith, nat_tests))
judged_loud (act ∷ acts) answer part some = refl
