-- Changes of the queues, planned and staged.
use Rattle.std.specs.Prelude.{◌≡◌, ℕ, ◌<◌, ◌^◌, List, [], ◌∷◌, Option, Some, None}
use Rattle.fh_event.specs.Judging.{Quiets, Makes}
use Rattle.fh_queues.specs.declared.act.Act.{Act}
use Rattle.fh_queues.specs.declared.done.QueueDone.{QueueDone}
use Rattle.fh_queues.specs.Asks.{Ask}
use Rattle.fh_queues.specs.Part.{QueuePart}
use Rattle.fh_queues.specs.Acts.{by_acts}
use Rattle.fh_queues.specs.Outcome.{Outcome, outcome}

-- what the queues hold: their part of the world, and the acts of a change that is staged, which has its memory
pub record QueueState : Type 0 where
  pub part : QueuePart
  pub ahead : Option (List Act)

-- the acts of a change, from the sweep on, and its answer; a quiet one has none
pub record Change : Type 0 where
  pub acts : List Act
  pub done : QueueDone

pub record Staged : Type 0 where
  pub done : QueueDone

-- what a change comes to
abbrev pub judged : QueuePart → List Act → QueueDone → Outcome
judged part [] answer = Quiets answer
judged part (act ∷ acts) answer = Makes (by_acts part (act ∷ acts)) answer

abbrev pub planned : QueuePart → Change → Outcome
planned part change = judged part change.acts change.done

abbrev pub acts_in : Option (List Act) → List Act
acts_in None = []
acts_in (Some acts) = acts

-- what settling a staged change makes
abbrev pub made : QueueState → Staged → QueuePart × QueueDone
made state staged = (by_acts state.part (acts_in state.ahead), staged.done)

-- the counters are far from their ends
abbrev pub HasNumbers : QueuePart → Type 0
HasNumbers part = (part.next_number < 2 ^ 63) × (part.next_receipt < 2 ^ 63)

-- some ask makes this of the part
pub record IsOutcome (part : QueuePart) (made : QueuePart × QueueDone) : Type 0 where
  pub ask : Ask
  pub moment : ℕ
  pub is : outcome part ask moment ≡ Makes made.0 made.1

-- no change is staged
abbrev pub IsIdle : QueueState → Type 0
IsIdle state = state.ahead ≡ None

-- the change was planned on this part
pub record IsStaged (state : QueueState) (staged : Staged) : Type 0 where
  pub numbers : HasNumbers state.part
  pub planned : IsOutcome state.part (made state staged)
