-- What the events of a trace give out.
use Rattle.std.specs.Prelude.{◌≡◌, ℕ, ◌<◌, ◌≤◌, ◌↔◌, List, count_by}
use Rattle.std.specs.List.{sum_by}
use Rattle.fh_hub.specs.Replay.{Event}
use Rattle.fh_hub.specs.Signs.{gives, bears}

-- how often the trace gives out this receipt
abbrev pub receipts : ℕ → List Event → ℕ
receipts k events = sum_by (λ e. gives k e) events

-- how many messages of the trace were born with this number
abbrev pub births : ℕ → List Event → ℕ
births n events = count_by (λ e. bears n e.reply) events

-- given once exactly from 1 on and below the next one
abbrev pub IsGivenInTurn : ℕ → ℕ → ℕ → Type 0
IsGivenInTurn k next times = (times ≡ 1) ↔ ((1 ≤ k) × (k < next))
