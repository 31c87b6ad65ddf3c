-- The queues' part of the world.
use Rattle.std.specs.Prelude.{ℕ, ◌-◌, ◌==◌, Bool, if◌then◌else◌, List, [], slice_index_or, Option, None}
use Rattle.std.specs.List.{list_any}
use Rattle.std.specs.Str.{bytes_eq}
use Rattle.fh_queues.specs.declared.row.Message.{Message}
use Rattle.fh_queues.specs.declared.done.Ending.{Ending}

-- the queues' names in order of bytes, the messages in order of number, for each number from 1 on how its message
-- went, or none where it stands, and the counters
pub record QueuePart : Type 0 where
  pub queues : List (List ℕ)
  pub rows : List Message
  pub ends : List (Option Ending)
  pub next_number : ℕ
  pub next_receipt : ℕ

abbrev pub no_queues : QueuePart
no_queues = record { queues = []; rows = []; ends = []; next_number = 1; next_receipt = 1 }

abbrev pub has_queue : List (List ℕ) → List ℕ → Bool
has_queue queues queue = list_any (λ name. bytes_eq name queue) queues

-- how the message of this number went
abbrev pub end_of : ℕ → List (Option Ending) → Option Ending
end_of number ends = if number == 0 then None else slice_index_or ends (number - 1) None
