-- What holds of the queues at all times.
use Rattle.std.specs.Prelude.{◌≡◌, ℕ, ◌+◌, ◌<◌, ◌≤◌, nat_le, nat_lt, Bool, true, not, ◌&&◌, length, is_some}
use Rattle.std.specs.List.{list_all}
use Rattle.fh_queues.specs.declared.row.Message.{Message}
use Rattle.fh_queues.specs.Rows.{row_of}
use Rattle.fh_queues.specs.Part.{QueuePart, end_of}
use Rattle.fh_queues.specs.Order.{are_in_order, are_rising}

-- a row's count is at most its receipt, which is below the next one
abbrev pub is_counted : ℕ → Message → Bool
is_counted next_receipt row = nat_le row.count row.receipt && nat_lt row.receipt next_receipt

-- queues stand in order of bytes; numbers and receipts are given from 1 on; rows stand in order of number, each with
-- a number and a receipt that were given; and a message whose number was given has a row or has ended, and not both
pub record IsWhole (part : QueuePart) : Type 0 where
  pub ordered : are_in_order part.queues ≡ true
  pub numbers : part.next_number ≡ length part.ends + 1
  pub receipts : 1 ≤ part.next_receipt
  pub rising : are_rising 0 part.rows ≡ true
  pub below : list_all (λ row. nat_lt row.number part.next_number) part.rows ≡ true
  pub counted : list_all (is_counted part.next_receipt) part.rows ≡ true
  pub placed :
      (n : ℕ) → 1 ≤ n → n < part.next_number → is_some (row_of n part.rows) ≡ not (is_some (end_of n part.ends))
