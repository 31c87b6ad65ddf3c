-- The timers' part of the world. Times are in milliseconds.
use Rattle.std.specs.Prelude.{ℕ, List, [], Option}
use Rattle.std.specs.Ordering.{nat_cmp}
use Rattle.std.specs.declared.cmp.Ordering.{Ordering}
use Rattle.fh_rows.specs.Rows.{row_at}
use Rattle.fh_timers.specs.declared.row.TimerRow.{TimerRow}

-- the rows in order of function number
pub record TimerPart : Type 0 where
  pub timers : List TimerRow

abbrev pub no_timers : TimerPart
no_timers = record { timers = [] }

-- how a row stands to a function number
abbrev pub by_function : ℕ → TimerRow → Ordering
by_function function row = nat_cmp row.function function

-- the row of a function
abbrev pub row_of : ℕ → List TimerRow → Option TimerRow
row_of function timers = row_at (by_function function) timers
