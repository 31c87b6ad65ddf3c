-- What each change makes of the rows.
use Rattle.std.specs.Prelude.{ℕ}
use Rattle.fh_rows.specs.Rows.{with_row_at, without_row_at}
use Rattle.fh_timers.specs.declared.row.TimerRow.{TimerRow}
use Rattle.fh_timers.specs.declared.act.Act.{Act}
use Rattle.fh_timers.specs.declared.act.Act.TheVariants.{Keep, Set, Remove}
use Rattle.fh_timers.specs.Part.{TimerPart, by_function}

-- the row of its function is this one
abbrev pub with_timer : TimerRow → TimerPart → TimerPart
with_timer row part = record { timers = with_row_at (by_function row.function) row part.timers }

-- the function has no row
abbrev pub without_timer : ℕ → TimerPart → TimerPart
without_timer function part = record { timers = without_row_at (by_function function) part.timers }

unfoldable pub acted : TimerPart → Act → TimerPart
acted part Keep = part
acted part (Set row) = with_timer row part
acted part (Remove function) = without_timer function part
