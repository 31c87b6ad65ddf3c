use Rattle.fh_timers.proofs.Lawful.{removes_rows}
use Rattle.fh_timers.proofs.laws.removed_rows_are_gone.Goals as goal

pub returns : goal.returns
returns c = removes_rows
