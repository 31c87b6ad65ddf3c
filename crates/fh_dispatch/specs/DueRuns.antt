-- Invocations with what of their holds is due, as the code keeps them.
use Rattle.std.specs.Prelude.{List, map, option_copied}
use Rattle.fh_dispatch.specs.declared.due.DueRun.{DueRun}
use Rattle.fh_dispatch.specs.Renewals.{Due}

abbrev pub due_with : DueRun → Due
due_with due = record {
  run = due.run.now;
  row = option_copied due.row;
  lease = option_copied due.lease;
  due_row = option_copied due.due_row;
  due_lease = option_copied due.due_lease;
}

abbrev pub dues_with : List DueRun → List Due
dues_with dues = map due_with dues
