use Rattle.std.proofs.Common.{◌≡◌, ◌+◌, ◌≤◌, take}
use Rattle.fh_dispatch.specs.DueRuns.{dues_with}
use Rattle.fh_dispatch.specs.Renewals.{renewing_acts}
use Rattle.fh_dispatch.proofs.Renewing.{receipts_after}
use Rattle.fh_dispatch.proofs.renewals.renewing_acts.Given as goal

abbrev pub invariant-loop-due : goal.invariant-loop-due
invariant-loop-due l = record {
  next : l.next ≡ receipts_after l.receipt (dues_with (take l.due-index l.dues));
  few : l.next ≤ l.receipt + l.due-index;
  acts : l.acts.items ≡ renewing_acts l.receipt l.m (dues_with (take l.due-index l.dues));
}
