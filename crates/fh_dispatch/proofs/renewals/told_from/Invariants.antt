use Rattle.std.proofs.Common.{◌≡◌, ◌+◌, ◌≤◌, take}
use Rattle.fh_dispatch.specs.DueRuns.{dues_with}
use Rattle.fh_dispatch.specs.Renewals.{told_from}
use Rattle.fh_dispatch.proofs.Renewing.{receipts_after}
use Rattle.fh_dispatch.proofs.renewals.told_from.Given as goal

abbrev pub invariant-loop-due : goal.invariant-loop-due
invariant-loop-due l = record {
  next : l.next ≡ receipts_after l.receipt (dues_with (take l.due-index l.dues));
  few : l.next ≤ l.receipt + l.due-index;
  parts : l.parts.items ≡ told_from l.receipt l.m (dues_with (take l.due-index l.dues));
}
