use Rattle.std.proofs.Common.{◌≡◌, take}
use Rattle.fh_dispatch.specs.DueRuns.{dues_with}
use Rattle.fh_dispatch.specs.Renewals.{leases_of}
use Rattle.fh_dispatch.proofs.renewals.leases_of.Given as goal

abbrev pub invariant-loop-due : goal.invariant-loop-due
invariant-loop-due l = l.leases.items ≡ leases_of (dues_with (take l.due-index l.dues))
