use Rattle.std.proofs.Common.{◌≡◌, take}
use Rattle.fh_dispatch.specs.DueRuns.{dues_with}
use Rattle.fh_dispatch.specs.Renewals.{messages_of}
use Rattle.fh_dispatch.proofs.renewals.messages_of.Given as goal

abbrev pub invariant-loop-due : goal.invariant-loop-due
invariant-loop-due l = l.messages.items ≡ messages_of (dues_with (take l.due-index l.dues))
