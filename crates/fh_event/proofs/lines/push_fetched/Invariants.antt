use Rattle.std.proofs.Common.{◌≡◌, ◌++◌, take}
use Rattle.std.specs.List.{flat_map}
use Rattle.std.specs.String.{string_bytes}
use Rattle.fh_event.specs.Lines.{fetched_item}
use Rattle.fh_event.proofs.lines.push_fetched.Given as goal

abbrev pub invariant-loop-job : goal.invariant-loop-job
invariant-loop-job l = string_bytes l.line ≡ string_bytes l.fn.line ++ flat_map fetched_item (take l.job-index l.jobs)
