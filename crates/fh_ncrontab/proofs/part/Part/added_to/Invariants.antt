use Rattle.std.proofs.Common.{◌≡◌, ℕ, ◌||◌, ◌&&◌, nat_lt}
use Rattle.fh_ncrontab.specs.Sets.{holds}
use Rattle.fh_ncrontab.specs.Fields.{part_has}
use Rattle.fh_ncrontab.proofs.part.Part.added_to.Given as goal

abbrev pub invariant-loop-n : goal.invariant-loop-n
invariant-loop-n l = (k : ℕ) → holds l.bits k ≡ (holds l.mask k || (part_has l.self k && nat_lt k l.n))
