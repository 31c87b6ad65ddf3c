use Rattle.std.proofs.Common.{◌≡◌, ◌≢◌, ℕ, ◌<◌, ◌≤◌, ◌^◌, ◌||◌, true, option_copied, IsNone}
use Rattle.fh_ncrontab.specs.Sets.{holds}
use Rattle.fh_ncrontab.specs.Fields.{first_fault, some_part_has, parts}
use Rattle.fh_ncrontab.specs.Pieces.{pieces_left, length_left}
use Rattle.fh_ncrontab.proofs.field.Field.read.Given as goal

abbrev pub invariant-loop-rest : goal.invariant-loop-rest
invariant-loop-rest g l =
    (first_fault g.row.LO g.row.HI (parts l.text) ≡ first_fault g.row.LO g.row.HI
    (pieces_left 44 (option_copied l.rest)))
    × ((n : ℕ) → some_part_has g.row.LO g.row.HI (parts l.text) n
    ≡ (holds l.mask n || some_part_has g.row.LO g.row.HI (pieces_left 44 (option_copied l.rest)) n))
    × ((n : ℕ) → holds l.mask n ≡ true → (g.row.LO ≤ n) × (n ≤ g.row.HI))
    × (IsNone l.rest → l.mask ≢ 0)
    × (l.mask < 2 ^ 64)

abbrev pub decreases-loop-rest : goal.decreases-loop-rest
decreases-loop-rest g l = length_left (option_copied l.rest)
