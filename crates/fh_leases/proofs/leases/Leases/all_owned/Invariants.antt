use Rattle.std.proofs.Common.{◌≡◌, Ok, map, take}
use Rattle.fh_leases.specs.Rules.{all_owned}
use Rattle.fh_leases.proofs.leases.Leases.all_owned.Given as goal

abbrev pub invariant-loop-one : goal.invariant-loop-one
invariant-loop-one l =
    all_owned l.self.part (take l.one-index l.held) ≡ Ok (map (λ lease. lease.now) l.found.items)
