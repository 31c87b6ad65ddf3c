use Rattle.std.proofs.Common.{◌≡◌, map, take}
use Rattle.fh_leases.specs.Outcome.{untils}
use Rattle.fh_leases.proofs.planning.untils.Given as goal

abbrev pub invariant-loop-lease : goal.invariant-loop-lease
invariant-loop-lease l =
    l.moments.items ≡ untils l.m (map (λ lease. lease.now) (take l.lease-index l.leases))
