use Rattle.std.proofs.Common.{◌≡◌, map, take}
use Rattle.fh_leases.specs.Outcome.{renewals}
use Rattle.fh_leases.proofs.planning.renewals.Given as goal

abbrev pub invariant-loop-lease : goal.invariant-loop-lease
invariant-loop-lease l =
    l.acts.items ≡ renewals l.m (map (λ lease. lease.now) (take l.lease-index l.leases))
