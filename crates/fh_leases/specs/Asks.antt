-- What is asked of the leases, with the names themselves.
use Rattle.std.specs.Prelude.{ℕ, List}
use Rattle.fh_leases.specs.declared.ask.HeldLease.{HeldLease}
use Rattle.fh_leases.specs.declared.ask.LeaseAsk.{LeaseAsk}
use Rattle.fh_leases.specs.declared.ask.LeaseAsk.TheVariants as asks

pub data Ask : Type 0 where
  Acquire : List ℕ → ℕ → ℕ → Ask
  Renew : List ℕ → ℕ → Ask
  Release : List ℕ → ℕ → Ask
  RenewAll : List HeldLease → Ask
  Nothing : Ask

abbrev pub ask_of : LeaseAsk → Ask
ask_of (asks.Acquire name holder seconds) = Acquire name.now holder seconds
ask_of (asks.Renew name holder) = Renew name.now holder
ask_of (asks.Release name holder) = Release name.now holder
ask_of (asks.RenewAll leases) = RenewAll leases.now
ask_of asks.Nothing = Nothing
