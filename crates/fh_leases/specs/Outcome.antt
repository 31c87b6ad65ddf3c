-- What each ask makes of the leases at a moment, and what it answers.
use Rattle.std.specs.Prelude.{ℕ, ◌+◌, ◌*◌, List, [], ◌∷◌, map, Result, Ok, Err}
use Rattle.fh_base.specs.declared.rule.Rule.{Rule}
use Rattle.fh_event.specs.Judging.{Judged, Refuses, Quiets, Makes, unless_refused}
use Rattle.fh_leases.specs.declared.lease.Lease.{Lease}
use Rattle.fh_leases.specs.declared.ask.HeldLease.{HeldLease}
use Rattle.fh_leases.specs.declared.done.LeaseDone.{LeaseDone}
use Rattle.fh_leases.specs.declared.done.LeaseDone.TheVariants as done
use Rattle.fh_leases.specs.declared.act.Act.{Act}
use Rattle.fh_leases.specs.declared.act.Act.TheVariants.{Set, Remove}
use Rattle.fh_leases.specs.Part.{LeasePart}
use Rattle.fh_leases.specs.Asks.{Ask, Acquire, Renew, Release, RenewAll, Nothing}
use Rattle.fh_leases.specs.Rules.{acquire_rule, owned, all_owned}
use Rattle.fh_leases.specs.Acts.{by_acts}

-- so many seconds after a moment
abbrev pub after : ℕ → ℕ → ℕ
after m seconds = m + seconds * 1000

abbrev pub acquired : ℕ → List ℕ → ℕ → ℕ → Lease
acquired m name holder seconds = record { name = name; holder = holder; seconds = seconds; until = after m seconds }

abbrev pub renewed : ℕ → Lease → Lease
renewed m lease = record lease { until = after m lease.seconds }

-- the acts of an ask, and its answer
abbrev pub Acting : Type 0
Acting = Judged (List Act) LeaseDone

abbrev pub acquiring : LeasePart → ℕ → List ℕ → ℕ → ℕ → Acting
acquiring part m name holder seconds =
    unless_refused (acquire_rule part m name holder seconds)
    (Makes (Set (acquired m name holder seconds) ∷ []) (done.Acquired (after m seconds)))

-- until when each of these leases goes on
abbrev pub untils : ℕ → List Lease → List ℕ
untils m leases = map (λ lease. after m lease.seconds) leases

abbrev pub renewals : ℕ → List Lease → List Act
renewals m leases = map (λ lease. Set (renewed m lease)) leases

-- the lease goes on, where the holder is its last one
abbrev pub renewing_owned : ℕ → Result Lease Rule → Acting
renewing_owned m (Err rule) = Refuses rule
renewing_owned m (Ok lease) = Makes (Set (renewed m lease) ∷ []) (done.Renewed (after m lease.seconds))

abbrev pub renewing : LeasePart → ℕ → List ℕ → ℕ → Acting
renewing part m name holder = renewing_owned m (owned part name holder)

-- it is nobody's, where the holder is its last one
abbrev pub releasing_owned : List ℕ → Result Lease Rule → Acting
releasing_owned name (Err rule) = Refuses rule
releasing_owned name (Ok lease) = Makes (Remove name ∷ []) done.Released

abbrev pub releasing : LeasePart → List ℕ → ℕ → Acting
releasing part name holder = releasing_owned name (owned part name holder)

-- all go on, where each holder is the last one of its lease
abbrev pub renewing_each : ℕ → Result (List Lease) Rule → Acting
renewing_each m (Err rule) = Refuses rule
renewing_each m (Ok leases) = Makes (renewals m leases) (done.AllRenewed (untils m leases))

abbrev pub renewing_all : LeasePart → ℕ → List HeldLease → Acting
renewing_all part m held = renewing_each m (all_owned part held)

unfoldable pub acting : LeasePart → Ask → ℕ → Acting
acting part (Acquire name holder seconds) m = acquiring part m name holder seconds
acting part (Renew name holder) m = renewing part m name holder
acting part (Release name holder) m = releasing part name holder
acting part (RenewAll held) m = renewing_all part m held
acting part Nothing m = Makes [] done.Nothing

-- the part after an ask, and what is answered
abbrev pub Outcome : Type 0
Outcome = Judged LeasePart LeaseDone

abbrev pub made_by : LeasePart → Acting → Outcome
made_by part (Refuses rule) = Refuses rule
made_by part (Quiets answer) = Quiets answer
made_by part (Makes acts answer) = Makes (by_acts part acts) answer

unfoldable pub outcome : LeasePart → Ask → ℕ → Outcome
outcome part ask m = made_by part (acting part ask m)
