-- What a link in memory holds.
use Rattle.std.specs.Prelude.{ℕ, ◌==◌, ◌||◌, Bool, true, false, List, length, map, take, Option, Some, Result, Ok, Err}
use Rattle.fh_base.specs.FaultPlan.{called, fails_next}
use Rattle.fh_base.specs.declared.fault_plan.FaultPlan.{FaultPlan}
use Rattle.fh_workers.specs.declared.link.LinkFault.{LinkFault}
use Rattle.fh_workers.specs.declared.link.LinkFault.TheVariants.{Failed, NoMemory}
use Rattle.fh_workers.specs.declared.memory_link.MemoryLink.{MemoryLink}

-- the replies that it will still give, each cut at the most that a link gives
abbrev pub to_come_of : MemoryLink → List (Option (List ℕ))
to_come_of link = map (λ reply. Some (take 2097153 reply)) link.replies.items

-- the next ask fails: by the plan, or because no reply is left
abbrev pub fails_to_ask : MemoryLink → Bool
fails_to_ask link = fails_next link.plan || (length link.replies.items == 0)

-- the plan after an ask: each is counted, and those that failed are faults
abbrev pub asked_once : {T : Type 0} → Result T LinkFault → FaultPlan → FaultPlan
asked_once (Ok reply) = called false
asked_once (Err Failed) = called true
asked_once (Err NoMemory) = called false
