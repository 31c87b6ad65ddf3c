-- Changes of all stores, planned and staged.
use Rattle.std.specs.Prelude.{◌≡◌, ⊤, ℕ, Result, Ok, Err}
use Rattle.fh_event.specs.declared.command.Command.{Command}
use Rattle.fh_event.specs.declared.faults.PlanFault.{PlanFault}
use Rattle.fh_event.specs.declared.faults.PlanFault.TheVariants.{Rule as OfRule, NoMemory}
use Rattle.fh_event.specs.Judging.{Judged, Refuses, Makes, first_rule}
use Rattle.fh_queues.specs.Acts as queue_acts
use Rattle.fh_queues.specs.Asks as queue_asks
use Rattle.fh_queues.specs.Edits as queues
use Rattle.fh_blobs.specs.Acts as blob_acts
use Rattle.fh_blobs.specs.Asks as blob_asks
use Rattle.fh_blobs.specs.Edits as blobs
use Rattle.fh_leases.specs.Acts as lease_acts
use Rattle.fh_leases.specs.Asks as lease_asks
use Rattle.fh_leases.specs.Edits as leases
use Rattle.fh_timers.specs.Acts as timer_acts
use Rattle.fh_timers.specs.Edits as timers
use Rattle.fh_dispatch.specs.Acts as work_acts
use Rattle.fh_dispatch.specs.Asks as work_asks
use Rattle.fh_dispatch.specs.Edits as work
use Rattle.fh_hub.specs.declared.stores.StoreAsks.{StoreAsks}
use Rattle.fh_hub.specs.declared.stores.StoreChanges.{StoreChanges}
use Rattle.fh_hub.specs.declared.stores.StagedStores.{StagedStores}
use Rattle.fh_hub.specs.declared.stores.StoresDone.{StoresDone}
use Rattle.fh_hub.specs.Stores.{Parts, Asks, Done, joined, outcomes}
use Rattle.fh_hub.specs.Asked.{AsksAll, asked}

-- what the stores hold
pub record StoresState : Type 0 where
  pub queues : queues.QueueState
  pub blobs : blobs.BlobState
  pub leases : leases.LeaseState
  pub timers : timers.TimerState
  pub work : work.WorkState

abbrev pub parts_of : StoresState → Parts
parts_of s = record {
  queues = s.queues.part;
  blobs = s.blobs.part;
  leases = s.leases.part;
  timers = s.timers.part;
  work = s.work.part;
}

abbrev pub asks_of : StoreAsks → Asks
asks_of asks = record {
  queues = queue_asks.ask_of asks.queues;
  blobs = blob_asks.ask_of asks.blobs;
  leases = lease_asks.ask_of asks.leases;
  timers = asks.timers;
  work = work_asks.ask_of asks.work;
}

abbrev pub done_of : StoresDone → Done
done_of done = record {
  queues = done.queues;
  blobs = done.blobs;
  leases = done.leases;
  timers = done.timers;
  work = done.work;
}

-- what changes come to, and what they make and answer where they aren't quiet
abbrev pub planned : Parts → StoreChanges → Judged Parts Done
planned parts changes =
    joined (work.planned parts.work changes.work) (timers.planned parts.timers changes.timers)
    (queues.planned parts.queues changes.queues) (blobs.planned parts.blobs changes.blobs)
    (leases.planned parts.leases changes.leases)

abbrev pub changed : Parts → StoreChanges → Parts
changed parts changes = record {
  queues = queue_acts.by_acts parts.queues changes.queues.acts;
  blobs = blob_acts.by_acts parts.blobs changes.blobs.acts;
  leases = lease_acts.by_acts parts.leases changes.leases.acts;
  timers = timer_acts.acted parts.timers changes.timers.act;
  work = work_acts.by_acts parts.work changes.work.acts;
}

abbrev pub answered : StoreChanges → Done
answered changes = record {
  queues = changes.queues.done;
  blobs = changes.blobs.done;
  leases = changes.leases.done;
  timers = changes.timers.done;
  work = changes.work.done;
}

-- the changes come to this, or the fault is its own
abbrev pub IsPlanOf : Parts → Judged Parts Done → Result StoreChanges PlanFault → Type 0
IsPlanOf parts outcome (Ok changes) = outcome ≡ planned parts changes
IsPlanOf parts outcome (Err (OfRule rule)) = outcome ≡ Refuses rule
IsPlanOf parts outcome (Err NoMemory) = ⊤

-- two plans as one: want of memory before a rule, and the first of two rules
abbrev pub both_planned : {A B : Type 0} → Result A PlanFault → Result B PlanFault → Result (A × B) PlanFault
both_planned (Ok a) (Ok b) = Ok (a, b)
both_planned (Ok a) (Err fault) = Err fault
both_planned (Err fault) (Ok b) = Err fault
both_planned (Err NoMemory) (Err fault) = Err NoMemory
both_planned (Err (OfRule rule)) (Err NoMemory) = Err NoMemory
both_planned (Err (OfRule rule)) (Err (OfRule other)) = Err (OfRule (first_rule rule other))

-- what settling staged changes makes and answers
abbrev pub made : StoresState → StagedStores → Parts
made s staged = record {
  queues = (queues.made s.queues staged.queues).0;
  blobs = (blobs.made s.blobs staged.blobs).0;
  leases = (leases.made s.leases staged.leases).0;
  timers = (timers.made s.timers staged.timers).0;
  work = (work.made s.work staged.work).0;
}

abbrev pub made_done : StoresState → StagedStores → Done
made_done s staged = record {
  queues = (queues.made s.queues staged.queues).1;
  blobs = (blobs.made s.blobs staged.blobs).1;
  leases = (leases.made s.leases staged.leases).1;
  timers = (timers.made s.timers staged.timers).1;
  work = (work.made s.work staged.work).1;
}

-- some command asks for this of the parts
pub record IsOutcome (parts : Parts) (after : Parts) (done : Done) : Type 0 where
  pub command : Command
  pub asks : Asks
  pub moment : ℕ
  pub asked : asked parts command moment ≡ AsksAll asks
  pub is : outcomes parts asks moment ≡ Makes after done

pub record HasNumbers (parts : Parts) : Type 0 where
  pub queues : queues.HasNumbers parts.queues
  pub blobs : blobs.HasNumbers parts.blobs
  pub work : work.HasNumbers parts.work

pub record IsIdle (s : StoresState) : Type 0 where
  pub queues : queues.IsIdle s.queues
  pub blobs : blobs.IsIdle s.blobs
  pub leases : leases.IsIdle s.leases
  pub timers : timers.IsIdle s.timers
  pub work : work.IsIdle s.work

pub record IsStaged (s : StoresState) (staged : StagedStores) : Type 0 where
  pub queues : queues.IsStaged s.queues staged.queues
  pub blobs : blobs.IsStaged s.blobs staged.blobs
  pub leases : leases.IsStaged s.leases staged.leases
  pub timers : timers.IsStaged s.timers staged.timers
  pub work : work.IsStaged s.work staged.work
