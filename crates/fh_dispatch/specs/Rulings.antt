-- What the work decides about a job: it refuses, nothing changes, or it has an effect on all stores.
use Rattle.std.specs.Prelude.{ℕ, List, Option, Some, None}
use Rattle.fh_base.specs.declared.rule.Rule.{Rule}
use Rattle.fh_event.specs.declared.reply.Reply.{Reply}
use Rattle.fh_event.specs.Judging.{Judged, Refuses, Quiets, Makes}
use Rattle.fh_queues.specs.Asks as queues
use Rattle.fh_queues.specs.Outcome as queue_outcome
use Rattle.fh_blobs.specs.Asks as blobs
use Rattle.fh_blobs.specs.Outcome as blob_outcome
use Rattle.fh_leases.specs.Asks as leases
use Rattle.fh_leases.specs.Outcome as lease_outcome
use Rattle.fh_dispatch.specs.declared.act.Act.{Act}
use Rattle.fh_dispatch.specs.declared.done.WorkDone.{WorkDone}
use Rattle.fh_dispatch.specs.declared.done.WorkDone.TheVariants.{Told}
use Rattle.fh_dispatch.specs.Part.{Others}

-- what the other stores are asked, what the work itself does, and what is told
pub record Effect : Type 0 where
  pub queues : Option queues.Ask
  pub blobs : Option blobs.Ask
  pub leases : Option leases.Ask
  pub acts : List Act
  pub told : Reply

pub data Ruling : Type 0 where
  Refused : Rule → Ruling
  Unchanged : Reply → Ruling
  Changed : Effect → Ruling

abbrev pub Acting : Type 0
Acting = Judged (List Act) WorkDone

-- what another store refuses is refused
abbrev pub unless_refused_by : {Part Done : Type 0} → Judged Part Done → Acting → Acting
unless_refused_by (Refuses rule) acting = Refuses rule
unless_refused_by (Quiets done) acting = acting
unless_refused_by (Makes part done) acting = acting

abbrev pub queues_accept : Others → ℕ → Option queues.Ask → Acting → Acting
queues_accept others m None acting = acting
queues_accept others m (Some ask) acting = unless_refused_by (queue_outcome.outcome others.queues ask m) acting

abbrev pub blobs_accept : Others → ℕ → Option blobs.Ask → Acting → Acting
blobs_accept others m None acting = acting
blobs_accept others m (Some ask) acting = unless_refused_by (blob_outcome.outcome others.blobs ask m) acting

abbrev pub leases_accept : Others → ℕ → Option leases.Ask → Acting → Acting
leases_accept others m None acting = acting
leases_accept others m (Some ask) acting = unless_refused_by (lease_outcome.outcome others.leases ask m) acting

-- an effect is made where all stores accept it
abbrev pub effecting : Others → ℕ → Effect → Acting
effecting others m effect =
    queues_accept others m effect.queues
    (blobs_accept others m effect.blobs
    (leases_accept others m effect.leases (Makes effect.acts (Told effect.told))))

abbrev pub ruled : Others → ℕ → Ruling → Acting
ruled others m (Refused rule) = Refuses rule
ruled others m (Unchanged reply) = Quiets (Told reply)
ruled others m (Changed effect) = effecting others m effect

-- what a ruling asks of each store
abbrev pub queues_in : Ruling → Option queues.Ask
queues_in (Changed effect) = effect.queues
queues_in ruling = None

abbrev pub blobs_in : Ruling → Option blobs.Ask
blobs_in (Changed effect) = effect.blobs
blobs_in ruling = None

abbrev pub leases_in : Ruling → Option leases.Ask
leases_in (Changed effect) = effect.leases
leases_in ruling = None
