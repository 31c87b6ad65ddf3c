use Rattle.std.proofs.Common.{subst, sym}
use Rattle.fh_queues.specs.Acts.{by_acts}
use Rattle.fh_queues.specs.Edits as queues
use Rattle.fh_hub.specs.StoreEdits.{StoresState, parts_of, changed, answered}
use Rattle.fh_hub.proofs.Outcomes.{is_outcome_of_queues}
use Rattle.fh_hub.proofs.stores.Stores.stage.Goals as goal

pub stage-requires-2-clause-planned : goal.stage-requires-2-clause-planned
stage-requires-2-clause-planned c =
    let changes = c.args.changes in
    subst (λ (s : StoresState). queues.IsOutcome s.queues.part
    (by_acts s.queues.part changes.queues.acts, changes.queues.done)) (sym c.self.view_is)
    (is_outcome_of_queues (parts_of c.args.self.now) (changed (parts_of c.args.self.now) changes) (answered changes)
    c.requires.planned)
