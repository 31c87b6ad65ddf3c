use Rattle.fh_hub.proofs.hub.Hub.mount.Goals as goal

pub returns-in-Ok-clause-same_history : goal.returns-in-Ok-clause-same_history
returns-in-Ok-clause-same_history g c history stood =
    rw c.over.ensures.disk (c.prepare.ensures.same_history history stood)
