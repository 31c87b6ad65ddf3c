use Rattle.fh_hub.proofs.hub.Hub.record.Given as goal

abbrev pub ghost-stage : goal.ghost-stage
ghost-stage g a = g.e

abbrev pub ghost-unstage : goal.ghost-unstage
ghost-unstage g a = g.e

abbrev pub ghost-settle : goal.ghost-settle
ghost-settle g a = g.e
