use Rattle.fh_hub.proofs.state.State.make.Given as goal

abbrev pub ghost-stage : goal.ghost-stage
ghost-stage g a = g.e

abbrev pub ghost-settle : goal.ghost-settle
ghost-settle g a = g.e
