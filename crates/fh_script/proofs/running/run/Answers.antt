use Rattle.std.proofs.Common.{[], rules, subst}
use Rattle.fh_hub.specs.History.{entry_of}
use Rattle.fh_script.specs.Outside.{crash_of, outside_of}
use Rattle.fh_script.specs.Script.{HasPlainReason, SurvivesCrash}
use Rattle.fh_script.proofs.Crashes.{survives}
use Rattle.fh_script.proofs.Turning.{begins}
use Rattle.fh_script.proofs.running.run.Goals as goal

pub answer_lines-end-requires : goal.answer_lines-end-requires
answer_lines-end-requires g c =
    record { holds = c.over-answerer.ensures.holds (c.in-Ok.ensures.stands (entry_of [])) }

pub returns-clause-reason : goal.returns-clause-reason
returns-clause-reason g c =
    let first = c.args.journal.now in
    let over = c.over-answerer.ensures in
    let was = outside_of g.S.Source g.O.Sink g.J.Disk c.args.source.now c.args.sink.now first in
    subst
    (λ (d : g.row.J.Denot). HasPlainReason was
    (outside_of g.S.Source g.O.Sink g.J.Disk c.answer_lines-end.new.source c.answer_lines-end.new.sink d)
    (crash_of g.J.Disk first d) c.answer_lines-end.result)
    (search rules)
    (c.answer_lines-end.ensures.ends was first
    (begins g.S.Source g.O.Sink c.args.source.now c.args.sink.now first c.over-answerer.result over.now
    (over.holds (c.in-Ok.ensures.stands (entry_of []))) (rw over.state c.in-Ok.ensures.faithful)
    (rw over.state c.in-Ok.ensures.stood)
    (rw over.disk c.prepare.ensures.told)
    (rw (over.state, over.disk) (c.prepare.ensures.same_history c.in-Ok.state.history c.in-Ok.ensures.stood))))

pub returns-clause-durable : goal.returns-clause-durable
returns-clause-durable g c = λ certain.
    subst (λ (d : g.row.J.Denot). SurvivesCrash (g.J.Disk.told d) (g.J.Disk.may_leave d)) (search rules)
    (survives (c.answer_lines-end.ensures.holds certain) c.files_have_one_reading.ensures.journal)
