use Rattle.fh_journal.proofs.Making.{made_since}
use Rattle.fh_journal.proofs.mounting.prepare.Goals as goal

pub returns-in_err-make_anew-clause-same_journal : goal.returns-in_err-make_anew-clause-same_journal
returns-in_err-make_anew-clause-same_journal g c payloads =
    made_since g.J.Disk.moment g.J.Disk.left_since c.args.disk.now c.begin.new.disk c.make_anew.new.disk _ _
    (g.J.Disk.may_leave c.args.disk.now) _ c.in_ok-end.end payloads
    c.begin.ensures.quiet.same_bytes c.in_ok-end.ensures.length c.if-end.true c.begin.ensures.quiet.only_old
    c.begin.ensures.quiet.no_new c.make_anew.ensures.any_moment

pub returns-then-end-clause-same_journal : goal.returns-then-end-clause-same_journal
returns-then-end-clause-same_journal g c payloads =
    made_since g.J.Disk.moment g.J.Disk.left_since c.args.disk.now c.begin.new.disk c.make_anew.new.disk _ _
    (g.J.Disk.may_leave c.args.disk.now) _ c.in_ok-end.end payloads
    c.begin.ensures.quiet.same_bytes c.in_ok-end.ensures.length c.if-end.true c.begin.ensures.quiet.only_old
    c.begin.ensures.quiet.no_new c.make_anew.ensures.any_moment
