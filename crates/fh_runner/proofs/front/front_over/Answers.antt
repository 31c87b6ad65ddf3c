use Rattle.std.proofs.Common.{Ok, Err}
use Rattle.fh_runner.proofs.Ways.{left_stays, written_stays, serves, unread}
use Rattle.fh_runner.proofs.front.front_over.Goals as goal

pub returns-in-Ok : goal.returns-in-Ok
returns-in-Ok g c =
    serves g.C.Caller.made g.C.Caller.call_faults _ _ _ _ _ _ _ _ _ _ _
    (left_stays g.T.Sink.beside_writing g.T.Source.left g.T.Source.most g.T.Source.read_faults g.T.Source.reads_surely
    g.met.T.Both.writing_keeps c.read_request.new.source c.answer_request.new.sink c.answer_request.ensures.beside)
    (written_stays g.T.Source.beside_reading g.T.Sink.written g.T.Sink.write_faults g.T.Sink.writes_surely
    g.met.T.Both.reading_keeps c.args.conn.now c.read_request.new.source c.in-Ok.ensures.beside)
    (record { answer = c.in-Ok.ensures.answer; cause = c.in-Ok.ensures.cause }) c.answer_request.ensures.answers

pub returns-in-Err : goal.returns-in-Err
returns-in-Err g c =
    unread g.C.Caller.made g.C.Caller.call_faults g.met.C.Caller.stays _ _ _ _ _ _ _ _ _ _
    (left_stays g.T.Sink.beside_writing g.T.Source.left g.T.Source.most g.T.Source.read_faults g.T.Source.reads_surely
    g.met.T.Both.writing_keeps c.read_request.new.source c.write_unread-sent.new.sink c.write_unread-sent.ensures.beside)
    (written_stays g.T.Source.beside_reading g.T.Sink.written g.T.Sink.write_faults g.T.Sink.writes_surely
    g.met.T.Both.reading_keeps c.args.conn.now c.read_request.new.source c.in-Err.ensures.beside)
    (record { answer = c.in-Err.ensures.answer; cause = c.in-Err.ensures.cause }) c.write_unread-sent.ensures.writes
