use Rattle.fh_sample.proofs.Answering.{answered, left_stays, unanswered, written_stays}
use Rattle.fh_sample.proofs.turn.sample_turn.Goals as goal

pub returns-in-Ok : goal.returns-in-Ok
returns-in-Ok g c =
    answered _ _ _ _ _ _ c.in-Ok._request _
    (left_stays g.T.Sink.beside_writing g.T.Source.left g.T.Source.most g.T.Source.read_faults g.T.Source.reads_surely
    g.met.T.Both.writing_keeps c.read_request.new.source c.respond.new.sink c.respond.ensures.beside)
    (written_stays g.T.Source.beside_reading g.T.Sink.written g.T.Sink.write_faults g.T.Sink.writes_surely
    g.met.T.Both.reading_keeps c.args.conn.now c.read_request.new.source c.in-Ok.ensures.beside)
    (record { answer = c.in-Ok.ensures.answer; cause = c.in-Ok.ensures.cause }) c.respond.ensures.writes

pub returns-in-Err : goal.returns-in-Err
returns-in-Err g c =
    unanswered _ _ _ _ _
    (written_stays g.T.Source.beside_reading g.T.Sink.written g.T.Sink.write_faults g.T.Sink.writes_surely
    g.met.T.Both.reading_keeps c.args.conn.now c.read_request.new.source c.in-Err.ensures.beside)
    (record { answer = c.in-Err.ensures.answer; cause = c.in-Err.ensures.cause })
