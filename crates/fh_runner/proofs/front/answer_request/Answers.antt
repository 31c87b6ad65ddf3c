use Rattle.fh_runner.proofs.Ways.{turned, stopped, refused}
use Rattle.fh_runner.proofs.front.answer_request.Goals as goal

pub returns-in-Ok-Ask-clause-answers : goal.returns-in-Ok-Ask-clause-answers
returns-in-Ok-Ask-clause-answers g c =
    turned g.C.Caller.made g.C.Caller.call_faults _ _ _ _ _ _ _ _ _ c.in-Ok-Ask.ensures c.in-Ok-Ask.field-0-is c.take_turn.ensures.turns

pub returns-in-Ok-Stop-clause-answers : goal.returns-in-Ok-Stop-clause-answers
returns-in-Ok-Stop-clause-answers g c =
    stopped g.C.Caller.made g.C.Caller.call_faults g.met.C.Caller.stays _ _ _ _ _ _ _ c.in-Ok-Stop.ensures c.in-Ok-Stop.field-0-is
    c.write_stop-sent.ensures.writes

pub returns-in-Err-clause-answers : goal.returns-in-Err-clause-answers
returns-in-Err-clause-answers g c =
    refused g.C.Caller.made g.C.Caller.call_faults g.met.C.Caller.stays _ _ _ _ _ _ _ _ c.in-Err.ensures
    c.write_refusal.ensures.writes c.end_of.ensures
