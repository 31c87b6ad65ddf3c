use Rattle.fh_wire.proofs.Answering.{whole_request_at}
use Rattle.fh_wire.proofs.Sources.{cause-join}
use Rattle.fh_wire.proofs.request.read_request.Goals as goal

pub returns-in-Ok-clause-answer : goal.returns-in-Ok-clause-answer
returns-in-Ok-clause-answer g c =
    let found = c.in-Ok.ensures.found in
    whole_request_at _ _ _ c.read_head.new.bytes.items c.as_slice.result.now c.read_head.new.fields c.in-Ok.spans
    found.0 c.read_behind.result
    c.as_slice.ensures.value c.in-Ok.ensures.taken found.1 found.2 found.3 c.in-Ok.ensures.few
    (c.read_behind.ensures.answer found.0)

pub returns-in-Ok-clause-cause : goal.returns-in-Ok-clause-cause
returns-in-Ok-clause-cause g c =
    cause-join _ _ _ _ _ _ c.read_behind.result c.in-Ok.ensures.cause c.read_behind.ensures.cause
