use Rattle.std.proofs.Common.{◌≡◌, ◌∙◌, ap, sym, refl, subst, List, ℕ, drop, map, length-take, arith}
use Rattle.httparse.specs.Spans.{IsRequestAt, name_and_value}
use Rattle.fh_wire.specs.Fields.{framing}
use Rattle.fh_wire.proofs.Answering.{fields_at, fields_fail, body_fails, body_gives, body_behind}
use Rattle.fh_wire.proofs.Sources.{needs_pass}
use Rattle.fh_wire.proofs.request.read_behind.Goals as goal

pub request_needs-requires : goal.request_needs-requires
request_needs-requires g c = omega (arith, c.requires.found.3.section.len_fits, length-take 2097152 c.args.bytes.now)

pub split_at-requires-2 : goal.split_at-requires-2
split_at-requires-2 g c = omega (arith, c.requires.found.3.section.len_fits, length-take 2097152 c.args.bytes.now)

pub returns-in-Err-clause-cause : goal.returns-in-Err-clause-cause
returns-in-Err-clause-cause g c =
    needs_pass _ _ _ _ c.of.result c.args.spans.len c.in-Err.fault c.in-Err.ensures.size
    (record { count = refl; sure = λ was. was })

pub returns-in-Err-clause-answer : goal.returns-in-Err-clause-answer
returns-in-Err-clause-answer g c = λ h found.
    let fields : c.of.result ≡ framing (map name_and_value h.fields) =
    c.of.ensures
    ∙ ap framing (fields_at c.args.bytes.now c.front_of-head.result.now _ c.split_at.result.0.now h.fields
    c.front_of-head.ensures c.split_at.ensures.front found.fields) in
    fields_fail _ h (drop c.args.spans.len c.args.bytes.now) c.of.result c.args.spans.len c.in-Err.fault
    (fields, found.len) c.in-Err.ensures.size

pub returns-in-Ok-read_body-clause-answer : goal.returns-in-Ok-read_body-clause-answer
returns-in-Ok-read_body-clause-answer g c = λ h found.
    let fields : c.of.result ≡ framing (map name_and_value h.fields) =
    c.of.ensures
    ∙ ap framing (fields_at c.args.bytes.now c.front_of-head.result.now _ c.split_at.result.0.now h.fields
    c.front_of-head.ensures c.split_at.ensures.front found.fields) in
    let at_head = subst (λ (t : List ℕ). IsRequestAt t c.args.fields.now c.args.spans h) (sym c.front_of-head.ensures)
    found in
    body_gives _ _ h (drop c.args.spans.len c.args.bytes.now)
    c.of.result c.args.spans.len c.in-Ok.needed c.in-Ok-read_body.body c.request.result
    (fields, found.len) c.in-Ok.ensures.size
    (body_behind _ _ _ c.in-Ok.needed _ _ c.split_at-2.ensures.back c.in-Ok-read_body.ensures.answer)
    (c.request.ensures h at_head)

pub returns-in-Err-read_body-clause-answer : goal.returns-in-Err-read_body-clause-answer
returns-in-Err-read_body-clause-answer g c = λ h found.
    let fields : c.of.result ≡ framing (map name_and_value h.fields) =
    c.of.ensures
    ∙ ap framing (fields_at c.args.bytes.now c.front_of-head.result.now _ c.split_at.result.0.now h.fields
    c.front_of-head.ensures c.split_at.ensures.front found.fields) in
    body_fails _ _ h (drop c.args.spans.len c.args.bytes.now)
    c.of.result c.args.spans.len c.in-Ok.needed c.in-Err-read_body.fault
    (fields, found.len) c.in-Ok.ensures.size
    (body_behind _ _ _ c.in-Ok.needed _ _ c.split_at-2.ensures.back c.in-Err-read_body.ensures.answer)
