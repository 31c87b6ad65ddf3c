use Rattle.std.proofs.Common.{◌∙◌, sym}
use Rattle.std.proofs.KnownBytes.{Consumes-nil}
use Rattle.fh_script.specs.Lines.{FindsLine}
use Rattle.fh_script.proofs.Turning.{cut_off, finished, goes_on, next_line, stops, unanswered}
use Rattle.fh_script.proofs.running.answer_next.Goals as goal

pub returns-in-Ok-false-clause-goes : goal.returns-in-Ok-false-clause-goes
returns-in-Ok-false-clause-goes g c = λ was first it.
    finished it.run _ _ (rw c.in-Ok-false.field-0-test at c.in-Ok-false.ensures.read)

pub returns-in-Err-clause-goes : goal.returns-in-Err-clause-goes
returns-in-Err-clause-goes g c = λ was first it.
    rw c.from.ensures (stops it.run _ _ c.in-Err.fault c.in-Err.ensures.reason it.feeds)

pub returns-in-Err-answer-clause-goes : goal.returns-in-Err-answer-clause-goes
returns-in-Err-answer-clause-goes g c = λ was first it.
    rw c.from-in-Err-answer.ensures
    (unanswered it c.read_line.new.source c.answer.new.self c.as_slice-line.result.now
    (rw c.as_slice-line.ensures.value (rw c.in-Ok-true.field-0-test at c.in-Ok-true.ensures.read))
    c.answer.ensures.any_moment c.in-Err-answer.fault c.in-Err-answer.ensures.fault)

pub returns-in-Err-write_all-clause-goes : goal.returns-in-Err-write_all-clause-goes
returns-in-Err-write_all-clause-goes g c = λ was first it.
    let writes = c.in-Err-write_all.ensures.written in
    cut_off it c.read_line.new.source c.answer.new.self c.as_slice-line.result.now
    (rw c.as_slice-line.ensures.value (rw c.in-Ok-true.field-0-test at c.in-Ok-true.ensures.read))
    c.answer.ensures.any_moment
    c.as_bytes.result.now (rw c.as_bytes.ensures.value c.in-Ok.ensures.done) _ writes.0 writes.1 writes.2

pub returns-then-not-ends_with-clause-goes : goal.returns-then-not-ends_with-clause-goes
returns-then-not-ends_with-clause-goes g c = λ was first it.
    let left = g.S.Source.left in
    let found : FindsLine (left c.args.source.now) (left c.read_line.new.source) c.as_slice-line.result.now =
    rw c.as_slice-line.ensures.value (rw c.in-Ok-true.field-0-test at c.in-Ok-true.ensures.read) in
    let ended = found.ended (sym c.ends_with.ensures.value ∙ c.if-not-ends_with.true) in
    finished
    (goes_on it c.read_line.new.source c.answer.new.self c.as_slice-line.result.now found c.answer.ensures.any_moment
    c.as_bytes.result.now (rw c.as_bytes.ensures.value c.in-Ok.ensures.done) c.write_all.new.sink
    c.in-Ok-write_all.ensures.written)
    _ _ (record { was_ended = ended; ended = ended; consumed = Consumes-nil _ })

pub returns-clause-goes : goal.returns-clause-goes
returns-clause-goes g c = λ was first it.
    let left = g.S.Source.left in
    let found : FindsLine (left c.args.source.now) (left c.read_line.new.source) c.as_slice-line.result.now =
    rw c.as_slice-line.ensures.value (rw c.in-Ok-true.field-0-test at c.in-Ok-true.ensures.read) in
    next_line it c.read_line.new.source c.answer.new.self c.as_slice-line.result.now found c.answer.ensures.any_moment
    c.as_bytes.result.now (rw c.as_bytes.ensures.value c.in-Ok.ensures.done) c.write_all.new.sink
    c.in-Ok-write_all.ensures.written (found.feeds (sym c.ends_with.ensures.value ∙ c.if-not-ends_with.false))
    c.answer.ensures.told
