use Rattle.std.proofs.Common.{◌≡◌, ℕ, length, get_or, w32, arith, length-take}
use Rattle.std.specs.Int.{from_be_bytes}
use Rattle.std.proofs.lemmas.Grind.{common_steps}
use Rattle.fh_journal.proofs.Gates.{field_of, opens_at, too_long_at}
use Rattle.fh_journal.proofs.frame_reading.read_size.Goals as goal

pub returns-then-given-gt-LONGEST_PAYLOAD-clause-read : goal.returns-then-given-gt-LONGEST_PAYLOAD-clause-read
returns-then-given-gt-LONGEST_PAYLOAD-clause-read g c =
    let long : length c.read_fully.new.buf ≡ 5 = omega (arith, length-take {A = ℕ}) in
    let first : get_or c.read_fully.new.buf 0 0 ≡ 1 = grind (arith, common_steps) in
    let given : c.from_be_bytes-given.result ≡ from_be_bytes w32 (field_of c.read_fully.new.buf) =
    grind (arith, common_steps) in
    too_long_at _ c.args.end c.args.at c.read_fully.new.buf c.in_ok-read_fully.field-0 c.from_be_bytes-given.result
    c.if-not-branch.false
    c.in_ok-read_fully.ensures.bytes long first given c.if-given-gt-LONGEST_PAYLOAD.true

pub returns-clause-read : goal.returns-clause-read
returns-clause-read g c =
    let long : length c.read_fully.new.buf ≡ 5 = omega (arith, length-take {A = ℕ}) in
    let first : get_or c.read_fully.new.buf 0 0 ≡ 1 = grind (arith, common_steps) in
    let given : c.from_be_bytes-given.result ≡ from_be_bytes w32 (field_of c.read_fully.new.buf) =
    grind (arith, common_steps) in
    opens_at _ c.args.end c.args.at c.read_fully.new.buf c.in_ok-read_fully.field-0 c.from_be_bytes-given.result
    c.if-not-branch.false
    c.in_ok-read_fully.ensures.bytes long c.in_ok-read_fully.ensures.fit first given c.if-given-gt-LONGEST_PAYLOAD.false
