use Rattle.std.proofs.Common.{◌≡◌, ◌<◌, length, inr, arith, rules}
use Rattle.fh_wire.proofs.Sources.{cut_short, brings-join}
use Rattle.fh_wire.proofs.request.fill.Goals as goal

pub returns-then-came-eq0-clause-answer : goal.returns-then-came-eq0-clause-answer
returns-then-came-eq0-clause-answer g c =
    let came = brings-join _ _ _ _ _ _ c.pieces.invariant.brings c.in-Ok.ensures.brings in
    let last = c.in-Ok.ensures.last c.if-came-eq0.true in
    let got : c.len-then-came-eq0.result ≡ length c.read_piece.new.bytes.items = search rules in
    let short : length c.read_piece.new.bytes.items < c.args.needed =
    omega (arith, c.in-Ok.ensures.size, c.if-came-eq0.true, c.pieces-test.true, c.len.ensures) in
    inr (inr (cut_short _ _ c.args.body.items c.read_piece.new.bytes.items c.len-then-came-eq0.result c.args.needed
    came last got short))
