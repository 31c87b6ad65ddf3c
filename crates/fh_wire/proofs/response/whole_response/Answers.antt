use Rattle.std.proofs.Common.{length-take, arith}
use Rattle.fh_wire.proofs.response.whole_response.Goals as goal

pub split_at-requires-2 : goal.split_at-requires-2
split_at-requires-2 c = omega (arith, c.requires.section.len_fits, length-take 2097152 c.args.bytes.now)

pub response_needs-requires-clause-head : goal.response_needs-requires-clause-head
response_needs-requires-clause-head c = omega (arith, c.requires.section.len_fits, length-take 2097152 c.args.bytes.now)
