use Rattle.std.proofs.Common.{◌≡◌, ap, length, rules, arith}
use Rattle.fh_dispatch.proofs.Indexes.{indexed-lengthened}
use Rattle.fh_dispatch.proofs.invocations.Invocations.reserve.Goals as goal

pub invariant_of-self-in_err-lengthen : goal.invariant_of-self-in_err-lengthen
invariant_of-self-in_err-lengthen c =
    let was = c.self.invariant in
    let functions : c.reserve-2.new.self.items ≡ c.self.inside.functions.items = search rules in
    record {
      indexed =
          rw (c.reserve.ensures.rows, functions)
          (indexed-lengthened c.self.inside.rows.rows c.self.inside.functions.items c.self.inside.dues was.indexed
          (omega (arith, was.keys)) c.lengthen.new.dues c.lengthen.ensures.keys);
      keys = omega (arith, was.keys, ap length functions, c.lengthen.ensures.keys.no_less);
      rows_room = omega arith;
      functions_room = omega arith;
    }

pub invariant_of-self-2 : goal.invariant_of-self-2
invariant_of-self-2 c =
    let was = c.self.invariant in
    let functions : c.reserve-2.new.self.items ≡ c.self.inside.functions.items = search rules in
    record {
      indexed =
          rw (c.reserve.ensures.rows, functions)
          (indexed-lengthened c.self.inside.rows.rows c.self.inside.functions.items c.self.inside.dues was.indexed
          (omega (arith, was.keys)) c.lengthen.new.dues c.lengthen.ensures.keys);
      keys = search rules;
      rows_room = search rules;
      functions_room = search rules;
    }
