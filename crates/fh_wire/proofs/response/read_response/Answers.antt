use Rattle.std.proofs.Common.{inl, inr, refl, ap, Err}
use Rattle.fh_wire.specs.Messages.ResponseIs.{refused, unended}
use Rattle.fh_wire.proofs.Answering.{answered}
use Rattle.fh_wire.proofs.response.read_response.Goals as goal

pub returns-in-Refused : goal.returns-in-Refused
returns-in-Refused c = inr (refused (rw c.front_of.ensures at c.in-Refused.ensures) refl)

pub returns-in-Open : goal.returns-in-Open
returns-in-Open c = inr (unended (rw c.front_of.ensures at c.in-Open.ensures) (ap Err c.unfinished.ensures))

pub returns-in-Whole : goal.returns-in-Whole
returns-in-Whole c =
    let found = (rw c.front_of.ensures at c.in-Whole.ensures) in
    elim (c.whole_response.ensures found.0 found.1) [
      | inl none ↦ inl none
      | inr is ↦ inr (answered c.args.bytes.now c.find_response.new.fields c.in-Whole.spans found.0 _ found.1 found.2
          found.3 is)
    ]
