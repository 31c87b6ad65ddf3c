use Rattle.std.proofs.Common.{◌≡◌, ◌∙◌, ap}
use Rattle.std.specs.Fmt.{decimal}
use Rattle.std.specs.Prelude.{string_bytes}
use Rattle.fh_wire.specs.Written.{phrase_of}
use Rattle.fh_wire.proofs.WrittenHeads.{bare_lines}
use Rattle.fh_wire.proofs.written.bare_response.Goals as goal

pub returns : goal.returns
returns c =
    let head : c.into_bytes.result.items ≡ string_bytes c.in_ok-head.head =
    ap (λ v. v.items) c.into_bytes.ensures.value in
    head ∙ bare_lines (string_bytes c.in_ok-head.head) (decimal c.args.status) (phrase_of c.args.status)
    (rw c.phrase_of-phrase.ensures at c.in_ok-head.ensures.ok)
