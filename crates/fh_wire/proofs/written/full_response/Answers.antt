use Rattle.std.proofs.Common.{◌≡◌, ◌∙◌, ◌++◌, ap, List, ℕ, length}
use Rattle.std.specs.Fmt.{decimal}
use Rattle.std.specs.Prelude.{string_bytes}
use Rattle.fh_wire.specs.Written.{phrase_of}
use Rattle.fh_wire.proofs.WrittenHeads.{response_lines}
use Rattle.fh_wire.proofs.written.full_response.Goals as goal

pub returns : goal.returns
returns c =
    let head : c.into_bytes-bytes.result.items ≡ string_bytes c.in_ok-head.head =
    ap (λ v. v.items) c.into_bytes-bytes.ensures.value in
    c.in_ok-extend_from_slice.ensures.items ∙ ap (λ (t : List ℕ). t ++ c.args.body.now) head
    ∙ response_lines (string_bytes c.in_ok-head.head) (decimal c.args.status) (phrase_of c.args.status)
    (decimal (length c.args.body.now)) c.args.body.now (rw c.phrase_of-phrase.ensures at c.in_ok-head.ensures.ok)
