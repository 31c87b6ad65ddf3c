use Rattle.std.proofs.Common.{◌≡◌, ◌∙◌, ◌++◌, ap, List, ℕ, length}
use Rattle.std.specs.Fmt.{decimal}
use Rattle.std.specs.Prelude.{string_bytes}
use Rattle.fh_wire.proofs.WrittenHeads.{request_lines}
use Rattle.fh_wire.proofs.written.request_bytes.Goals as goal

pub returns : goal.returns
returns c =
    let head : c.into_bytes-bytes.result.items ≡ string_bytes c.in_ok-head.head =
    ap (λ v. v.items) c.into_bytes-bytes.ensures.value in
    c.in_ok-extend_from_slice.ensures.items ∙ ap (λ (t : List ℕ). t ++ c.args.body.now) head
    ∙ request_lines (string_bytes c.in_ok-head.head) c.args.name.now (decimal c.args.port)
    (decimal (length c.args.body.now)) c.args.body.now c.in_ok-head.ensures.ok
