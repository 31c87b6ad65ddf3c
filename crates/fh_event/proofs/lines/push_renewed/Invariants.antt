use Rattle.std.proofs.Common.{◌≡◌, ◌++◌, take}
use Rattle.std.specs.List.{flat_map}
use Rattle.std.specs.String.{string_bytes}
use Rattle.fh_event.specs.Lines.{renewed_item}
use Rattle.fh_event.proofs.lines.push_renewed.Given as goal

abbrev pub invariant-loop-part : goal.invariant-loop-part
invariant-loop-part l =
    string_bytes l.line ≡ string_bytes l.fn.line ++ flat_map renewed_item (take l.part-index l.parts)
