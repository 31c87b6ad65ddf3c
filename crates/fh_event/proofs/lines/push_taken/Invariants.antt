use Rattle.std.proofs.Common.{◌≡◌, ◌++◌, take}
use Rattle.std.specs.List.{flat_map}
use Rattle.std.specs.String.{string_bytes}
use Rattle.fh_event.specs.Lines.{taken_item}
use Rattle.fh_event.proofs.lines.push_taken.Given as goal

abbrev pub invariant-loop-item : goal.invariant-loop-item
invariant-loop-item l = string_bytes l.line ≡ string_bytes l.fn.line ++ flat_map taken_item (take l.item-index l.items)
