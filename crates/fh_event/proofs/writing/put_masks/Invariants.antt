use Rattle.std.proofs.Common.{◌≡◌, ◌++◌, take}
use Rattle.std.specs.List.{flat_map}
use Rattle.fh_event.specs.Fields.{number_bytes}
use Rattle.fh_event.specs.Entries.{Extends}
use Rattle.fh_event.proofs.writing.put_masks.Given as goal

abbrev pub invariant-loop-mask : goal.invariant-loop-mask
invariant-loop-mask l = record {
  written : l.into.items ≡ l.fn.into.items ++ flat_map number_bytes (take l.mask-index l.masks);
  grows : Extends l.fn.into.items l.into.items;
}
