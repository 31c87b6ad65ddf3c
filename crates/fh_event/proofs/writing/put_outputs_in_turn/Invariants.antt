use Rattle.std.proofs.Common.{◌≡◌, ◌++◌, take}
use Rattle.std.specs.List.{flat_map, AllByRecursion}
use Rattle.fh_event.specs.Fields.{spelled, IsField}
use Rattle.fh_event.specs.Outcomes.{fields_of_output}
use Rattle.fh_event.specs.Entries.{Extends}
use Rattle.fh_event.proofs.writing.put_outputs_in_turn.Given as goal

abbrev pub invariant-loop-output : goal.invariant-loop-output
invariant-loop-output l = record {
  written : l.into.items ≡ l.fn.into.items
      ++ flat_map spelled (flat_map fields_of_output (take l.output-index l.outputs));
  fields : AllByRecursion IsField (flat_map fields_of_output (take l.output-index l.outputs));
  grows : Extends l.fn.into.items l.into.items;
}
