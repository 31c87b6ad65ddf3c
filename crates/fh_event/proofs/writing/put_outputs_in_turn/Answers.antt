use Rattle.std.proofs.Common.{sym, subst}
use Rattle.std.specs.List.{AllByRecursion}
use Rattle.fh_event.specs.declared.outcome.Output.{Output}
use Rattle.fh_event.specs.Fields.{IsShort}
use Rattle.fh_event.specs.Outcomes.{fields_of_output}
use Rattle.fh_event.proofs.ListLaws.{all_at}
use Rattle.fh_event.proofs.writing.put_outputs_in_turn.Goals as goal

-- each output has short texts where all outputs have
pub put_output-requires : goal.put_output-requires
put_output-requires c =
    let outputs = c.args.outputs.now in
    let index = c.loop-output.output-index in
    record {
      texts = subst (λ (o : Output). AllByRecursion IsShort (fields_of_output o)) (sym c.output-item.is)
          (all_at IsShort fields_of_output outputs index _ c.loop-output-test.true c.requires.texts);
    }
