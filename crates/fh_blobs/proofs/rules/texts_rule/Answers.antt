use Rattle.std.proofs.Common.{arith, sym}
use Rattle.std.proofs.lemmas.Grind.{common_steps}
use Rattle.fh_blobs.proofs.Texts.{texts_rule-refused, texts_rule-push}
use Rattle.fh_blobs.proofs.rules.texts_rule.Goals as goal

pub returns-in-Some : goal.returns-in-Some
returns-in-Some c =
    sym (texts_rule-refused c.args.blobs.now c.loop-blob.blob-index c.blob-item.result c.in-Some.rule (omega arith) c.loop-blob.invariant (grind (arith, common_steps)))

pub loop-blob-preserved : goal.loop-blob-preserved
loop-blob-preserved c = grind (arith, common_steps, texts_rule-push)
