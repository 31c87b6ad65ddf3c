use Rattle.std.proofs.Common.{arith, ◌≡◌, ◌+◌, ◌++◌, ◌∷◌, [], List, take, ap, refl, ◌∙◌}
use Rattle.std.proofs.lemmas.Grind.{common_steps}
use Rattle.fh_event.specs.declared.outcome.Output.{Output}
use Rattle.fh_event.specs.declared.outcome.Output.TheVariants.{Queue, Blob}
use Rattle.fh_blobs.specs.declared.ask.NewBlob.{NewBlob}
use Rattle.fh_queues.proofs.Broken.{unbroken-at}
use Rattle.fh_dispatch.specs.Outputs.{output_rule, blobs_of}
use Rattle.fh_dispatch.proofs.outputs.blobs_of.Goals as goal

blobs_of-push : (outputs : List Output) (output : Output)
    → blobs_of (outputs ++ output ∷ []) ≡ blobs_of outputs ++ blobs_of (output ∷ [])
blobs_of-push [] output = refl
blobs_of-push (Queue queue text ∷ outputs) output = blobs_of-push outputs output
blobs_of-push (Blob container blob text ∷ outputs) output =
    ap (λ (more : List NewBlob). record { container = container; name = blob; text = text } ∷ more)
    (blobs_of-push outputs output)

pub push_blob-requires : goal.push_blob-requires
push_blob-requires c =
    let at = c.loop-output.output-index in
    grind (arith, common_steps, unbroken-at output_rule c.args.outputs.now at c.output-item.result)

pub loop-output-preserved : goal.loop-output-preserved
loop-output-preserved c =
    let outputs = c.args.outputs.now in
    let at = c.loop-output.output-index in
    let more : take (at + 1) outputs ≡ take at outputs ++ c.output-item.result ∷ [] = grind (arith, common_steps) in
    let all = ap blobs_of more ∙ blobs_of-push (take at outputs) c.output-item.result in
    grind (arith, common_steps, all)
