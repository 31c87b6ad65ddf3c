-- The rules of outputs, in order, and the blobs among them.
use Rattle.std.specs.Prelude.{ℕ, nat_lt, if◌then◌else◌, List, [], ◌∷◌, length, map, Option, Some, None}
use Rattle.fh_base.specs.BlobNames.{is_blob_name}
use Rattle.fh_base.specs.Names.{is_queue_name}
use Rattle.fh_base.specs.declared.rule.Rule.{Rule}
use Rattle.fh_base.specs.declared.rule.Rule.TheVariants.{BadName, TooLarge}
use Rattle.fh_event.specs.declared.outcome.Outcome.{Outcome}
use Rattle.fh_event.specs.declared.outcome.Outcome.TheVariants.{Failed, Done}
use Rattle.fh_event.specs.declared.outcome.Output.{Output}
use Rattle.fh_event.specs.declared.outcome.Output.TheVariants.{Queue, Blob}
use Rattle.fh_queues.specs.declared.held.HeldMessage.{HeldMessage}
use Rattle.fh_queues.specs.Part.{QueuePart}
use Rattle.fh_queues.specs.Rules.{first_broken}
use Rattle.fh_queues.specs.Rules as queues
use Rattle.fh_blobs.specs.declared.ask.NewBlob.{NewBlob}
use Rattle.fh_blobs.specs.Rules as blobs
use Rattle.fh_dispatch.specs.Rules.{range_rule}

abbrev pub size_rule : ℕ → ℕ → Option Rule
size_rule size limit = if nat_lt limit size then Some (TooLarge size limit) else None

-- a cause has at most 1,024 bytes, and a list at most 65,536 outputs
abbrev pub outcome_rule : Outcome → Option Rule
outcome_rule (Failed cause) = size_rule (length cause) 1024
outcome_rule (Done outputs) = size_rule (length outputs) 65536

abbrev pub container_rule : List ℕ → Option Rule
container_rule name = if is_queue_name name then None else Some BadName

abbrev pub blob_name_rule : List ℕ → Option Rule
blob_name_rule name = if is_blob_name name then None else Some BadName

abbrev pub blob_rule : List ℕ → List ℕ → List ℕ → Option Rule
blob_rule container blob text =
    first_broken (container_rule container ∷ blob_name_rule blob ∷ blobs.text_rule text ∷ [])

-- the names of an output, and its text
abbrev pub output_rule : Output → Option Rule
output_rule (Queue queue text) = queues.output_rule (Queue queue text)
output_rule (Blob container blob text) = blob_rule container blob text

abbrev pub each_output_rule : List Output → Option Rule
each_output_rule outputs = first_broken (map output_rule outputs)

-- at most 1,000 outputs, each by its own rules, and room for the messages among them
abbrev pub outputs_rule : QueuePart → ℕ → Option HeldMessage → List Output → Option Rule
outputs_rule part m message outputs =
    first_broken
    (range_rule (length outputs) 0 1000 ∷ each_output_rule outputs ∷ queues.room_rule part m message outputs ∷ [])

-- the outputs that are blobs, in order
abbrev pub blobs_of : List Output → List NewBlob
blobs_of [] = []
blobs_of (Queue queue text ∷ outputs) = blobs_of outputs
blobs_of (Blob container blob text ∷ outputs) =
    record { container = container; name = blob; text = text } ∷ blobs_of outputs
