-- The outputs that a reply gives: values at their places in the order of the bindings, and then their texts.
use Rattle.std.specs.Prelude.{◌≡◌, ◌≢◌, ⊤, ℕ, ◌++◌, List, [], ◌∷◌, map, take, codes, Bool, Option, Some, None}
use Rattle.std.specs.Prelude.{unwrap_or, Result, Ok, Err, if◌then◌else◌}
use Rattle.std.specs.Str.{bytes_eq}
use Rattle.serde_json.specs.Data.{Data, null, boolean, number, string, array, object}
use Rattle.serde_json.specs.Find.{get_member}
use Rattle.fh_app.specs.Bindings.{cut_at}
use Rattle.fh_app.specs.Rows.{list_of}
use Rattle.fh_app.specs.declared.app.App.{App}
use Rattle.fh_app.specs.declared.function.Function.{Function}
use Rattle.fh_app.specs.declared.function.OutBinding.{OutBinding}
use Rattle.fh_app.specs.declared.function.OutBinding.TheVariants.{Queue, Blob}
use Rattle.fh_event.specs.declared.begun.Begun.{Begun}
use Rattle.fh_event.specs.declared.outcome.Output.{Output}
use Rattle.fh_event.specs.declared.outcome.Output.TheVariants as output
use Rattle.fh_exprs.specs.Layout.{Layout}
use Rattle.fh_exprs.specs.Values.{resolved}
use Rattle.fh_exprs.specs.declared.values.Values.{Values}
use Rattle.fh_invoke.specs.declared.fault.OutputFault.{OutputFault}
use Rattle.fh_invoke.specs.declared.fault.OutputFault.TheVariants.{Expression, NoMemory}
use Rattle.fh_invoke.specs.Knowing.{Knows}
use Rattle.fh_invoke.specs.Printing.{IsPrinted}
use Rattle.fh_invoke.specs.Replies.{Parts}
use Rattle.fh_invoke.specs.Subjects.{subject_of}
use Rattle.fh_invoke.specs.Texts.{coded}

-- ---- values at their places

abbrev pub name_of : OutBinding → List ℕ
name_of (Queue name _) = name
name_of (Blob name _) = name

abbrev pub template_of : OutBinding → Layout
template_of (Queue _ queue) = queue
template_of (Blob _ path) = path

-- the value of a binding: the return value for $return, and else the output of its name
abbrev pub value_named : Parts → List ℕ → Option Data
value_named parts name =
    if bytes_eq name (codes "$return") then Some parts.value else get_member name parts.outputs

-- the values that a binding puts out: none of null, for a queue each item of a list, and else the one
abbrev pub given : OutBinding → Option Data → List Data
given binding None = []
given binding (Some null) = []
given binding (Some (boolean b)) = boolean b ∷ []
given binding (Some (number n)) = number n ∷ []
given binding (Some (string text)) = string text ∷ []
given (Queue _ _) (Some (array values)) = list_of values
given (Blob _ _) (Some (array values)) = array values ∷ []
given binding (Some (object members)) = object members ∷ []

-- a value, its binding, and the text of the binding's template
pub record Sent : Type 0 where
  pub binding : OutBinding
  pub place : List ℕ
  pub value : Data

abbrev pub after : {A B : Type 0} → Result A OutputFault → (A → Result B OutputFault) → Result B OutputFault
after (Ok a) next = next a
after (Err fault) next = Err fault

abbrev pub placed : {E : Type 0} → List ℕ → Result (List ℕ) E → Result (List ℕ) OutputFault
placed name (Ok text) = Ok text
placed name (Err _) = Err (Expression name)

-- the text of a binding's template
abbrev pub place_of : Values → OutBinding → Result (List ℕ) OutputFault
place_of known binding = placed (name_of binding) (resolved known (template_of binding))

abbrev pub sent_to : OutBinding → List ℕ → List Data → List Sent
sent_to binding place values = map (λ value. record { binding = binding; place = place; value = value }) values

-- what a binding sends; its template is resolved only where there is a value
abbrev pub sent_by : Values → OutBinding → List Data → Result (List Sent) OutputFault
sent_by known binding [] = Ok []
sent_by known binding (value ∷ values) =
    after (place_of known binding) (λ place. Ok (sent_to binding place (value ∷ values)))

-- what these bindings send in order, behind what was sent before; or the first whose template doesn't resolve
abbrev pub sent_behind : Parts → Values → List Sent → List OutBinding → Result (List Sent) OutputFault
sent_behind parts known before [] = Ok before
sent_behind parts known before (binding ∷ bindings) =
    after (sent_by known binding (given binding (value_named parts (name_of binding)))) (λ more.
    sent_behind parts known (before ++ more) bindings)

-- ---- their texts

pub record IsQueueOutput (base64 : Bool) (place : List ℕ) (value : Data) (queue text : List ℕ) : Type 0 where
  pub at : queue ≡ place
  pub plain : List ℕ
  pub printed : IsPrinted value plain
  pub stored : text ≡ coded base64 plain

-- a blob's place is cut at its first slash; without one the blob's name is empty
abbrev pub blob_at : List ℕ → List ℕ × List ℕ
blob_at place = unwrap_or (cut_at 47 place) (place, [])

pub record IsBlobOutput (place : List ℕ) (value : Data) (container blob text : List ℕ) : Type 0 where
  pub at : (container, blob) ≡ blob_at place
  pub printed : IsPrinted value text

abbrev pub IsOutputAt : Bool → OutBinding → List ℕ → Data → Output → Type 0
IsOutputAt base64 (Queue _ _) place value (output.Queue queue text) = IsQueueOutput base64 place value queue text
IsOutputAt base64 (Queue _ _) place value (output.Blob container blob text) = ⊥
IsOutputAt base64 (Blob _ _) place value (output.Queue queue text) = ⊥
IsOutputAt base64 (Blob _ _) place value (output.Blob container blob text) =
    IsBlobOutput place value container blob text

-- the output is what is sent: of the binding's kind, at its place, with the value printed
abbrev pub IsOutputOf : Bool → Sent → Output → Type 0
IsOutputOf base64 sent output = IsOutputAt base64 sent.binding sent.place sent.value output

-- one output for each, in order
abbrev pub AreOutputsOf : Bool → List Sent → List Output → Type 0
AreOutputsOf base64 [] [] = ⊤
AreOutputsOf base64 [] (o ∷ os) = ⊥
AreOutputsOf base64 (s ∷ ss) [] = ⊥
AreOutputsOf base64 (s ∷ ss) (o ∷ os) = IsOutputOf base64 s o × AreOutputsOf base64 ss os

-- one more output than an invocation may have
abbrev pub most : ℕ
most = 1001

abbrev pub AreFirstOf : Bool → List Sent → List Output → Type 0
AreFirstOf base64 all outputs = AreOutputsOf base64 (take most all) outputs

-- the outputs are the first 1,001 of what is sent, or the fault is that of the first template that doesn't
-- resolve
abbrev pub Sends : Bool → Result (List Sent) OutputFault → Result (List Output) OutputFault → Type 0
Sends base64 sent (Ok outputs) = (all : List Sent) × (sent ≡ Ok all) × AreFirstOf base64 all outputs
Sends base64 sent (Err told) = sent ≡ Err told

-- the same, by the values that this invocation's templates may name
pub record Gives (parts : Parts) (begun : Begun) (function : Function) (app : App)
    (result : Result (List Output) OutputFault) : Type 0 where
  pub known : Values
  pub knows : Knows begun (subject_of app.queues.base64 function.trigger begun.job) known
  pub sends : Sends app.queues.base64 (sent_behind parts known [] function.outputs) result

-- that is the answer, unless memory ran out
abbrev pub UnlessMemory : Result (List Output) OutputFault → Type 0 → Type 0
UnlessMemory (Ok outputs) P = P
UnlessMemory (Err told) P = told ≢ NoMemory → P

-- what more is sent goes behind all that was sent before, or is the fault
abbrev pub SendsMore : Bool → Result (List Sent) OutputFault → List Output → List Output → Result ⊤ OutputFault → Type 0
SendsMore base64 sent old new (Ok _) = (more : List Sent) × (sent ≡ Ok more)
    × ((before : List Sent) → AreFirstOf base64 before old → AreFirstOf base64 (before ++ more) new)
SendsMore base64 sent old new (Err told) = told ≢ NoMemory → sent ≡ Err told
