-- What an invocation comes to by the reply of its worker: the first cause of failure, or its outputs.
use Rattle.std.specs.Prelude.{◌≡◌, ℕ, nat_le, List, [], ◌++◌, length, codes, Result, Ok, Err, if◌then◌else◌}
use Rattle.std.specs.Fmt.{decimal}
use Rattle.fh_app.specs.declared.app.App.{App}
use Rattle.fh_app.specs.declared.function.Function.{Function}
use Rattle.fh_base.specs.Limits.{longest_payload}
use Rattle.fh_base.specs.declared.faults.Failed.{Failed as LinkFailed}
use Rattle.fh_event.specs.Entries.{entry}
use Rattle.fh_event.specs.declared.begun.Begun.{Begun}
use Rattle.fh_event.specs.declared.command.Command.TheVariants.{Finish}
use Rattle.fh_event.specs.declared.outcome.Outcome.{Outcome}
use Rattle.fh_event.specs.declared.outcome.Outcome.TheVariants.{Failed, Done}
use Rattle.fh_event.specs.declared.outcome.Output.{Output}
use Rattle.fh_wire.specs.Messages.{ResponseIs}
use Rattle.fh_wire.specs.declared.fault.WireFault.{WireFault}
use Rattle.fh_wire.specs.declared.fault.WireFault.TheVariants as wire
use Rattle.fh_wire.specs.declared.response.HttpBack.{HttpBack}
use Rattle.fh_invoke.specs.declared.fault.AnswerFault.{AnswerFault}
use Rattle.fh_invoke.specs.declared.fault.AnswerFault.TheVariants as answer
use Rattle.fh_invoke.specs.declared.fault.OutputFault.{OutputFault}
use Rattle.fh_invoke.specs.declared.fault.OutputFault.TheVariants as output
use Rattle.fh_invoke.specs.Outputs.{Gives}
use Rattle.fh_invoke.specs.Replies.{Parts, answer_of}

-- ---- causes of failure

-- bytes have no fault of the last three kinds
abbrev pub wire_cause : WireFault → List ℕ
wire_cause wire.BadHead = codes "head"
wire_cause wire.Chunked = codes "chunked"
wire_cause wire.Coded = codes "coded"
wire_cause wire.BadLength = codes "length"
wire_cause wire.TooLong = codes "too long"
wire_cause (wire.Cut got needed) = codes "cut"
wire_cause wire.ReadFault = codes "link"
wire_cause wire.WriteFault = codes "link"
wire_cause wire.NoMemory = codes "link"

-- a reply has no want of memory
abbrev pub answer_cause : AnswerFault → List ℕ
answer_cause (answer.Status given) = codes "status " ++ decimal given
answer_cause answer.NotJson = codes "not json"
answer_cause answer.NotObject = codes "not an object"
answer_cause answer.NoMemory = []

-- nor have the outputs of one
abbrev pub output_cause : OutputFault → List ℕ
output_cause (output.Expression binding) = codes "expression " ++ binding
output_cause output.NoMemory = []

-- ---- the outcome

abbrev pub outcome_by : Result (List Output) OutputFault → Outcome
outcome_by (Ok outputs) = Done outputs
outcome_by (Err fault) = Failed (output_cause fault)

-- it failed for this cause, and has no log lines
abbrev pub IsFailure : List ℕ → Outcome × List (List ℕ) → Type 0
IsFailure cause told = told ≡ (Failed cause, [])

pub record IsAnswerOutcome (parts : Parts) (begun : Begun) (function : Function) (app : App)
    (outcome : Outcome) : Type 0 where
  pub outputs : Result (List Output) OutputFault
  pub given : Gives parts begun function app outputs
  pub is : outcome ≡ outcome_by outputs

-- an answer whose outputs fail keeps its log lines
pub record IsAnswered (parts : Parts) (begun : Begun) (function : Function) (app : App)
    (told : Outcome × List (List ℕ)) : Type 0 where
  pub outcome : IsAnswerOutcome parts begun function app told.0
  pub logs : told.1 ≡ parts.logs

abbrev pub IsOutcomeOfAnswer : Result Parts AnswerFault → Begun → Function → App → Outcome × List (List ℕ) → Type 0
IsOutcomeOfAnswer (Err fault) begun function app told = IsFailure (answer_cause fault) told
IsOutcomeOfAnswer (Ok parts) begun function app told = IsAnswered parts begun function app told

abbrev pub IsOutcomeOfResponse : Result HttpBack WireFault → Begun → Function → App → Outcome × List (List ℕ) → Type 0
IsOutcomeOfResponse (Err fault) begun function app told = IsFailure (wire_cause fault) told
IsOutcomeOfResponse (Ok back) begun function app told =
    IsOutcomeOfAnswer (answer_of back.status back.body) begun function app told

pub record IsOutcomeOfBytes (bytes : List ℕ) (begun : Begun) (function : Function) (app : App)
    (told : Outcome × List (List ℕ)) : Type 0 where
  pub response : Result HttpBack WireFault
  pub is : ResponseIs bytes response
  pub told_is : IsOutcomeOfResponse response begun function app told

-- the outcome of a reply, or of an ask that failed
abbrev pub IsFullOutcome : Result (List ℕ) LinkFailed → Begun → Function → App → Outcome × List (List ℕ) → Type 0
IsFullOutcome (Err _) begun function app told = IsFailure (codes "link") told
IsFullOutcome (Ok bytes) begun function app told = IsOutcomeOfBytes bytes begun function app told

-- an outcome whose entry would be too long is a failure; the moment has eight bytes in each
abbrev pub measured : ℕ → Outcome → Outcome
measured invocation outcome =
    if nat_le (length (entry 0 (Finish invocation outcome))) longest_payload then outcome
    else Failed (codes "too long")

-- the outcome that is recorded, and the log lines
pub record IsOutcome (reply : Result (List ℕ) LinkFailed) (begun : Begun) (function : Function) (app : App)
    (told : Outcome × List (List ℕ)) : Type 0 where
  pub full : Outcome
  pub is : IsFullOutcome reply begun function app (full, told.1)
  pub fits : told.0 ≡ measured begun.invocation full
