-- What becomes of one connection.
use Rattle.std.specs.Prelude.{◌≡◌, ⊤, ℕ, List, [], ◌∷◌, Option, Some, Result, Ok, Err}
use Rattle.fh_event.specs.declared.faults.StepFault.TheVariants.{DiskFault}
use Rattle.fh_wire.specs.declared.fault.WireFault.{WireFault}
use Rattle.fh_wire.specs.declared.request.HttpIn.{HttpIn}
use Rattle.fh_front.specs.declared.commands.FrontAsk.{FrontAsk}
use Rattle.fh_front.specs.declared.commands.FrontAsk.TheVariants as ask
use Rattle.fh_front.specs.declared.fault.FrontFault.{FrontFault}
use Rattle.fh_front.specs.Answers.{Answers}
use Rattle.fh_front.specs.Commands.{command_of}
use Rattle.fh_front.specs.Responses.{response_of, front_response, wire_response}
use Rattle.fh_hub.specs.Turns.{Turn}
use Rattle.fh_runner.specs.declared.front_end.FrontEnd.{FrontEnd}
use Rattle.fh_runner.specs.declared.front_end.FrontEnd.TheVariants.{Served, Stop, Fault}

-- Its request couldn't be read; or it is no command; or it stops the host; or a turn was made with its command.
pub data Course : Type 0 where
  Unread : WireFault → Course
  Refused : HttpIn → FrontFault → Course
  Stopped : HttpIn → Course
  Turned : HttpIn → Turn → Course

-- what was read
abbrev pub reading_in : Course → Result HttpIn WireFault
reading_in (Unread fault) = Err fault
reading_in (Refused request fault) = Ok request
reading_in (Stopped request) = Ok request
reading_in (Turned request turn) = Ok request

-- The request goes this way at this moment. Any request may be refused for want of memory.
abbrev pub GoesAt : ℕ → Course → Type 0
GoesAt now (Unread fault) = ⊤
GoesAt now (Refused request fault) = Answers {T = FrontAsk} (Err fault) (command_of request)
GoesAt now (Stopped request) = command_of request ≡ Ok ask.Stop
GoesAt now (Turned request turn) = (command_of request ≡ Ok (ask.Ask turn.command)) × (turn.moment ≡ now)

-- the turns that were made: one, with the command, or none
abbrev pub turns_in : Course → List Turn
turns_in (Unread fault) = []
turns_in (Refused request fault) = []
turns_in (Stopped request) = []
turns_in (Turned request turn) = turn ∷ []

-- a stop is accepted, with an empty body
abbrev pub stop_response : ℕ × List ℕ
stop_response = (202, [])

-- the status and the body of the response; none where a call on the connection failed
abbrev pub response_in : Course → Option (ℕ × List ℕ)
response_in (Unread fault) = wire_response fault
response_in (Refused request fault) = Some (front_response fault)
response_in (Stopped request) = Some stop_response
response_in (Turned request turn) = Some (response_of turn.answer)

-- a response was written, or why not
abbrev pub end_of : Result (Unit {0}) WireFault → FrontEnd
end_of (Ok done) = Served
end_of (Err fault) = Fault fault

-- how the connection ends, by how its response was sent
abbrev pub end_in : Course → Result (Unit {0}) WireFault → FrontEnd
end_in (Unread fault) sent = Fault fault
end_in (Refused request fault) sent = end_of sent
end_in (Stopped request) sent = Stop
end_in (Turned request turn) sent = end_of sent

-- its turn failed for the disk
abbrev pub FailsAtTheDisk : Course → Type 0
FailsAtTheDisk (Unread fault) = ⊥
FailsAtTheDisk (Refused request fault) = ⊥
FailsAtTheDisk (Stopped request) = ⊥
FailsAtTheDisk (Turned request turn) = turn.answer ≡ Err DiskFault
