-- What serving a connection does to the caller and to the connection.
use Rattle.std.specs.Prelude.{◌≡◌, ◌≤◌, ⊤, ℕ, Bool, List, [], ◌∷◌, Option, Some, None, Result, Ok, IsOk, IsErrOf}
use Rattle.fh_base.specs.Faults.{Rose}
use Rattle.fh_event.specs.declared.command.Command.{Command}
use Rattle.fh_event.specs.declared.faults.StepFault.TheVariants.{DiskFault}
use Rattle.fh_wire.specs.declared.fault.WireFault.{WireFault}
use Rattle.fh_wire.specs.declared.request.HttpIn.{HttpIn}
use Rattle.fh_wire.specs.Causes.{UnlessUnread, HasReadCause, HasWriteCause}
use Rattle.fh_wire.specs.Reading.{ReadsRequestFrom}
use Rattle.fh_wire.specs.Written.{response_text, WritesResponse}
use Rattle.fh_front.specs.Responses.{response_of}
use Rattle.fh_hub.specs.Turns.{Turn}
use Rattle.fh_runner.specs.declared.front_end.FrontEnd.{FrontEnd}
use Rattle.fh_runner.specs.Connections.{Course, Unread, Refused, Stopped, Turned, GoesAt, reading_in, turns_in, response_in, end_of, end_in}

-- what a connection tells of one of its two ways: the bytes left or written, the count of failed calls, and whether
-- none fails
pub record Way : Type 0 where
  pub bytes : Option (List ℕ)
  pub faults : ℕ
  pub sure : Bool

abbrev pub way : Option (List ℕ) → ℕ → Bool → Way
way bytes faults sure = record { bytes = bytes; faults = faults; sure = sure }

-- the request of the bytes was read, or their first fault was found, or a read failed, or memory was refused
pub record Reads (was now : Way) (reading : Result HttpIn WireFault) : Type 0 where
  pub answer : UnlessUnread reading (ReadsRequestFrom was.bytes now.bytes reading)
  pub cause : HasReadCause was.faults now.faults was.sure now.sure reading

-- a response was written whole; or a write failed, and some of its front is written; or memory was refused, and nothing
-- is. Without a response nothing is written.
abbrev pub WritesIf : Option (List ℕ) → Option (List ℕ) → Option (ℕ × List ℕ) → Result (Unit {0}) WireFault → Type 0
WritesIf was now None sent = (now ≡ was) × IsOk sent
WritesIf was now (Some response) sent = WritesResponse was now sent (response_text response.0 response.1)

pub record Writes (was now : Way) (response : Option (ℕ × List ℕ)) (sent : Result (Unit {0}) WireFault) : Type 0 where
  pub bytes : WritesIf was.bytes now.bytes response sent
  pub cause : HasWriteCause was.faults now.faults was.sure now.sure sent

-- a turn's disk fault comes only where the count rose, and without a turn the caller is as it was
abbrev pub Counts : {C : Type 0} → (C → ℕ) → C → C → Course → Type 0
Counts faults old new (Unread fault) = new ≡ old
Counts faults old new (Refused request fault) = new ≡ old
Counts faults old new (Stopped request) = new ≡ old
Counts faults old new (Turned request turn) =
    (faults old ≤ faults new) × (IsErrOf turn.answer DiskFault → Rose (faults old) (faults new))

-- the turns of this course were made, and its response was written
pub record Answers {C : Type 0} (made : C → List Turn → C → Type 0) (faults : C → ℕ) (old new : C) (was_written written : Way)
    (course : Course) (sent : Result (Unit {0}) WireFault) : Type 0 where
  pub makes : made old (turns_in course) new
  pub counts : Counts faults old new course
  pub writes : Writes was_written written (response_in course) sent

-- a request that was read goes some way at this moment
pub record AnswersRequest {C : Type 0} (made : C → List Turn → C → Type 0) (faults : C → ℕ) (old new : C) (was_written written : Way)
    (request : HttpIn) (now : ℕ) (ends : FrontEnd) : Type 0 where
  pub course : Course
  pub sent : Result (Unit {0}) WireFault
  pub is : reading_in course ≡ Ok request
  pub goes : GoesAt now course
  pub answers : Answers made faults old new was_written written course sent
  pub end_is : ends ≡ end_in course sent

-- one turn was made with this command at this moment, and the response to its answer was written
pub record Turns {C : Type 0} (made : C → List Turn → C → Type 0) (faults : C → ℕ) (old new : C) (was_written written : Way)
    (command : Command) (now : ℕ) (ends : FrontEnd) : Type 0 where
  pub turn : Turn
  pub sent : Result (Unit {0}) WireFault
  pub command_is : turn.command ≡ command
  pub moment_is : turn.moment ≡ now
  pub makes : made old (turn ∷ []) new
  pub count : faults old ≤ faults new
  pub cause : IsErrOf turn.answer DiskFault → Rose (faults old) (faults new)
  pub writes : Writes was_written written (Some (response_of turn.answer)) sent
  pub end_is : ends ≡ end_of sent

-- The request of a connection was read and went some way at this moment, and the connection ended so.
pub record Serves {C : Type 0} (made : C → List Turn → C → Type 0) (faults : C → ℕ) (old new : C) (was_left left was_written written : Way)
    (now : ℕ) (ends : FrontEnd) : Type 0 where
  pub course : Course
  pub sent : Result (Unit {0}) WireFault
  pub reads : Reads was_left left (reading_in course)
  pub goes : GoesAt now course
  pub answers : Answers made faults old new was_written written course sent
  pub end_is : ends ≡ end_in course sent
