-- What answering one connection does to it.
use Rattle.std.specs.Prelude.{◌≡◌, ℕ, Bool, List, codes, Option, Result, Ok, Err}
use Rattle.fh_wire.specs.declared.fault.WireFault.{WireFault}
use Rattle.fh_wire.specs.declared.request.HttpIn.{HttpIn}
use Rattle.fh_wire.specs.Causes.{UnlessUnread, HasReadCause, HasWriteCause}
use Rattle.fh_wire.specs.Reading.{ReadsRequestFrom}
use Rattle.fh_wire.specs.Written.{response_text, WritesResponse}

-- no outputs, one line for the log, and no value: the answer of a function that has nothing to tell
abbrev pub sample_body : List ℕ
sample_body = codes "{\"Outputs\":{},\"Logs\":[\"ok\"],\"ReturnValue\":null}"

-- what a connection tells of one of its two ways: the bytes left or written, the count of failed calls, and whether
-- none fails
pub record Way : Type 0 where
  pub bytes : Option (List ℕ)
  pub faults : ℕ
  pub sure : Bool

abbrev pub way : Option (List ℕ) → ℕ → Bool → Way
way bytes faults sure = record { bytes = bytes; faults = faults; sure = sure }

-- the request of the bytes was read, or their first fault was found, or a read failed, or memory was refused
pub record Reads (was now : Way) (reading : Result HttpIn WireFault) : Type 0 where
  pub answer : UnlessUnread reading (ReadsRequestFrom was.bytes now.bytes reading)
  pub cause : HasReadCause was.faults now.faults was.sure now.sure reading

-- the sample's response was written whole; or a write failed, and some of its front is written; or memory was refused,
-- and nothing is
pub record WritesSample (was now : Way) (sent : Result (Unit {0}) WireFault) : Type 0 where
  pub bytes : WritesResponse was.bytes now.bytes sent (response_text 200 sample_body)
  pub cause : HasWriteCause was.faults now.faults was.sure now.sure sent

-- a request gets the response, and its turn ends as the writing does; without one nothing is written, and the turn has
-- the fault of the reading
abbrev pub Responds : Way → Way → Result HttpIn WireFault → Result (Unit {0}) WireFault → Type 0
Responds was now (Ok request) result = WritesSample was now result
Responds was now (Err fault) result = (result ≡ Err fault) × (now ≡ was)

-- a connection's request was read, and it was responded to
pub record AnswersSample (was_left left was_written written : Way) (result : Result (Unit {0}) WireFault) : Type 0 where
  pub reading : Result HttpIn WireFault
  pub reads : Reads was_left left reading
  pub responds : Responds was_written written reading result
