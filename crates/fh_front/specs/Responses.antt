-- The response to a request.
use Rattle.std.specs.Prelude.{ℕ, List, [], ◌++◌, codes, Option, Some, None, Result, Ok, Err}
use Rattle.serde_json.specs.Data.{Data, string, object, no_members, member}
use Rattle.serde_json.specs.Written.{compact_text}
use Rattle.fh_base.specs.declared.rule.Rule.{Rule}
use Rattle.fh_base.specs.declared.rule.Rule.TheVariants.{MomentTooLate, BadName, TooLarge, OutOfRange, NoSuchFunction, QueueNotFound, BlobNotFound, MessageNotFound, NoSuchInvocation, PopReceiptMismatch, LeaseHeld, LeaseMismatch, StoreFull, JournalFull, OldJournal, TokensFull, BadZone}
use Rattle.fh_base.specs.Rules.{rule_name}
use Rattle.fh_event.specs.declared.faults.StepFault.{StepFault}
use Rattle.fh_event.specs.declared.faults.StepFault.TheVariants as step
use Rattle.fh_event.specs.declared.reply.Reply.{Reply}
use Rattle.fh_event.specs.declared.reply.Reply.TheVariants.{Made, There, Stored, BlobStored}
use Rattle.fh_event.specs.Lines.{reply_line}
use Rattle.fh_wire.specs.declared.fault.WireFault.{WireFault}
use Rattle.fh_wire.specs.declared.fault.WireFault.TheVariants as wire
use Rattle.fh_front.specs.declared.fault.FrontFault.{FrontFault}
use Rattle.fh_front.specs.declared.fault.FrontFault.TheVariants.{NoRoute, BadMethod, BadQuery, BadBody, NoMemory}

-- ---- answers

-- a new queue, message or blob is 201, a queue that was there 204, and any other reply 200
unfoldable pub reply_status : Reply → ℕ
reply_status Made = 201
reply_status There = 204
reply_status (Stored id receipt) = 201
reply_status (BlobStored version) = 201
reply_status other = 200

-- {"reply":"<the script's line>"}
abbrev pub reply_json : List ℕ → Data
reply_json line = object (member (codes "reply") (string line) no_members)

-- as compact JSON; a response of status 204 has no body (RFC 9110)
unfoldable pub reply_body : Reply → List ℕ
reply_body There = []
reply_body other = compact_text (reply_json (reply_line other))

abbrev pub rule_status : Rule → ℕ
rule_status MomentTooLate = 400
rule_status BadName = 400
rule_status (TooLarge size limit) = 413
rule_status (OutOfRange given low high) = 400
rule_status NoSuchFunction = 404
rule_status QueueNotFound = 404
rule_status BlobNotFound = 404
rule_status MessageNotFound = 404
rule_status NoSuchInvocation = 404
rule_status (PopReceiptMismatch current) = 400
rule_status (LeaseHeld holder until) = 409
rule_status (LeaseMismatch holder) = 409
rule_status (StoreFull live) = 507
rule_status (JournalFull bytes) = 507
rule_status (OldJournal version) = 409
rule_status (TokensFull kept) = 507
rule_status BadZone = 400

-- {"error":"<name>"}
unfoldable pub error_body : List ℕ → List ℕ
error_body name = codes "{\"error\":\"" ++ (name ++ codes "\"}")

abbrev pub fault_status : StepFault → ℕ
fault_status (step.Rule rule) = rule_status rule
fault_status step.NoMemory = 500
fault_status step.DiskFault = 503

-- a rule is named without its values, so nobody learns a receipt
abbrev pub fault_name : StepFault → List ℕ
fault_name (step.Rule rule) = rule_name rule
fault_name step.NoMemory = codes "NoMemory"
fault_name step.DiskFault = codes "DiskFault"

-- the status and the body of an answer
abbrev pub response_of : Result Reply StepFault → ℕ × List ℕ
response_of (Ok reply) = (reply_status reply, reply_body reply)
response_of (Err fault) = (fault_status fault, error_body (fault_name fault))

-- ---- requests that are no command

abbrev pub front_response : FrontFault → ℕ × List ℕ
front_response NoRoute = (404, codes "{\"error\":\"NoRoute\"}")
front_response BadMethod = (405, codes "{\"error\":\"BadMethod\"}")
front_response BadQuery = (400, codes "{\"error\":\"BadQuery\"}")
front_response BadBody = (400, codes "{\"error\":\"BadBody\"}")
front_response NoMemory = (500, codes "{\"error\":\"NoMemory\"}")

-- a request that isn't read; where a call on the connection failed nothing is answered
abbrev pub wire_response : WireFault → Option (ℕ × List ℕ)
wire_response wire.BadHead = Some (400, codes "{\"error\":\"BadHead\"}")
wire_response wire.BadLength = Some (400, codes "{\"error\":\"BadLength\"}")
wire_response wire.TooLong = Some (413, codes "{\"error\":\"TooLong\"}")
wire_response (wire.Cut got needed) = Some (400, codes "{\"error\":\"Cut\"}")
wire_response wire.Chunked = Some (411, codes "{\"error\":\"Chunked\"}")
wire_response wire.Coded = Some (415, codes "{\"error\":\"Coded\"}")
wire_response wire.ReadFault = None
wire_response wire.WriteFault = None
wire_response wire.NoMemory = Some (500, codes "{\"error\":\"NoMemory\"}")
