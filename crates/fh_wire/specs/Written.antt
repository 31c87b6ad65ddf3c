-- The messages that the host writes (RFC 9112, with CR LF behind each line of a head).
use Rattle.std.specs.Prelude.{ℕ, ◌<◌, ◌≤◌, ◌==◌, Bool, not, All, take, Option, Result, Ok, Err, ◌&&◌, nat_le, nat_lt, if◌then◌else◌, List, [], ◌∷◌, ◌++◌, length, codes, unwrap_or}
use Rattle.std.specs.Fmt.{decimal}
use Rattle.std.specs.Io.KnownBytes.{Appends, Keeps}
use Rattle.http.specs.StatusCode.{reason_phrase}
use Rattle.fh_wire.specs.declared.fault.WireFault.{WireFault}
use Rattle.fh_wire.specs.declared.fault.WireFault.TheVariants.{WriteFault, NoMemory}
use Rattle.fh_wire.specs.Messages.{RequestIs, ResponseIs}

abbrev pub line : List ℕ → List ℕ
line text = text ++ 13 ∷ 10 ∷ []

-- the fields of a body of so many bytes, and the empty line
abbrev pub field_lines : ℕ → List ℕ
field_lines size =
    line (codes "Content-Type: application/json")
    ++ line (codes "Content-Length: " ++ decimal size)
    ++ line (codes "Connection: close")
    ++ line []

-- what is posted to the function of this name, of the worker at this port
abbrev pub request_text : List ℕ → ℕ → List ℕ → List ℕ
request_text name port body =
    line (codes "POST /" ++ name ++ codes " HTTP/1.0")
    ++ line (codes "Host: 127.0.0.1:" ++ decimal port)
    ++ field_lines (length body)
    ++ body

-- the phrase of a status, which is empty where there is none
abbrev pub phrase_of : ℕ → List ℕ
phrase_of status = if nat_le 100 status && nat_lt status 1000 then unwrap_or (reason_phrase status) [] else []

-- a response of status 204 has no content (RFC 9110)
abbrev pub has_content : ℕ → Bool
has_content status = not (status == 204)

abbrev pub status_line : ℕ → List ℕ
status_line status = line (codes "HTTP/1.1 " ++ decimal status ++ codes " " ++ phrase_of status)

-- a response with its body
abbrev pub full_text : ℕ → List ℕ → List ℕ
full_text status body = status_line status ++ field_lines (length body) ++ body

-- a response without content, and without fields that speak of it
abbrev pub bare_text : ℕ → List ℕ
bare_text status = status_line status ++ line (codes "Connection: close") ++ line []

-- what the host answers
abbrev pub response_text : ℕ → List ℕ → List ℕ
response_text status body = if has_content status then full_text status body else bare_text status

-- the body that a response of this status carries
abbrev pub carried : ℕ → List ℕ → List ℕ
carried status body = if has_content status then body else []

-- some bytes at the front of the text were written, but not all
abbrev pub WritesFront : Option (List ℕ) → Option (List ℕ) → List ℕ → Type 0
WritesFront was now text = (n : ℕ) × (n < length text) × Appends was now (take n text)

-- The text was written; or a write failed, and some of its front is written; or memory was refused, and
-- nothing is. There are no other faults.
abbrev pub WritesUnlessFault : Option (List ℕ) → Option (List ℕ) → List ℕ → WireFault → Type 0
WritesUnlessFault was now text WriteFault = WritesFront was now text
WritesUnlessFault was now text NoMemory = Keeps was now
WritesUnlessFault was now text fault = ⊥

abbrev pub WritesResponse : Option (List ℕ) → Option (List ℕ) → Result (Unit {0}) WireFault → List ℕ → Type 0
WritesResponse was now (Ok done) text = Appends was now text
WritesResponse was now (Err fault) text = WritesUnlessFault was now text fault

-- the bytes stand in a request's target as they are: visible ASCII, without blanks
abbrev pub IsPath : List ℕ → Type 0
IsPath bytes = All (λ b. (33 ≤ b) × (b ≤ 126)) bytes

-- what is posted is read as this request
abbrev pub PostedIsRead : List ℕ → ℕ → List ℕ → Type 0
PostedIsRead name port body =
    RequestIs (request_text name port body)
    (Ok (record { method = codes "POST"; target = codes "/" ++ name; body = body }))

-- what is answered is read as this response
abbrev pub AnsweredIsRead : ℕ → List ℕ → Type 0
AnsweredIsRead status body =
    ResponseIs (response_text status body) (Ok (record { status = status; body = carried status body }))
