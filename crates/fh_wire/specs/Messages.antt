-- What bytes are: a message, or the first fault in them (RFC 9112, without chunks and codings).
use Rattle.std.specs.Prelude.{◌≡◌, ℕ, ◌≤◌, List, length, take, map, Result, Ok, Err}
use Rattle.httparse.specs.Grammar.{RequestHead, print_request, ReadsRequest, ResponseHead, print_response, ReadsResponse, status_code}
use Rattle.httparse.specs.Spans.{name_and_value}
use Rattle.fh_base.specs.Limits.{longest_message}
use Rattle.fh_wire.specs.declared.fault.WireFault.{WireFault}
use Rattle.fh_wire.specs.declared.fault.WireFault.TheVariants.{BadHead}
use Rattle.fh_wire.specs.declared.request.HttpIn.{HttpIn}
use Rattle.fh_wire.specs.declared.response.HttpBack.{HttpBack}
use Rattle.fh_wire.specs.Fronts.{IsTakenRequest, IsRefusedRequest, IsOpenRequest, IsTakenResponse, IsRefusedResponse, IsOpenResponse}
use Rattle.fh_wire.specs.Fields.{framing}
use Rattle.fh_wire.specs.Sizes.{◌>>=◌, unfinished, request_needs, response_needs, body_of}

-- the bytes in which a head has to end
abbrev pub front : List ℕ → List ℕ
front bytes = take 2097152 bytes

-- ---- requests

-- what a request is, by its head and the bytes behind it
abbrev pub request_of : RequestHead → List ℕ → Result HttpIn WireFault
request_of h rest =
    request_needs (framing (map name_and_value h.fields)) (length (print_request h)) >>= λ needed.
    (body_of needed rest >>= λ body.
    Ok (record { method = h.method; target = h.target; body = body }))

-- the bytes begin with this head, which is taken and ends in time
pub record BeginsRequest (bytes : List ℕ) (h : RequestHead) (rest : List ℕ) : Type 0 where
  pub taken : IsTakenRequest h
  pub reads : ReadsRequest bytes h rest
  pub within : length (print_request h) ≤ longest_message

-- the one answer to a request's bytes
pub data RequestIs (bytes : List ℕ) (r : Result HttpIn WireFault) : Type 0 where
  refused : IsRefusedRequest (front bytes) → r ≡ Err BadHead → RequestIs bytes r
  whole : (h : RequestHead) → (rest : List ℕ) → BeginsRequest bytes h rest
      → r ≡ request_of h rest → RequestIs bytes r
  unended : IsOpenRequest (front bytes) → r ≡ Err (unfinished (length bytes)) → RequestIs bytes r

-- ---- responses

-- what a response is, by its head and the bytes behind it
abbrev pub response_of : ResponseHead → List ℕ → Result HttpBack WireFault
response_of h rest =
    response_needs (framing (map name_and_value h.fields)) (length (print_response h)) (length rest)
    >>= λ needed. (body_of needed rest >>= λ body. Ok (record { status = status_code h; body = body }))

-- the bytes begin with this head, which is taken and ends in time
pub record BeginsResponse (bytes : List ℕ) (h : ResponseHead) (rest : List ℕ) : Type 0 where
  pub taken : IsTakenResponse h
  pub reads : ReadsResponse bytes h rest
  pub within : length (print_response h) ≤ longest_message

-- the one answer to a response's bytes
pub data ResponseIs (bytes : List ℕ) (r : Result HttpBack WireFault) : Type 0 where
  refused : IsRefusedResponse (front bytes) → r ≡ Err BadHead → ResponseIs bytes r
  whole : (h : ResponseHead) → (rest : List ℕ) → BeginsResponse bytes h rest
      → r ≡ response_of h rest → ResponseIs bytes r
  unended : IsOpenResponse (front bytes) → r ≡ Err (unfinished (length bytes)) → ResponseIs bytes r
