-- The cases of a definition of answers exclude each other.
use Rattle.std.proofs.Common.{◌≡◌, ℕ, List, [], sym, ap, ◌∙◌, arith, append-nil, Result}
use Rattle.httparse.specs.Grammar.{RequestHead, print_request, ReadsRequest, ResponseHead, print_response, ReadsResponse}
use Rattle.httparse.proofs.GrammarLemmas.{request_unique, response_unique}
use Rattle.fh_wire.specs.declared.fault.WireFault.{WireFault}
use Rattle.fh_wire.specs.declared.request.HttpIn.{HttpIn}
use Rattle.fh_wire.specs.declared.response.HttpBack.{HttpBack}
use Rattle.fh_wire.specs.Fronts.{IsRefusedRequest, IsRefusedResponse}
use Rattle.fh_wire.specs.Fronts.IsRefusedRequest.{long as long_request, wide as wide_request, never as never_request}
use Rattle.fh_wire.specs.Fronts.IsRefusedResponse.{long, never}
use Rattle.fh_wire.specs.Messages.{front, request_of, BeginsRequest, RequestIs, response_of, BeginsResponse, ResponseIs}
use Rattle.fh_wire.specs.Messages.RequestIs.{refused as refused_request, whole as whole_request, unended as unended_request}
use Rattle.fh_wire.specs.Messages.ResponseIs.{refused, whole, unended}
use Rattle.fh_wire.proofs.Fronts.{request_whole_lines, request_whole_narrow, response_whole_lines}
use Rattle.fh_wire.proofs.FrontBytes.{front_begins}

-- ---- responses

front_reads : (bytes : List ℕ) (h : ResponseHead) (rest : List ℕ) → BeginsResponse bytes h rest
    → (tail : List ℕ) × ReadsResponse (front bytes) h tail
front_reads bytes h rest begins =
    let tail = front_begins bytes (print_response h) rest begins.reads.1 begins.within in
    (tail.0, (begins.reads.0, tail.1))

not_refused : (bytes : List ℕ) (h : ResponseHead) (rest : List ℕ) → BeginsResponse bytes h rest
    → ¬ (IsRefusedResponse (front bytes))
not_refused bytes h rest begins (long many) =
    let reads = front_reads bytes h rest begins in
    absurd (omega (arith, many, response_whole_lines (front bytes) h reads.0 reads.1, begins.taken))
not_refused bytes h rest begins (never none) =
    let reads = front_reads bytes h rest begins in
    none [] h reads.0 (reads.1.0, append-nil (front bytes) ∙ reads.1.1)

pub one_response : (bytes : List ℕ) (r q : Result HttpBack WireFault) → ResponseIs bytes r → ResponseIs bytes q → r ≡ q
one_response bytes r q (refused a is) (refused b same) = is ∙ sym same
one_response bytes r q (refused a is) (whole h rest b same) = absurd (not_refused bytes h rest b a)
one_response bytes r q (refused a is) (unended b same) = absurd (b.0 a)
one_response bytes r q (whole h rest a is) (refused b same) = absurd (not_refused bytes h rest a b)
one_response bytes r q (whole h rest a is) (whole k tail b same) =
    let one = response_unique bytes h k rest tail a.reads b.reads in
    is ∙ ap (λ (m : ResponseHead). response_of m rest) one.0 ∙ ap (response_of k) one.1 ∙ sym same
one_response bytes r q (whole h rest a is) (unended b same) =
    let reads = front_reads bytes h rest a in absurd (b.1 h reads.0 reads.1)
one_response bytes r q (unended a is) (refused b same) = absurd (a.0 b)
one_response bytes r q (unended a is) (whole h rest b same) =
    let reads = front_reads bytes h rest b in absurd (a.1 h reads.0 reads.1)
one_response bytes r q (unended a is) (unended b same) = is ∙ sym same

-- ---- requests

request_reads : (bytes : List ℕ) (h : RequestHead) (rest : List ℕ) → BeginsRequest bytes h rest
    → (tail : List ℕ) × ReadsRequest (front bytes) h tail
request_reads bytes h rest begins =
    let tail = front_begins bytes (print_request h) rest begins.reads.1 begins.within in
    (tail.0, (begins.reads.0, tail.1))

request_not_refused : (bytes : List ℕ) (h : RequestHead) (rest : List ℕ) → BeginsRequest bytes h rest
    → ¬ (IsRefusedRequest (front bytes))
request_not_refused bytes h rest begins (long_request many) =
    let reads = request_reads bytes h rest begins in
    absurd (omega (arith, many, request_whole_lines (front bytes) h reads.0 reads.1, begins.taken.0))
request_not_refused bytes h rest begins (wide_request is) =
    let reads = request_reads bytes h rest begins in
    let narrow = request_whole_narrow (front bytes) h reads.0 reads.1 begins.taken.1 in
    absurd cc
request_not_refused bytes h rest begins (never_request none) =
    let reads = request_reads bytes h rest begins in
    none [] h reads.0 (reads.1.0, append-nil (front bytes) ∙ reads.1.1)

pub one_request : (bytes : List ℕ) (r q : Result HttpIn WireFault) → RequestIs bytes r → RequestIs bytes q → r ≡ q
one_request bytes r q (refused_request a is) (refused_request b same) = is ∙ sym same
one_request bytes r q (refused_request a is) (whole_request h rest b same) =
    absurd (request_not_refused bytes h rest b a)
one_request bytes r q (refused_request a is) (unended_request b same) = absurd (b.0 a)
one_request bytes r q (whole_request h rest a is) (refused_request b same) =
    absurd (request_not_refused bytes h rest a b)
one_request bytes r q (whole_request h rest a is) (whole_request k tail b same) =
    let one = request_unique bytes h k rest tail a.reads b.reads in
    is ∙ ap (λ (m : RequestHead). request_of m rest) one.0 ∙ ap (request_of k) one.1 ∙ sym same
one_request bytes r q (whole_request h rest a is) (unended_request b same) =
    let reads = request_reads bytes h rest a in absurd (b.1 h reads.0 reads.1)
one_request bytes r q (unended_request a is) (refused_request b same) = absurd (a.0 b)
one_request bytes r q (unended_request a is) (whole_request h rest b same) =
    let reads = request_reads bytes h rest b in absurd (a.1 h reads.0 reads.1)
one_request bytes r q (unended_request a is) (unended_request b same) = is ∙ sym same
