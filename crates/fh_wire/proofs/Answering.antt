-- An answer by a head's spans is the answer by the head.
use Rattle.std.proofs.Common.{◌≡◌, ◌≤◌, ◌<◌, ℕ, ◌+◌, ◌-◌, refl, List, [], ◌++◌, length, length-append, drop, map, Option, Result, Ok, Err, sym, ap, subst, ◌∙◌, append_assoc, arith, inl, inr}
use Rattle.std.specs.Prelude.{IfOk}
use Rattle.std.specs.Io.KnownBytes.{Consumes}
use Rattle.std.proofs.lemmas.Bool.{cases_lt}
use Rattle.httparse.specs.declared.spans.HeaderSpan.{HeaderSpan}
use Rattle.httparse.specs.declared.spans.RequestSpans.{RequestSpans}
use Rattle.httparse.specs.declared.spans.ResponseSpans.{ResponseSpans}
use Rattle.httparse.specs.Grammar.{Field, RequestHead, print_request, ResponseHead, print_response}
use Rattle.httparse.specs.Spans.{IsRequestAt, IsRequestWithin, IsResponseAt, IsResponseWithin, header_bytes, name_and_value}
use Rattle.httparse.proofs.GrammarLemmas.{request_unique}
use Rattle.fh_wire.specs.declared.fault.WireFault.{WireFault}
use Rattle.fh_wire.specs.declared.fault.WireFault.TheVariants.{ReadFault, NoMemory}
use Rattle.fh_wire.specs.declared.fields.Framing.{Framing}
use Rattle.fh_wire.specs.declared.request.HttpIn.{HttpIn}
use Rattle.fh_wire.specs.declared.response.HttpBack.{HttpBack}
use Rattle.fh_wire.specs.Causes.{UnlessNoMemory, UnlessUnread}
use Rattle.fh_wire.specs.Fields.{framing}
use Rattle.fh_wire.specs.Fronts.{IsTakenRequest, IsTakenResponse}
use Rattle.fh_wire.specs.Messages.{front, request_of, response_of, ResponseIs}
use Rattle.fh_wire.specs.Messages.RequestIs.{whole}
use Rattle.fh_wire.specs.Messages.ResponseIs.{whole as whole_response}
use Rattle.fh_wire.specs.Reading.{known, AnswersBy, ReadsRequestFrom, EndsSoon}
use Rattle.fh_wire.specs.Sizes.{◌>>=◌, request_needs, body_of}
use Rattle.fh_wire.proofs.FrontBytes.{continued, front_few}
use Rattle.fh_wire.proofs.Sources.{consumes-none, consumes-append}

-- the same fault of another answer
recast : {A B : Type 0} (e f : WireFault) → ◌≡◌ {A = Result A WireFault} (Err e) (Err f)
    → ◌≡◌ {A = Result B WireFault} (Err e) (Err f)
recast {A} {B} e f is = let same : e ≡ f = cc in rw same refl

-- the fields by the spans in the front
pub fields_at : (bytes head : List ℕ) (spans used : List HeaderSpan) (fields : List Field) → head ≡ front bytes
    → used ≡ spans
    → map (header_bytes (front bytes)) spans ≡ map name_and_value fields
    → map (header_bytes head) used ≡ map name_and_value fields
fields_at bytes head spans used fields at_head of_used is =
    ap (λ (t : List ℕ). map (header_bytes t) used) at_head ∙ ap (map (header_bytes (front bytes))) of_used ∙ is

-- what is behind the head
pub body_behind : (was now : Option (List ℕ)) (r : Result (List ℕ) WireFault) (needed : ℕ) (begun rest : List ℕ)
    → begun ≡ rest
    → AnswersBy was now r (λ more. body_of needed (begun ++ more)) (λ all. length all - length begun)
    → AnswersBy was now r (λ more. body_of needed (rest ++ more)) (λ all. length all - length rest)
body_behind was now r needed begun rest is =
    subst (λ (t : List ℕ). AnswersBy was now r (λ more. body_of needed (t ++ more)) (λ all. length all - length t)) is

-- ---- requests

abbrev of_body : RequestHead → Result (List ℕ) WireFault → Result HttpIn WireFault
of_body h read = read >>= λ body. Ok (record { method = h.method; target = h.target; body = body })

-- what the fields of this head say is needed
abbrev pub AreNeeds : RequestHead → Framing → ℕ → Type 0
AreNeeds h f n = (f ≡ framing (map name_and_value h.fields)) × (n ≡ length (print_request h))

needs_are : (h : RequestHead) (f : Framing) (n : ℕ) → AreNeeds h f n
    → request_needs f n ≡ request_needs (framing (map name_and_value h.fields)) (length (print_request h))
needs_are h f n are = ap (λ (g : Framing). request_needs g n) are.0
    ∙ ap (request_needs (framing (map name_and_value h.fields))) are.1

-- a fault of what the fields say is the request's
pub fields_fail : (was : Option (List ℕ)) (h : RequestHead) (begun : List ℕ) (f : Framing) (n : ℕ) (e : WireFault)
    → AreNeeds h f n → Err e ≡ request_needs f n
    → AnswersBy was was (Err e) (λ rest. request_of h (begun ++ rest)) (λ m. length m.body - length begun)
fields_fail was h begun f n e are is = inr (inr (record {
  taken = [];
  consumed = consumes-none was;
  is = ap (λ (r : Result ℕ WireFault). r >>= λ needed. of_body h (body_of needed (begun ++ ([] ++ known was))))
      (is ∙ needs_are h f n are);
  few = tt;
}))

needs_give : (h : RequestHead) (f : Framing) (n needed : ℕ) (rest : List ℕ) → AreNeeds h f n
    → Ok needed ≡ request_needs f n
    → of_body h (body_of needed rest) ≡ request_of h rest
needs_give h f n needed rest are is =
    ap (λ (r : Result ℕ WireFault). r >>= λ needed. of_body h (body_of needed rest)) (is ∙ needs_are h f n are)

-- a fault of the body is the request's
pub body_fails : (was now : Option (List ℕ)) (h : RequestHead) (begun : List ℕ) (f : Framing) (n needed : ℕ)
    (e : WireFault)
    → AreNeeds h f n → Ok needed ≡ request_needs f n
    → AnswersBy was now (Err e) (λ rest. body_of needed (begun ++ rest)) (λ all. length all - length begun)
    → AnswersBy was now (Err e) (λ rest. request_of h (begun ++ rest)) (λ m. length m.body - length begun)
body_fails was now h begun f n needed e are is (inl unread) = inl (recast e ReadFault unread)
body_fails was now h begun f n needed e are is (inr (inl none)) = inr (inl (recast e NoMemory none))
body_fails was now h begun f n needed e are is (inr (inr reads)) = inr (inr (record {
  taken = reads.taken;
  consumed = reads.consumed;
  is = ap (of_body h) reads.is ∙ needs_give h f n needed (begun ++ (reads.taken ++ known now)) are is;
  few = tt;
}))

few_of : (r : Result HttpIn WireFault) (h : RequestHead) (body begun : List ℕ) (taken : ℕ)
    → r ≡ Ok (record { method = h.method; target = h.target; body = body }) → taken ≤ length body - length begun
    → IfOk r (λ m. taken ≤ length m.body - length begun)
few_of r h body begun taken is few = subst
    (λ (q : Result HttpIn WireFault). IfOk q (λ m. taken ≤ length m.body - length begun)) (sym is) few

-- the body that was read is the request's
pub body_gives : (was now : Option (List ℕ)) (h : RequestHead) (begun : List ℕ) (f : Framing) (n needed : ℕ)
    (body : List ℕ)
    (r : Result HttpIn WireFault) → AreNeeds h f n → Ok needed ≡ request_needs f n
    → AnswersBy was now (Ok body) (λ rest. body_of needed (begun ++ rest)) (λ all. length all - length begun)
    → UnlessNoMemory r (r ≡ Ok (record { method = h.method; target = h.target; body = body }))
    → AnswersBy was now r (λ rest. request_of h (begun ++ rest)) (λ m. length m.body - length begun)
body_gives was now h begun f n needed body r are is read (inl none) = inr (inl none)
body_gives was now h begun f n needed body r are is (inl unread) (inr made) = absurd cc
body_gives was now h begun f n needed body r are is (inr (inl none)) (inr made) = absurd cc
body_gives was now h begun f n needed body r are is (inr (inr reads)) (inr made) = inr (inr (record {
  taken = reads.taken;
  consumed = reads.consumed;
  is = made ∙ ap (of_body h) reads.is ∙ needs_give h f n needed (begun ++ (reads.taken ++ known now)) are is;
  few = few_of r h body begun (length reads.taken) made reads.few;
}))

grouped : (a b c d : List ℕ) → ((a ++ b) ++ c) ++ d ≡ a ++ (b ++ (c ++ d))
grouped a b c d = simp append_assoc

ends_soon : (r : Result HttpIn WireFault) (h : RequestHead) (all begun taken : ℕ)
    → all < length (print_request h) + 16384
    → all ≡ length (print_request h) + begun → IfOk r (λ m. taken ≤ length m.body - begun)
    → IfOk r (EndsSoon (all + taken) h)
ends_soon (Err e) h all begun taken soon is few = tt
ends_soon (Ok m) h all begun taken soon is few =
    elim (cases_lt (length m.body) begun) [
      | inl shorter ↦ inr (omega (arith, soon, shorter, few))
      | inr longer ↦ inl (omega (arith, is, longer, few))
    ]

-- a head that was found, and what is behind it, is the request
whole_request : (was mid now : Option (List ℕ)) (bytes : List ℕ) (fields : List HeaderSpan) (r : RequestSpans)
    (h : RequestHead) (q : Result HttpIn WireFault) → Consumes was mid bytes → IsRequestAt (front bytes) fields r h
    → IsTakenRequest h → IsRequestWithin (front bytes) fields r → length bytes < r.len + 16384
    → AnswersBy mid now q (λ rest. request_of h (drop r.len bytes ++ rest))
    (λ m. length m.body - length (drop r.len bytes))
    → UnlessUnread q (ReadsRequestFrom was now q)
whole_request was mid now bytes fields r h q read found taken within soon (inl unread) = inl unread
whole_request was mid now bytes fields r h q read found taken within soon (inr (inl none)) = inr (inl none)
whole_request was mid now bytes fields r h q read found taken within soon (inr (inr reads)) =
    let stands : bytes ≡ print_request h ++ drop r.len bytes =
    rw found.len (continued bytes (print_request h) (drop r.len (front bytes)) 2097152 found.reads.1) in
    let rest = drop r.len bytes ++ (reads.taken ++ known now) in
    let all : (bytes ++ reads.taken) ++ known now ≡ print_request h ++ rest =
    ap (λ (t : List ℕ). (t ++ reads.taken) ++ known now) stands
    ∙ grouped (print_request h) (drop r.len bytes) reads.taken (known now) in
    inr (inr (record {
      taken = bytes ++ reads.taken;
      consumed = consumes-append was mid now bytes reads.taken (bytes ++ reads.taken) refl read reads.consumed;
      is = whole h rest
          (record {
            taken = taken;
            reads = (found.reads.0, all);
            within = omega (arith, found.len, within.section.len_fits, front_few bytes);
          })
          reads.is;
      few = λ k other is.
          let same = request_unique ((bytes ++ reads.taken) ++ known now) h k rest other (found.reads.0, all) is in
          subst (λ (j : RequestHead). IfOk q (EndsSoon (length (bytes ++ reads.taken)) j)) same.0
          (subst (λ (n : ℕ). IfOk q (EndsSoon n h)) (sym (length-append bytes reads.taken))
          (ends_soon q h (length bytes) (length (drop r.len bytes)) (length reads.taken)
          (omega (arith, soon, found.len))
          (ap length stands ∙ length-append (print_request h) (drop r.len bytes)) reads.few));
    }))

-- the same by a slice of the bytes
pub whole_request_at : (was mid now : Option (List ℕ)) (bytes slice : List ℕ) (fields : List HeaderSpan)
    (r : RequestSpans)
    (h : RequestHead) (q : Result HttpIn WireFault) → slice ≡ bytes → Consumes was mid bytes
    → IsRequestAt (front bytes) fields r h
    → IsTakenRequest h → IsRequestWithin (front bytes) fields r → length bytes < r.len + 16384
    → (IsRequestAt (front slice) fields r h
    → AnswersBy mid now q (λ rest. request_of h (drop r.len slice ++ rest))
    (λ m. length m.body - length (drop r.len slice)))
    → UnlessUnread q (ReadsRequestFrom was now q)
whole_request_at was mid now bytes slice fields r h q same read found taken within soon behind =
    whole_request was mid now bytes fields r h q read found taken within soon
    (subst (λ (t : List ℕ). AnswersBy mid now q (λ rest. request_of h (drop r.len t ++ rest))
    (λ m. length m.body - length (drop r.len t))) same
    (behind (subst (λ (t : List ℕ). IsRequestAt (front t) fields r h) (sym same) found)))

-- ---- responses

-- the answer by a head's spans is the answer by the head
pub answered : (bytes : List ℕ) (fields : List HeaderSpan) (r : ResponseSpans) (h : ResponseHead)
    (given : Result HttpBack WireFault)
    → IsResponseAt (front bytes) fields r h → IsTakenResponse h → IsResponseWithin (front bytes) fields r
    → given ≡ response_of h (drop r.len bytes) → ResponseIs bytes given
answered bytes fields r h given found taken within is =
    let stands : bytes ≡ print_response h ++ drop r.len bytes =
    rw found.len (continued bytes (print_response h) (drop r.len (front bytes)) 2097152 found.reads.1) in
    whole_response h (drop r.len bytes)
    (record {
      taken = taken;
      reads = (found.reads.0, stands);
      within = omega (arith, found.len, within.section.len_fits, front_few bytes);
    })
    is
