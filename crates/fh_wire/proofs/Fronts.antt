-- What the clauses of `httparse` say of fronts that are refused, and of those that may still become heads.
use Rattle.std.proofs.Common.{◌≡◌, ◌≢◌, ℕ, ◌+◌, ◌<◌, ◌≤◌, ◌==◌, nat_le, Bool, true, false, ◌||◌, ◌&&◌, List, [], ◌∷◌, ◌++◌, length, refl, sym, ap, ◌∙◌, subst, arith, append_assoc, append-nil, length-append, length-take, take, flat_map, Option, Some, None, Result, Err, inl, inr}
use Rattle.std.specs.Prelude.{All, ◌⊎◌}
use Rattle.std.proofs.lemmas.List.{length-map}
use Rattle.std.proofs.lemmas.List.Elements.{All-append, All-weaker, All-cons, All-nil, All-push, All-head, All-tail, All-from_recursion}
use Rattle.std.proofs.lemmas.List.Sums.{fold-append}
use Rattle.std.proofs.lemmas.Bool.Decides.{nat_tests}
use Rattle.std.proofs.lemmas.Str.{IsUtf8-from_ascii}
use Rattle.std.proofs.lemmas.Str.Ascii.{IsAscii-from_all, All-from_ascii}
use Rattle.std.specs.List.{fold}
use Rattle.std.specs.Char.{is_ascii_digit}
use Rattle.std.specs.Str.{IsAscii}
use Rattle.httparse.specs.declared.Error.{Error}
use Rattle.httparse.specs.declared.Error.TheVariants.{HeaderName, HeaderValue, NewLine, Status, Token, TooManyHeaders, Version}
use Rattle.httparse.specs.Grammar.{LineEnd, crlf, lf, print_end, print_blank, print_version, print_reason, print_section, print_field, Field, IsField, is_token_byte, is_uri_byte, is_value_byte, RequestHead, IsRequestHead, ReadsRequest, NeverHasRequest, MayBecomeRequest, EndsInTarget, ResponseHead, IsResponseHead, ReadsResponse, NeverHasResponse, MayBecomeResponse, reason_phrase}
use Rattle.httparse.specs.Pieces.{Stops, is_newline}
use Rattle.httparse.specs.Spans.{AreFieldsAt, header_bytes, name_and_value, RequestExceeds, ResponseExceeds}
use Rattle.httparse.specs.declared.spans.HeaderSpan.{HeaderSpan}
use Rattle.httparse.proofs.PieceLemmas.{Stops_token}
use Rattle.httparse.proofs.GrammarLemmas.{print_request-append, print_response-append, cons-append}
use Rattle.fh_wire.specs.declared.scan.Place.TheVariants.{Inside, Start, Ended}
use Rattle.fh_wire.specs.declared.scan.Scan.{Scan}
use Rattle.fh_wire.specs.Scan.{fresh, stepped, head_lines, is_wide}
use Rattle.fh_wire.specs.Fronts.{IsRefusedResponse, IsRefusedRequest}
use Rattle.fh_wire.specs.Fronts.IsRefusedResponse.{long, never}
use Rattle.fh_wire.specs.Fronts.IsRefusedRequest.{long as long_request, wide as wide_request, never as never_request}
use Rattle.fh_wire.proofs.HeadLines.{step_lines, NoFeed, Plain, Passes, at, LeadsTo, step_inside, step_fresh, exceeding_lines, head_lines-append, whole_lines, whole_place, blanks_from_fresh, line_from_fresh, token_plain, value_plain, uri_plain, either_false}

-- an error is about the room for fields, or it isn't
pub either_fault : {A : Type 0} {P Q : Type 0} (e : Error) → (e ≢ TooManyHeaders → P)
    → (◌≡◌ {A = Result A Error} (Err e) (Err TooManyHeaders) → Q) → P ⊎ Q
either_fault TooManyHeaders other many = inr (many refl)
either_fault HeaderName other many = inl (other (λ is. cc))
either_fault HeaderValue other many = inl (other (λ is. cc))
either_fault NewLine other many = inl (other (λ is. cc))
either_fault Status other many = inl (other (λ is. cc))
either_fault Token other many = inl (other (λ is. cc))
either_fault Version other many = inl (other (λ is. cc))

-- ---- start lines

started : (ends : List LineEnd) (line : List ℕ) (e : LineEnd) → Stops is_newline line → Plain line
    → LeadsTo fresh (print_blank ends ++ (line ++ print_end e)) Start 1
started ends line e begins plain =
    let one = line_from_fresh line e begins plain in (
      one.0,
      fold-append stepped fresh (print_blank ends) _
          ∙ ap (λ (s : Scan). fold stepped s (line ++ print_end e)) (blanks_from_fresh ends) ∙ one.1,
    )

digit_plain : (b : ℕ) → is_ascii_digit b ≡ true → (b == 10) ≡ false
digit_plain b digit = grind (arith, nat_tests)

minor_plain : (minor : ℕ) → (48 + minor == 10) ≡ false
minor_plain minor = grind (arith, nat_tests)

version_plain : (minor : ℕ) → Plain (print_version minor)
version_plain minor =
    All-from_recursion NoFeed (print_version minor)
    (refl, (refl, (refl, (refl, (refl, (refl, (refl, (minor_plain minor, tt))))))))

reason_plain : (reason : Option (List ℕ)) → Plain (reason_phrase reason) → Plain (print_reason reason)
reason_plain None plain = plain
reason_plain (Some phrase) plain = All-cons NoFeed 32 phrase refl plain

response_line : (h : ResponseHead) → List ℕ
response_line h = print_version h.minor ++ 32 ∷ (h.digits ++ print_reason h.reason)

response_started : (h : ResponseHead) → IsResponseHead h
    → LeadsTo fresh (print_blank h.blank ++ (response_line h ++ print_end h.line_end)) Start 1
unfolding response_line
response_started h is =
    started h.blank (response_line h) h.line_end refl
    (All-append NoFeed (print_version h.minor) (32 ∷ (h.digits ++ print_reason h.reason)) (version_plain h.minor)
    (All-cons NoFeed 32 (h.digits ++ print_reason h.reason) refl
    (All-append NoFeed h.digits (print_reason h.reason)
    (All-weaker (Passes is_ascii_digit) NoFeed digit_plain h.digits is.digits.1)
    (reason_plain h.reason (All-weaker (Passes is_value_byte) NoFeed value_plain _ is.reason)))))

request_line : (h : RequestHead) → List ℕ
request_line h = h.method ++ 32 ∷ (h.target ++ 32 ∷ print_version h.minor)

request_started : (h : RequestHead) → IsRequestHead h
    → LeadsTo fresh (print_blank h.blank ++ (request_line h ++ print_end h.line_end)) Start 1
unfolding request_line
request_started h is =
    started h.blank (request_line h) h.line_end
    (Stops_token h.method (32 ∷ (h.target ++ 32 ∷ print_version h.minor)) is.method.0 is.method.1)
    (All-append NoFeed h.method (32 ∷ (h.target ++ 32 ∷ print_version h.minor))
    (All-weaker (Passes is_token_byte) NoFeed token_plain h.method is.method.1)
    (All-cons NoFeed 32 (h.target ++ 32 ∷ print_version h.minor) refl
    (All-append NoFeed h.target (32 ∷ print_version h.minor)
    (All-weaker (Passes is_uri_byte) NoFeed uri_plain h.target is.target.1)
    (All-cons NoFeed 32 (print_version h.minor) refl (version_plain h.minor)))))

-- ---- heads with too many fields

exceeding : (bytes front rest : List ℕ) (fields : List Field) (room : ℕ) → bytes ≡ front ++ rest
    → head_lines front ≡ 1 + length fields → room < length fields → 1 + room < head_lines bytes
exceeding bytes front rest fields room is lines many =
    rw is (omega (arith, lines, many, head_lines-append front rest))

pub response_lines : (bytes : List ℕ) → ResponseExceeds 64 bytes → 65 < head_lines bytes
unfolding response_line
response_lines bytes x =
    let h = x.3 in
    exceeding bytes x.0 x.1 h.fields 64 x.2
    (exceeding_lines (print_blank h.blank ++ (response_line h ++ print_end h.line_end)) x.0 h.fields h.last
    (response_started h x.4.0) x.4.0.fields
    (x.4.1 ∙ print_response-append h [] ∙ simp (append_assoc, cons-append, append-nil)))
    x.5

pub request_lines : (bytes : List ℕ) → RequestExceeds 64 bytes → 65 < head_lines bytes
unfolding request_line
request_lines bytes x =
    let h = x.3 in
    exceeding bytes x.0 x.1 h.fields 64 x.2
    (exceeding_lines (print_blank h.blank ++ (request_line h ++ print_end h.line_end)) x.0 h.fields h.last
    (request_started h x.4.0) x.4.0.fields
    (x.4.1 ∙ print_request-append h [] ∙ simp (append_assoc, cons-append, append-nil)))
    x.5

-- ---- fronts that may still become heads

pub response_not_never : (bytes : List ℕ) → MayBecomeResponse bytes → ¬ (NeverHasResponse bytes)
response_not_never bytes may none = none may.0 may.1 [] may.2

low : (b : ℕ) → nat_le 128 b ≡ false → b < 128
low b is = grind (arith, nat_tests)

abbrev Low : ℕ → Type 0
Low b = b < 128

-- where no byte from 128 on was seen in a first line, there is none
narrow_inside : (w : Bool) (text : List ℕ) → Plain text → (fold stepped (at Inside 0 w) text).wide ≡ false
    → (w ≡ false) × All Low text
narrow_inside w [] plain is = (is, All-nil Low)
narrow_inside w (b ∷ text) plain is =
    let step = step_inside 0 w b (All-head NoFeed b text plain) in
    let rest = narrow_inside (w || nat_le 128 b) text (All-tail NoFeed b text plain)
    (ap (λ (s : Scan). (fold stepped s text).wide) (sym step) ∙ is) in
    let apart = either_false w (nat_le 128 b) rest.0 in
    (apart.0, All-cons Low b text (low b apart.1) rest.1)

narrow_fresh : (text : List ℕ) → Stops is_newline text → Plain text → (fold stepped fresh text).wide ≡ false
    → All Low text
narrow_fresh [] begins plain is = absurd begins
narrow_fresh (b ∷ text) begins plain is =
    let rest = narrow_inside (nat_le 128 b) text (All-tail NoFeed b text plain)
    (ap (λ (s : Scan). (fold stepped s text).wide) (sym (step_fresh b begins)) ∙ is) in
    All-cons Low b text (low b rest.0) rest.1

All-after : (P : ℕ → Type 0) (xs ys : List ℕ) → All P (xs ++ ys) → All P ys
All-after P [] ys all = all
All-after P (x ∷ xs) ys all = All-after P xs ys (All-tail P x (xs ++ ys) all)

narrow_target : (bytes : List ℕ) → is_wide bytes ≡ false → (e : EndsInTarget bytes) → All Low e.2
narrow_target bytes narrow e =
    let blank = e.0 in
    let method = e.1 in
    let target = e.2 in
    let token = e.3 in
    let line = method ++ 32 ∷ target in
    let grouped : bytes ≡ print_blank blank ++ line = e.5 ∙ append_assoc (print_blank blank) method (32 ∷ target) in
    let seen : (fold stepped fresh line).wide ≡ false =
    ap (λ (s : Scan). (fold stepped s line).wide) (sym (blanks_from_fresh blank))
    ∙ ap (λ (s : Scan). s.wide) (sym (fold-append stepped fresh (print_blank blank) line))
    ∙ ap is_wide (sym grouped) ∙ narrow in
    let plain : Plain line = All-append NoFeed method _
    (All-weaker (Passes is_token_byte) NoFeed token_plain method token.1)
    (All-cons NoFeed 32 target refl (All-weaker (Passes is_uri_byte) NoFeed uri_plain target e.4)) in
    All-tail Low 32 target (All-after Low method (32 ∷ target)
    (narrow_fresh line (Stops_token method _ token.0 token.1) plain seen))

pub request_not_never : (bytes : List ℕ) → is_wide bytes ≡ false → MayBecomeRequest bytes → ¬ (NeverHasRequest bytes)
request_not_never bytes narrow (inl x) none = none x.0 x.1 [] x.2
request_not_never bytes narrow (inr e) none =
    let h : RequestHead = record {
      blank = e.0;
      method = e.1;
      target = e.2 ++ 120 ∷ [];
      minor = 0;
      line_end = lf;
      fields = [];
      last = lf;
    } in
    let after = print_version 0 ++ (print_end lf ++ (print_section [] lf ++ [])) in
    none (120 ∷ 32 ∷ after) h [] (
      record {
        method = e.3;
        target = (omega (arith, length-append e.2 (120 ∷ [])), All-push (Passes is_uri_byte) e.2 120 e.4 refl);
        target_text = IsUtf8-from_ascii _ (IsAscii-from_all _
            (All-push Low e.2 120 (narrow_target bytes narrow e) (omega arith)));
        minor = omega arith;
        fields = All-nil IsField;
      },
      rw (e.5, print_request-append h []) (simp (append_assoc, cons-append)),
    )

-- ---- whole heads

pub response_whole_lines : (bytes : List ℕ) (h : ResponseHead) (rest : List ℕ) → ReadsResponse bytes h rest
    → head_lines bytes ≡ 1 + length h.fields
unfolding response_line
response_whole_lines bytes h rest reads =
    let start = print_blank h.blank ++ (response_line h ++ print_end h.line_end) in
    let grouped : bytes ≡ (start ++ (flat_map print_field h.fields ++ print_end h.last)) ++ rest =
    reads.1 ∙ print_response-append h rest ∙ simp (append_assoc, cons-append) in
    ap head_lines grouped ∙ whole_lines start rest h.fields h.last (response_started h reads.0) reads.0.fields

pub request_whole_place : (bytes : List ℕ) (h : RequestHead) (rest : List ℕ) → ReadsRequest bytes h rest
    → (fold stepped fresh bytes).place ≡ Ended
unfolding request_line
request_whole_place bytes h rest reads =
    let start = print_blank h.blank ++ (request_line h ++ print_end h.line_end) in
    let grouped : bytes ≡ (start ++ (flat_map print_field h.fields ++ print_end h.last)) ++ rest =
    reads.1 ∙ print_request-append h rest ∙ simp (append_assoc, cons-append) in
    ap (λ (text : List ℕ). (fold stepped fresh text).place) grouped
    ∙ whole_place start rest h.fields h.last (request_started h reads.0) reads.0.fields

pub request_whole_lines : (bytes : List ℕ) (h : RequestHead) (rest : List ℕ) → ReadsRequest bytes h rest
    → head_lines bytes ≡ 1 + length h.fields
unfolding request_line
request_whole_lines bytes h rest reads =
    let start = print_blank h.blank ++ (request_line h ++ print_end h.line_end) in
    let grouped : bytes ≡ (start ++ (flat_map print_field h.fields ++ print_end h.last)) ++ rest =
    reads.1 ∙ print_request-append h rest ∙ simp (append_assoc, cons-append) in
    ap head_lines grouped ∙ whole_lines start rest h.fields h.last (request_started h reads.0) reads.0.fields

wide_front : (scan : Scan) (more : List ℕ) → (fold stepped scan more).wide ≡ false → scan.wide ≡ false
wide_front scan [] is = is
wide_front scan (b ∷ more) is = (either_false scan.wide (scan.lines == 0 && nat_le 128 b)
    (wide_front (stepped scan b) more is)).0

-- the target of a whole head is ASCII text where its first line is
pub ascii_target : (bytes : List ℕ) (h : RequestHead) (rest : List ℕ) → ReadsRequest bytes h rest
    → is_wide bytes ≡ false
    → IsAscii h.target
ascii_target bytes h rest reads narrow =
    let front = print_blank h.blank ++ h.method ++ 32 ∷ h.target in
    let more = 32 ∷ (print_version h.minor ++ (print_end h.line_end ++ (print_section h.fields h.last ++ rest))) in
    let split : bytes ≡ front ++ more = reads.1 ∙ print_request-append h rest ∙ simp (append_assoc, cons-append) in
    let seen : (fold stepped (fold stepped fresh front) more).wide ≡ false =
    ap (λ (s : Scan). s.wide) (sym (fold-append stepped fresh front more)) ∙ ap is_wide (sym split) ∙ narrow in
    IsAscii-from_all h.target
    (narrow_target front (wide_front (fold stepped fresh front) more seen)
    (h.blank, h.method, h.target, reads.0.method, reads.0.target.1, refl))

-- ---- what a scan and a parse say together

pub response_refused : {A : Type 0} (bytes : List ℕ) (room : ℕ) (e : Error) → room ≡ 64
    → (e ≢ TooManyHeaders → NeverHasResponse bytes)
    → (◌≡◌ {A = Result A Error} (Err e) (Err TooManyHeaders) → ResponseExceeds room bytes) → IsRefusedResponse bytes
response_refused {A} bytes room e sized other many =
    elim (either_fault {A = A} e other many) [
      | inl none ↦ never none
      | inr over ↦ long
          (response_lines bytes (subst (λ n. ResponseExceeds n bytes) sized over))
    ]

pub request_refused : {A : Type 0} (bytes : List ℕ) (room : ℕ) (e : Error) → room ≡ 64
    → (e ≢ TooManyHeaders → NeverHasRequest bytes)
    → (◌≡◌ {A = Result A Error} (Err e) (Err TooManyHeaders) → RequestExceeds room bytes) → IsRefusedRequest bytes
request_refused {A} bytes room e sized other many =
    elim (either_fault {A = A} e other many) [
      | inl none ↦ never_request none
      | inr over ↦ long_request
          (request_lines bytes (subst (λ n. RequestExceeds n bytes) sized over))
    ]

pub request_not_refused : (bytes : List ℕ) → head_lines bytes ≤ 65 → is_wide bytes ≡ false → MayBecomeRequest bytes
    → ¬ (IsRefusedRequest bytes)
request_not_refused bytes few narrow may (long_request many) = absurd (omega (arith, few, many))
request_not_refused bytes few narrow may (wide_request is) = absurd cc
request_not_refused bytes few narrow may (never_request none) = request_not_never bytes narrow may none

pub few_fields : (bytes : List ℕ) (headers : List HeaderSpan) (count : ℕ) (fields : List Field)
    → AreFieldsAt bytes headers count fields
    → length headers ≡ 64 → length fields ≤ 64
few_fields bytes headers count fields are sized =
    omega (
      arith,
      ap length are,
      length-map (take count headers) (header_bytes bytes),
      length-map fields name_and_value,
      length-take count headers,
      sized,
    )

-- ---- the first line of a whole head whose target is ASCII text

off : (w x y : Bool) → w ≡ false → y ≡ false → (w || (x && y)) ≡ false
off w true y one two = rw (one, two) refl
off w false y one two = rw one refl

past : (w x y : Bool) → w ≡ false → x ≡ false → (w || (x && y)) ≡ false
past w x y one two = rw (one, two) refl

narrow_low : (scan : Scan) (text : List ℕ) → scan.wide ≡ false → All Low text → (fold stepped scan text).wide ≡ false
narrow_low scan [] is all = is
narrow_low scan (b ∷ text) is all =
    let lower : b < 128 = All-head Low b text all in
    narrow_low (stepped scan b) text (off scan.wide (scan.lines == 0) (nat_le 128 b) is (grind (arith, nat_tests)))
    (All-tail Low b text all)

narrow_past : (scan : Scan) (more : List ℕ) → scan.wide ≡ false → 1 ≤ scan.lines → (fold stepped scan more).wide ≡ false
narrow_past scan [] is lines = is
narrow_past scan (b ∷ more) is lines =
    narrow_past (stepped scan b) more (past scan.wide (scan.lines == 0) (nat_le 128 b) is (grind (arith, nat_tests)))
    (omega (arith, lines, step_lines scan b))

end_low : (e : LineEnd) → All Low (print_end e)
end_low lf = All-from_recursion Low (print_end lf) (omega arith, tt)
end_low crlf = All-from_recursion Low (print_end crlf) (omega arith, (omega arith, tt))

blank_low : (ends : List LineEnd) → All Low (print_blank ends)
blank_low [] = All-nil Low
blank_low (e ∷ ends) = All-append Low (print_end e) (print_blank ends) (end_low e) (blank_low ends)

token_low : (b : ℕ) → is_token_byte b ≡ true → b < 128
unfolding is_token_byte
token_low b token = grind (arith, nat_tests)

version_low : (minor : ℕ) → minor ≤ 1 → All Low (print_version minor)
version_low minor few =
    All-from_recursion Low (print_version minor) (
      omega arith,
      (
        omega arith,
        (
          omega arith,
          (omega arith, (omega arith, (omega arith, (omega arith, (omega arith, tt))))),
        ),
      ),
    )

line_low : (h : RequestHead) → IsRequestHead h → All Low h.target → All Low (request_line h)
unfolding request_line
line_low h is target =
    All-append Low h.method (32 ∷ (h.target ++ 32 ∷ print_version h.minor))
    (All-weaker (Passes is_token_byte) Low token_low h.method is.method.1)
    (All-cons Low 32 (h.target ++ 32 ∷ print_version h.minor) (omega arith)
    (All-append Low h.target (32 ∷ print_version h.minor) target
    (All-cons Low 32 (print_version h.minor) (omega arith) (version_low h.minor is.minor))))

pub request_whole_narrow : (bytes : List ℕ) (h : RequestHead) (rest : List ℕ) → ReadsRequest bytes h rest
    → IsAscii h.target
    → is_wide bytes ≡ false
unfolding request_line
request_whole_narrow bytes h rest reads ascii =
    let start = print_blank h.blank ++ (request_line h ++ print_end h.line_end) in
    let more = (flat_map print_field h.fields ++ print_end h.last) ++ rest in
    let split : bytes ≡ start ++ more = reads.1 ∙ print_request-append h rest ∙ simp (append_assoc, cons-append) in
    let begun = request_started h reads.0 in
    let narrow = narrow_low fresh start refl
    (All-append Low (print_blank h.blank) (request_line h ++ print_end h.line_end) (blank_low h.blank)
    (All-append Low (request_line h) (print_end h.line_end) (line_low h reads.0 (All-from_ascii h.target ascii))
    (end_low h.line_end))) in
    let lines : (fold stepped fresh start).lines ≡ 1 = ap (λ (s : Scan). s.lines) begun.1 in
    ap is_wide split ∙ ap (λ (s : Scan). s.wide) (fold-append stepped fresh start more)
    ∙ narrow_past (fold stepped fresh start) more narrow (omega (arith, lines))
