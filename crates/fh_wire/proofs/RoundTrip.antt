-- What is written is read: its head is a head of the grammar, and its length is that of the body.
use Rattle.std.proofs.Common.{◌≡◌, ℕ, zero, suc, ◌+◌, ◌/◌, ◌%◌, ◌^◌, ◌<◌, ◌≤◌, nat_lt, Bool, true, false, ◌&&◌, IsTrue, List, [], ◌∷◌, ◌++◌, length, map, reverse, Some, Result, Ok, refl, sym, ap, ◌∙◌, arith, rules, append_assoc, append-nil, length-append}
use Rattle.std.specs.Prelude.{All, codes, if◌then◌else◌}
use Rattle.std.specs.Char.{is_ascii, is_ascii_digit}
use Rattle.std.specs.Fmt.{decimal}
use Rattle.std.specs.List.{list_all}
use Rattle.std.specs.Str.Parse.{digits_value}
use Rattle.std.proofs.lemmas.Bool.Decides.{nat_tests, Decides-below_and}
use Rattle.std.proofs.lemmas.Fmt.{digits_decimal, digits_value-decimal, decimal_nonempty, length-decimal-le, decimal_step, decimal_digit}
use Rattle.std.proofs.lemmas.List.{take_all}
use Rattle.std.proofs.lemmas.List.Elements.{All-append, All-weaker, All-cons, All-nil, All-head, All-tail}
use Rattle.std.proofs.lemmas.Str.{IsUtf8-from_ascii}
use Rattle.std.proofs.lemmas.Str.Ascii.{IsAscii-from_all}
use Rattle.std.proofs.lemmas.Str.Parse.{IsNumeralModel, numerals_by_value}
use Rattle.httparse.specs.Grammar.{crlf, print_end, print_version, Field, IsField, is_token_byte, is_uri_byte, is_value_byte, AllPass, is_ows, skip_ows, trim_ows, RequestHead, IsRequestHead, print_request, ResponseHead, IsResponseHead, print_response}
use Rattle.httparse.specs.Spans.{name_and_value}
use Rattle.httparse.proofs.GrammarLemmas.{print_request-append, print_response-append, cons-append}
use Rattle.httparse.proofs.TrimLemmas.{trim_ows_space, AllPass-reverse}
use Rattle.http_header.proofs.TokenLemmas.{AllPass-from_test}
use Rattle.fh_base.specs.Numbers.{is_number, number_of}
use Rattle.fh_wire.specs.declared.fault.WireFault.{WireFault}
use Rattle.fh_wire.specs.declared.fields.Framing.{Framing}
use Rattle.fh_wire.specs.Fields.{kind_of, framing, plain}
use Rattle.fh_wire.specs.Messages.{ResponseIs}
use Rattle.fh_wire.specs.Messages.RequestIs.{whole}
use Rattle.fh_wire.specs.Messages.ResponseIs.{whole as whole_response}
use Rattle.fh_wire.specs.Sizes.{◌>>=◌, request_needs, response_needs, body_of}
use Rattle.fh_wire.specs.Written.{IsPath, request_text, response_text, full_text, bare_text, has_content, phrase_of, PostedIsRead, AnsweredIsRead}

-- ---- numbers

own : IsNumeralModel (λ word. list_all is_ascii_digit word ≡ true) (digits_value 10)
own = numerals_by_value _ (search rules)

number_is : (text : List ℕ) (n : ℕ) → list_all is_ascii_digit text ≡ true → digits_value 10 text ≡ n → 0 < length text
    → length text ≤ 15 → number_of text ≡ Some n
unfolding number_of
number_is text n digits value some few =
    let tested : is_number text ≡ true = grind (arith, nat_tests) in
    rw (tested, value) refl

all_digits : (n : ℕ) → n < 2 ^ 64 → AllPass is_ascii_digit (decimal n)
all_digits n small = AllPass-from_test is_ascii_digit (decimal n) (digits_decimal own n small)

number_read : (n : ℕ) → n ≤ 2097152 → number_of (decimal n) ≡ Some n
number_read n few =
    let small : n < 2 ^ 64 = omega arith in
    number_is (decimal n) n (digits_decimal own n small) (digits_value-decimal own n small) (decimal_nonempty n small)
    (length-decimal-le 15 n (omega arith) (omega arith) small)

unskipped : (text : List ℕ) → AllPass is_ascii_digit text → skip_ows text ≡ text
unskipped [] all = refl
unskipped (b ∷ text) all =
    let digit = All-head (λ x. IsTrue (is_ascii_digit x)) b text all in
    let other : is_ows b ≡ false = grind (arith, nat_tests) in
    rw other refl

trimmed : (text : List ℕ) → AllPass is_ascii_digit text → trim_ows (32 ∷ text) ≡ text
trimmed text all = trim_ows_space text (unskipped text all)
    (unskipped (reverse text) (AllPass-reverse is_ascii_digit text all))

all_ascii : (text : List ℕ) → AllPass is_ascii_digit text → list_all is_ascii text ≡ true
all_ascii [] all = refl
all_ascii (b ∷ text) all =
    let digit = All-head (λ x. IsTrue (is_ascii_digit x)) b text all in
    let low : is_ascii b ≡ true = grind (arith, nat_tests) in
    let rest = all_ascii text (All-tail (λ x. IsTrue (is_ascii_digit x)) b text all) in
    rw (low, rest) refl

digit_value_byte : (b : ℕ) → is_ascii_digit b ≡ true → is_value_byte b ≡ true
digit_value_byte b digit = grind (arith, nat_tests)

value_digits : (text : List ℕ) → AllPass is_ascii_digit text → AllPass is_value_byte text
value_digits text all = All-weaker (λ b. IsTrue (is_ascii_digit b)) (λ b. IsTrue (is_value_byte b))
    digit_value_byte text all

-- ---- fields

abbrev field : List ℕ → List ℕ → Field
field name raw = record { name = name; raw = raw; end = crlf }

abbrev type_field : Field
type_field = field (codes "Content-Type") (codes " application/json")

abbrev size_field : List ℕ → Field
size_field size = field (codes "Content-Length") (32 ∷ size)

abbrev close_field : Field
close_field = field (codes "Connection") (codes " close")

abbrev host_field : List ℕ → Field
host_field port = field (codes "Host") (codes " 127.0.0.1:" ++ port)

type_is : IsField type_field
unfolding is_token_byte
type_is = record {
  name = (omega arith, AllPass-from_test is_token_byte (codes "Content-Type") refl);
  raw = AllPass-from_test is_value_byte (codes " application/json") refl;
}

size_is : (size : List ℕ) → AllPass is_ascii_digit size → IsField (size_field size)
unfolding is_token_byte
size_is size digits = record {
  name = (omega arith, AllPass-from_test is_token_byte (codes "Content-Length") refl);
  raw = All-cons (λ b. IsTrue (is_value_byte b)) 32 size refl (value_digits size digits);
}

close_is : IsField close_field
unfolding is_token_byte
close_is = record {
  name = (omega arith, AllPass-from_test is_token_byte (codes "Connection") refl);
  raw = AllPass-from_test is_value_byte (codes " close") refl;
}

host_is : (port : List ℕ) → AllPass is_ascii_digit port → IsField (host_field port)
unfolding is_token_byte
host_is port digits = record {
  name = (omega arith, AllPass-from_test is_token_byte (codes "Host") refl);
  raw = All-append (λ b. IsTrue (is_value_byte b)) (codes " 127.0.0.1:") port
      (AllPass-from_test is_value_byte (codes " 127.0.0.1:") refl) (value_digits port digits);
}

answered_fields : (size : List ℕ) → AllPass is_ascii_digit size
    → All IsField (type_field ∷ size_field size ∷ close_field ∷ [])
answered_fields size digits =
    All-cons IsField type_field (size_field size ∷ close_field ∷ []) type_is
    (All-cons IsField (size_field size) (close_field ∷ []) (size_is size digits)
    (All-cons IsField close_field [] close_is (All-nil IsField)))

abbrev sized : ℕ → Framing
sized n = record { wide = false; chunked = false; coded = false; unread = false; length = Some n }

framing_posted : (port size : List ℕ) (n : ℕ) → trim_ows (32 ∷ size) ≡ size → number_of size ≡ Some n
    → list_all is_ascii size ≡ true
    → framing (map name_and_value (host_field port ∷ type_field ∷ size_field size ∷ close_field ∷ [])) ≡ sized n
unfolding kind_of
framing_posted port size n value number low = rw (value, number, low) refl

framing_answered : (size : List ℕ) (n : ℕ) → trim_ows (32 ∷ size) ≡ size → number_of size ≡ Some n
    → list_all is_ascii size ≡ true
    → framing (map name_and_value (type_field ∷ size_field size ∷ close_field ∷ [])) ≡ sized n
unfolding kind_of
framing_answered size n value number low = rw (value, number, low) refl

body_whole : (body : List ℕ) → body_of (length body) body ≡ Ok body
body_whole body =
    let whole : nat_lt (length body) (length body) ≡ false = grind (arith, nat_tests) in
    rw whole (ap (λ (t : List ℕ). Ok t) (take_all (length body) body (omega arith)))

request_room : (head n : ℕ) → head + n ≤ 2097152 → request_needs (sized n) head ≡ Ok n
request_room head n few =
    let room : nat_lt 2097152 (head + n) ≡ false = grind (arith, nat_tests) in
    rw room refl

response_room : (head n : ℕ) → head + n ≤ 2097152 → response_needs (sized n) head n ≡ Ok n
response_room head n few =
    let room : nat_lt 2097152 (head + n) ≡ false = grind (arith, nat_tests) in
    rw room refl

-- ---- requests

path_uri : (b : ℕ) → (33 ≤ b) × (b ≤ 126) → is_uri_byte b ≡ true
path_uri b path = grind (arith, nat_tests)

path_low : (b : ℕ) → (33 ≤ b) × (b ≤ 126) → b < 128
path_low b path = omega (arith, path.1)

posted_head : List ℕ → List ℕ → List ℕ → RequestHead
posted_head name port size = record {
  blank = [];
  method = codes "POST";
  target = 47 ∷ name;
  minor = 0;
  line_end = crlf;
  fields = host_field port ∷ type_field ∷ size_field size ∷ close_field ∷ [];
  last = crlf;
}

posted_is : (name port size : List ℕ) → IsPath name → AllPass is_ascii_digit port → AllPass is_ascii_digit size
    → IsRequestHead (posted_head name port size)
unfolding posted_head is_token_byte
posted_is name port size path ports sizes = record {
  method = (omega arith, AllPass-from_test is_token_byte (codes "POST") refl);
  target = (
    omega arith,
    All-cons (λ b. IsTrue (is_uri_byte b)) 47 name refl
        (All-weaker (λ b. (33 ≤ b) × (b ≤ 126)) (λ b. IsTrue (is_uri_byte b)) path_uri name path),
  );
  target_text = IsUtf8-from_ascii (47 ∷ name)
      (IsAscii-from_all (47 ∷ name) (All-cons (λ b. b < 128) 47 name (omega arith)
      (All-weaker (λ b. (33 ≤ b) × (b ≤ 126)) (λ b. b < 128) path_low name path)));
  minor = omega arith;
  fields = All-cons IsField (host_field port) (type_field ∷ size_field size ∷ close_field ∷ []) (host_is port ports)
      (answered_fields size sizes);
}

request_grouped : (m name v e h a p t u l s c d body : List ℕ)
    → (((m ++ 32 ∷ 47 ∷ []) ++ name ++ 32 ∷ v) ++ e) ++ (((h ++ 58 ∷ a) ++ p) ++ e)
    ++ (((t ++ 58 ∷ u) ++ e) ++ (((l ++ 58 ∷ 32 ∷ []) ++ s) ++ e) ++ ((c ++ 58 ∷ d) ++ e) ++ ([] ++ e)) ++ body
    ≡ m ++ 32 ∷ ((47 ∷ name) ++ 32 ∷ (v ++
    (e ++ ((((h ++ 58 ∷ (a ++ p) ++ e) ++ ((t ++ 58 ∷ u ++ e)
    ++ ((l ++ 58 ∷ (32 ∷ s) ++ e) ++ ((c ++ 58 ∷ d ++ e) ++ [])))) ++ e) ++ body))))
request_grouped m name v e h a p t u l s c d body = simp (append_assoc, cons-append, append-nil)

posted_printed : (name : List ℕ) (port : ℕ) (body : List ℕ)
    → request_text name port body ≡ print_request (posted_head name (decimal port) (decimal (length body))) ++ body
unfolding posted_head
posted_printed name port body =
    request_grouped (codes "POST") name (print_version 0) (print_end crlf) (codes "Host") (codes " 127.0.0.1:")
    (decimal port)
    (codes "Content-Type") (codes " application/json") (codes "Content-Length") (decimal (length body))
    (codes "Connection") (codes " close") body
    ∙ sym (print_request-append (posted_head name (decimal port) (decimal (length body))) body)

pub posted_read : (name : List ℕ) (port : ℕ) (body : List ℕ) → IsPath name → port < 2 ^ 16
    → length (request_text name port body) ≤ 2097152 → PostedIsRead name port body
unfolding posted_head
posted_read name port body path small few =
    let h = posted_head name (decimal port) (decimal (length body)) in
    let printed = posted_printed name port body in
    let counted : length (print_request h) + length body ≤ 2097152 =
    omega (arith, few, ap length printed, length-append (print_request h) body) in
    let size : length body < 2 ^ 64 = omega (arith, counted) in
    let digits = all_digits (length body) size in
    let fields = framing_posted (decimal port) (decimal (length body)) (length body) (trimmed _ digits)
    (number_read (length body) (omega (arith, counted))) (all_ascii _ digits) in
    whole h body
    (record {
      taken = (
        omega arith,
        IsAscii-from_all (47 ∷ name)
            (All-cons (λ b. b < 128) 47 name (omega arith)
            (All-weaker (λ b. (33 ≤ b) × (b ≤ 126)) (λ b. b < 128) path_low name path)),
      );
      reads = (
        posted_is name (decimal port) (decimal (length body)) path (all_digits port (omega (arith, small)))
            digits,
        printed,
      );
      within = omega (arith, counted);
    })
    (sym (ap (λ (f : Framing). request_needs f (length (print_request h)) >>= λ needed.
    (body_of needed body >>= λ read. Ok (record { method = codes "POST"; target = 47 ∷ name; body = read }))) fields
    ∙ ap (λ (r : Result ℕ WireFault). r >>= λ needed.
    (body_of needed body >>= λ read. Ok (record { method = codes "POST"; target = 47 ∷ name; body = read })))
    (request_room (length (print_request h)) (length body) counted)
    ∙ ap (λ (r : Result (List ℕ) WireFault). r >>= λ read. Ok
    (record { method = codes "POST"; target = 47 ∷ name; body = read })) (body_whole body)))

-- ---- responses

abbrev passes_below : ℕ → Bool
passes_below zero = true
passes_below (suc n) = list_all is_value_byte (phrase_of n) && passes_below n

phrase_passes : (status : ℕ) → status < 1000 → AllPass is_value_byte (phrase_of status)
phrase_passes status few =
    let test = λ (k : ℕ). list_all is_value_byte (phrase_of k) in
    AllPass-from_test is_value_byte (phrase_of status)
    ((Decides-below_and test (λ k. test k ≡ true) passes_below (λ k. (λ x. x, λ x. x)) refl (λ _. refl)
    1000).0 refl status few)

three_digits : (status : ℕ) → 100 ≤ status → status < 1000 → length (decimal status) ≡ 3
three_digits status low high =
    let one = decimal_step status (omega arith) (omega arith) in
    let two = decimal_step (status / 10) (omega arith) (omega arith) in
    let three = decimal_digit (status / 10 / 10) (omega arith) in
    omega (
      arith,
      ap length one,
      length-append (decimal (status / 10)) ((48 + status % 10) ∷ []),
      ap length two,
      length-append (decimal (status / 10 / 10)) ((48 + status / 10 % 10) ∷ []),
      ap length three,
    )

answered_head : List ℕ → List ℕ → List ℕ → ResponseHead
answered_head status phrase size = record {
  blank = [];
  minor = 1;
  digits = status;
  reason = Some phrase;
  line_end = crlf;
  fields = type_field ∷ size_field size ∷ close_field ∷ [];
  last = crlf;
}

answered_is : (status phrase size : List ℕ) → length status ≡ 3 → AllPass is_ascii_digit status
    → AllPass is_value_byte phrase
    → AllPass is_ascii_digit size → IsResponseHead (answered_head status phrase size)
unfolding answered_head
answered_is status phrase size three digits passes sizes = record {
  minor = omega arith;
  digits = (three, digits);
  reason = passes;
  fields = answered_fields size sizes;
}

response_grouped : (v n q e t u l s c d body : List ℕ)
    → (((v ++ 32 ∷ []) ++ n ++ 32 ∷ [] ++ q) ++ e)
    ++ (((t ++ 58 ∷ u) ++ e) ++ (((l ++ 58 ∷ 32 ∷ []) ++ s) ++ e) ++ ((c ++ 58 ∷ d) ++ e) ++ ([] ++ e)) ++ body
    ≡ v ++ 32 ∷ (n ++ ((32 ∷ q) ++ (e ++
    ((((t ++ 58 ∷ u ++ e) ++ ((l ++ 58 ∷ (32 ∷ s) ++ e) ++ ((c ++ 58 ∷ d ++ e) ++ []))) ++ e) ++ body))))
response_grouped v n q e t u l s c d body = simp (append_assoc, cons-append, append-nil)

answered_printed : (status : ℕ) (body : List ℕ)
    → full_text status body ≡ print_response
    (answered_head (decimal status) (phrase_of status) (decimal (length body))) ++ body
unfolding answered_head
answered_printed status body =
    response_grouped (print_version 1) (decimal status) (phrase_of status) (print_end crlf)
    (codes "Content-Type") (codes " application/json") (codes "Content-Length") (decimal (length body))
    (codes "Connection") (codes " close") body
    ∙ sym (print_response-append (answered_head (decimal status) (phrase_of status) (decimal (length body))) body)

full_read : (status : ℕ) (body : List ℕ) → 100 ≤ status → status < 1000
    → length (full_text status body) ≤ 2097152
    → ResponseIs (full_text status body) (Ok (record { status = status; body = body }))
unfolding answered_head
full_read status body low high few =
    let h = answered_head (decimal status) (phrase_of status) (decimal (length body)) in
    let printed = answered_printed status body in
    let counted : length (print_response h) + length body ≤ 2097152 =
    omega (arith, few, ap length printed, length-append (print_response h) body) in
    let small : status < 2 ^ 64 = omega (arith, high) in
    let size : length body < 2 ^ 64 = omega (arith, counted) in
    let digits = all_digits (length body) size in
    let fields = framing_answered (decimal (length body)) (length body) (trimmed _ digits)
    (number_read (length body) (omega (arith, counted))) (all_ascii _ digits) in
    whole_response h body
    (record {
      taken = omega arith;
      reads = (
        answered_is (decimal status) (phrase_of status) (decimal (length body)) (three_digits status low high)
            (all_digits status small) (phrase_passes status high) digits,
        printed,
      );
      within = omega (arith, counted);
    })
    (sym (ap (λ (f : Framing). response_needs f (length (print_response h)) (length body) >>= λ needed.
    (body_of needed body >>= λ read. Ok (record { status = digits_value 10 (decimal status); body = read }))) fields
    ∙ ap (λ (r : Result ℕ WireFault). r >>= λ needed.
    (body_of needed body >>= λ read. Ok (record { status = digits_value 10 (decimal status); body = read })))
    (response_room (length (print_response h)) (length body) counted)
    ∙ ap (λ (r : Result (List ℕ) WireFault). r >>= λ read. Ok
    (record { status = digits_value 10 (decimal status); body = read })) (body_whole body)
    ∙ ap (λ (s : ℕ). Ok (record { status = s; body = body })) (digits_value-decimal own status small)))

-- ---- responses without content

bare_head : List ℕ → List ℕ → ResponseHead
bare_head status phrase = record {
  blank = [];
  minor = 1;
  digits = status;
  reason = Some phrase;
  line_end = crlf;
  fields = close_field ∷ [];
  last = crlf;
}

bare_is : (status phrase : List ℕ) → length status ≡ 3 → AllPass is_ascii_digit status
    → AllPass is_value_byte phrase → IsResponseHead (bare_head status phrase)
unfolding bare_head
bare_is status phrase three digits passes = record {
  minor = omega arith;
  digits = (three, digits);
  reason = passes;
  fields = All-cons IsField close_field [] close_is (All-nil IsField);
}

bare_grouped : (v n q e c d : List ℕ)
    → (((v ++ 32 ∷ []) ++ n ++ 32 ∷ [] ++ q) ++ e) ++ ((c ++ 58 ∷ d) ++ e) ++ ([] ++ e)
    ≡ v ++ 32 ∷ (n ++ ((32 ∷ q) ++ (e ++ ((((c ++ 58 ∷ d ++ e) ++ []) ++ e) ++ []))))
bare_grouped v n q e c d = simp (append_assoc, cons-append, append-nil)

bare_printed : (status : ℕ)
    → bare_text status ≡ print_response (bare_head (decimal status) (phrase_of status)) ++ []
unfolding bare_head
bare_printed status =
    bare_grouped (print_version 1) (decimal status) (phrase_of status) (print_end crlf)
    (codes "Connection") (codes " close")
    ∙ sym (print_response-append (bare_head (decimal status) (phrase_of status)) [])

framing_bare : framing (map name_and_value (close_field ∷ [])) ≡ plain
unfolding kind_of
framing_bare = refl

bare_room : (head : ℕ) → head + 0 ≤ 2097152 → response_needs plain head 0 ≡ Ok 0
bare_room head few =
    let room : nat_lt 2097152 (head + 0) ≡ false = grind (arith, nat_tests) in
    rw room refl

bare_read : (status : ℕ) → 100 ≤ status → status < 1000 → length (bare_text status) ≤ 2097152
    → ResponseIs (bare_text status) (Ok (record { status = status; body = [] }))
unfolding bare_head
bare_read status low high few =
    let h = bare_head (decimal status) (phrase_of status) in
    let printed = bare_printed status in
    let counted : length (print_response h) + 0 ≤ 2097152 =
    omega (arith, few, ap length printed, length-append (print_response h) []) in
    let small : status < 2 ^ 64 = omega (arith, high) in
    whole_response h []
    (record {
      taken = omega arith;
      reads = (
        bare_is (decimal status) (phrase_of status) (three_digits status low high) (all_digits status small)
            (phrase_passes status high),
        printed,
      );
      within = omega (arith, counted);
    })
    (sym (ap (λ (f : Framing). response_needs f (length (print_response h)) 0 >>= λ needed.
    (body_of needed [] >>= λ read. Ok (record { status = digits_value 10 (decimal status); body = read })))
    framing_bare
    ∙ ap (λ (r : Result ℕ WireFault). r >>= λ needed.
    (body_of needed [] >>= λ read. Ok (record { status = digits_value 10 (decimal status); body = read })))
    (bare_room (length (print_response h)) counted)
    ∙ ap (λ (s : ℕ). Ok (record { status = s; body = [] })) (digits_value-decimal own status small)))

either_read : (content : Bool) (status : ℕ) (body : List ℕ) → 100 ≤ status → status < 1000
    → length (if content then full_text status body else bare_text status) ≤ 2097152
    → ResponseIs (if content then full_text status body else bare_text status)
    (Ok (record { status = status; body = if content then body else [] }))
either_read true status body low high few = full_read status body low high few
either_read false status body low high few = bare_read status low high few

pub answered_read : (status : ℕ) (body : List ℕ) → 100 ≤ status → status < 1000
    → length (response_text status body) ≤ 2097152 → AnsweredIsRead status body
answered_read status body low high few = either_read (has_content status) status body low high few
