-- A scan of a head's start line and fields counts each of them.
use Rattle.std.proofs.Common.{◌≡◌, ℕ, ◌+◌, ◌≤◌, ◌==◌, nat_le, Bool, true, false, ◌&&◌, ◌||◌, if◌then◌else◌, List, [], ◌∷◌, ◌++◌, length, refl, sym, ap, ◌∙◌, arith, append_assoc, flat_map}
use Rattle.std.specs.Prelude.{All}
use Rattle.std.specs.List.{fold}
use Rattle.std.proofs.lemmas.Bool.Decides.{nat_tests}
use Rattle.std.proofs.lemmas.List.Elements.{All-head, All-tail, All-push, All-append, All-weaker, All-cons}
use Rattle.std.proofs.lemmas.List.Sums.{fold-append}
use Rattle.httparse.specs.Grammar.{LineEnd, crlf, lf, print_end, print_blank, Field, print_field, IsField, is_token_byte, is_uri_byte, is_value_byte}
use Rattle.httparse.specs.Pieces.{Stops, is_newline}
use Rattle.httparse.proofs.PieceLemmas.{Stops_token, token_is_no_newline}
use Rattle.fh_wire.specs.declared.scan.Place.{Place}
use Rattle.fh_wire.specs.declared.scan.Place.TheVariants.{Before, Inside, Start, Returned, Ended}
use Rattle.fh_wire.specs.declared.scan.Scan.{Scan}
use Rattle.fh_wire.specs.Scan.{ends_line, fresh, stepped, head_lines}

-- no line feed
abbrev pub NoFeed : ℕ → Type 0
NoFeed b = (b == 10) ≡ false

abbrev pub Plain : List ℕ → Type 0
Plain text = All NoFeed text

-- the byte passes the test
abbrev pub Passes : (ℕ → Bool) → ℕ → Type 0
Passes test b = test b ≡ true

abbrev pub at : Place → ℕ → Bool → Scan
at place lines wide = record { place = place; lines = lines; wide = wide }

-- these bytes end lines and lead here
abbrev pub LeadsTo : Scan → List ℕ → Place → ℕ → Type 0
LeadsTo scan text place lines = (wide : Bool) × (fold stepped scan text ≡ at place lines wide)

pub either_false : (a b : Bool) → (a || b) ≡ false → (a ≡ false) × (b ≡ false)
either_false true b is = absurd cc
either_false false b is = (refl, is)

pub token_plain : (b : ℕ) → is_token_byte b ≡ true → (b == 10) ≡ false
token_plain b token = (either_false (b == 13) (b == 10) (token_is_no_newline b token)).1

pub value_plain : (b : ℕ) → is_value_byte b ≡ true → (b == 10) ≡ false
value_plain b value = grind (arith, nat_tests)

pub uri_plain : (b : ℕ) → is_uri_byte b ≡ true → (b == 10) ≡ false
uri_plain b value = grind (arith, nat_tests)

pub step_inside : (n : ℕ) (w : Bool) (b : ℕ) → NoFeed b
    → stepped (at Inside n w) b ≡ at Inside n (w || (n == 0 && nat_le 128 b))
step_inside n w b other = rw other refl

step_start : (n : ℕ) (w : Bool) (b : ℕ) → is_newline b ≡ false
    → stepped (at Start n w) b ≡ at Inside n (w || (n == 0 && nat_le 128 b))
step_start n w b other =
    let apart = either_false (b == 13) (b == 10) other in
    rw (apart.1, apart.0) refl

pub step_fresh : (b : ℕ) → is_newline b ≡ false → stepped fresh b ≡ at Inside 0 (nat_le 128 b)
step_fresh b other = rw other refl

onward : (s t : Scan) (b : ℕ) (text : List ℕ) (p : Place) (m : ℕ) → stepped s b ≡ t → LeadsTo t text p m
    → LeadsTo s (b ∷ text) p m
onward s t b text p m is leads = (leads.0, ap (λ (r : Scan). fold stepped r text) is ∙ leads.1)

fed : (n : ℕ) (w : Bool) (text : List ℕ) → Plain text → LeadsTo (at Inside n w) (text ++ 10 ∷ []) Start (n + 1)
fed n w [] plain = (w || (n == 0 && nat_le 128 10), refl)
fed n w (b ∷ text) plain =
    onward (at Inside n w) (at Inside n (w || (n == 0 && nat_le 128 b))) b (text ++ 10 ∷ []) Start (n + 1)
    (step_inside n w b (All-head NoFeed b text plain))
    (fed n (w || (n == 0 && nat_le 128 b)) text (All-tail NoFeed b text plain))

-- the rest of a line, and its end
ended : (n : ℕ) (w : Bool) (text : List ℕ) (e : LineEnd) → Plain text
    → LeadsTo (at Inside n w) (text ++ print_end e) Start (n + 1)
ended n w text lf plain = fed n w text plain
ended n w text crlf plain =
    let leads = fed n w (text ++ 13 ∷ []) (All-push NoFeed text 13 plain refl) in
    (leads.0, ap (fold stepped (at Inside n w)) (sym (append_assoc text (13 ∷ []) (10 ∷ []))) ∙ leads.1)

-- a line of a head, and its end
line_from_start : (n : ℕ) (w : Bool) (text : List ℕ) (e : LineEnd) → Stops is_newline text → Plain text
    → LeadsTo (at Start n w) (text ++ print_end e) Start (n + 1)
line_from_start n w [] e begins plain = absurd begins
line_from_start n w (b ∷ text) e begins plain =
    onward (at Start n w) (at Inside n (w || (n == 0 && nat_le 128 b))) b (text ++ print_end e) Start (n + 1)
    (step_start n w b begins)
    (ended n (w || (n == 0 && nat_le 128 b)) text e (All-tail NoFeed b text plain))

pub line_from_fresh : (text : List ℕ) (e : LineEnd) → Stops is_newline text → Plain text
    → LeadsTo fresh (text ++ print_end e) Start 1
line_from_fresh [] e begins plain = absurd begins
line_from_fresh (b ∷ text) e begins plain =
    onward fresh (at Inside 0 (nat_le 128 b)) b (text ++ print_end e) Start 1 (step_fresh b begins)
    (ended 0 (nat_le 128 b) text e (All-tail NoFeed b text plain))

pub joined : (scan : Scan) (a b : List ℕ) (p q : Place) (n m : ℕ) → LeadsTo scan a p n
    → ((w : Bool) → LeadsTo (at p n w) b q m) → LeadsTo scan (a ++ b) q m
joined scan a b p q n m one two =
    let second = two one.0 in
    (second.0, fold-append stepped scan a b ∙ ap (λ (s : Scan). fold stepped s b) one.1 ∙ second.1)

field_plain : (f : Field) → IsField f → Plain (f.name ++ 58 ∷ f.raw)
field_plain f is =
    All-append NoFeed f.name (58 ∷ f.raw) (All-weaker (Passes is_token_byte) NoFeed token_plain f.name is.name.1)
    (All-cons NoFeed 58 f.raw refl (All-weaker (Passes is_value_byte) NoFeed value_plain f.raw is.raw))

field_from_start : (n : ℕ) (w : Bool) (f : Field) → IsField f → LeadsTo (at Start n w) (print_field f) Start (n + 1)
field_from_start n w f is =
    line_from_start n w (f.name ++ 58 ∷ f.raw) f.end (Stops_token f.name (58 ∷ f.raw) is.name.0 is.name.1)
    (field_plain f is)

pub fields_from_start : (n m : ℕ) (w : Bool) (fields : List Field) → All IsField fields → m ≡ n + length fields
    → LeadsTo (at Start n w) (flat_map print_field fields) Start m
fields_from_start n m w [] are counted = (w, ap (λ (k : ℕ). at Start k w) (omega arith))
fields_from_start n m w (f ∷ fields) are counted =
    joined (at Start n w) (print_field f) (flat_map print_field fields) Start Start (n + 1) m
    (field_from_start n w f (All-head IsField f fields are))
    (λ v. fields_from_start (n + 1) m v fields (All-tail IsField f fields are) (omega arith))

pub blanks_from_fresh : (ends : List LineEnd) → fold stepped fresh (print_blank ends) ≡ fresh
blanks_from_fresh [] = refl
blanks_from_fresh (lf ∷ ends) = blanks_from_fresh ends
blanks_from_fresh (crlf ∷ ends) = blanks_from_fresh ends

pub end_from_start : (n : ℕ) (w : Bool) (e : LineEnd) → LeadsTo (at Start n w) (print_end e) Ended n
end_from_start n w lf = (_, refl)
end_from_start n w crlf = (_, refl)

-- the byte that ends a head ends no line that isn't empty
pub ended_by : (scan : Scan) (b n : ℕ) (w : Bool) → stepped scan b ≡ at Ended n w → scan.lines ≡ n
ended_by scan b n w is = by_place scan.place scan.lines scan.wide is
  where
    by_place : (p : Place) (m : ℕ) (v : Bool) → stepped (at p m v) b ≡ at Ended n w → m ≡ n
    by_place Before m v is = ap (λ (s : Scan). s.lines) is
    by_place Inside m v is = by_test (b == 10) (ap (λ (s : Scan). s.place) is) (ap (λ (s : Scan). s.lines) is)
      where
        by_test : (t : Bool) → (if t then Start else Inside) ≡ Ended → (if t then m + 1 else m) ≡ n → m ≡ n
        by_test true place lines = absurd cc
        by_test false place lines = lines
    by_place Start m v is = ap (λ (s : Scan). s.lines) is
    by_place Returned m v is = ap (λ (s : Scan). s.lines) is
    by_place Ended m v is = ap (λ (s : Scan). s.lines) is

pub step_lines : (scan : Scan) (b : ℕ) → scan.lines ≤ (stepped scan b).lines
step_lines scan b = by_test (ends_line scan.place b)
  where
    by_test : (t : Bool) → scan.lines ≤ (if t then scan.lines + 1 else scan.lines)
    by_test true = omega arith
    by_test false = omega arith

lines_grow : (scan : Scan) (more : List ℕ) → scan.lines ≤ (fold stepped scan more).lines
lines_grow scan [] = omega arith
lines_grow scan (b ∷ more) = omega (arith, step_lines scan b, lines_grow (stepped scan b) more)

-- more bytes take no line away
pub head_lines-append : (bytes more : List ℕ) → head_lines bytes ≤ head_lines (bytes ++ more)
head_lines-append bytes more =
    let joint : head_lines (bytes ++ more) ≡ (fold stepped (fold stepped fresh bytes) more).lines =
    ap (λ (s : Scan). s.lines) (fold-append stepped fresh bytes more) in
    omega (arith, joint, lines_grow (fold stepped fresh bytes) more)

-- a start line, fields and the empty line
head_from_fresh : (start : List ℕ) (fields : List Field) (last : LineEnd) → LeadsTo fresh start Start 1
    → All IsField fields → LeadsTo fresh (start ++ (flat_map print_field fields ++ print_end last)) Ended
    (1 + length fields)
head_from_fresh start fields last begun are =
    let n = 1 + length fields in
    joined fresh start (flat_map print_field fields ++ print_end last) Start Ended 1 n begun
    (λ w. joined (at Start 1 w) (flat_map print_field fields) (print_end last) Start Ended n n
    (fields_from_start 1 n w fields are refl) (λ v. end_from_start n v last))

-- A front that becomes a head by one more line feed has the lines of its start line and of its fields.
pub exceeding_lines : (start front : List ℕ) (fields : List Field) (last : LineEnd) → LeadsTo fresh start Start 1
    → All IsField fields → front ++ 10 ∷ [] ≡ start ++ (flat_map print_field fields ++ print_end last)
    → head_lines front ≡ 1 + length fields
exceeding_lines start front fields last begun are is =
    let whole = head_from_fresh start fields last begun are in
    ended_by (fold stepped fresh front) 10 (1 + length fields) whole.0
    (sym (fold-append stepped fresh front (10 ∷ [])) ∙ ap (fold stepped fresh) is ∙ whole.1)

stays_ended : (n : ℕ) (w : Bool) (more : List ℕ) → (fold stepped (at Ended n w) more).lines ≡ n
stays_ended n w [] = refl
stays_ended n w (b ∷ more) = stays_ended n (w || (n == 0 && nat_le 128 b)) more

-- a whole head has the lines of its start line and of its fields, whatever follows
pub whole_lines : (start rest : List ℕ) (fields : List Field) (last : LineEnd) → LeadsTo fresh start Start 1
    → All IsField fields → head_lines ((start ++ (flat_map print_field fields ++ print_end last)) ++ rest)
    ≡ 1 + length fields
whole_lines start rest fields last begun are =
    let whole = head_from_fresh start fields last begun are in
    ap (λ (s : Scan). s.lines) (fold-append stepped fresh (start ++ (flat_map print_field fields ++ print_end last))
    rest ∙ ap (λ (s : Scan). fold stepped s rest) whole.1)
    ∙ stays_ended (1 + length fields) whole.0 rest

place_stays : (n : ℕ) (w : Bool) (more : List ℕ) → (fold stepped (at Ended n w) more).place ≡ Ended
place_stays n w [] = refl
place_stays n w (b ∷ more) = place_stays n (w || (n == 0 && nat_le 128 b)) more

-- a whole head has ended, whatever follows
pub whole_place : (start rest : List ℕ) (fields : List Field) (last : LineEnd) → LeadsTo fresh start Start 1
    → All IsField fields → (fold stepped fresh
    ((start ++ (flat_map print_field fields ++ print_end last)) ++ rest)).place ≡ Ended
whole_place start rest fields last begun are =
    let whole = head_from_fresh start fields last begun are in
    ap (λ (s : Scan). s.place) (fold-append stepped fresh (start ++ (flat_map print_field fields ++ print_end last))
    rest ∙ ap (λ (s : Scan). fold stepped s rest) whole.1)
    ∙ place_stays (1 + length fields) whole.0 rest
