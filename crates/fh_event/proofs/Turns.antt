-- Outputs that are read one by one, with those before them.
use Rattle.std.proofs.Common.{◌≡◌, ℕ, suc, ◌+◌, ◌-◌, ◌<◌, List, [], ◌∷◌, ◌++◌, Result, Ok, Err, refl, sym, ap, ◌∙◌, append_assoc, arith}
use Rattle.std.proofs.lemmas.List.{append-nil}
use Rattle.fh_event.specs.declared.faults.EventFault.{EventFault}
use Rattle.fh_event.specs.declared.faults.EventFault.TheVariants.{BadKind, ShortField, LongField, BadField, Trailing, NoMemory}
use Rattle.fh_event.specs.declared.outcome.Output.{Output}
use Rattle.fh_event.specs.Answers.{◌>>=◌, Fails}
use Rattle.fh_event.specs.Reading.{output_at, outputs_in_turn}

-- the outputs that a reading gives, with those before them
abbrev pub behind : List Output → Result (List Output × List ℕ) EventFault → Result (List Output × List ℕ) EventFault
behind outputs (Ok x) = Ok (outputs ++ x.0, x.1)
behind outputs (Err fault) = Err fault

pub none_behind : (read : Result (List Output × List ℕ) EventFault) → behind [] read ≡ read
none_behind (Ok x) = refl
none_behind (Err fault) = refl

-- one output, and then so many others
abbrev then_others : ℕ → ℕ → Result (Output × List ℕ) EventFault → Result (List Output × List ℕ) EventFault
then_others i n read = read >>= λ first. outputs_in_turn i n first.1 >>= λ others. Ok (first.0 ∷ others.0, others.1)

-- one output more
moves_on : (outputs : List Output) (output : Output) (read : Result (List Output × List ℕ) EventFault)
    → behind outputs (read >>= λ others. Ok (output ∷ others.0, others.1)) ≡ behind (outputs ++ output ∷ []) read
moves_on outputs output (Ok x) = ap (λ (os : List Output). Ok (os, x.1)) (sym (append_assoc outputs (output ∷ []) x.0))
moves_on outputs output (Err fault) = refl

turn_done : (i n : ℕ) (outputs : List Output) (bytes : List ℕ) (x : Output × List ℕ) → output_at i bytes ≡ Ok x
    → behind outputs (outputs_in_turn i (suc n) bytes) ≡ behind (outputs ++ x.0 ∷ []) (outputs_in_turn i n x.1)
turn_done i n outputs bytes x is =
    ap (λ (r : Result (Output × List ℕ) EventFault). behind outputs (then_others i n r)) is
    ∙ moves_on outputs x.0 (outputs_in_turn i n x.1)

pub one_turn : (i n turn : ℕ) (outputs : List Output) (bytes : List ℕ) (output : Output) (rest : List ℕ) → turn < n
    → output_at i bytes ≡ Ok (output, rest)
    → behind outputs (outputs_in_turn i (n - turn) bytes)
    ≡ behind (outputs ++ output ∷ []) (outputs_in_turn i (n - (turn + 1)) rest)
one_turn i n turn outputs bytes output rest lt is =
    let next : n - turn ≡ suc (n - (turn + 1)) = omega (arith, lt) in
    ap (λ (k : ℕ). behind outputs (outputs_in_turn i k bytes)) next
    ∙ turn_done i (n - (turn + 1)) outputs bytes (output, rest) is

turn_failed : (i n turn : ℕ) (outputs : List Output) (bytes : List ℕ) (fault : EventFault)
    → turn < n → output_at i bytes ≡ Err fault → behind outputs (outputs_in_turn i (n - turn) bytes) ≡ Err fault
turn_failed i n turn outputs bytes fault lt is =
    let next : n - turn ≡ suc (n - (turn + 1)) = omega (arith, lt) in
    ap (λ (k : ℕ). behind outputs (outputs_in_turn i k bytes)) next
    ∙ ap (λ (r : Result (Output × List ℕ) EventFault). behind outputs (then_others i (n - (turn + 1)) r)) is

-- a fault of one output is that of the reading
failed_so : (i n turn : ℕ) (outputs : List Output) (bytes : List ℕ) (whole : Result (List Output × List ℕ) EventFault)
    → behind outputs (outputs_in_turn i (n - turn) bytes) ≡ whole → turn < n
    → (fault : EventFault) → output_at i bytes ≡ Err fault → whole ≡ Err fault
failed_so i n turn outputs bytes whole is lt fault e = sym is ∙ turn_failed i n turn outputs bytes fault lt e

pub turn_fails : (i n turn : ℕ) (outputs : List Output) (bytes : List ℕ)
    (whole : Result (List Output × List ℕ) EventFault)
    → behind outputs (outputs_in_turn i (n - turn) bytes) ≡ whole → turn < n
    → (fault : EventFault) → Fails fault (output_at i bytes) → Fails fault whole
turn_fails i n turn outputs bytes whole is lt (BadKind k) e = failed_so i n turn outputs bytes whole is lt (BadKind k) e
turn_fails i n turn outputs bytes whole is lt (ShortField f) e =
    failed_so i n turn outputs bytes whole is lt (ShortField f) e
turn_fails i n turn outputs bytes whole is lt (LongField f) e =
    failed_so i n turn outputs bytes whole is lt (LongField f) e
turn_fails i n turn outputs bytes whole is lt (BadField f) e =
    failed_so i n turn outputs bytes whole is lt (BadField f) e
turn_fails i n turn outputs bytes whole is lt (Trailing left) e =
    failed_so i n turn outputs bytes whole is lt (Trailing left) e
turn_fails i n turn outputs bytes whole is lt NoMemory e = tt

-- all turns are done
pub no_turn : (i n turn : ℕ) (outputs : List Output) (bytes : List ℕ) (whole : Result (List Output × List ℕ) EventFault)
    → behind outputs (outputs_in_turn i (n - turn) bytes) ≡ whole → turn ≡ n → whole ≡ Ok (outputs, bytes)
no_turn i n turn outputs bytes whole is done =
    let none : n - turn ≡ 0 = omega (arith, done) in
    sym is ∙ ap (λ (k : ℕ). behind outputs (outputs_in_turn i k bytes)) none
    ∙ ap (λ (os : List Output). Ok (os, bytes)) (append-nil outputs)
