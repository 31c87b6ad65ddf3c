-- How bytes come from a source, and what is read of them.
use Rattle.std.specs.Prelude.{◌≡◌, ◌⊎◌, ℕ, ◌+◌, ◌<◌, ◌≤◌, List, [], ◌++◌, length, Option, unwrap_or, Result, IfOk}
use Rattle.std.specs.Io.KnownBytes.{Consumes}
use Rattle.httparse.specs.Grammar.{RequestHead, print_request, ReadsRequest}
use Rattle.fh_wire.specs.declared.fault.WireFault.{WireFault}
use Rattle.fh_wire.specs.declared.request.HttpIn.{HttpIn}
use Rattle.fh_wire.specs.Causes.{UnlessUnread}
use Rattle.fh_wire.specs.Messages.{RequestIs}

-- the bytes that are known to be left
abbrev pub known : Option (List ℕ) → List ℕ
known left = unwrap_or left []

-- a piece came behind the old bytes
pub record Brings (was now : Option (List ℕ)) (old new : List ℕ) : Type 0 where
  pub piece : List ℕ
  pub behind : new ≡ old ++ piece
  pub consumed : Consumes was now piece

-- the answer is that of the bytes that were taken and of those that are known to be left, and for an
-- answer that is no fault no more than so many were taken
pub record ReadsBy {A : Type 0} (was now : Option (List ℕ)) (r : Result A WireFault)
    (answer : List ℕ → Result A WireFault) (room : A → ℕ) : Type 0 where
  pub taken : List ℕ
  pub consumed : Consumes was now taken
  pub is : r ≡ answer (taken ++ known now)
  pub few : IfOk r (λ x. length taken ≤ room x)

-- the same, unless memory was refused or a read failed
abbrev pub AnswersBy : {A : Type 0} → Option (List ℕ) → Option (List ℕ) → Result A WireFault
    → (List ℕ → Result A WireFault) → (A → ℕ) → Type 0
AnswersBy was now r answer room = UnlessUnread r (ReadsBy was now r answer room)

-- so many bytes end with the message, or fewer than 16,384 bytes behind its head
abbrev pub EndsSoon : ℕ → RequestHead → HttpIn → Type 0
EndsSoon taken h m =
    (taken ≤ length (print_request h) + length m.body) ⊎ (taken < length (print_request h) + 16384)

-- A request was read: the answer is that of the bytes that were taken and of those that are known to be
-- left, and no more of them were taken than were needed.
pub record ReadsRequestFrom (was now : Option (List ℕ)) (r : Result HttpIn WireFault) : Type 0 where
  pub taken : List ℕ
  pub consumed : Consumes was now taken
  pub is : RequestIs (taken ++ known now) r
  pub few : (h : RequestHead) (rest : List ℕ) → ReadsRequest (taken ++ known now) h rest
      → IfOk r (EndsSoon (length taken) h)
