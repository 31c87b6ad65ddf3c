-- What the bytes of a journal stand for.
use Rattle.std.specs.Prelude.{◌≡◌, ◌≢◌, ◌⊎◌, ◌≤◌, ℕ, ◌+◌, nat_lt, Bool, true, false, if◌then◌else◌, List, [], ◌∷◌, ◌++◌, length, Option, Some, None}
use Rattle.std.specs.List.{flat_map, All}
use Rattle.std.specs.Int.{w32, to_be_bytes}
use Rattle.fh_base.specs.Limits.{longest_payload}

-- the letters FNHJ, and version 1 in two bytes
abbrev pub header : List ℕ
header = 70 ∷ 78 ∷ 72 ∷ 74 ∷ 0 ∷ 1 ∷ []

-- an open gate, the payload's length in four bytes, and the payload
abbrev pub frame : List ℕ → List ℕ
frame payload = 1 ∷ to_be_bytes w32 (length payload) ++ payload

-- the header, and an open frame for each payload
abbrev pub opened : List (List ℕ) → List ℕ
opened payloads = header ++ flat_map frame payloads

-- the first gate stands behind the header
abbrev pub first_gate : ℕ
first_gate = 6

-- the place of the gate behind a frame with so many bytes of payload: the frame's own gate and the length precede them
abbrev pub gate_behind : ℕ → ℕ → ℕ
gate_behind gate size = gate + 5 + size

-- the most bytes of a journal
abbrev pub most_bytes : ℕ
most_bytes = 1073741824

-- the place of the gate, where so many bytes of payload behind it, with a gate behind them, would be too many
abbrev pub full_at : ℕ → ℕ → Option ℕ
full_at gate size = if nat_lt most_bytes (gate + 6 + size) then Some gate else None

-- a payload that may stand in a frame
abbrev pub IsShort : List ℕ → Type 0
IsShort payload = length payload ≤ longest_payload

-- The file has an open frame for each payload, and then a gate that is closed. Bytes behind it mean nothing.
pub record Stands (file : List ℕ) (payloads : List (List ℕ)) (gate : ℕ) : Type 0 where
  pub closed : ℕ
  pub rest : List ℕ
  pub shut : closed ≢ 1
  pub place : gate ≡ length (opened payloads)
  pub whole : file ≡ opened payloads ++ closed ∷ rest
  pub short : All IsShort payloads

-- Behind the open frames one more stands whole, with a closed gate behind it. Its own gate may be open or not.
pub record InDoubt (file : List ℕ) (payloads : List (List ℕ)) (failed : List ℕ) (gate : ℕ) : Type 0 where
  pub either : ℕ
  pub closed : ℕ
  pub rest : List ℕ
  pub shut : closed ≢ 1
  pub place : gate ≡ length (opened payloads)
  pub whole : file ≡ opened payloads ++ either ∷ (to_be_bytes w32 (length failed) ++ failed ++ closed ∷ rest)
  pub short : All IsShort payloads
  pub failed_short : IsShort failed

-- A file of at most 7 bytes is a journal of no frames whatever its bytes: a crash while it is made can leave any.
abbrev pub IsJournalOf : List ℕ → List (List ℕ) → Type 0
IsJournalOf file payloads = ((length file ≤ 7) × (payloads ≡ [])) ⊎ ((gate : ℕ) × Stands file payloads gate)

-- the file of a journal that is torn by a failed payload, or isn't
abbrev pub IsOf : Bool → List (List ℕ) → List ℕ → ℕ → List ℕ → Type 0
IsOf false payloads failed gate file = Stands file payloads gate
IsOf true payloads failed gate file = InDoubt file payloads failed gate

-- what it may be read as: the payloads, and where it is torn also the failed one behind them
abbrev pub MayReadAs : Bool → List (List ℕ) → List ℕ → List ℕ → Type 0
MayReadAs torn payloads failed file = IsJournalOf file payloads
    ⊎ ((torn ≡ true) × IsJournalOf file (payloads ++ failed ∷ []))
