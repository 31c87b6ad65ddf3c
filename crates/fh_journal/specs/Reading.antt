-- What reads of a file find: a buffer that is filled, and what stands at a gate.
use Rattle.std.specs.Prelude.{◌≡◌, ◌≢◌, ⊤, ℕ, ◌≤◌, Bool, true, false, List, ◌∷◌, ◌++◌, take, drop, Option, Some, None, Result, Ok, Err}
use Rattle.std.specs.Int.{w32, to_be_bytes}
use Rattle.fh_base.specs.Limits.{longest_payload}
use Rattle.fh_journal.specs.Journal.{frame, header, IsShort, Stands}
use Rattle.fh_journal.specs.Frames.{payloads_of}
use Rattle.fh_journal.specs.Mounting.{Breaks, BreaksAt, fresh_file}
use Rattle.fh_journal.specs.declared.faults.FrameRule.{FrameRule}
use Rattle.fh_journal.specs.declared.faults.MountFault.{MountFault}
use Rattle.fh_journal.specs.declared.faults.MountFault.TheVariants.{BadHeader, BadFrame, DiskFault, NoMemory}
use Rattle.fh_journal.specs.declared.mounting.Prepared.{Prepared}

-- a gate at this place is closed
pub record EndsAt (file : List ℕ) (at : ℕ) : Type 0 where
  pub closed : ℕ
  pub rest : List ℕ
  pub shut : closed ≢ 1
  pub here : drop at file ≡ closed ∷ rest

-- a gate at this place is open, and the length behind it may be that of a payload
pub record OpensAt (file : List ℕ) (at size : ℕ) : Type 0 where
  pub behind : List ℕ
  pub here : drop at file ≡ 1 ∷ behind
  pub given : take 4 behind ≡ to_be_bytes w32 size
  pub short : size ≤ longest_payload

-- a whole frame has its gate at this place
pub record FrameAt (file : List ℕ) (at : ℕ) (payload : List ℕ) : Type 0 where
  pub rest : List ℕ
  pub here : drop at file ≡ frame payload ++ rest
  pub short : IsShort payload

-- a frame that breaks a rule has its gate at this place
pub record RuleBrokenAt (file : List ℕ) (at : ℕ) (rule : FrameRule) : Type 0 where
  pub behind : List ℕ
  pub here : drop at file ≡ 1 ∷ behind
  pub breaks : Breaks rule behind

-- a fault of the frame at this place
abbrev pub Refuses : List ℕ → ℕ → MountFault → Type 0
Refuses file at BadHeader = ⊥
Refuses file at (BadFrame place rule) = (place ≡ at) × RuleBrokenAt file at rule
Refuses file at DiskFault = ⊤
Refuses file at NoMemory = ⊤

-- the length behind an open gate is read
abbrev pub ReadsSize : List ℕ → ℕ → Result (Option ℕ) MountFault → Type 0
ReadsSize file at (Ok None) = EndsAt file at
ReadsSize file at (Ok (Some size)) = OpensAt file at size
ReadsSize file at (Err fault) = Refuses file at fault

-- a frame is read
abbrev pub ReadsFrame : List ℕ → ℕ → Result (Option (List ℕ)) MountFault → Type 0
ReadsFrame file at (Ok None) = EndsAt file at
ReadsFrame file at (Ok (Some payload)) = FrameAt file at payload
ReadsFrame file at (Err fault) = Refuses file at fault

-- the frames of a file that begins with the header are read
abbrev pub RefusesFile : List ℕ → MountFault → Type 0
RefusesFile file BadHeader = ⊥
RefusesFile file (BadFrame at rule) = BreaksAt file at rule
RefusesFile file DiskFault = ⊤
RefusesFile file NoMemory = ⊤

abbrev pub ReadsFrames : List ℕ → Result Prepared MountFault → Type 0
ReadsFrames file (Ok made) = Stands file (payloads_of made.frames) made.gate
ReadsFrames file (Err fault) = RefusesFile file fault

-- whether a file begins with the header
abbrev pub BeginsWithHeader : List ℕ → Bool → Type 0
BeginsWithHeader file true = take 6 file ≡ header
BeginsWithHeader file false = take 6 file ≢ header

-- whether a file is a journal of no frames as it is made
abbrev pub IsFresh : List ℕ → Bool → Type 0
IsFresh file true = file ≡ fresh_file
IsFresh file false = file ≢ fresh_file
