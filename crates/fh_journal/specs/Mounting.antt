-- How mounting a journal ends, and which frames can't be read.
use Rattle.std.specs.Prelude.{◌≡◌, ◌≢◌, ◌⊎◌, ⊤, ◌≤◌, ◌<◌, ℕ, ◌+◌, nat_le, if◌then◌else◌, List, [], ◌∷◌, ◌++◌, length, take, Option, Some, None, Result, Ok, Err}
use Rattle.std.specs.List.{All}
use Rattle.std.specs.Int.{w32, from_be_bytes}
use Rattle.fh_base.specs.Faults.{Rose}
use Rattle.fh_base.specs.Limits.{longest_payload}
use Rattle.fh_journal.specs.Journal.{header, opened, IsShort}
use Rattle.fh_journal.specs.declared.faults.FrameRule.{FrameRule}
use Rattle.fh_journal.specs.declared.faults.FrameRule.TheVariants.{Cut, Length}
use Rattle.fh_journal.specs.declared.faults.MountFault.{MountFault}
use Rattle.fh_journal.specs.declared.faults.MountFault.TheVariants.{BadHeader, BadFrame, DiskFault, NoMemory}
use Rattle.fh_journal.specs.declared.mounting.Prepared.{Prepared}

-- the header and a closed gate
abbrev pub fresh_file : List ℕ
fresh_file = header ++ 0 ∷ []

-- what a mount that succeeds leaves: a file of at most 7 bytes is made anew, and a longer one stays
abbrev pub mounted_file : List ℕ → List ℕ
mounted_file file = if nat_le (length file) 7 then fresh_file else file

-- the number in the first four bytes
abbrev pub length_field : List ℕ → ℕ
length_field bytes = from_be_bytes w32 (take 4 bytes)

-- What stands behind an open gate breaks the rule: its length is too great, or the file ends in the length, in the
-- payload, or before the gate that must follow.
abbrev pub Breaks : FrameRule → List ℕ → Type 0
Breaks (Length given) bytes = (4 ≤ length bytes) × (given ≡ length_field bytes) × (longest_payload < given)
Breaks Cut bytes = (length bytes < 4) ⊎
    ((length_field bytes ≤ longest_payload) × (length bytes ≤ 4 + length_field bytes))

-- whole frames come first, and the open gate at this place is that of the first one that breaks a rule
pub record BreaksAt (file : List ℕ) (at : ℕ) (rule : FrameRule) : Type 0 where
  pub payloads : List (List ℕ)
  pub behind : List ℕ
  pub short : All IsShort payloads
  pub place : at ≡ length (opened payloads)
  pub whole : file ≡ opened payloads ++ 1 ∷ behind
  pub breaks : Breaks rule behind

-- a file of more than 7 bytes that doesn't begin with the header
abbrev pub IsForeign : List ℕ → Type 0
IsForeign file = (7 < length file) × (take 6 file ≢ header)

-- what any mount leaves: at most 7 bytes of a file that had no more, and a longer one as it was
abbrev pub IsLeft : List ℕ → List ℕ → Type 0
IsLeft was now = (now ≡ was) ⊎ ((length was ≤ 7) × (length now ≤ 7))

-- What a mount leaves of the bytes, and why it refuses a file. A file that is refused stays.
abbrev pub Mounts : List ℕ → List ℕ → Result Prepared MountFault → Type 0
Mounts was now (Ok made) = now ≡ mounted_file was
Mounts was now (Err BadHeader) = (now ≡ was) × IsForeign was
Mounts was now (Err (BadFrame at rule)) = (now ≡ was) × (7 < length was) × BreaksAt was at rule
Mounts was now (Err DiskFault) = IsLeft was now
Mounts was now (Err NoMemory) = IsLeft was now

-- the same where the bytes are told, which they stay
abbrev pub MountsTold : Option (List ℕ) → Option (List ℕ) → Result Prepared MountFault → Type 0
MountsTold None now result = now ≡ None
MountsTold (Some was) None result = ⊥
MountsTold (Some was) (Some now) result = Mounts was now result

-- a file of at most 7 bytes may be left with any such bytes by a crash, except one that is fresh already
abbrev pub IsBeingMade : List ℕ → List ℕ → Type 0
IsBeingMade was file = (length was ≤ 7) × (was ≢ fresh_file) × (length file ≤ 7)

-- the count of the disk's faults rose at a disk fault, and stays at any other end of a mount
abbrev pub CountsFaults : {T : Type 0} → ℕ → ℕ → Result T MountFault → Type 0
CountsFaults before now (Ok made) = now ≡ before
CountsFaults before now (Err BadHeader) = now ≡ before
CountsFaults before now (Err (BadFrame at rule)) = now ≡ before
CountsFaults before now (Err DiskFault) = Rose before now
CountsFaults before now (Err NoMemory) = now ≡ before

-- at any end of a mount but a disk fault
abbrev pub UnlessDiskFault : {T : Type 0} → Type 0 → Result T MountFault → Type 0
UnlessDiskFault P (Ok made) = P
UnlessDiskFault P (Err BadHeader) = P
UnlessDiskFault P (Err (BadFrame at rule)) = P
UnlessDiskFault P (Err DiskFault) = ⊤
UnlessDiskFault P (Err NoMemory) = P
