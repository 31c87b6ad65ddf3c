-- What a whole run of the script comes to, in phases: the journal is mounted, lines are answered, and the last line is
-- written.
use Rattle.std.specs.Prelude.{◌≡◌, ◌⊎◌, ◌<◌, ⊤, ℕ, nat_le, Bool, true, false, ◌||◌, ◌==◌, List, [], ◌∷◌, ◌++◌, length, take, codes, Option, Some, None, IfSome, Result, Ok, Err, string_bytes}
use Rattle.std.specs.List.{flat_map, list_all}
use Rattle.std.specs.Str.{bytes_eq}
use Rattle.std.specs.Io.KnownBytes.{Appends, Consumes, IsAtEnd}
use Rattle.std.specs.declared.string.String.{String}
use Rattle.std.specs.declared.alloc.Global.{Global}
use Rattle.fh_base.specs.Faults.{Rose}
use Rattle.fh_base.specs.Ends.{Concludes}
use Rattle.fh_base.specs.Limits.{longest_line}
use Rattle.fh_base.specs.declared.ends.PlainEnd.{PlainEnd}
use Rattle.fh_base.specs.declared.ends.PlainEnd.TheVariants.{Finished, Usage, ReadFault, DiskFault, WriteFault, LongLine, NoMemory, SpawnFault, DoorFault}
use Rattle.fh_journal.specs.Mounting.{IsBeingMade}
use Rattle.fh_hub.specs.Hub.{StandsForHistory}
use Rattle.fh_hub.specs.Mounting.{MountsHistory}
use Rattle.fh_hub.specs.Replay.{Entry, IsLegal}
use Rattle.fh_hub.specs.declared.faults.HubFault.{HubFault}
use Rattle.fh_script.specs.Lines.{IsFirstLine, StartsLong, Took, lines, line_length, line_feeds}
use Rattle.fh_script.specs.Machine.{answer_line, printed, run}
use Rattle.fh_script.specs.Outside.{Counts, Imaging, Outside}
use Rattle.fh_script.specs.Ends.{code_of, last_line}

-- `script <journal> <checkpoint>`
abbrev pub is_script : List (String Global) → Bool
is_script (verb ∷ journal ∷ checkpoint ∷ []) = bytes_eq (string_bytes verb) (codes "script")
is_script _ = false

-- where a source tells, it gave these lines, and has the others left
abbrev pub Reads : Option (List ℕ) → Option (List ℕ) → List (List ℕ) → Type 0
Reads None now done = ⊤
Reads (Some was) None done = ⊥
Reads (Some was) (Some now) done = lines was ≡ done ++ lines now

abbrev pub is_short_line : List ℕ → Bool
is_short_line line = nat_le (line_length line) longest_line

-- the bytes of these lines
abbrev pub joined : List (List ℕ) → List ℕ
joined lines = flat_map (λ line. line) lines

-- the file stands for this history with a first part of these entries behind it
pub record StandsForPart (opening entries : List Entry) (file : List ℕ) : Type 0 where
  pub front : List Entry
  pub rest : List Entry
  pub whole : entries ≡ front ++ rest
  pub stands : StandsForHistory (opening ++ front) file

-- The journal stood for a legal history. These lines were read, and have left the rest; none is too long; and their
-- answers were written.
pub record Answered (was : Outside) (left written : Option (List ℕ)) : Type 0 where
  pub opening : List Entry
  pub legal : IsLegal opening
  pub stood : IfSome was.told (StandsForHistory opening)
  pub done : List (List ℕ)
  pub read : Reads was.left left done
  pub consumed : Consumes was.left left (joined done)
  pub short : list_all is_short_line done ≡ true
  pub texts : Appends was.written written (run opening done).written

-- these lines, and one behind them where there is one
abbrev pub with_line : List (List ℕ) → Option (List ℕ) → List (List ℕ)
with_line done None = done
with_line done (Some line) = done ++ line ∷ []

-- what was taken from a source is this line alone, where there is one
abbrev pub TakesLine : Option (List ℕ) → Option (List ℕ) → List ℕ → Option (List ℕ) → Type 0
TakesLine left now taken None = ⊤
TakesLine left now taken (Some line) = (taken ≡ line) × IsFirstLine left now line

-- Behind the answered lines at most 140,001 bytes were taken: the next line alone, where there is one. The journal
-- stands for the history with the entries of the answered lines behind it, and of the line that was done behind them,
-- if there is one; a crash leaves a first part of the history with the next line's entries too.
pub record Ran (was now : Outside) (leaves : Imaging) (next done : Option (List ℕ)) : Type 0 where
  pub left : Option (List ℕ)
  pub lines : Answered was left now.written
  pub took : Took left now.left
  pub only : TakesLine left now.left took.taken next
  pub stands : IfSome now.told
      (StandsForHistory (lines.opening ++ (run lines.opening (with_line lines.done done)).entries))
  pub images : leaves (StandsForPart lines.opening (run lines.opening (with_line lines.done next)).entries)

-- the next line was done, and its answer was written in part alone
pub record CutOff (was now : Outside) (leaves : Imaging) : Type 0 where
  pub before : Option (List ℕ)
  pub line : List ℕ
  pub ran : Ran was (record now { written = before }) leaves (Some line) (Some line)
  pub size : ℕ
  pub part :
      let s = run ran.lines.opening ran.lines.done in
      size < length (printed (answer_line s.world s.now line).text)
  pub cut :
      let s = run ran.lines.opening ran.lines.done in
      Appends before now.written (take size (printed (answer_line s.world s.now line).text))

-- why a run ends that has a plain end, and what stands then
abbrev pub HasPlainReason : Outside → Outside → Imaging → PlainEnd → Type 0
HasPlainReason was now leaves Finished = (it : Ran was now leaves None None) × (IsAtEnd it.left × IsAtEnd now.left)
HasPlainReason was now leaves Usage = now ≡ was
HasPlainReason was now leaves ReadFault =
    (it : Ran was now leaves None None) × (line_feeds (joined it.lines.done ++ it.took.taken) ≡ length it.lines.done)
HasPlainReason was now leaves DiskFault =
    (line : List ℕ) × (Ran was now leaves (Some line) None ⊎ Ran was now leaves (Some line) (Some line))
HasPlainReason was now leaves WriteFault = CutOff was now leaves
HasPlainReason was now leaves LongLine = (it : Ran was now leaves None None) × StartsLong it.left
HasPlainReason was now leaves NoMemory =
    Ran was now leaves None None ⊎ ((line : List ℕ) × Ran was now leaves (Some line) (Some line))
HasPlainReason was now leaves SpawnFault = ⊥
HasPlainReason was now leaves DoorFault = ⊥

-- the journal isn't mounted: no line was read or answered, and the bytes are what this fault leaves
pub record Unmounted (was now : Outside) (leaves : Imaging) (fault : HubFault) : Type 0 where
  pub left : now.left ≡ was.left
  pub written : now.written ≡ was.written
  pub bytes : MountsHistory was.told now.told (Some fault)
  pub images : leaves (λ c. IfSome was.told (λ file. IsBeingMade file c))

-- why a run ends
abbrev pub HasReason : Outside → Outside → Imaging → Result PlainEnd HubFault → Type 0
HasReason was now leaves (Ok end) = HasPlainReason was now leaves end
HasReason was now leaves (Err fault) = Unmounted was now leaves fault

-- A run that has this end: its last line stands behind all that was written before, cut only where the sink failed.
pub record EndsBy (was now : Outside) (leaves : Imaging) (code : ℕ) : Type 0 where
  pub end : Result PlainEnd HubFault
  pub status : code ≡ code_of end
  pub before : Option (List ℕ)
  pub faults : ℕ
  pub reason : HasReason was (record now { written = before; write_faults = faults }) leaves end
  pub counts : Counts was (record now { written = before; write_faults = faults }) (code_of end)
  pub last : Concludes before now.written (last_line end) faults now.write_faults

-- the statuses at which no call on the journal's disk has left anything in doubt
abbrev pub is_certain : ℕ → Bool
is_certain code = (code == 0) || (code == 4) || (code == 5) || (code == 7) || (code == 8) || (code == 9)

-- A run that has to finish, or to lack memory: the file stands for a legal history, and no line is too long.
pub record IsReady (was : Outside) : Type 0 where
  pub file : List ℕ
  pub told : was.told ≡ Some file
  pub opening : List Entry
  pub legal : IsLegal opening
  pub stands : StandsForHistory opening file
  pub bytes : List ℕ
  pub left : was.left ≡ Some bytes
  pub short : list_all is_short_line (lines bytes) ≡ true

-- no count rose
pub record NoneRose (was now : Outside) : Type 0 where
  pub reading : Rose was.read_faults now.read_faults → ⊥
  pub writing : Rose was.write_faults now.write_faults → ⊥
  pub disk : Rose was.disk_faults now.disk_faults → ⊥

-- where the bytes are told, a crash leaves whatever history they stand for
abbrev pub SurvivesCrash : Option (List ℕ) → (List ℕ → Type 0) → Type 0
SurvivesCrash told images = IfSome told
    (λ file. (history : List Entry) (c : List ℕ) → StandsForHistory history file → images c
    → StandsForHistory history c)
