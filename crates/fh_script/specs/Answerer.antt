-- What a line does to a hub and the moment that lines hand in.
use Rattle.std.specs.Prelude.{◌≡◌, ◌⊎◌, ℕ, false, List, [], ◌++◌, length, Option, Some, IfSome, Result, Ok, Err, string_bytes}
use Rattle.std.specs.declared.string.String.{String}
use Rattle.std.specs.declared.alloc.Global.{Global}
use Rattle.fh_base.specs.Faults.{Rose}
use Rattle.fh_disk.specs.Disk.{Each, StaysTold}
use Rattle.fh_disk.specs.declared.disk.Disk.{Ghosts}
use Rattle.fh_event.specs.declared.command.Command.{Command}
use Rattle.fh_journal.specs.Keeping.{Keeps}
use Rattle.fh_hub.specs.declared.hub.Hub.{Hub}
use Rattle.fh_hub.specs.Hub.{StandsForHistory}
use Rattle.fh_hub.specs.Replay.{Entry, payloads_of}
use Rattle.fh_hub.specs.State.{IsUnchanged, world_of}
use Rattle.fh_script.specs.declared.answerer.Answerer.{Answerer}
use Rattle.fh_script.specs.declared.faults.AnswerFault.{AnswerFault}
use Rattle.fh_script.specs.declared.faults.AnswerFault.TheVariants as answers
use Rattle.fh_script.specs.Machine.{Done, answer_line, make_step, printed}

-- where the bytes are told, they and each image stand for this history
abbrev pub Holds : Option (List ℕ) → (List ℕ → Type 0) → List Entry → ℕ → Type 0
Holds told images history gate = Keeps told images false (payloads_of history) [] gate

-- the same of a hub, whose journal isn't torn
pub record HoldsIn {D : Type 0} {J : Ghosts D} (hub : Hub D J) : Type 0 where
  pub whole : hub.journal.torn ≡ false
  pub keeps :
      Holds (J.told hub.journal.disk.now) (J.may_leave hub.journal.disk.now) hub.state.history hub.journal.gate

-- the file stands for this history, or for the one with these entries behind it
abbrev pub StandsEither : List Entry → List Entry → List ℕ → Type 0
StandsEither history entries file = StandsForHistory history file ⊎ StandsForHistory (history ++ entries) file

-- what a line comes to
abbrev pub done_in : {D : Type 0} {J : Ghosts D} → Answerer D J → List ℕ → Done
done_in answerer line = answer_line (world_of answerer.hub.state) answerer.now line

-- what a command comes to
abbrev pub made_in : {D : Type 0} {J : Ghosts D} → Answerer D J → Command → Done
made_in answerer command = make_step (world_of answerer.hub.state) answerer.now command

-- The line was answered, and done: the hub has its world, its moment and its entries, and its journal stands for its
-- history.
pub record HasDone {D : Type 0} {J : Ghosts D} (old new : Answerer D J) (does : Done) (text : List ℕ) : Type 0 where
  pub answer : text ≡ printed does.text
  pub world : world_of new.hub.state ≡ does.world
  pub moment : new.now ≡ does.now
  pub history : new.hub.state.history ≡ old.hub.state.history ++ does.entries
  pub holds : HoldsIn new.hub

-- the disk, the world, the history and the moment are as they were
pub record IsUntouched {D : Type 0} {J : Ghosts D} (old new : Answerer D J) : Type 0 where
  pub disk : new.hub.journal.disk.now ≡ old.hub.journal.disk.now
  pub state : IsUnchanged old.hub.state new.hub.state
  pub moment : new.now ≡ old.now

-- Memory was refused before the first call on the disk, or behind a line that was done. Either way the journal stands
-- for the hub's history, also after a crash.
pub record LacksMemory {D : Type 0} {J : Ghosts D} (old new : Answerer D J) (does : Done) : Type 0 where
  pub holds : HoldsIn new.hub
  pub either : IsUntouched old new ⊎ HasDone old new does (printed does.text)

-- A call on the disk failed, in a line with one entry. World, history and moment are as they were; where the bytes are
-- told, they and each image stand for that history, or for the one with the entry behind it.
pub record IsInDoubt {D : Type 0} {J : Ghosts D} (old new : Answerer D J) (entries : List Entry) : Type 0 where
  pub one : length entries ≡ 1
  pub state : IsUnchanged old.hub.state new.hub.state
  pub moment : new.now ≡ old.now
  pub stands : IfSome (J.told new.hub.journal.disk.now)
      (λ file. Each file (J.may_leave new.hub.journal.disk.now) (StandsEither old.hub.state.history entries))

-- what a line leaves that has no answer
abbrev pub HasNoAnswer : {D : Type 0} {J : Ghosts D} → Answerer D J → Answerer D J → Done → AnswerFault → Type 0
HasNoAnswer old new does answers.DiskFault = IsInDoubt old new does.entries
HasNoAnswer old new does answers.NoMemory = LacksMemory old new does

-- a disk counts a fault where it failed, and nowhere else
abbrev pub CountsAnswer : {T : Type 0} → ℕ → ℕ → Result T AnswerFault → Type 0
CountsAnswer before now (Ok text) = now ≡ before
CountsAnswer before now (Err answers.DiskFault) = Rose before now
CountsAnswer before now (Err answers.NoMemory) = now ≡ before

-- told bytes stay told
abbrev pub StaysToldIn : {D : Type 0} {J : Ghosts D} → Answerer D J → Answerer D J → Type 0
StaysToldIn {D} {J} old new = StaysTold (J.told old.hub.journal.disk.now) (J.told new.hub.journal.disk.now)

-- the text of an answer, or want of memory
abbrev pub IsText : Result (String Global) AnswerFault → List ℕ → Type 0
IsText (Ok text) answer = string_bytes text ≡ printed (Some answer)
IsText (Err fault) answer = fault ≡ answers.NoMemory
