-- The grammar of entries.
use Rattle.std.specs.Prelude.{◌≡◌, ⊤, ℕ, ◌≤◌, List, ◌∷◌, ◌++◌}
use Rattle.std.specs.List.{flat_map, AllByRecursion}
use Rattle.fh_base.specs.Moments.{greatest_moment}
use Rattle.fh_event.specs.declared.command.Command.{Command}
use Rattle.fh_event.specs.declared.command.Command.TheVariants.{Configure, Finish}
use Rattle.fh_event.specs.Fields.{number_bytes, spelled, IsField, IsShort}
use Rattle.fh_event.specs.Settings.{HasGoodMasks}
use Rattle.fh_event.specs.Outcomes.{HasShortList}
use Rattle.fh_event.specs.Kinds.{kind_number, kind_of, fields_of}

-- the moment in eight bytes, the kind in one, and the fields
abbrev pub entry : ℕ → Command → List ℕ
entry moment command =
    number_bytes moment ++ kind_number (kind_of command) ∷ flat_map spelled (fields_of command)

-- the bytes are the entry of this moment and command
pub record IsEntry (bytes : List ℕ) (moment : ℕ) (command : Command) : Type 0 where
  pub spelling : bytes ≡ entry moment command
  pub in_time : moment ≤ greatest_moment
  pub fields : AllByRecursion IsField (fields_of command)

-- no text of the command is too long for an entry
abbrev pub HasShortTexts : Command → Type 0
HasShortTexts command = AllByRecursion IsShort (fields_of command)

-- the settings that the command gives have good masks
abbrev pub GivesGoodMasks : Command → Type 0
GivesGoodMasks (Configure function settings) = HasGoodMasks settings
GivesGoodMasks command = ⊤

-- the outcome that the command gives has a short list
abbrev pub GivesShortList : Command → Type 0
GivesShortList (Finish invocation outcome) = HasShortList outcome
GivesShortList command = ⊤

-- an entry of this moment and command stands at the end
pub record AppendsEntry (old new : List ℕ) (moment : ℕ) (command : Command) : Type 0 where
  pub appended : new ≡ old ++ entry moment command
  pub is_entry : IsEntry (entry moment command) moment command

-- more may stand behind the old bytes, and these are as they were
pub record Extends (old new : List ℕ) : Type 0 where
  pub more : List ℕ
  pub longer : new ≡ old ++ more
