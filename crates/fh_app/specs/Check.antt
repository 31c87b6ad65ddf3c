-- What `check` prints.
use Rattle.std.specs.Prelude.{◌≡◌, ◌≢◌, ℕ, ◌<◌, ◌==◌, ◌||◌, ◌++◌, Bool, true, false, List, [], ◌∷◌, length, take, codes, string_bytes, Option, Result, Ok, Err}
use Rattle.std.specs.Io.KnownBytes.{Appends}
use Rattle.std.specs.Str.{bytes_eq}
use Rattle.std.specs.declared.string.String.{String}
use Rattle.std.specs.declared.alloc.Global.{Global}
use Rattle.fh_base.specs.Faults.{Rose}
use Rattle.fh_base.specs.Ends.{Concludes, plain_line}
use Rattle.fh_base.specs.declared.ends.PlainEnd.TheVariants.{Usage, ReadFault, NoMemory}
use Rattle.fh_app.specs.declared.fault.AppFault.{AppFault}
use Rattle.fh_app.specs.declared.fault.AppFault.TheVariants as faults
use Rattle.fh_app.specs.declared.function.Function.{Function}
use Rattle.fh_app.specs.declared.function.Trigger.{Trigger}
use Rattle.fh_app.specs.declared.function.Trigger.TheVariants as triggers
use Rattle.fh_app.specs.declared.app.App.{App}
use Rattle.fh_app.specs.declared.app.AppFiles.{AppFiles}
use Rattle.fh_app.specs.App.{app_of}
use Rattle.fh_app.specs.Folders.{Files, AreFilesOf}

-- `check <folder>`
abbrev pub is_check : List (String Global) → Bool
is_check (verb ∷ folder ∷ []) = bytes_eq (string_bytes verb) (codes "check")
is_check _ = false

-- a line, with what makes the function run behind it
abbrev pub with_trigger : List ℕ → Trigger → List ℕ
with_trigger line (triggers.Queue name queue) = line ++ codes " queue " ++ queue
with_trigger line (triggers.Blob name container pattern) = line ++ codes " blob " ++ container
with_trigger line (triggers.Timer name schedule startup monitor) = line ++ codes " timer"

abbrev pub state_text : Bool → List ℕ
state_text true = codes " disabled"
state_text false = []

-- the line of a function
abbrev pub function_line : Function → List ℕ
function_line f = with_trigger f.name f.trigger ++ state_text f.disabled ++ codes "\n"

-- the lines of these functions in order, behind those before them
abbrev pub lines_behind : List ℕ → List Function → List ℕ
lines_behind done [] = done
lines_behind done (f ∷ functions) = lines_behind (done ++ function_line f) functions

unfoldable pub lines_of : List Function → List ℕ
lines_of functions = lines_behind [] functions

abbrev pub fault_name : AppFault → List ℕ
fault_name (faults.NotJson file) = codes "NotJson"
fault_name (faults.Missing file name) = codes "Missing"
fault_name (faults.BadValue file name) = codes "BadValue"
fault_name (faults.TriggerCount file given) = codes "TriggerCount"
fault_name (faults.BadFunctionName name) = codes "BadFunctionName"
fault_name (faults.SameName name) = codes "SameName"
fault_name faults.NoMemory = codes "NoMemory"

-- the file that has the fault, or the function's name that is one
abbrev pub fault_place : AppFault → List ℕ
fault_place (faults.NotJson file) = file
fault_place (faults.Missing file name) = file
fault_place (faults.BadValue file name) = file
fault_place (faults.TriggerCount file given) = file
fault_place (faults.BadFunctionName name) = name
fault_place (faults.SameName name) = name
fault_place faults.NoMemory = []

abbrev pub fault_line : AppFault → List ℕ
fault_line fault = codes "app " ++ (fault_name fault ++ (codes " " ++ (fault_place fault ++ codes "\n")))

-- what the sink has: the bytes written, where it tells them, and its count of faults
pub record Writing : Type 0 where
  pub written : Option (List ℕ)
  pub faults : ℕ

abbrev pub writing : Option (List ℕ) → ℕ → Writing
writing written faults = record { written = written; faults = faults }

-- the last line was written, cut only where the sink failed
abbrev pub Ends : Writing → Writing → List ℕ → Type 0
Ends was now line = Concludes was.written now.written line was.faults now.faults

-- the app's lines were written, all of them
pub record Lists (found : AppFiles) (was now : Writing) : Type 0 where
  pub app : App
  pub is_app : app_of found ≡ Ok app
  pub lines : Appends was.written now.written (lines_of app.functions)
  pub passed : now.faults ≡ was.faults

-- the sink failed before all of the app's lines were written
pub record Breaks (found : AppFiles) (was now : Writing) : Type 0 where
  pub app : App
  pub is_app : app_of found ≡ Ok app
  pub count : ℕ
  pub some : count < length (lines_of app.functions)
  pub lines : Appends was.written now.written (take count (lines_of app.functions))
  pub failed : Rose was.faults now.faults

-- the app was refused, and its fault told
pub record Refuses (found : AppFiles) (was now : Writing) : Type 0 where
  pub fault : AppFault
  pub free : fault ≢ faults.NoMemory
  pub is_fault : app_of found ≡ Err fault
  pub line : Ends was now (fault_line fault)

-- what a report of these files with this status has written
pub record Reports (found : AppFiles) (was now : Writing) (code : ℕ) : Type 0 where
  pub listed : code ≡ 0 → Lists found was now
  pub refused : code ≡ 3 → Refuses found was now
  pub broken : code ≡ 7 → Breaks found was now
  pub without_memory : code ≡ 9 → Ends was now (plain_line NoMemory)

abbrev pub is_report : ℕ → Bool
is_report code = (code == 0) || (code == 3) || (code == 7) || (code == 9)

-- the app's files were read, and it was listed or refused
abbrev pub has_app : ℕ → Bool
has_app code = (code == 0) || (code == 3) || (code == 7)

-- a status of `check`
abbrev pub is_status : ℕ → Bool
is_status code = is_report code || (code == 2) || (code == 5)

-- files that are the folder's, where it tells them, with what a report of them has written
pub record Told (told : Option Files) (was now : Writing) (code : ℕ) : Type 0 where
  pub found : AppFiles
  pub are_files : AreFilesOf told found
  pub reports : Reports found was now code
