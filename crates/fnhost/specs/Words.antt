-- What the words of a command line name.
use Rattle.std.specs.Prelude.{ℕ, if◌then◌else◌, List, [], Option, Some, None, is_some, string_bytes}
use Rattle.std.specs.declared.string.String.{String}
use Rattle.std.specs.declared.alloc.Global.{Global}
use Rattle.fh_app.specs.Check.{is_check}
use Rattle.fh_sample.specs.Words.{trial_of}
use Rattle.fh_script.specs.Script.{is_script}
use Rattle.fnhost.specs.declared.ProgramCommand.{ProgramCommand}
use Rattle.fnhost.specs.declared.ProgramCommand.TheVariants.{Check, SampleWorker, Script}

-- the command that the words are, if they are one
abbrev pub command_of : List (String Global) → Option ProgramCommand
command_of words =
    if is_check words then Some Check
    else if is_some (trial_of words) then Some SampleWorker
    else if is_script words then Some Script
    else None

-- the path that a word is, and an empty one where there is no word
abbrev pub path_of : Option (String Global) → List ℕ
path_of None = []
path_of (Some word) = string_bytes word
