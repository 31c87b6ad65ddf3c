-- How a run ends: with a plain end, or with the fault for which its journal isn't mounted.
use Rattle.std.specs.Prelude.{ℕ, Bool, ◌==◌, ◌||◌, List, Option, Some, None, Result, Ok, Err}
use Rattle.fh_base.specs.Ends.{plain_code, plain_line}
use Rattle.fh_base.specs.declared.ends.PlainEnd.{PlainEnd}
use Rattle.fh_base.specs.declared.ends.PlainEnd.TheVariants as plain
use Rattle.fh_hub.specs.Damaged.{unmounted_code, unmounted_line}
use Rattle.fh_hub.specs.declared.faults.HubFault.{HubFault}
use Rattle.fh_script.specs.declared.faults.AnswerFault.{AnswerFault}
use Rattle.fh_script.specs.declared.faults.AnswerFault.TheVariants as answers
use Rattle.fh_script.specs.declared.faults.LineFault.{LineFault}
use Rattle.fh_script.specs.declared.faults.LineFault.TheVariants.{ReadFault, TooLong, NoMemory}

abbrev pub code_of : Result PlainEnd HubFault → ℕ
code_of (Ok end) = plain_code end
code_of (Err fault) = unmounted_code fault

abbrev pub last_line : Result PlainEnd HubFault → List ℕ
last_line (Ok end) = plain_line end
last_line (Err fault) = unmounted_line fault

-- a line that isn't read
abbrev pub end_of_line : LineFault → PlainEnd
end_of_line ReadFault = plain.ReadFault
end_of_line TooLong = plain.LongLine
end_of_line NoMemory = plain.NoMemory

-- a line that isn't answered
abbrev pub end_of_answer : AnswerFault → PlainEnd
end_of_answer answers.DiskFault = plain.DiskFault
end_of_answer answers.NoMemory = plain.NoMemory

-- no end yet, or this one
abbrev pub code_so_far : Option PlainEnd → ℕ
code_so_far None = 0
code_so_far (Some end) = plain_code end

-- the statuses with which lines end
abbrev pub is_of_lines : ℕ → Bool
is_of_lines code = (code == 0) || (code == 5) || (code == 6) || (code == 7) || (code == 8) || (code == 9)
