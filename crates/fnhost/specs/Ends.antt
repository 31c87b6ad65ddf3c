-- How the program ends where the top call can't be made.
use Rattle.std.specs.Prelude.{ℕ}
use Rattle.fnhost.specs.declared.Unready.{Unready}
use Rattle.fnhost.specs.declared.Unready.TheVariants.{NoMemory, NoNullDevice}

abbrev pub unready_code : Unready → ℕ
unready_code NoMemory = 9
unready_code NoNullDevice = 6
