-- The bytes of a disk in memory.
use Rattle.std.specs.Prelude.{◌≡◌, ℕ, List, Option}
use Rattle.std.specs.Option.{option_map}
use Rattle.fh_disk.specs.Recorded.{Recorded, told_by}

-- the record, where there is one, gives these bytes
abbrev pub Gives : Option Recorded → List ℕ → Type 0
Gives r bytes = told_by r ≡ option_map (λ _. bytes) r
