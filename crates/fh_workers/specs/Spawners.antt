-- What a spawner's starts leave of its list and of its running workers.
use Rattle.std.specs.Prelude.{◌≡◌, ℕ, ◌+◌, ◌≤◌, List, [], ◌∷◌, ◌++◌, Option, Result, Ok, Err}
use Rattle.std.specs.Option.{option_map}
use Rattle.fh_base.specs.Faults.{Rose}
use Rattle.fh_workers.specs.declared.spawner.Start.{Start}
use Rattle.fh_workers.specs.declared.spawner.SpawnFault.{SpawnFault}
use Rattle.fh_workers.specs.declared.spawner.SpawnFault.TheVariants.{Failed, NoMemory}

-- the starts, with one more behind them
abbrev pub with_start : Start → Option (List Start) → Option (List Start)
with_start start = option_map (λ earlier. earlier ++ start ∷ [])

-- a start that succeeded stands in the list, and no other
abbrev pub Lists : {T : Type 0} → Start → Option (List Start) → Option (List Start) → Result T SpawnFault → Type 0
Lists start was now (Ok done) = now ≡ with_start start was
Lists start was now (Err fault) = now ≡ was

-- one worker more runs where the start succeeded
abbrev pub RunsOneMore : {T : Type 0} → ℕ → ℕ → Result T SpawnFault → Type 0
RunsOneMore was now (Ok done) = now ≡ was + 1
RunsOneMore was now (Err fault) = now ≡ was

-- a count never falls; a start fails only where it rose, and ends otherwise only where it didn't
abbrev pub StartHasCause : {T : Type 0} → ℕ → ℕ → Result T SpawnFault → Type 0
StartHasCause before now (Ok done) = now ≡ before
StartHasCause before now (Err Failed) = (before ≤ now) × Rose before now
StartHasCause before now (Err NoMemory) = now ≡ before
