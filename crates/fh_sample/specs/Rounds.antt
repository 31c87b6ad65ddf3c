-- What the rounds of the sample worker leave of its door.
use Rattle.std.specs.Prelude.{◌≡◌, ◌≢◌, ℕ, ◌<◌, ◌≤◌, ◌==◌, ◌||◌, Bool, if◌then◌else◌, List, [], ◌++◌, length, map, Option, Result, Ok, Err}
use Rattle.std.specs.Option.{option_map}
use Rattle.fh_base.specs.Ends.{plain_line}
use Rattle.fh_base.specs.Faults.{Rose}
use Rattle.fh_base.specs.declared.ends.PlainEnd.TheVariants as ends
use Rattle.fh_sample.specs.declared.words.Trial.{Trial}
use Rattle.fh_sample.specs.declared.worker.RoundFault.{RoundFault}
use Rattle.fh_sample.specs.declared.worker.RoundFault.TheVariants.{DoorFault, NoMemory}

-- the connections accepted, where the door tells: each with its port and the bytes that it gives
abbrev pub Connections : Type 0
Connections = Option (List (ℕ × List ℕ))

-- the connections, with more behind them that were accepted at this port and give these bytes
abbrev pub with_connections : ℕ → List (List ℕ) → Connections → Connections
with_connections port given = option_map (λ earlier. earlier ++ map (λ bytes. (port, bytes)) given)

-- so many connections more were accepted, each at this port
pub record Accepts (port count : ℕ) (was now : Connections) : Type 0 where
  pub given : List (List ℕ)
  pub many : length given ≡ count
  pub are : now ≡ with_connections port given was

abbrev pub AcceptsFewer : (port rounds : ℕ) → Connections → Connections → Type 0
AcceptsFewer port rounds was now = (n : ℕ) × (n < rounds) × Accepts port n was now

abbrev pub AcceptsUpTo : (port rounds : ℕ) → Connections → Connections → Type 0
AcceptsUpTo port rounds was now = (n : ℕ) × (n ≤ rounds) × Accepts port n was now

-- so many connections were accepted, or fewer where an accept failed, or up to so many where memory was refused
abbrev pub Makes : (port rounds : ℕ) → Connections → Connections → Result (Unit {0}) RoundFault → Type 0
Makes port rounds was now (Ok done) = Accepts port rounds was now
Makes port rounds was now (Err DoorFault) = AcceptsFewer port rounds was now
Makes port rounds was now (Err NoMemory) = AcceptsUpTo port rounds was now

-- the door's count rose exactly where an accept failed
abbrev pub HasDoorCause : ℕ → ℕ → Result (Unit {0}) RoundFault → Type 0
HasDoorCause before now (Ok done) = now ≡ before
HasDoorCause before now (Err DoorFault) = (before ≤ now) × Rose before now
HasDoorCause before now (Err NoMemory) = now ≡ before

-- what a trial has done, by its status
pub record Works (trial : Trial) (was now : Connections) (before after : ℕ) (code : ℕ) : Type 0 where
  pub done : code ≡ 0 → Accepts trial.port trial.rounds was now
  pub unfinished : code ≡ 9 → AcceptsUpTo trial.port trial.rounds was now
  pub failed : code ≡ 11 → AcceptsFewer trial.port trial.rounds was now
  pub cause : code ≡ 11 → Rose before after
  pub passed : code ≢ 11 → after ≡ before

-- the status of a trial
abbrev pub is_trial_status : ℕ → Bool
is_trial_status code = (code == 0) || (code == 9) || (code == 11)

abbrev pub is_status : ℕ → Bool
is_status code = is_trial_status code || (code == 2)

-- the last line at a status
abbrev pub line_at : ℕ → List ℕ
line_at code =
    if code == 2 then plain_line ends.Usage
    else if code == 9 then plain_line ends.NoMemory
    else if code == 11 then plain_line ends.DoorFault
    else []
