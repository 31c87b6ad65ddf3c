-- What a door's accepts leave of its list of connections.
use Rattle.std.specs.Prelude.{◌≡◌, ℕ, Bool, true, List, [], ◌∷◌, ◌++◌, Option, Some, None}
use Rattle.std.specs.Option.{option_map}

-- the connections, with one more behind them that was accepted at this port and gives these bytes
abbrev pub with_connection : ℕ → List ℕ → Option (List (ℕ × List ℕ)) → Option (List (ℕ × List ℕ))
with_connection port bytes = option_map (λ earlier. earlier ++ (port, bytes) ∷ [])

-- where the door tells, the connection tells the bytes that it gives, and it stands behind the others
abbrev pub AddsConnection : ℕ → Option (List ℕ) → Option (List (ℕ × List ℕ)) → Option (List (ℕ × List ℕ)) → Type 0
AddsConnection port left None now = now ≡ None
AddsConnection port None (Some earlier) now = ⊥
AddsConnection port (Some bytes) (Some earlier) now = now ≡ with_connection port bytes (Some earlier)

-- where the door tells that no call on a connection fails, the connection tells so too
pub record TellsSure (door reads writes : Bool) : Type 0 where
  pub reading : door ≡ true → reads ≡ true
  pub writing : door ≡ true → writes ≡ true
