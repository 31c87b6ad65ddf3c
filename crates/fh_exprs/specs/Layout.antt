-- A text with named places.
use Rattle.std.specs.Prelude.{ℕ, List}

-- the plain text before a name, and the name
abbrev pub Spot : Type 0
Spot = List ℕ × List ℕ

-- plain texts and names by turns: each spot, and the plain text behind the last one
pub record Layout : Type 0 where
  pub spots : List Spot
  pub last : List ℕ

abbrev pub layout_of : List Spot → List ℕ → Layout
layout_of spots last = record { spots = spots; last = last }
