-- Reading a name from the right, a spot at a time. Only private functions cite this.
use Rattle.std.specs.Prelude.{◌≡◌, ◌≢◌, ℕ, List, [], ◌∷◌, ◌++◌, length, map, reverse, ◌≤◌}
use Rattle.std.specs.List.{AllByRecursion}
use Rattle.std.specs.Ordering.{nat_cmp}
use Rattle.std.specs.declared.cmp.Ordering.TheVariants.{Greater}
use Rattle.std.specs.Cmp.Lexicographic.{slice_cmp}
use Rattle.std.specs.Str.{IsUtf8}
use Rattle.fh_exprs.specs.Layout.{Spot}
use Rattle.fh_exprs.specs.Matching.{spelled, IsFilledText}

-- the text ends with these spots, filled by the texts, and `rest` comes before them
pub record IsTail (spots : List Spot) (name rest : List ℕ) (texts : List (List ℕ)) : Type 0 where
  pub one_each : length texts ≡ length spots
  pub characters : AllByRecursion IsFilledText texts
  pub whole : name ≡ rest ++ spelled spots [] texts

-- no way to end with these spots leaves more before them, or as much and greater lengths
pub record IsGreatestTail (spots : List Spot) (name rest : List ℕ) (texts : List (List ℕ)) : Type 0 where
  pub reads : IsTail spots name rest texts
  pub greatest : (other : List ℕ) (others : List (List ℕ)) → IsTail spots name other others
      → slice_cmp nat_cmp (length other ∷ map length others) (length rest ∷ map length texts) ≢ Greater

-- what is left before these spots, and their names and texts, the last first
pub record EndsAs (spots : List Spot) (name rest : List ℕ) (pairs : List (List ℕ × List ℕ)) : Type 0 where
  pub names : map (λ p. p.0) (reverse pairs) ≡ map (λ s. s.1) spots
  pub texts : IsGreatestTail spots name rest (map (λ p. p.1) (reverse pairs))

-- the text is cut round the last place of `before` that has a character behind it
pub record IsLastCut (text before front behind : List ℕ) : Type 0 where
  pub whole : text ≡ front ++ (before ++ behind)
  pub filled : IsFilledText behind
  pub last : (other more : List ℕ) → IsUtf8 other → more ≢ [] → text ≡ other ++ (before ++ more)
      → length other ≤ length front

-- `before` has no place in the text with a character behind it
abbrev pub HasNoCut : List ℕ → List ℕ → Type 0
HasNoCut text before = (other more : List ℕ) → IsUtf8 other → more ≢ [] → text ≢ other ++ (before ++ more)
