-- The names of a pattern with the texts that they have in a name: as a function, and as the greatest of
-- all readings.
use Rattle.std.specs.Prelude.{◌≡◌, ◌≢◌, ℕ, zero, suc, List, [], ◌∷◌, ◌++◌, length, map, take, drop, if◌then◌else◌, Option, Some, None, option_map, option_and_then}
use Rattle.std.specs.List.{AllByRecursion}
use Rattle.std.specs.Option.{option_or}
use Rattle.std.specs.Ordering.{nat_cmp}
use Rattle.std.specs.declared.cmp.Ordering.TheVariants.{Greater}
use Rattle.std.specs.Cmp.Lexicographic.{slice_cmp}
use Rattle.std.specs.Str.{IsUtf8, is_utf8, bytes_eq}
use Rattle.fh_exprs.specs.Layout.{Spot, Layout}

-- what stands behind the plain text, if a text begins with it
abbrev pub behind : List ℕ → List ℕ → Option (List ℕ)
behind plain text =
    if bytes_eq (take (length plain) text) plain then Some (drop (length plain) text) else None

-- one more pair in front
abbrev pub onto : List ℕ × List ℕ → Option (List (List ℕ × List ℕ)) → Option (List (List ℕ × List ℕ))
onto pair pairs = option_map (λ more. pair ∷ more) pairs

-- the name with the longest text, of at most n bytes of `text`, that lets the rest match
unfoldable pub longest : List ℕ → (List ℕ → Option (List (List ℕ × List ℕ))) → List ℕ → ℕ
    → Option (List (List ℕ × List ℕ))
longest name rest text zero = None
longest name rest text (suc n) =
    option_or (if is_utf8 (take (suc n) text) then onto (name, take (suc n) text) (rest (drop (suc n) text)) else None)
    (longest name rest text n)

-- the names of the spots with their texts: the first has the longest text that lets the rest match,
-- then the second, and so on
unfoldable pub matched_by : List Spot → List ℕ → List ℕ → Option (List (List ℕ × List ℕ))
matched_by [] last name = if bytes_eq name last then Some [] else None
matched_by (spot ∷ spots) last name =
    option_and_then (λ text. longest spot.1 (matched_by spots last) text (length text)) (behind spot.0 name)

-- the pattern's names with the texts that they have in a name, or none where it doesn't match
abbrev pub matched : Layout → List ℕ → Option (List (List ℕ × List ℕ))
matched layout name = matched_by layout.spots layout.last name

-- the plain texts with a text in the place of each name, one behind the other
abbrev pub spelled : List Spot → List ℕ → List (List ℕ) → List ℕ
spelled [] last texts = last
spelled (spot ∷ spots) last [] = spot.0 ++ spelled spots last []
spelled (spot ∷ spots) last (text ∷ texts) = spot.0 ++ (text ++ spelled spots last texts)

-- at least one character
pub record IsFilledText (text : List ℕ) : Type 0 where
  pub utf8 : IsUtf8 text
  pub filled : text ≢ []

-- with these texts for its names the pattern spells the name
pub record IsReading (layout : Layout) (name : List ℕ) (texts : List (List ℕ)) : Type 0 where
  pub one_each : length texts ≡ length layout.spots
  pub characters : AllByRecursion IsFilledText texts
  pub whole : name ≡ spelled layout.spots layout.last texts

-- no reading has lengths that are greater in lexicographic order
pub record IsGreatestReading (layout : Layout) (name : List ℕ) (texts : List (List ℕ)) : Type 0 where
  pub reads : IsReading layout name texts
  pub greatest : (others : List (List ℕ)) → IsReading layout name others
      → slice_cmp nat_cmp (map length others) (map length texts) ≢ Greater

-- the pattern's names, each with its text
pub record ReadsAs (layout : Layout) (name : List ℕ) (pairs : List (List ℕ × List ℕ)) : Type 0 where
  pub names : map (λ p. p.0) pairs ≡ map (λ s. s.1) layout.spots
  pub texts : IsGreatestReading layout name (map (λ p. p.1) pairs)
