-- Names and texts in pairs.
use Rattle.std.specs.Prelude.{ℕ, List, [], ◌∷◌, Option, Some, None, if◌then◌else◌}
use Rattle.std.specs.Str.{bytes_eq}

-- the text beside the first such name
abbrev pub text_at : List ℕ → List (List ℕ × List ℕ) → Option (List ℕ)
text_at name [] = None
text_at name (pair ∷ pairs) = if bytes_eq pair.0 name then Some pair.1 else text_at name pairs
