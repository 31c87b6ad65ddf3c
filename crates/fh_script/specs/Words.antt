-- The words of a line.
use Rattle.std.specs.Prelude.{ℕ, ◌==◌, not, List, length, filter, map}
use Rattle.std.specs.List.{slice_split}
use Rattle.std.specs.Borrow.{Bor}

-- what stands between runs of spaces
abbrev pub words : List ℕ → List (List ℕ)
words line = filter (λ word. not (length word == 0)) (slice_split (λ b. b == 32) line)

-- the words that lent words point to
abbrev pub texts : List (Bor (List ℕ)) → List (List ℕ)
texts words = map (λ word. word.now) words
