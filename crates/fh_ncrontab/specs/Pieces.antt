-- What is left of a text behind its first pieces or words. Only private functions cite this.
use Rattle.std.specs.Prelude.{ℕ, ◌+◌, List, [], length, Option, None, Some}
use Rattle.fh_ncrontab.specs.Fields.{pieces}
use Rattle.fh_ncrontab.specs.Texts.{words}

-- the pieces of what is left of a text, if anything is
abbrev pub pieces_left : ℕ → Option (List ℕ) → List (List ℕ)
pieces_left c None = []
pieces_left c (Some text) = pieces c text

-- how long what is left is, where nothing counts less than an empty text
abbrev pub length_left : Option (List ℕ) → ℕ
length_left None = 0
length_left (Some text) = 1 + length text

-- the words of what is left of a text, if anything is
abbrev pub words_left : Option (List ℕ) → List (List ℕ)
words_left None = []
words_left (Some text) = words text
