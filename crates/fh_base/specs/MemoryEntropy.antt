-- What an entropy in memory holds.
use Rattle.std.specs.Prelude.{ℕ, List, drop}
use Rattle.fh_base.specs.declared.entropy.MemoryEntropy.{MemoryEntropy}

-- the words that it will still give
abbrev pub words_left : MemoryEntropy → List ℕ
words_left entropy = drop entropy.place entropy.words.items
