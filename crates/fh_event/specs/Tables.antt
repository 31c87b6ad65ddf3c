-- Tables of fields: the types of a value's fields in order, from which it is read and made.
use Rattle.std.specs.Prelude.{List, [], ◌∷◌}

-- a value that still takes fields of these types
abbrev pub Taking : {T : Type 0} → (T → Type 0) → Type 0 → List T → Type 0
Taking Held X [] = X
Taking Held X (t ∷ types) = Held t → Taking Held X types
