-- The grammar of plain names, which functions and clients' leases have.
use Rattle.std.specs.Prelude.{ℕ, ◌==◌, nat_le, Bool, false, ◌&&◌, ◌||◌, List, [], ◌∷◌, length}
use Rattle.std.specs.List.{list_all}

abbrev pub is_letter : ℕ → Bool
is_letter c = (nat_le 97 c && nat_le c 122) || (nat_le 65 c && nat_le c 90)

-- a letter, a digit, a dash or an underscore
abbrev pub is_plain_character : ℕ → Bool
is_plain_character c = is_letter c || (nat_le 48 c && nat_le c 57) || (c == 45) || (c == 95)

abbrev pub begins_with_letter : List ℕ → Bool
begins_with_letter [] = false
begins_with_letter (c ∷ rest) = is_letter c

-- at most 127 letters, digits, dashes and underscores, of which the first is there and is a letter
abbrev pub is_plain_name : List ℕ → Bool
is_plain_name text = nat_le (length text) 127 && begins_with_letter text && list_all is_plain_character text
