-- The grammars of names.
use Rattle.std.specs.Prelude.{ℕ, ◌-◌, ◌==◌, nat_le, Bool, false, not, ◌&&◌, ◌||◌, List, [], ◌∷◌, length, slice_index}
use Rattle.std.specs.List.{list_all}

-- a lower-case letter or a digit
abbrev pub is_letter_or_digit : ℕ → Bool
is_letter_or_digit c = (nat_le 97 c && nat_le c 122) || (nat_le 48 c && nat_le c 57)

abbrev pub is_dash : ℕ → Bool
is_dash c = c == 45

abbrev pub begins_with_dash : List ℕ → Bool
begins_with_dash [] = false
begins_with_dash (c ∷ rest) = is_dash c

-- two dashes stand side by side
abbrev pub has_two_dashes_together : List ℕ → Bool
has_two_dashes_together [] = false
has_two_dashes_together (c ∷ rest) = (is_dash c && begins_with_dash rest) || has_two_dashes_together rest

abbrev pub has_queue_length : List ℕ → Bool
has_queue_length text = nat_le 3 (length text) && nat_le (length text) 63

-- a letter or digit stands first and last
abbrev pub has_firm_ends : List ℕ → Bool
has_firm_ends text = is_letter_or_digit (slice_index text 0) && is_letter_or_digit (slice_index text (length text - 1))

-- 3 to 63 lower-case letters, digits and dashes; a letter or digit first and last; no two dashes together
abbrev pub is_queue_name : List ℕ → Bool
is_queue_name text =
    has_queue_length text && list_all (λ c. is_letter_or_digit c || is_dash c) text && has_firm_ends text
    && not (has_two_dashes_together text)
