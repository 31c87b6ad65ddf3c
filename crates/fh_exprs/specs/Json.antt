-- Looking into a JSON value, and the text that one stands for.
use Rattle.std.specs.Prelude.{ℕ, true, false, List, [], ◌∷◌, codes, Option, Some, None, option_and_then}
use Rattle.std.specs.Fmt.{decimal, signed_decimal}
use Rattle.serde_json.specs.Data.{Num, unsigned, negative, float, Data, null, boolean, number, string, array, object}
use Rattle.serde_json.specs.Find.{get}

abbrev pub dot : ℕ
dot = 46

-- a whole number in decimal; a number with a fraction or an exponent has no text
abbrev pub number_text : Num → Option (List ℕ)
number_text (unsigned n) = Some (decimal n)
number_text (negative z) = Some (signed_decimal z)
number_text (float _) = None

-- the text that a JSON value stands for: a text itself, a whole number, or a truth value
abbrev pub json_text : Data → Option (List ℕ)
json_text null = None
json_text (boolean true) = Some (codes "true")
json_text (boolean false) = Some (codes "false")
json_text (number n) = number_text n
json_text (string text) = Some text
json_text (array _) = None
json_text (object _) = None

-- the member of the member, and so on
abbrev pub member_at : List (List ℕ) → Data → Option Data
member_at [] value = Some value
member_at (name ∷ names) value = option_and_then (member_at names) (get name value)
