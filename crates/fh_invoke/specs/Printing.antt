-- How an output's value is written.
use Rattle.std.specs.Prelude.{◌≡◌, ◌≤◌, ℕ, List, false, Some}
use Rattle.json.specs.Lex.{tokens}
use Rattle.json.specs.Print.{print}
use Rattle.serde_json.specs.Data.{Data, null, boolean, number, string, array, object, depth}
use Rattle.serde_json.specs.Read.{read, max_depth}
use Rattle.serde_json.specs.Written.{compact_text, has_float, IsInOrder}

-- compact JSON of the value; only the digits of a number with a fraction or an exponent are left open, and those
-- read back as the number: every value that was read nests no deeper than is read
pub record IsJsonOf (value : Data) (text : List ℕ) : Type 0 where
  pub exact : has_float value ≡ false → text ≡ compact_text value
  pub compact : text ≡ print (tokens text)
  pub order : IsInOrder text value
  pub reads_back : depth value ≤ max_depth → read text ≡ Some value

-- a text is written as it is, and any other value as compact JSON
abbrev pub IsPrinted : Data → List ℕ → Type 0
IsPrinted null text = IsJsonOf null text
IsPrinted (boolean b) text = IsJsonOf (boolean b) text
IsPrinted (number n) text = IsJsonOf (number n) text
IsPrinted (string plain) text = text ≡ plain
IsPrinted (array values) text = IsJsonOf (array values) text
IsPrinted (object members) text = IsJsonOf (object members) text
