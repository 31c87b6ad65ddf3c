-- The fields of an entry, and the one spelling of each.
use Rattle.std.specs.Prelude.{◌≡◌, ℕ, ◌<◌, ◌≤◌, ◌^◌, Bool, true, false, List, [], ◌∷◌, ◌++◌, length, Option, Some, None, IfSome, ⊤, IsUtf8}
use Rattle.std.specs.List.{flat_map}
use Rattle.fh_base.specs.Limits.{longest_payload}
use Rattle.std.specs.Int.{w32, w64, to_be_bytes}
use Rattle.fh_event.specs.Masks.{schedule_ranges, are_masks}

-- what stands in a field
pub data Field : Type 0 where
  number : ℕ → Field
  words : List ℕ → Field
  maybe_number : Option ℕ → Field
  maybe_words : Option (List ℕ) → Field
  form : ℕ → Field
  masks : List ℕ → Field
  flag : Bool → Field
  item_count : ℕ → Field

-- the most items of a list
abbrev pub longest_list : ℕ
longest_list = 65536

-- eight bytes, the greatest place first
unfoldable pub number_bytes : ℕ → List ℕ
number_bytes n = to_be_bytes w64 n

-- the length in four bytes, and then the text
unfoldable pub text_bytes : List ℕ → List ℕ
text_bytes text = to_be_bytes w32 (length text) ++ text

-- how many items a list has, in four bytes
unfoldable pub count_bytes : ℕ → List ℕ
count_bytes n = to_be_bytes w32 n

-- a byte 0, or a byte 1 and the value
unfoldable pub maybe_bytes : {X : Type 0} → (X → List ℕ) → Option X → List ℕ
maybe_bytes bytes None = 0 ∷ []
maybe_bytes bytes (Some x) = 1 ∷ bytes x

-- the byte of a truth value
abbrev pub flag_byte : Bool → ℕ
flag_byte false = 0
flag_byte true = 1

abbrev pub spelled : Field → List ℕ
spelled (number n) = number_bytes n
spelled (words text) = text_bytes text
spelled (maybe_number n) = maybe_bytes number_bytes n
spelled (maybe_words text) = maybe_bytes text_bytes text
spelled (form n) = n ∷ []
spelled (masks numbers) = flat_map number_bytes numbers
spelled (flag b) = flag_byte b ∷ []
spelled (item_count n) = count_bytes n

-- the text is UTF-8 and not too long
pub record IsText (text : List ℕ) : Type 0 where
  pub utf8 : IsUtf8 text
  pub short : length text ≤ longest_payload

-- what may stand in a field
abbrev pub IsField : Field → Type 0
IsField (number n) = n < 2 ^ 64
IsField (words text) = IsText text
IsField (maybe_number n) = IfSome n (λ m. m < 2 ^ 64)
IsField (maybe_words text) = IfSome text IsText
IsField (form n) = n < 2 ^ 8
IsField (masks numbers) = are_masks schedule_ranges numbers ≡ true
IsField (flag b) = ⊤
IsField (item_count n) = n ≤ longest_list

-- no text is too long for a field
abbrev pub IsShort : Field → Type 0
IsShort (number n) = ⊤
IsShort (words text) = length text ≤ longest_payload
IsShort (maybe_number n) = ⊤
IsShort (maybe_words text) = IfSome text (λ t. length t ≤ longest_payload)
IsShort (form n) = ⊤
IsShort (masks numbers) = ⊤
IsShort (flag b) = ⊤
IsShort (item_count n) = ⊤
