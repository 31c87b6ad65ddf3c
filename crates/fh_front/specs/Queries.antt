-- The numbers of a request, in its query (URL Standard, application/x-www-form-urlencoded) and in its path.
use Rattle.std.specs.Prelude.{ℕ, if◌then◌else◌, List, [], ◌∷◌, codes, Option, Some, None, Result, Ok, Err}
use Rattle.std.specs.Str.{bytes_eq}
use Rattle.std.specs.Str.Lossy.{utf8_lossy}
use Rattle.form_urlencoded.specs.Form.{raw_pairs, decode}
use Rattle.percent_encoding.specs.Percent.{percent_decode}
use Rattle.fh_base.specs.Limits.{seconds_of_week}
use Rattle.fh_base.specs.Numbers.{number_of as digits_number}
use Rattle.fh_front.specs.declared.fault.FrontFault.{FrontFault}
use Rattle.fh_front.specs.declared.fault.FrontFault.TheVariants.{BadQuery}
use Rattle.fh_front.specs.Answers.{◌>>=◌}

-- a name or a value, decoded; what isn't UTF-8 becomes U+FFFD
abbrev pub shown : List ℕ → List ℕ
shown bytes = utf8_lossy (decode bytes)

-- the value beside the first such name
abbrev pub value_in : List ℕ → List (List ℕ × List ℕ) → Option (List ℕ)
value_in name [] = None
value_in name ((key, value) ∷ pairs) = if bytes_eq (shown key) name then Some (shown value) else value_in name pairs

unfoldable pub value_of : List ℕ → List ℕ → Option (List ℕ)
value_of name query = value_in name (raw_pairs query)

abbrev pub number_if : Option ℕ → Result ℕ FrontFault
number_if (Some number) = Ok number
number_if None = Err BadQuery

-- 1 to 15 decimal digits
unfoldable pub number_of : List ℕ → Result ℕ FrontFault
number_of text = number_if (digits_number text)

abbrev pub needed_in : Option (List ℕ) → Result ℕ FrontFault
needed_in None = Err BadQuery
needed_in (Some text) = number_of text

-- a number that has no default
unfoldable pub needed : List ℕ → List ℕ → Result ℕ FrontFault
needed name query = needed_in (value_of name query)

abbrev pub number_in_or : ℕ → Option (List ℕ) → Result ℕ FrontFault
number_in_or default None = Ok default
number_in_or default (Some text) = number_of text

-- a number with its default
unfoldable pub number_or : ℕ → List ℕ → List ℕ → Result ℕ FrontFault
number_or default name query = number_in_or default (value_of name query)

-- seconds, or -1 for none
unfoldable pub lifetime_of : List ℕ → Result (Option ℕ) FrontFault
lifetime_of text = if bytes_eq text (codes "-1") then Ok None else number_of text >>= λ seconds. Ok (Some seconds)

abbrev pub lifetime_in : Option (List ℕ) → Result (Option ℕ) FrontFault
lifetime_in None = Ok (Some seconds_of_week)
lifetime_in (Some text) = lifetime_of text

-- a time to live in seconds, by default a week; -1 is none
unfoldable pub lifetime : List ℕ → Result (Option ℕ) FrontFault
lifetime query = lifetime_in (value_of (codes "ttl") query)

-- a number in a path
unfoldable pub number_of_part : List ℕ → Result ℕ FrontFault
number_of_part part = number_of (percent_decode part)
