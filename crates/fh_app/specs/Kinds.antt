-- The kinds of values that members have. None is a value of another kind.
use Rattle.std.specs.Prelude.{ℕ, nat_le, ◌&&◌, not, Bool, List, [], codes, Option, Some, None, option_and_then, option_map, unwrap_or, false, if◌then◌else◌}
use Rattle.std.specs.Str.{bytes_eq}
use Rattle.serde_json.specs.Data.{Data}
use Rattle.serde_json.specs.Find.{as_str, as_bool, as_number, as_u64}
use Rattle.fh_base.specs.Durations.{duration_of}

-- what passes the test
abbrev pub only : {T : Type 0} → (T → Bool) → Option T → Option T
only test None = None
only test (Some x) = if test x then Some x else None

abbrev pub text : Data → Option (List ℕ)
text value = as_str value

abbrev pub filled_text : Data → Option (List ℕ)
filled_text value = only (λ t. not (bytes_eq t [])) (as_str value)

-- the value is this text
abbrev pub is_text : List ℕ → Data → Bool
is_text word value = unwrap_or (option_map (λ t. bytes_eq t word) (as_str value)) false

abbrev pub truth : Data → Option Bool
truth value = as_bool value

-- a whole number in a range
abbrev pub number_in : ℕ → ℕ → Data → Option ℕ
number_in least most value =
    only (λ n. nat_le least n && nat_le n most) (option_and_then as_u64 (as_number value))

-- whether queue texts are base64
abbrev pub encoding_named : List ℕ → Option Bool
encoding_named word = if bytes_eq word (codes "base64") then Some Bool.true
    else (if bytes_eq word (codes "none") then Some Bool.false else None)

abbrev pub encoding : Data → Option Bool
encoding value = option_and_then encoding_named (as_str value)

-- a duration in milliseconds, in a range
abbrev pub duration_in : ℕ → ℕ → Data → Option ℕ
duration_in least most value =
    only (λ n. nat_le least n && nat_le n most) (option_and_then duration_of (as_str value))
