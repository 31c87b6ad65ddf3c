-- Durations, written [d.]hh:mm:ss[.f], in milliseconds.
use Rattle.std.specs.Prelude.{ℕ, Bool, ◌+◌, ◌-◌, ◌*◌, ◌==◌, nat_le, ◌&&◌, List, [], ◌∷◌, length, drop, slice_index, slice_index_or, Option, Some, None, option_and_then, option_map, if◌then◌else◌}
use Rattle.std.specs.List.{list_all}

abbrev pub is_digit : ℕ → Bool
is_digit c = nat_le 48 c && nat_le c 57

-- the number of two digits, where it isn't too great
abbrev pub two_digits : ℕ → ℕ → ℕ → Option ℕ
two_digits most tens ones =
    if is_digit tens && is_digit ones && nat_le ((tens - 48) * 10 + (ones - 48)) most
    then Some ((tens - 48) * 10 + (ones - 48)) else None

-- a digit of the fraction, and 0 behind its end
abbrev pub digit_at : ℕ → List ℕ → ℕ
digit_at place digits = slice_index_or digits place 48 - 48

-- a dot and one to seven digits, of which three count; or nothing
abbrev pub fraction_of : List ℕ → Option ℕ
fraction_of [] = Some 0
fraction_of (c ∷ digits) =
    if (c == 46) && nat_le 1 (length digits) && nat_le (length digits) 7 && list_all is_digit digits
    then Some (digit_at 0 digits * 100 + digit_at 1 digits * 10 + digit_at 2 digits) else None

-- hh:mm:ss, up to 23:59:59, and the fraction behind it
abbrev pub time_of : List ℕ → Option ℕ
time_of text =
    if (slice_index text 2 == 58) && (slice_index text 5 == 58) then
    option_and_then (λ hours. option_and_then (λ minutes. option_and_then (λ seconds. option_map (λ part.
    ((hours * 60 + minutes) * 60 + seconds) * 1000 + part)
    (fraction_of (drop 8 text)))
    (two_digits 59 (slice_index text 6) (slice_index text 7)))
    (two_digits 59 (slice_index text 3) (slice_index text 4)))
    (two_digits 23 (slice_index text 0) (slice_index text 1))
    else None

-- so many days, and the time behind their dot
abbrev pub with_days : Option ℕ → Option ℕ → Option ℕ
with_days days time = option_and_then (λ d. option_map (λ t. d * 86400000 + t) time) days

-- one digit of days and a dot, or two, or none before the time
unfoldable pub duration_of : List ℕ → Option ℕ
duration_of text =
    if slice_index text 1 == 46 then with_days (two_digits 99 48 (slice_index text 0)) (time_of (drop 2 text))
    else if slice_index text 2 == 46
    then with_days (two_digits 99 (slice_index text 0) (slice_index text 1)) (time_of (drop 3 text))
    else time_of text
