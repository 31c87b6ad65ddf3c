-- The names of the months and of the days of the week, in their order.
use Rattle.std.specs.Prelude.{ℕ, Bool, List, [], ◌∷◌, ◌+◌, map, position, Option, option_map, codes, bytes_eq}
use Rattle.std.specs.Option.{option_or}
use Rattle.std.specs.Char.{to_ascii_lowercase}

abbrev pub short_months : List (List ℕ)
short_months =
    codes "Jan" ∷ codes "Feb" ∷ codes "Mar" ∷ codes "Apr" ∷ codes "May" ∷ codes "Jun" ∷ codes "Jul"
    ∷ codes "Aug" ∷ codes "Sep" ∷ codes "Oct" ∷ codes "Nov" ∷ codes "Dec" ∷ []

abbrev pub months : List (List ℕ)
months =
    codes "January" ∷ codes "February" ∷ codes "March" ∷ codes "April" ∷ codes "May" ∷ codes "June"
    ∷ codes "July" ∷ codes "August" ∷ codes "September" ∷ codes "October" ∷ codes "November"
    ∷ codes "December" ∷ []

abbrev pub short_days : List (List ℕ)
short_days =
    codes "Sun" ∷ codes "Mon" ∷ codes "Tue" ∷ codes "Wed" ∷ codes "Thu" ∷ codes "Fri" ∷ codes "Sat" ∷ []

abbrev pub days : List (List ℕ)
days =
    codes "Sunday" ∷ codes "Monday" ∷ codes "Tuesday" ∷ codes "Wednesday" ∷ codes "Thursday"
    ∷ codes "Friday" ∷ codes "Saturday" ∷ []

-- the text is that name, in any case
abbrev pub is_name : List ℕ → List ℕ → Bool
is_name text name = bytes_eq (map to_ascii_lowercase text) (map to_ascii_lowercase name)

-- how many names stand before the one that the text is
abbrev pub place_in : List (List ℕ) → List ℕ → Option ℕ
place_in names text = position (is_name text) names

-- January is 1
abbrev pub month_named : List ℕ → Option ℕ
month_named text = option_map (λ before. before + 1) (option_or (place_in short_months text) (place_in months text))

-- Sunday is 0
abbrev pub day_named : List ℕ → Option ℕ
day_named text = option_or (place_in short_days text) (place_in days text)
