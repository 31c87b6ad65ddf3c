-- The texts of moments, in UTC.
use Rattle.std.specs.Prelude.{ℕ, ◌/◌, ◌%◌, ◌++◌, List, codes, min}
use Rattle.std.specs.Fmt.{decimal}
use Rattle.fh_base.specs.Moments.{greatest_moment}
use Rattle.fh_base.specs.declared.calendar.Civil.{Civil}
use Rattle.fh_base.specs.declared.times.TimeForm.{TimeForm}
use Rattle.fh_base.specs.declared.times.TimeForm.TheVariants.{Offset, Millis, Dashed}
use Rattle.fh_base.specs.Calendar.{date_on}

-- the last digits of a number
abbrev pub two_digits : ℕ → List ℕ
two_digits n = decimal (n / 10 % 10) ++ decimal (n % 10)

abbrev pub three_digits : ℕ → List ℕ
three_digits n = decimal (n / 100 % 10) ++ two_digits n

abbrev pub four_digits : ℕ → List ℕ
four_digits n = two_digits (n / 100) ++ two_digits n

-- yyyy-MM-dd
abbrev pub date_text : Civil → List ℕ
date_text c = four_digits c.year ++ (codes "-" ++ (two_digits c.month ++ (codes "-" ++ two_digits c.day)))

-- HH mm ss of a second of the day, with this between them
abbrev pub clock_text : List ℕ → ℕ → List ℕ
clock_text between second =
    two_digits (second / 3600) ++ (between ++ (two_digits (second / 60 % 60) ++ (between ++ two_digits (second % 60))))

-- yyyy-MM-ddTHH mm ss
abbrev pub second_text : List ℕ → ℕ → List ℕ
second_text between second =
    date_text (date_on (second / 86400)) ++ (codes "T" ++ clock_text between (second % 86400))

abbrev pub form_text : TimeForm → ℕ → List ℕ
form_text Offset ms = second_text (codes ":") (ms / 1000) ++ codes "+00:00"
form_text Millis ms = second_text (codes ":") (ms / 1000) ++ (codes "." ++ (three_digits (ms % 1000) ++ codes "Z"))
form_text Dashed ms = second_text (codes "-") (ms / 1000) ++ codes "Z"

-- a moment past the greatest one is written as the greatest
unfoldable pub time_text : TimeForm → ℕ → List ℕ
time_text form ms = form_text form (min ms greatest_moment)
