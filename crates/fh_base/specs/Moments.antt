-- Moments, in milliseconds since the first of January 1970.
use Rattle.std.specs.Prelude.{ℕ}

-- the last millisecond of the year 9999
abbrev pub greatest_moment : ℕ
greatest_moment = 253402300799999
