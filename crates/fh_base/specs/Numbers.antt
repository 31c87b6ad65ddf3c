-- Numbers as lines, queries, paths and lengths write them.
use Rattle.std.specs.Prelude.{ℕ, nat_lt, nat_le, Bool, ◌&&◌, if◌then◌else◌, List, length, Option, Some, None}
use Rattle.std.specs.List.{list_all}
use Rattle.std.specs.Char.{is_ascii_digit}
use Rattle.std.specs.Str.Parse.{digits_value}

-- 1 to 15 decimal digits
abbrev pub is_number : List ℕ → Bool
is_number bytes = nat_lt 0 (length bytes) && nat_le (length bytes) 15 && list_all is_ascii_digit bytes

-- the number that such digits write
unfoldable pub number_of : List ℕ → Option ℕ
number_of bytes = if is_number bytes then Some (digits_value 10 bytes) else None
