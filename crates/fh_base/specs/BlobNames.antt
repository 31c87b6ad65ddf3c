-- The grammar of blobs' names. Such a name is UTF-8, as every text.
use Rattle.std.specs.Prelude.{ℕ, ◌==◌, nat_lt, nat_le, Bool, not, ◌&&◌, ◌||◌, List, length}
use Rattle.std.specs.List.{list_all}

-- a control character, a quotation mark or a backslash
abbrev pub is_barred : ℕ → Bool
is_barred c = nat_lt c 32 || (c == 127) || (c == 34) || (c == 92)

-- 1 to 1,024 bytes, none of them barred
abbrev pub is_blob_name : List ℕ → Bool
is_blob_name text = nat_le 1 (length text) && nat_le (length text) 1024 && list_all (λ c. not (is_barred c)) text
