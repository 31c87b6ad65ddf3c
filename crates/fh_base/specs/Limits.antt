-- The limits that several layers test.
use Rattle.std.specs.Prelude.{ℕ}

-- the most bytes of a script's line before its line feed
abbrev pub longest_line : ℕ
longest_line = 140000

-- the most bytes of an entry in the journal
abbrev pub longest_payload : ℕ
longest_payload = 16777216

-- the most bytes of a message's text
abbrev pub longest_text : ℕ
longest_text = 65536

-- a week, in seconds: the longest hold and delay, and the usual time to live
abbrev pub seconds_of_week : ℕ
seconds_of_week = 604800

-- the most bytes of an HTTP message, its head and body together
abbrev pub longest_message : ℕ
longest_message = 2097152

-- the most fields of an HTTP message's head
abbrev pub most_fields : ℕ
most_fields = 64
