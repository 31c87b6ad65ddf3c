-- The lines of a script, each with the bytes that end it, and what reading one takes from a source.
use Rattle.std.specs.Prelude.{◌≡◌, ⊤, ℕ, ◌+◌, ◌-◌, ◌<◌, ◌≤◌, ◌==◌, nat_eq, List, [], ◌∷◌, length, take, if◌then◌else◌, Bool, true, false, Option, Some, None, Result, Ok, Err}
use Rattle.std.specs.List.{count_by, ends_with}
use Rattle.std.specs.Io.KnownBytes.{Consumes, IsAtEnd}
use Rattle.fh_base.specs.Faults.{Rose}
use Rattle.fh_base.specs.Limits.{longest_line}
use Rattle.fh_script.specs.declared.faults.LineFault.{LineFault}
use Rattle.fh_script.specs.declared.faults.LineFault.TheVariants.{ReadFault, TooLong, NoMemory}

abbrev pub is_line_feed : ℕ → Bool
is_line_feed b = b == 10

-- a byte in front of the first line
abbrev pub before_lines : ℕ → List (List ℕ) → List (List ℕ)
before_lines b [] = (b ∷ []) ∷ []
before_lines b (line ∷ more) = (b ∷ line) ∷ more

-- the lines of these bytes, each with its line feed; a last one without counts where it isn't empty
abbrev pub lines : List ℕ → List (List ℕ)
lines [] = []
lines (b ∷ rest) = if is_line_feed b then (b ∷ []) ∷ lines rest else before_lines b (lines rest)

-- how many bytes stand before the first line feed
abbrev pub line_length : List ℕ → ℕ
line_length [] = 0
line_length (b ∷ rest) = if is_line_feed b then 0 else line_length rest + 1

-- the line without its line feed, and without one carriage return before that
abbrev pub line_text : List ℕ → List ℕ
line_text line =
    if ends_with nat_eq line (13 ∷ 10 ∷ []) then take (length line - 2) line
    else if ends_with nat_eq line (10 ∷ []) then take (length line - 1) line
    else line

-- how many line feeds these bytes have
abbrev pub line_feeds : List ℕ → ℕ
line_feeds bytes = count_by is_line_feed bytes

-- the line ends with a line feed
abbrev pub is_ended : List ℕ → Bool
is_ended line = ends_with nat_eq line (10 ∷ [])

-- where a source tells: the first of its lines was taken
abbrev pub IsFirstLine : Option (List ℕ) → Option (List ℕ) → List ℕ → Type 0
IsFirstLine None now line = ⊤
IsFirstLine (Some was) None line = ⊥
IsFirstLine (Some was) (Some now) line = lines was ≡ line ∷ lines now

-- A line was read: it isn't too long, and only the last one has no line feed.
pub record FindsLine (was now : Option (List ℕ)) (line : List ℕ) : Type 0 where
  pub first : IsFirstLine was now line
  pub consumed : Consumes was now line
  pub short : line_length line ≤ longest_line
  pub stored : length line ≤ longest_line + 1
  pub feeds : is_ended line ≡ true → line_feeds line ≡ 1
  pub ended : is_ended line ≡ false → IsAtEnd now

-- nothing was left
pub record FindsEnd (was now : Option (List ℕ)) : Type 0 where
  pub was_ended : IsAtEnd was
  pub ended : IsAtEnd now
  pub consumed : Consumes was now []

-- a line was read, or there was none
abbrev pub ReadsLine : Option (List ℕ) → Option (List ℕ) → List ℕ → Bool → Type 0
ReadsLine was now line true = FindsLine was now line
ReadsLine was now line false = FindsEnd was now

-- where a source tells: its first line is too long
abbrev pub StartsLong : Option (List ℕ) → Type 0
StartsLong None = ⊤
StartsLong (Some was) = longest_line < line_length was

-- What was taken from the source where no line was read: at most 140,001 bytes.
pub record Took (was now : Option (List ℕ)) : Type 0 where
  pub taken : List ℕ
  pub consumed : Consumes was now taken
  pub few : length taken ≤ longest_line + 1

-- the same, without a line feed
pub record TookPart (was now : Option (List ℕ)) : Type 0 where
  pub took : Took was now
  pub part : line_feeds took.taken ≡ 0

-- the first line is too long: 140,001 bytes of it were taken
pub record TookLong (was now : Option (List ℕ)) : Type 0 where
  pub starts : StartsLong was
  pub taken : List ℕ
  pub consumed : Consumes was now taken
  pub part : line_feeds taken ≡ 0
  pub long : length taken ≡ longest_line + 1

-- why no line was read: the source failed, the line is too long, or memory was refused
abbrev pub HasLineReason : Option (List ℕ) → Option (List ℕ) → LineFault → Type 0
HasLineReason was now ReadFault = TookPart was now
HasLineReason was now TooLong = TookLong was now
HasLineReason was now NoMemory = Took was now

-- a source counts a fault where it failed, and nowhere else
abbrev pub CountsRead : {T : Type 0} → ℕ → ℕ → Result T LineFault → Type 0
CountsRead before now (Ok found) = now ≡ before
CountsRead before now (Err ReadFault) = Rose before now
CountsRead before now (Err TooLong) = now ≡ before
CountsRead before now (Err NoMemory) = now ≡ before
