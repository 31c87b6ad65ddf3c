-- How a text is read as plain text with named places, from the left.
use Rattle.std.specs.Prelude.{ℕ, ◌+◌, ◌==◌, Bool, not, ◌||◌, List, [], ◌∷◌, ◌++◌, length, codes, Option, Some, None, Result, Ok, Err, if◌then◌else◌}
use Rattle.std.specs.List.{list_all, list_any}
use Rattle.std.specs.Char.{is_ascii_alphanumeric}
use Rattle.std.specs.Str.{bytes_eq}
use Rattle.fh_exprs.specs.declared.fault.ExprFault.{ExprFault}
use Rattle.fh_exprs.specs.declared.fault.ExprFault.TheVariants.{OpenBrace, SameName}
use Rattle.fh_exprs.specs.declared.form.Naming.{Naming}
use Rattle.fh_exprs.specs.declared.form.Naming.TheVariants.{Free, Distinct}
use Rattle.fh_exprs.specs.Layout.{Layout}

abbrev pub open_brace : ℕ
open_brace = 123

abbrev pub close_brace : ℕ
close_brace = 125

abbrev pub is_brace : ℕ → Bool
is_brace b = b == open_brace || b == close_brace

-- with more plain text at the end
abbrev pub with_plain : List ℕ → Layout → Layout
with_plain text layout = record { spots = layout.spots; last = layout.last ++ text }

-- with one more name at the end
abbrev pub with_name : List ℕ → Layout → Layout
with_name name layout = record { spots = layout.spots ++ (layout.last, name) ∷ []; last = [] }

abbrev pub is_word_byte : ℕ → Bool
is_word_byte b = is_ascii_alphanumeric b || b == 95

-- the names that the host itself gives values
abbrev pub is_host_name : List ℕ → Bool
is_host_name name = bytes_eq name (codes "BlobTrigger") || bytes_eq name (codes "sys")

-- the fault of one more name of a pattern, whose brace stands at this byte
abbrev pub name_fault : Naming → Layout → ℕ → List ℕ → Option ExprFault
name_fault Free layout at name = None
name_fault Distinct layout at name =
    if not (list_all is_word_byte name) then Some (OpenBrace at)
    else (if is_host_name name || list_any (λ spot. bytes_eq spot.1 name) layout.spots
    then Some (SameName name) else None)

abbrev pub unless : Option ExprFault → Result Layout ExprFault → Result Layout ExprFault
unless None given = given
unless (Some fault) given = Err fault

-- where the reading stands: outside of names before this byte, behind a closing brace that stands at
-- this byte, or behind an opening one at this byte and these bytes of a name
pub data Standing : Type 0 where
  outside : ℕ → Standing
  behind_close : ℕ → Standing
  inside : ℕ → List ℕ → Standing

-- the whole layout, when this much of it was read
unfoldable pub read_on : Naming → Layout → Standing → List ℕ → Result Layout ExprFault
read_on naming layout (outside at) [] = Ok layout
read_on naming layout (outside at) (b ∷ text) =
    if b == open_brace then read_on naming layout (inside at []) text
    else (if b == close_brace then read_on naming layout (behind_close at) text
    else read_on naming (with_plain (b ∷ []) layout) (outside (at + 1)) text)
read_on naming layout (behind_close at) [] = Err (OpenBrace at)
read_on naming layout (behind_close at) (b ∷ text) =
    if b == close_brace then read_on naming (with_plain (close_brace ∷ []) layout) (outside (at + 2)) text
    else Err (OpenBrace at)
read_on naming layout (inside at []) [] = Err (OpenBrace at)
read_on naming layout (inside at []) (b ∷ text) =
    if b == open_brace then read_on naming (with_plain (open_brace ∷ []) layout) (outside (at + 2)) text
    else (if b == close_brace then Err (OpenBrace at)
    else read_on naming layout (inside at (b ∷ [])) text)
read_on naming layout (inside at (n ∷ name)) [] = Err (OpenBrace at)
read_on naming layout (inside at (n ∷ name)) (b ∷ text) =
    if b == open_brace then Err (OpenBrace at)
    else (if b == close_brace
    then unless (name_fault naming layout at (n ∷ name))
    (read_on naming (with_name (n ∷ name) layout) (outside (at + (length (n ∷ name) + 2))) text)
    else read_on naming layout (inside at (n ∷ name ++ b ∷ [])) text)

abbrev pub blank : Layout
blank = record { spots = []; last = [] }

-- what a text reads as
abbrev pub reading : Naming → List ℕ → Result Layout ExprFault
reading naming text = read_on naming blank (outside 0) text

abbrev pub reading_of : Naming → Result (List ℕ) ExprFault → Result Layout ExprFault
reading_of naming (Ok text) = reading naming text
reading_of naming (Err fault) = Err fault
