-- What the text of a field stands for, where the field has the numbers from lo to hi.
use Rattle.std.specs.Prelude.{ℕ, ◌+◌, ◌-◌, ◌*◌, ◌%◌, Bool, true, false, ◌&&◌, ◌||◌, ◌==◌, nat_le, nat_lt, if◌then◌else◌, List, [], ◌∷◌, length, Option, None, Some, Result, Ok, Err, codes, bytes_eq}
use Rattle.std.specs.Option.{option_or}
use Rattle.std.specs.List.{slice_split, before_first, after_first, position_or_len}
use Rattle.fh_ncrontab.specs.declared.fault.FieldFault.{FieldFault}
use Rattle.fh_ncrontab.specs.declared.fault.FieldFault.TheVariants.{Bad, Backward}
use Rattle.fh_ncrontab.specs.declared.part.Part.{Part}
use Rattle.fh_ncrontab.specs.Sets.{mask_of}
use Rattle.fh_ncrontab.specs.Names.{month_named, day_named}

abbrev pub is_digit : ℕ → Bool
is_digit b = nat_le 48 b && nat_le b 57

-- one digit or two
abbrev pub number_of : List ℕ → Option ℕ
number_of [] = None
number_of (a ∷ []) = if is_digit a then Some (a - 48) else None
number_of (a ∷ b ∷ []) = if is_digit a && is_digit b then Some ((a - 48) * 10 + (b - 48)) else None
number_of (a ∷ b ∷ c ∷ more) = None

-- the names belong to the months and to the days of the week
abbrev pub named : ℕ → ℕ → List ℕ → Option ℕ
named lo hi text =
    if (lo == 1) && (hi == 12) then month_named text
    else (if (lo == 0) && (hi == 6) then day_named text else None)

-- a number that isn't outside low to high
abbrev pub within : ℕ → ℕ → Option ℕ → Option ℕ
within low high None = None
within low high (Some n) = if nat_le low n && nat_le n high then Some n else None

-- a number of the field, by its digits or its name
abbrev pub value_of : ℕ → ℕ → List ℕ → Option ℕ
value_of lo hi text = within lo hi (option_or (number_of text) (named lo hi text))

-- what stands before and after the first byte c, if there is one
abbrev pub cut_at : ℕ → List ℕ → Option (List ℕ × List ℕ)
cut_at c text =
    if nat_lt (position_or_len (λ b. b == c) text) (length text)
    then Some (before_first (λ b. b == c) text, after_first (λ b. b == c) text)
    else None

-- a range has two numbers of the field, of which the first isn't the greater
abbrev pub range_of : Option ℕ → Option ℕ → Result (ℕ × ℕ) FieldFault
range_of None last = Err Bad
range_of (Some a) None = Err Bad
range_of (Some a) (Some b) = if nat_le a b then Ok (a, b) else Err Backward

-- a single number stands for itself, and before a step for all from it on
abbrev pub single_of : ℕ → Bool → Option ℕ → Result (ℕ × ℕ) FieldFault
single_of hi stepped None = Err Bad
single_of hi stepped (Some a) = Ok (a, if stepped then hi else a)

-- a-b, or a single number
abbrev pub between_of : ℕ → ℕ → Bool → List ℕ → Option (List ℕ × List ℕ) → Result (ℕ × ℕ) FieldFault
between_of lo hi stepped text None = single_of hi stepped (value_of lo hi text)
between_of lo hi stepped text (Some ends) = range_of (value_of lo hi ends.0) (value_of lo hi ends.1)

-- the least and the greatest number of a part without its step
abbrev pub ends_of : ℕ → ℕ → Bool → List ℕ → Result (ℕ × ℕ) FieldFault
ends_of lo hi stepped text =
    if bytes_eq text (codes "*") then Ok (lo, hi) else between_of lo hi stepped text (cut_at 45 text)

-- a part whose ends are in order and whose step is one of the field's; the ends are judged first
abbrev pub stepped_by : Result (ℕ × ℕ) FieldFault → Option ℕ → Result Part FieldFault
stepped_by (Err fault) step = Err fault
stepped_by (Ok ends) None = Err Bad
stepped_by (Ok ends) (Some step) = Ok (record { first = ends.0; last = ends.1; step = step })

-- a part, where what stands before and after its first slash is told
abbrev pub part_by : ℕ → ℕ → List ℕ → Option (List ℕ × List ℕ) → Result Part FieldFault
part_by lo hi text None = stepped_by (ends_of lo hi false text) (Some 1)
part_by lo hi text (Some cut) = stepped_by (ends_of lo hi true cut.0) (within 1 hi (number_of cut.1))

-- what the text of a part stands for
abbrev pub part_of : ℕ → ℕ → List ℕ → Result Part FieldFault
part_of lo hi text = part_by lo hi text (cut_at 47 text)

-- a number of the part: from its first to its last, by its step
abbrev pub part_has : Part → ℕ → Bool
part_has p n = (nat_le p.first n && nat_le n p.last) && ((n - p.first) % p.step == 0)

-- the pieces of a text between bytes c
abbrev pub pieces : ℕ → List ℕ → List (List ℕ)
pieces c text = slice_split (λ b. b == c) text

-- the parts of a field stand between commas
abbrev pub parts : List ℕ → List (List ℕ)
parts text = pieces 44 text

abbrev pub result_has : Result Part FieldFault → ℕ → Bool
result_has (Ok p) n = part_has p n
result_has (Err fault) n = false

abbrev pub fault_or : Result Part FieldFault → Option FieldFault → Option FieldFault
fault_or (Ok p) other = other
fault_or (Err fault) other = Some fault

-- the fault of the first faulty part from the left
unfoldable pub first_fault : ℕ → ℕ → List (List ℕ) → Option FieldFault
first_fault lo hi [] = None
first_fault lo hi (p ∷ ps) = fault_or (part_of lo hi p) (first_fault lo hi ps)

-- a number of some part
unfoldable pub some_part_has : ℕ → ℕ → List (List ℕ) → ℕ → Bool
some_part_has lo hi [] n = false
some_part_has lo hi (p ∷ ps) n = result_has (part_of lo hi p) n || some_part_has lo hi ps n

-- the set of a field's text, where no part of it is faulty
abbrev pub numbers_of : ℕ → ℕ → List ℕ → ℕ
numbers_of lo hi text = mask_of (some_part_has lo hi (parts text)) 64

abbrev pub set_or : Option FieldFault → ℕ → Result ℕ FieldFault
set_or None set = Ok set
set_or (Some fault) set = Err fault

-- the set of a field's text, or the fault of its first faulty part
abbrev pub field_of : ℕ → ℕ → List ℕ → Result ℕ FieldFault
field_of lo hi text = set_or (first_fault lo hi (parts text)) (numbers_of lo hi text)
