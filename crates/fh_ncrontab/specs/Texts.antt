-- What the text of a schedule stands for.
use Rattle.std.specs.Prelude.{ℕ, ◌||◌, ◌==◌, nat_lt, if◌then◌else◌, List, [], ◌∷◌, length, filter, slice_index_or, Option, None, Some, is_some, option_map, Result, Ok, Err, codes, pos}
use Rattle.std.specs.Option.{option_or}
use Rattle.fh_ncrontab.specs.declared.fault.FieldFault.{FieldFault}
use Rattle.fh_ncrontab.specs.declared.fault.FieldFault.TheVariants.{Bad, Backward}
use Rattle.fh_ncrontab.specs.declared.fault.CronFault.{CronFault}
use Rattle.fh_ncrontab.specs.declared.fault.CronFault.TheVariants.{FieldCount, BadField, BackwardRange, NeverRuns}
use Rattle.fh_ncrontab.specs.declared.schedule.Schedule.{Schedule}
use Rattle.fh_ncrontab.specs.Fields.{pieces, parts, first_fault, numbers_of}
use Rattle.fh_ncrontab.specs.Schedule.{first_from}

-- the words of a text stand between runs of spaces
abbrev pub words : List ℕ → List (List ℕ)
words text = filter (λ word. nat_lt 0 (length word)) (pieces 32 text)

-- a schedule has six fields; where five are given, the second is 0
abbrev pub fields : List ℕ → List (List ℕ)
fields text = if length (words text) == 5 then codes "0" ∷ words text else words text

abbrev pub field : List ℕ → ℕ → List ℕ
field text k = slice_index_or (fields text) k []

abbrev pub numbered : ℕ → FieldFault → CronFault
numbered k Bad = BadField k
numbered k Backward = BackwardRange k

-- the fault of field k
abbrev pub fault_at : ℕ → ℕ → ℕ → List ℕ → Option CronFault
fault_at k lo hi text = option_map (numbered k) (first_fault lo hi (parts (field text k)))

-- the fault of the first faulty field from the left
abbrev pub field_fault : List ℕ → Option CronFault
field_fault text =
    option_or (fault_at 0 0 59 text) (option_or (fault_at 1 0 59 text) (option_or (fault_at 2 0 23 text)
    (option_or (fault_at 3 1 31 text) (option_or (fault_at 4 1 12 text) (fault_at 5 0 6 text)))))

-- the fault of a text: by the count of its fields, and then by field
abbrev pub text_fault : List ℕ → Option CronFault
text_fault text =
    if (length (words text) == 5) || (length (words text) == 6) then field_fault text
    else Some (FieldCount (length (words text)))

-- the six sets of a text, where no field of it is faulty
abbrev pub sets_of : List ℕ → Schedule
sets_of text = record {
  second = numbers_of 0 59 (field text 0);
  minute = numbers_of 0 59 (field text 1);
  hour = numbers_of 0 23 (field text 2);
  day = numbers_of 1 31 (field text 3);
  month = numbers_of 1 12 (field text 4);
  weekday = numbers_of 0 6 (field text 5);
}

-- a schedule that has a second from 1970 to the end of the year 9999
abbrev pub running : Schedule → Result Schedule CronFault
running s = if is_some (first_from s (pos 0)) then Ok s else Err NeverRuns

abbrev pub schedule_or : Option CronFault → Schedule → Result Schedule CronFault
schedule_or None s = running s
schedule_or (Some fault) s = Err fault

-- the schedule of a text, or why it has none
unfoldable pub schedule_of : List ℕ → Result Schedule CronFault
schedule_of text = schedule_or (text_fault text) (sets_of text)
