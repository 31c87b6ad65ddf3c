-- What the words of a line stand for.
use Rattle.std.specs.Prelude.{ℕ, ◌==◌, Bool, true, false, if◌then◌else◌, List, [], codes, Option, Some, None, Result, Ok, Err}
use Rattle.std.specs.Str.{bytes_eq, is_utf8}
use Rattle.fh_base.specs.Limits.{seconds_of_week}
use Rattle.fh_base.specs.Numbers.{number_of as digits_number}
use Rattle.percent_encoding.specs.Percent.{percent_decode}
use Rattle.fh_ncrontab.specs.declared.fault.CronFault.{CronFault}
use Rattle.fh_ncrontab.specs.declared.schedule.Schedule.{Schedule}
use Rattle.fh_ncrontab.specs.Schedule.{masks_of}
use Rattle.fh_ncrontab.specs.Texts.{schedule_of}
use Rattle.fh_script.specs.declared.faults.WordFault.{WordFault}
use Rattle.fh_script.specs.declared.faults.WordFault.TheVariants.{BadText, BadNumber, BadSchedule}

-- the rest is read only where this was
infixl 10 ◌>>=◌
abbrev pub ◌>>=◌ : {A B : Type 0} → Result A WordFault → (A → Result B WordFault) → Result B WordFault
(Ok x) >>= f = f x
(Err fault) >>= f = Err fault

abbrev pub number_if : Option ℕ → Result ℕ WordFault
number_if (Some number) = Ok number
number_if None = Err BadNumber

-- 1 to 15 decimal digits
unfoldable pub number_of : List ℕ → Result ℕ WordFault
number_of word = number_if (digits_number word)

-- a number, or `-` for a default
unfoldable pub number_or_default : ℕ → List ℕ → Result ℕ WordFault
number_or_default default word = if bytes_eq word (codes "-") then Ok default else number_of word

-- `-1` for never, or the seconds, by default a week
unfoldable pub lifetime_of : List ℕ → Result (Option ℕ) WordFault
lifetime_of word =
    if bytes_eq word (codes "-1") then Ok None
    else number_or_default seconds_of_week word >>= λ seconds. Ok (Some seconds)

-- `%` for the empty text, or the text with its escapes replaced by their bytes
unfoldable pub text_of : List ℕ → Result (List ℕ) WordFault
text_of word =
    if bytes_eq word (codes "%") then Ok []
    else if is_utf8 (percent_decode word) then Ok (percent_decode word)
    else Err BadText

abbrev pub flag_if : ℕ → Result Bool WordFault
flag_if number = if number == 0 then Ok false else if number == 1 then Ok true else Err BadNumber

-- 0 for no and 1 for yes
unfoldable pub flag_of : List ℕ → Result Bool WordFault
flag_of word = number_of word >>= λ number. flag_if number

abbrev pub masks_if : Result Schedule CronFault → Result (List ℕ) WordFault
masks_if (Ok schedule) = Ok (masks_of schedule)
masks_if (Err fault) = Err BadSchedule

-- the masks of a schedule, whose text stands as one word
unfoldable pub masks_of_word : List ℕ → Result (List ℕ) WordFault
masks_of_word word = text_of word >>= λ text. masks_if (schedule_of text)

-- the form of a word
pub data Form : Type 0 where
  number : Form
  number_or : ℕ → Form
  lifetime : Form
  text : Form
  flag : Form
  schedule : Form
  as_it_is : Form

-- what a word of this form stands for
abbrev pub Meaning : Form → Type 0
Meaning number = ℕ
Meaning (number_or default) = ℕ
Meaning lifetime = Option ℕ
Meaning text = List ℕ
Meaning flag = Bool
Meaning schedule = List ℕ
Meaning as_it_is = List ℕ

abbrev pub meaning_of : (form : Form) → List ℕ → Result (Meaning form) WordFault
meaning_of number word = number_of word
meaning_of (number_or default) word = number_or_default default word
meaning_of lifetime word = lifetime_of word
meaning_of text word = text_of word
meaning_of flag word = flag_of word
meaning_of schedule word = masks_of_word word
meaning_of as_it_is word = Ok word
