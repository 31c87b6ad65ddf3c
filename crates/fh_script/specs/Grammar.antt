-- The grammar of a line: what it stands for, or its fault.
use Rattle.std.specs.Prelude.{ℕ, ◌+◌, ◌==◌, nat_lt, if◌then◌else◌, List, [], ◌∷◌, length, slice_index_or, codes, Some, None, Result, Ok, Err}
use Rattle.std.specs.Str.{bytes_eq, is_utf8}
use Rattle.fh_event.specs.declared.command.Command.TheVariants.{MakeQueue, Put, Take, Update, Delete, Clear, PutBlob, DeleteBlob, Note, Acquire, RenewLease, ReleaseLease, Configure, Session, Arm, Tick, Fetch, Peek, GetBlob, Locate, Unnoted}
use Rattle.fh_event.specs.declared.settings.FunctionSettings.TheVariants.{Queue, Blob, Timer}
use Rattle.fh_script.specs.declared.faults.WordFault.{WordFault}
use Rattle.fh_script.specs.declared.faults.WordFault.TheVariants.{BadText, BadWord, BadCount}
use Rattle.fh_script.specs.declared.grammar.LineAsk.{LineAsk}
use Rattle.fh_script.specs.declared.grammar.LineAsk.TheVariants.{Blank, At, Ask}
use Rattle.fh_script.specs.Forms.{◌>>=◌, Form, number, number_or, lifetime, text, flag, schedule, as_it_is, Meaning, meaning_of}
use Rattle.fh_script.specs.Lines.{line_text}
use Rattle.fh_script.specs.Words.{words}

-- a line that still takes what words of these forms stand for
abbrev pub Taking : List Form → Type 0
Taking [] = LineAsk
Taking (form ∷ forms) = Meaning form → Taking forms

-- the words from this place on, each of its form: the first faulty one decides
abbrev pub read_from : ℕ → (forms : List Form) → Taking forms → List (List ℕ) → Result LineAsk WordFault
read_from place [] line words = Ok line
read_from place (form ∷ forms) taking words =
    meaning_of form (slice_index_or words place []) >>= λ meaning. read_from (place + 1) forms (taking meaning) words

-- as many words as there are forms, each of its form
abbrev pub read : (forms : List Form) → Taking forms → List (List ℕ) → Result LineAsk WordFault
read forms taking words = if length words == length forms then read_from 0 forms taking words else Err BadCount

-- The words behind each verb.

unfoldable pub at_line : List (List ℕ) → Result LineAsk WordFault
at_line = read (number ∷ []) (λ ms. At ms)

unfoldable pub queue_line : List (List ℕ) → Result LineAsk WordFault
queue_line = read (text ∷ []) (λ queue. Ask (MakeQueue queue))

unfoldable pub put_line : List (List ℕ) → Result LineAsk WordFault
put_line =
    read (text ∷ number_or 0 ∷ lifetime ∷ text ∷ [])
    (λ queue delay ttl text. Ask (Put queue delay ttl text))

unfoldable pub take_line : List (List ℕ) → Result LineAsk WordFault
take_line = read (text ∷ number_or 1 ∷ number_or 30 ∷ []) (λ queue count hold. Ask (Take queue count hold))

unfoldable pub peek_line : List (List ℕ) → Result LineAsk WordFault
peek_line = read (text ∷ number_or 1 ∷ []) (λ queue count. Ask (Peek queue count))

-- with a new text, or without
unfoldable pub update_line : List (List ℕ) → Result LineAsk WordFault
update_line words =
    if length words == 5
    then read (text ∷ number ∷ number ∷ number_or 30 ∷ text ∷ [])
    (λ queue n receipt hold text. Ask (Update queue n receipt hold (Some text))) words
    else read (text ∷ number ∷ number ∷ number_or 30 ∷ [])
    (λ queue n receipt hold. Ask (Update queue n receipt hold None)) words

unfoldable pub delete_line : List (List ℕ) → Result LineAsk WordFault
delete_line = read (text ∷ number ∷ number ∷ []) (λ queue n receipt. Ask (Delete queue n receipt))

unfoldable pub clear_line : List (List ℕ) → Result LineAsk WordFault
clear_line = read (text ∷ []) (λ queue. Ask (Clear queue))

unfoldable pub where_line : List (List ℕ) → Result LineAsk WordFault
where_line = read (number ∷ []) (λ n. Ask (Locate n))

unfoldable pub blob_line : List (List ℕ) → Result LineAsk WordFault
blob_line = read (text ∷ text ∷ text ∷ []) (λ container blob text. Ask (PutBlob container blob text))

unfoldable pub unblob_line : List (List ℕ) → Result LineAsk WordFault
unblob_line = read (text ∷ text ∷ []) (λ container blob. Ask (DeleteBlob container blob))

unfoldable pub get_line : List (List ℕ) → Result LineAsk WordFault
get_line = read (text ∷ text ∷ []) (λ container blob. Ask (GetBlob container blob))

unfoldable pub note_line : List (List ℕ) → Result LineAsk WordFault
note_line = read (text ∷ text ∷ text ∷ []) (λ function container blob. Ask (Note function container blob))

unfoldable pub unnoted_line : List (List ℕ) → Result LineAsk WordFault
unnoted_line = read (text ∷ text ∷ []) (λ function container. Ask (Unnoted function container))

unfoldable pub acquire_line : List (List ℕ) → Result LineAsk WordFault
acquire_line = read (text ∷ number ∷ number ∷ []) (λ lease holder seconds. Ask (Acquire lease holder seconds))

unfoldable pub renew_line : List (List ℕ) → Result LineAsk WordFault
renew_line = read (text ∷ number ∷ []) (λ lease holder. Ask (RenewLease lease holder))

unfoldable pub release_line : List (List ℕ) → Result LineAsk WordFault
release_line = read (text ∷ number ∷ []) (λ lease holder. Ask (ReleaseLease lease holder))

-- the settings of a function on a queue, behind its name and the word `queue`
unfoldable pub queue_function_line : List (List ℕ) → Result LineAsk WordFault
queue_function_line =
    read (text ∷ as_it_is ∷ text ∷ number ∷ number ∷ number ∷ number ∷ number ∷ [])
    (λ function form queue batch threshold limit retry singleton.
    Ask (Configure function (Queue queue batch threshold limit retry singleton)))

-- those of a function on blobs, behind its name and the word `blob`
unfoldable pub blob_function_line : List (List ℕ) → Result LineAsk WordFault
blob_function_line =
    read (text ∷ as_it_is ∷ number ∷ number ∷ number ∷ number ∷ number ∷ [])
    (λ function form batch threshold limit retry singleton.
    Ask (Configure function (Blob batch threshold limit retry singleton)))

-- those of a function that runs by a schedule, behind its name and the word `timer`
unfoldable pub timer_function_line : List (List ℕ) → Result LineAsk WordFault
timer_function_line =
    read (text ∷ as_it_is ∷ schedule ∷ flag ∷ flag ∷ number ∷ [])
    (λ function form masks startup monitor singleton. Ask (Configure function (Timer masks startup monitor singleton)))

unfoldable pub arm_line : List (List ℕ) → Result LineAsk WordFault
arm_line = read (text ∷ []) (λ function. Ask (Arm function))

unfoldable pub tick_line : List (List ℕ) → Result LineAsk WordFault
tick_line = read (text ∷ []) (λ function. Ask (Tick function))

unfoldable pub session_line : List (List ℕ) → Result LineAsk WordFault
session_line = read [] (Ask Session)

unfoldable pub fetch_line : List (List ℕ) → Result LineAsk WordFault
fetch_line = read (text ∷ []) (λ function. Ask (Fetch function))

-- the word behind the function says of which form its settings are
unfoldable pub function_line : List ℕ → List (List ℕ) → Result LineAsk WordFault
function_line form words =
    if bytes_eq form (codes "queue") then queue_function_line words
    else if bytes_eq form (codes "blob") then blob_function_line words
    else if bytes_eq form (codes "timer") then timer_function_line words
    else Err BadWord

unfoldable pub configure_line : List (List ℕ) → Result LineAsk WordFault
configure_line words =
    if nat_lt (length words) 2 then Err BadCount else function_line (slice_index_or words 1 []) words

unfoldable pub line_of_words : List (List ℕ) → Result LineAsk WordFault
line_of_words [] = Ok Blank
line_of_words (verb ∷ words) =
    if bytes_eq verb (codes "at") then at_line words
    else if bytes_eq verb (codes "queue") then queue_line words
    else if bytes_eq verb (codes "put") then put_line words
    else if bytes_eq verb (codes "take") then take_line words
    else if bytes_eq verb (codes "peek") then peek_line words
    else if bytes_eq verb (codes "update") then update_line words
    else if bytes_eq verb (codes "delete") then delete_line words
    else if bytes_eq verb (codes "clear") then clear_line words
    else if bytes_eq verb (codes "where") then where_line words
    else if bytes_eq verb (codes "blob") then blob_line words
    else if bytes_eq verb (codes "unblob") then unblob_line words
    else if bytes_eq verb (codes "get") then get_line words
    else if bytes_eq verb (codes "note") then note_line words
    else if bytes_eq verb (codes "unnoted") then unnoted_line words
    else if bytes_eq verb (codes "acquire") then acquire_line words
    else if bytes_eq verb (codes "renew") then renew_line words
    else if bytes_eq verb (codes "release") then release_line words
    else if bytes_eq verb (codes "configure") then configure_line words
    else if bytes_eq verb (codes "arm") then arm_line words
    else if bytes_eq verb (codes "tick") then tick_line words
    else if bytes_eq verb (codes "session") then session_line words
    else if bytes_eq verb (codes "fetch") then fetch_line words
    else Err BadWord

-- what the bytes of a line stand for, with or without the line feed
unfoldable pub line_of : List ℕ → Result LineAsk WordFault
line_of line = if is_utf8 (line_text line) then line_of_words (words (line_text line)) else Err BadText
