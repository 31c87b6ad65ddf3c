-- The kinds of commands: the number of each, and its fields.
use Rattle.std.specs.Prelude.{ℕ, ◌==◌, List, [], ◌∷◌, Option, find}
use Rattle.fh_event.specs.declared.command.Command.{Command}
use Rattle.fh_event.specs.declared.command.Command.TheVariants.{MakeQueue, Put, Take, Update, Delete, Clear, PutBlob, DeleteBlob, Note, Acquire, RenewLease, ReleaseLease, Configure, Session, Arm, Tick, Fetch, Begin, Finish, Renewals, Peek, GetBlob, Locate, Unnoted}
use Rattle.fh_event.specs.declared.tables.FieldType.{FieldType}
use Rattle.fh_event.specs.declared.tables.FieldType.TheVariants.{Number, Words, MaybeNumber, MaybeWords, Settings, Outcome as OutcomeType}
use Rattle.fh_event.specs.declared.settings.FunctionSettings.{FunctionSettings}
use Rattle.fh_event.specs.declared.outcome.Outcome.{Outcome}
use Rattle.fh_event.specs.Fields.{Field, number, words, maybe_number, maybe_words}
use Rattle.fh_event.specs.Settings.{fields_of_settings}
use Rattle.fh_event.specs.Outcomes.{fields_of_outcome}
use Rattle.fh_event.specs.Tables.{Taking}

pub data Kind : Type 0 where
  make_queue : Kind
  put : Kind
  take : Kind
  update : Kind
  delete : Kind
  clear : Kind
  put_blob : Kind
  delete_blob : Kind
  note : Kind
  acquire : Kind
  renew_lease : Kind
  release_lease : Kind
  configure : Kind
  session : Kind
  arm : Kind
  tick : Kind
  fetch : Kind
  begin : Kind
  finish : Kind
  renewals : Kind
  peek : Kind
  get_blob : Kind
  locate : Kind
  unnoted : Kind

-- the byte by which entries name the kind
abbrev pub kind_number : Kind → ℕ
kind_number make_queue = 1
kind_number put = 2
kind_number take = 3
kind_number update = 4
kind_number delete = 5
kind_number clear = 6
kind_number put_blob = 7
kind_number delete_blob = 8
kind_number note = 9
kind_number acquire = 10
kind_number renew_lease = 11
kind_number release_lease = 12
kind_number configure = 13
kind_number session = 14
kind_number arm = 15
kind_number tick = 16
kind_number fetch = 17
kind_number begin = 18
kind_number finish = 19
kind_number renewals = 20
kind_number peek = 21
kind_number get_blob = 22
kind_number locate = 23
kind_number unnoted = 24

abbrev pub kind_of : Command → Kind
kind_of (MakeQueue queue) = make_queue
kind_of (Put queue delay ttl text) = put
kind_of (Take queue count hold) = take
kind_of (Update queue n receipt hold text) = update
kind_of (Delete queue n receipt) = delete
kind_of (Clear queue) = clear
kind_of (PutBlob container blob text) = put_blob
kind_of (DeleteBlob container blob) = delete_blob
kind_of (Note function container blob) = note
kind_of (Acquire lease holder seconds) = acquire
kind_of (RenewLease lease holder) = renew_lease
kind_of (ReleaseLease lease holder) = release_lease
kind_of (Configure function settings) = configure
kind_of Session = session
kind_of (Arm function) = arm
kind_of (Tick function) = tick
kind_of (Fetch function) = fetch
kind_of (Begin function high low) = begin
kind_of (Finish invocation outcome) = finish
kind_of Renewals = renewals
kind_of (Peek queue count) = peek
kind_of (GetBlob container blob) = get_blob
kind_of (Locate n) = locate
kind_of (Unnoted function container) = unnoted

-- the command's fields in order
abbrev pub fields_of : Command → List Field
fields_of (MakeQueue queue) = words queue ∷ []
fields_of (Put queue delay ttl text) = words queue ∷ number delay ∷ maybe_number ttl ∷ words text ∷ []
fields_of (Take queue count hold) = words queue ∷ number count ∷ number hold ∷ []
fields_of (Update queue n receipt hold text) =
    words queue ∷ number n ∷ number receipt ∷ number hold ∷ maybe_words text ∷ []
fields_of (Delete queue n receipt) = words queue ∷ number n ∷ number receipt ∷ []
fields_of (Clear queue) = words queue ∷ []
fields_of (PutBlob container blob text) = words container ∷ words blob ∷ words text ∷ []
fields_of (DeleteBlob container blob) = words container ∷ words blob ∷ []
fields_of (Note function container blob) = words function ∷ words container ∷ words blob ∷ []
fields_of (Acquire lease holder seconds) = words lease ∷ number holder ∷ number seconds ∷ []
fields_of (RenewLease lease holder) = words lease ∷ number holder ∷ []
fields_of (ReleaseLease lease holder) = words lease ∷ number holder ∷ []
fields_of (Configure function settings) = words function ∷ fields_of_settings settings
fields_of Session = []
fields_of (Arm function) = words function ∷ []
fields_of (Tick function) = words function ∷ []
fields_of (Fetch function) = words function ∷ []
fields_of (Begin function high low) = words function ∷ number high ∷ number low ∷ []
fields_of (Finish invocation outcome) = number invocation ∷ fields_of_outcome outcome
fields_of Renewals = []
fields_of (Peek queue count) = words queue ∷ number count ∷ []
fields_of (GetBlob container blob) = words container ∷ words blob ∷ []
fields_of (Locate n) = number n ∷ []
fields_of (Unnoted function container) = words function ∷ words container ∷ []

abbrev pub all_kinds : List Kind
all_kinds =
    make_queue ∷ put ∷ take ∷ update ∷ delete ∷ clear ∷ put_blob ∷ delete_blob ∷ note ∷ acquire ∷ renew_lease
    ∷ release_lease ∷ configure ∷ session ∷ arm ∷ tick ∷ fetch ∷ begin ∷ finish ∷ renewals ∷ peek ∷ get_blob ∷ locate ∷ unnoted ∷ []

-- the kind of this number
unfoldable pub kind_at : ℕ → Option Kind
kind_at n = find (λ k. kind_number k == n) all_kinds

-- the types of the fields, from which an entry of the kind is read
abbrev pub types_of : Kind → List FieldType
types_of make_queue = Words ∷ []
types_of put = Words ∷ Number ∷ MaybeNumber ∷ Words ∷ []
types_of take = Words ∷ Number ∷ Number ∷ []
types_of update = Words ∷ Number ∷ Number ∷ Number ∷ MaybeWords ∷ []
types_of delete = Words ∷ Number ∷ Number ∷ []
types_of clear = Words ∷ []
types_of put_blob = Words ∷ Words ∷ Words ∷ []
types_of delete_blob = Words ∷ Words ∷ []
types_of note = Words ∷ Words ∷ Words ∷ []
types_of acquire = Words ∷ Number ∷ Number ∷ []
types_of renew_lease = Words ∷ Number ∷ []
types_of release_lease = Words ∷ Number ∷ []
types_of configure = Words ∷ Settings ∷ []
types_of session = []
types_of arm = Words ∷ []
types_of tick = Words ∷ []
types_of fetch = Words ∷ []
types_of begin = Words ∷ Number ∷ Number ∷ []
types_of finish = Number ∷ OutcomeType ∷ []
types_of renewals = []
types_of peek = Words ∷ Number ∷ []
types_of get_blob = Words ∷ Words ∷ []
types_of locate = Number ∷ []
types_of unnoted = Words ∷ Words ∷ []

-- what a field of the type holds
abbrev pub Held : FieldType → Type 0
Held Number = ℕ
Held Words = List ℕ
Held MaybeNumber = Option ℕ
Held MaybeWords = Option (List ℕ)
Held Settings = FunctionSettings
Held OutcomeType = Outcome

-- the command of the kind with its fields
abbrev pub made : (kind : Kind) → Taking Held Command (types_of kind)
made make_queue = λ queue. MakeQueue queue
made put = λ queue delay ttl text. Put queue delay ttl text
made take = λ queue count hold. Take queue count hold
made update = λ queue n receipt hold text. Update queue n receipt hold text
made delete = λ queue n receipt. Delete queue n receipt
made clear = λ queue. Clear queue
made put_blob = λ container blob text. PutBlob container blob text
made delete_blob = λ container blob. DeleteBlob container blob
made note = λ function container blob. Note function container blob
made acquire = λ lease holder seconds. Acquire lease holder seconds
made renew_lease = λ lease holder. RenewLease lease holder
made release_lease = λ lease holder. ReleaseLease lease holder
made configure = λ function settings. Configure function settings
made session = Session
made arm = λ function. Arm function
made tick = λ function. Tick function
made fetch = λ function. Fetch function
made begin = λ function high low. Begin function high low
made finish = λ invocation outcome. Finish invocation outcome
made renewals = Renewals
made peek = λ queue count. Peek queue count
made get_blob = λ container blob. GetBlob container blob
made locate = λ n. Locate n
made unnoted = λ function container. Unnoted function container
