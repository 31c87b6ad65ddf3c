-- The two laws of the codec: what is read is an entry, and an entry is read. What a kind adds is its case in
-- `agrees`, `values_of`, `rebuilt` and `found`.
use Rattle.std.proofs.Common.{◌≡◌, ℕ, ◌^◌, ◌<◌, ◌≤◌, false, cond, eqb, ltb, List, [], ◌∷◌, ◌++◌, length, Option, Some, None, Ok, Err, refl, sym, ap, subst, ◌∙◌, arith}
use Rattle.std.specs.List.{flat_map, AllByRecursion}
use Rattle.std.specs.Int.{w64, to_be_bytes}
use Rattle.std.proofs.lemmas.Bool.{eqb-true, ltb-false, le-ltb}
use Rattle.std.proofs.lemmas.List.{append-nil, nil_from_length}
use Rattle.fh_base.specs.Moments.{greatest_moment}
use Rattle.fh_event.specs.declared.command.Command.{Command}
use Rattle.fh_event.specs.declared.command.Command.TheVariants.{MakeQueue, Put, Take, Update, Delete, Clear, PutBlob, DeleteBlob, Note, Acquire, RenewLease, ReleaseLease, Configure, Session, Arm, Tick, Fetch, Begin, Finish, Renewals, Peek, GetBlob, Locate, Unnoted}
use Rattle.fh_event.specs.declared.faults.EventFault.TheVariants.{BadField, Trailing}
use Rattle.fh_event.specs.declared.tables.FieldType.{FieldType}
use Rattle.fh_event.specs.declared.tables.FieldType.TheVariants.{Number, Words, MaybeNumber, MaybeWords, Settings, Outcome as OutcomeType}
use Rattle.fh_event.specs.Answers.{◌>>=◌}
use Rattle.fh_event.specs.Fields.{Field, number, words, maybe_number, maybe_words, number_bytes, text_bytes, spelled, IsText, IsField}
use Rattle.fh_event.specs.Settings.{fields_of_settings}
use Rattle.fh_event.specs.Outcomes.{fields_of_outcome}
use Rattle.fh_event.specs.Kinds.{Kind, make_queue, put, take, update, delete, clear, put_blob, delete_blob, note, acquire, renew_lease, release_lease, configure, session, arm, tick, fetch, begin, finish, renewals, peek, get_blob, locate, unnoted, kind_number, kind_of, fields_of, all_kinds, kind_at, types_of, Held, made}
use Rattle.fh_event.specs.Entries.{entry, IsEntry}
use Rattle.fh_event.specs.Reading.{byte_at, number_at, text_at, held_at, taken_at, command_of_kind, command_at, moment_at, entry_read}
use Rattle.fh_event.proofs.Steps.{bind_ok, passed, ended, ok_is, IsBytes, Takes, Takes-then}
use Rattle.fh_event.proofs.FieldLaws.{wide64, number_takes, number_again, byte_takes, byte_again, numbers, texts, maybe}
use Rattle.fh_event.proofs.SettingsLaws.{settings}
use Rattle.fh_event.proofs.OutcomeLaws.{outcomes}
use Rattle.fh_event.proofs.TableLaws.{ReadsFields, one_field, Values, applied, fields_with, IsTable, variant_takes, variant_again, find_passes}

-- ---- a field of a type

abbrev field_of : (type : FieldType) → Held type → List Field
field_of Number n = number n ∷ []
field_of Words text = words text ∷ []
field_of MaybeNumber n = maybe_number n ∷ []
field_of MaybeWords text = maybe_words text ∷ []
field_of Settings s = fields_of_settings s
field_of OutcomeType o = fields_of_outcome o

reads : (type : FieldType) (i : ℕ) → ReadsFields (held_at type i) (field_of type)
reads Number i = one_field number (numbers i)
reads Words i = one_field words (texts i)
reads MaybeNumber i = one_field maybe_number (maybe (number_at w64 i) number_bytes (λ n. n < 2 ^ 64) (numbers i) i)
reads MaybeWords i = one_field maybe_words (maybe (text_at i) text_bytes IsText (texts i) i)
reads Settings i = settings i
reads OutcomeType i = outcomes i

-- ---- the kinds

-- what the table of a kind makes is a command of the kind with these fields
agrees : (k : Kind) (values : Values Held (types_of k)) → (kind_of (applied Held (types_of k) (made k) values) ≡ k)
    × (fields_of (applied Held (types_of k) (made k) values) ≡ fields_with field_of (types_of k) values)
agrees make_queue values = (refl, refl)
agrees put values = (refl, refl)
agrees take values = (refl, refl)
agrees update values = (refl, refl)
agrees delete values = (refl, refl)
agrees clear values = (refl, refl)
agrees put_blob values = (refl, refl)
agrees delete_blob values = (refl, refl)
agrees note values = (refl, refl)
agrees acquire values = (refl, refl)
agrees renew_lease values = (refl, refl)
agrees release_lease values = (refl, refl)
agrees configure values = (refl, ap (λ (fs : List Field). words values.0 ∷ fs) (sym (append-nil (fields_of_settings values.1.0))))
agrees session values = (refl, refl)
agrees arm values = (refl, refl)
agrees tick values = (refl, refl)
agrees fetch values = (refl, refl)
agrees begin values = (refl, refl)
agrees finish values = (refl, ap (λ (fs : List Field). number values.0 ∷ fs) (sym (append-nil (fields_of_outcome values.1.0))))
agrees renewals values = (refl, refl)
agrees peek values = (refl, refl)
agrees get_blob values = (refl, refl)
agrees locate values = (refl, refl)
agrees unnoted values = (refl, refl)

abbrev values_of : (c : Command) → Values Held (types_of (kind_of c))
values_of (MakeQueue queue) = (queue, tt)
values_of (Put queue delay ttl text) = (queue, (delay, (ttl, (text, tt))))
values_of (Take queue count hold) = (queue, (count, (hold, tt)))
values_of (Update queue n receipt hold text) = (queue, (n, (receipt, (hold, (text, tt)))))
values_of (Delete queue n receipt) = (queue, (n, (receipt, tt)))
values_of (Clear queue) = (queue, tt)
values_of (PutBlob container blob text) = (container, (blob, (text, tt)))
values_of (DeleteBlob container blob) = (container, (blob, tt))
values_of (Note function container blob) = (function, (container, (blob, tt)))
values_of (Acquire lease holder seconds) = (lease, (holder, (seconds, tt)))
values_of (RenewLease lease holder) = (lease, (holder, tt))
values_of (ReleaseLease lease holder) = (lease, (holder, tt))
values_of (Configure function settings) = (function, (settings, tt))
values_of Session = tt
values_of (Arm function) = (function, tt)
values_of (Tick function) = (function, tt)
values_of (Fetch function) = (function, tt)
values_of (Begin function high low) = (function, (high, (low, tt)))
values_of (Finish invocation outcome) = (invocation, (outcome, tt))
values_of Renewals = tt
values_of (Peek queue count) = (queue, (count, tt))
values_of (GetBlob container blob) = (container, (blob, tt))
values_of (Locate n) = (n, tt)
values_of (Unnoted function container) = (function, (container, tt))

-- a command is what the table of its kind makes of its values, and these are its fields
rebuilt : (c : Command) → (applied Held (types_of (kind_of c)) (made (kind_of c)) (values_of c) ≡ c)
    × (fields_with field_of (types_of (kind_of c)) (values_of c) ≡ fields_of c)
rebuilt (MakeQueue queue) = (refl, refl)
rebuilt (Put queue delay ttl text) = (refl, refl)
rebuilt (Take queue count hold) = (refl, refl)
rebuilt (Update queue n receipt hold text) = (refl, refl)
rebuilt (Delete queue n receipt) = (refl, refl)
rebuilt (Clear queue) = (refl, refl)
rebuilt (PutBlob container blob text) = (refl, refl)
rebuilt (DeleteBlob container blob) = (refl, refl)
rebuilt (Note function container blob) = (refl, refl)
rebuilt (Acquire lease holder seconds) = (refl, refl)
rebuilt (RenewLease lease holder) = (refl, refl)
rebuilt (ReleaseLease lease holder) = (refl, refl)
rebuilt (Configure function settings) = (refl, ap (λ (fs : List Field). words function ∷ fs) (append-nil (fields_of_settings settings)))
rebuilt Session = (refl, refl)
rebuilt (Arm function) = (refl, refl)
rebuilt (Tick function) = (refl, refl)
rebuilt (Fetch function) = (refl, refl)
rebuilt (Begin function high low) = (refl, refl)
rebuilt (Finish invocation outcome) = (refl, ap (λ (fs : List Field). number invocation ∷ fs) (append-nil (fields_of_outcome outcome)))
rebuilt Renewals = (refl, refl)
rebuilt (Peek queue count) = (refl, refl)
rebuilt (GetBlob container blob) = (refl, refl)
rebuilt (Locate n) = (refl, refl)
rebuilt (Unnoted function container) = (refl, refl)

-- a kind is found by its number
found : (k : Kind) → kind_at (kind_number k) ≡ Some k
unfolding kind_at
found make_queue = refl
found put = refl
found take = refl
found update = refl
found delete = refl
found clear = refl
found put_blob = refl
found delete_blob = refl
found note = refl
found acquire = refl
found renew_lease = refl
found release_lease = refl
found configure = refl
found session = refl
found arm = refl
found tick = refl
found fetch = refl
found begin = refl
found finish = refl
found renewals = refl
found peek = refl
found get_blob = refl
found locate = refl
found unnoted = refl

numbered : (n : ℕ) (k : Kind) → kind_at n ≡ Some k → kind_number k ≡ n
unfolding kind_at
numbered n k e = eqb-true _ _ (find_passes (λ (j : Kind). eqb (kind_number j) n) all_kinds k e)

table : IsTable field_of kind_of fields_of types_of made
table = record { agrees = agrees; values_of = values_of; rebuilt = rebuilt }

-- ---- a command

-- what a command's fields took
record TakesCommand (n : ℕ) (bytes : List ℕ) (c : Command) (rest : List ℕ) : Type 0 where
  kind : kind_number (kind_of c) ≡ n
  taken : Takes bytes (flat_map spelled (fields_of c)) rest
  are_fields : AllByRecursion IsField (fields_of c)

kind_takes : (n : ℕ) (o : Option Kind) (bytes : List ℕ) (x : Command × List ℕ) → IsBytes bytes → kind_at n ≡ o
    → command_of_kind n o bytes ≡ Ok x → TakesCommand n bytes x.0 x.1
kind_takes n None bytes x fits is e = absurd cc
kind_takes n (Some k) bytes x fits is e =
    let t = variant_takes reads table k 1 1 bytes x fits e in
    record { kind = ap kind_number t.kind ∙ numbered n k is; taken = t.taken; are_fields = t.are_fields }

command_takes : (n : ℕ) (bytes : List ℕ) (x : Command × List ℕ) → IsBytes bytes → command_at n bytes ≡ Ok x
    → TakesCommand n bytes x.0 x.1
unfolding command_at
command_takes n bytes x fits e = kind_takes n (kind_at n) bytes x fits refl e

command_again : (c : Command) → AllByRecursion IsField (fields_of c)
    → command_at (kind_number (kind_of c)) (flat_map spelled (fields_of c)) ≡ Ok (c, [])
unfolding command_at
command_again c h =
    ap (λ (o : Option Kind). command_of_kind (kind_number (kind_of c)) o (flat_map spelled (fields_of c))) (found (kind_of c))
    ∙ ap (taken_at held_at 1 (types_of (kind_of c)) (made (kind_of c)) 1) (sym (append-nil (flat_map spelled (fields_of c))))
    ∙ variant_again reads table c 1 1 [] h

-- ---- moment and kind

moment_takes : (bytes : List ℕ) (x : ℕ × List ℕ) → IsBytes bytes → moment_at bytes ≡ Ok x
    → Takes bytes (number_bytes x.0) x.1 × (x.0 ≤ greatest_moment)
unfolding moment_at number_bytes
moment_takes bytes x fits e =
    let b = bind_ok (number_at w64 0 bytes) (λ n. cond (ltb greatest_moment n.0) (Err (BadField 0)) (Ok n)) x e in
    let t = number_takes w64 (2 ^ 64) wide64 0 bytes b.0.0 b.0.1 fits b.1 in
    let g = passed (ltb greatest_moment b.0.0) (BadField 0) (Ok b.0) x b.2 in
    subst (λ (y : ℕ × List ℕ). Takes bytes (to_be_bytes w64 y.0) y.1 × (y.0 ≤ greatest_moment)) (ok_is b.0 x g.1) (t.0, ltb-false _ _ g.0)

moment_again : (m : ℕ) (rest : List ℕ) → m ≤ greatest_moment → moment_at (number_bytes m ++ rest) ≡ Ok (m, rest)
unfolding moment_at number_bytes
moment_again m rest h =
    let early : ltb greatest_moment m ≡ false = le-ltb _ _ h in
    rw (number_again w64 (2 ^ 64) wide64 0 m rest (omega arith), early) refl

-- ---- entries

-- the parts that were taken, put together
spelled_so : (bytes front : List ℕ) (kind n : ℕ) (fields rest : List ℕ) → bytes ≡ (front ++ kind ∷ fields) ++ rest → rest ≡ [] → n ≡ kind
    → bytes ≡ front ++ n ∷ fields
spelled_so bytes front kind n fields rest parts none same =
    parts ∙ ap (λ (t : List ℕ). (front ++ kind ∷ fields) ++ t) none ∙ append-nil (front ++ kind ∷ fields)
    ∙ ap (λ (m : ℕ). front ++ m ∷ fields) (sym same)

pub is_read : (bytes : List ℕ) (x : ℕ × Command) → IsBytes bytes → entry_read bytes ≡ Ok x → IsEntry bytes x.0 x.1
unfolding entry_read
is_read bytes x fits e =
    let a = bind_ok (moment_at bytes) (λ m. byte_at 0 m.1 >>= λ k. command_at k.0 k.1 >>= λ c. cond (eqb (length c.1) 0) (Ok (m.0, c.0)) (Err (Trailing (length c.1)))) x e in
    let b = bind_ok (byte_at 0 a.0.1) (λ k. command_at k.0 k.1 >>= λ c. cond (eqb (length c.1) 0) (Ok (a.0.0, c.0)) (Err (Trailing (length c.1)))) x a.2 in
    let d = bind_ok (command_at b.0.0 b.0.1) (λ c. cond (eqb (length c.1) 0) (Ok (a.0.0, c.0)) (Err (Trailing (length c.1)))) x b.2 in
    let g = ended (eqb (length d.0.1) 0) (Trailing (length d.0.1)) (a.0.0, d.0.0) x d.2 in
    let moment = moment_takes bytes a.0 fits a.1 in
    let kind = byte_takes 0 a.0.1 b.0 moment.0.rest_fits b.1 in
    let command = command_takes b.0.0 b.0.1 d.0 kind.rest_fits d.1 in
    let none-left : d.0.1 ≡ [] = nil_from_length d.0.1 (eqb-true _ _ g.0) in
    let behind = Takes-then a.0.1 (b.0.0 ∷ []) b.0.1 (flat_map spelled (fields_of d.0.0)) d.0.1 kind command.taken in
    let all = Takes-then bytes (number_bytes a.0.0) a.0.1 ((b.0.0 ∷ []) ++ flat_map spelled (fields_of d.0.0)) d.0.1 moment.0 behind in
    let spelling : bytes ≡ entry a.0.0 d.0.0
    = spelled_so bytes (number_bytes a.0.0) b.0.0 (kind_number (kind_of d.0.0)) (flat_map spelled (fields_of d.0.0)) d.0.1 all.parts none-left command.kind in
    let whole : IsEntry bytes a.0.0 d.0.0 = record { spelling = spelling; in_time = moment.1; fields = command.are_fields } in
    subst (λ (y : ℕ × Command). IsEntry bytes y.0 y.1) g.1 whole

pub read_again : (bytes : List ℕ) (moment : ℕ) (c : Command) → IsEntry bytes moment c → entry_read bytes ≡ Ok (moment, c)
unfolding entry_read
read_again bytes moment c h =
    ap entry_read h.spelling
    ∙ rw (
      moment_again moment (kind_number (kind_of c) ∷ flat_map spelled (fields_of c)) h.in_time,
      byte_again 0 (kind_number (kind_of c)) (flat_map spelled (fields_of c)),
      command_again c h.fields,
    )
    refl

-- no bytes are two entries
pub is_one_entry : (bytes : List ℕ) (m n : ℕ) (c d : Command) → IsEntry bytes m c → IsEntry bytes n d → (m ≡ n) × (c ≡ d)
is_one_entry bytes m n c d first second =
    let same : (m, c) ≡ (n, d) = ok_is (m, c) (n, d) (sym (read_again bytes m c first) ∙ read_again bytes n d second) in
    (ap (λ (x : ℕ × Command). x.0) same, ap (λ (x : ℕ × Command). x.1) same)
