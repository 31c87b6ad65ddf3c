-- The ways in which an ask changes the queues: what holds of each holds of every outcome.
use Rattle.std.proofs.Common.{◌≡◌, ℕ, ◌≤◌, Bool, true, false, List, [], ◌∷◌, ◌++◌, length, take, map, Option, Some, None, refl, subst, arith}
use Rattle.std.specs.Prelude.{⊤, ◌==◌, ◌&&◌, nat_le, nat_lt, IfSome, if◌then◌else◌}
use Rattle.std.proofs.lemmas.Bool.Decides.{nat_tests}
use Rattle.fh_base.specs.declared.rule.Rule.{Rule}
use Rattle.fh_base.specs.declared.rule.Rule.TheVariants.{OutOfRange, PopReceiptMismatch, TooLarge}
use Rattle.fh_event.specs.declared.outcome.Output.{Output}
use Rattle.fh_event.specs.declared.outcome.Output.TheVariants as outputs
use Rattle.fh_event.specs.declared.reply.Item.{Item}
use Rattle.fh_event.specs.Judging.{Quiets, Makes, unless_refused}
use Rattle.fh_queues.specs.declared.held.HeldMessage.{HeldMessage}
use Rattle.fh_queues.specs.declared.row.Message.{Message}
use Rattle.fh_event.specs.declared.begun.About.{About}
use Rattle.fh_queues.specs.declared.done.QueueDone.{QueueDone}
use Rattle.fh_queues.specs.declared.done.QueueDone.TheVariants as done
use Rattle.fh_queues.specs.declared.done.Ending.TheVariants as endings
use Rattle.fh_queues.specs.declared.act.Which.TheVariants.{InQueue, Numbered}
use Rattle.fh_queues.specs.declared.act.Act.{Act}
use Rattle.fh_queues.specs.declared.act.Act.TheVariants.{AddQueue, AddRow, ChangeRow, EndRows}
use Rattle.fh_queues.specs.Asks.{Ask, Make, Put, Take, Update, Delete, Clear, Release, Renew, Complete, Poison, Sweep}
use Rattle.fh_queues.specs.Rows.{live, visible, row_in, live_row}
use Rattle.fh_queues.specs.Part.{QueuePart, has_queue}
use Rattle.fh_queues.specs.Acts.{by_acts, sweep}
use Rattle.fh_queues.specs.Rules.{first_broken, text_rule, ttl_rule, delay_rule, put_rule, take_rule, queue_rule, receipt_rule, message_rule, update_rule, new_text_rule, range_rule, held_rule, release_rule, renew_rule, name_rule, output_rule, outputs_rule, job_rule, room_rule, complete_rule}
use Rattle.fh_queues.specs.Jobs.{release, holding_on, renewed, sends, count_sent, end_job, move, text_of}
use Rattle.fh_queues.specs.Laws.{AreShort}
use Rattle.fh_queues.specs.Outcome.{after, new_message, taken_items, hold, renewal, rows_of, Acting, holding, clearing, acting, made_by, outcome}

-- the messages that a take holds, and how they are listed
abbrev pub chosen : QueuePart → ℕ → List ℕ → ℕ → List Message
chosen part m queue count = take count (visible queue m part.rows)

abbrev pub listed : QueuePart → ℕ → List ℕ → ℕ → List Item
listed part m queue count = taken_items part.next_receipt (chosen part m queue count)

-- the named message is a live row of the queue, and has the named receipt
pub record IsNamed (part : QueuePart) (m : ℕ) (queue : List ℕ) (number receipt : ℕ) : Type 0 where
  pub row : Message
  pub stands : row_in queue number m part.rows ≡ Some row
  pub newest : row.receipt ≡ receipt

-- the message is live, and has its receipt
pub record IsHeld (part : QueuePart) (m : ℕ) (message : HeldMessage) : Type 0 where
  pub row : Message
  pub stands : live_row message.number m part.rows ≡ Some row
  pub newest : row.receipt ≡ message.receipt

abbrev pub AreHeld : QueuePart → ℕ → List HeldMessage → Type 0
AreHeld part m [] = ⊤
AreHeld part m (message ∷ messages) = IsHeld part m message × AreHeld part m messages

abbrev pub IsJob : QueuePart → ℕ → Option HeldMessage → Type 0
IsJob part m None = ⊤
IsJob part m (Some message) = IsHeld part m message

pub record Ways (P : Ask → List Act → QueueDone → Type 0) (part : QueuePart) (m : ℕ) : Type 0 where
  pub makes : (queue : List ℕ) → P (Make queue) (AddQueue queue ∷ []) done.Made
  pub puts : (queue : List ℕ) (delay : ℕ) (ttl : Option ℕ) (text : List ℕ) (about : Option About) → length text ≤ 65536
      → P (Put queue delay ttl text about) (AddRow (new_message m queue delay ttl text about) ∷ [])
      (done.Stored part.next_number part.next_receipt)
  pub takes : (queue : List ℕ) (count seconds : ℕ) → count ≤ 32
      → P (Take queue count seconds) (map (hold (after m seconds)) (listed part m queue count))
      (done.Taken (listed part m queue count))
  pub updates : (queue : List ℕ) (number receipt seconds : ℕ) (text : Option (List ℕ))
      → IfSome text (λ t. length t ≤ 65536) → IsNamed part m queue number receipt
      → P (Update queue number receipt seconds text) (ChangeRow number (renewal (after m seconds) text) ∷ [])
      (done.Updated part.next_receipt)
  pub deletes : (queue : List ℕ) (number receipt : ℕ) → IsNamed part m queue number receipt
      → P (Delete queue number receipt) (EndRows (Numbered number) endings.Deleted ∷ []) done.Deleted
  pub clears : (queue : List ℕ)
      → P (Clear queue) (EndRows (InQueue queue) endings.Deleted ∷ [])
      (done.Cleared (length (rows_of queue (live m part.rows))))
  pub releases :
      (message : HeldMessage) (delay : ℕ) → IsHeld part m message
      → P (Release message delay) (release (after m delay) message ∷ [])
      (done.Released part.next_receipt (after m delay))
  pub renews :
      (messages : List HeldMessage) (seconds : ℕ) → AreHeld part m messages
      → P (Renew messages seconds) (map (holding_on (after m seconds)) messages)
      (done.Renewed (renewed part.next_receipt messages))
  pub completes :
      (invocation : ℕ) (message : Option HeldMessage) (outputs : List Output) → IsJob part m message → AreShort outputs
      → P (Complete invocation message outputs) (end_job invocation message ++ sends m outputs)
      (done.Completed part.next_number part.next_receipt (count_sent outputs))
  pub poisons :
      (message : HeldMessage) (queue : List ℕ) → IsHeld part m message
      → P (Poison message queue)
      (move part.next_number m message queue (text_of (live_row message.number m part.rows)))
      (done.Poisoned part.next_number part.next_receipt)
  pub sweeps : P Sweep [] done.Swept

-- the acts by which an ask made this
pub record Way (P : Ask → List Act → QueueDone → Type 0) (part : QueuePart) (m : ℕ) (ask : Ask) (after : QueuePart)
    (answer : QueueDone) : Type 0 where
  pub acts : List Act
  pub made : by_acts part (sweep m ∷ acts) ≡ after
  pub holds : P ask acts answer

-- where the first broken rule is none, so is each of them
unbroken-head : (rule : Option Rule) (rules : List (Option Rule)) → first_broken (rule ∷ rules) ≡ None
    → (rule ≡ None) × (first_broken rules ≡ None)
unbroken-head None rules is = (refl, is)
unbroken-head (Some rule) rules is = absurd (cc)

found_by_receipt : (found : Option Message) (part : QueuePart) (m : ℕ) (queue : List ℕ) (number receipt : ℕ)
    → row_in queue number m part.rows ≡ found → receipt_rule found receipt ≡ None → IsNamed part m queue number receipt
found_by_receipt None part m queue number receipt found is = absurd (cc)
found_by_receipt (Some row) part m queue number receipt found is = by_test (row.receipt == receipt) refl is
  where
    by_test : (same : Bool) → (row.receipt == receipt) ≡ same
        → (if same then None else Some (PopReceiptMismatch row.receipt)) ≡ None → IsNamed part m queue number receipt
    by_test true test is = record { row = row; stands = found; newest = grind (arith, nat_tests) }
    by_test false test is = absurd (cc)

named : (part : QueuePart) (m : ℕ) (queue : List ℕ) (number receipt : ℕ)
    → message_rule part m queue number receipt ≡ None → IsNamed part m queue number receipt
named part m queue number receipt is =
    let found = row_in queue number m part.rows in
    let rest = unbroken-head (queue_rule part queue) (receipt_rule found receipt ∷ []) is in
    found_by_receipt found part m queue number receipt refl (unbroken-head (receipt_rule found receipt) [] rest.1).0

named_by_update : (part : QueuePart) (m : ℕ) (queue : List ℕ) (number receipt seconds : ℕ) (text : Option (List ℕ))
    → update_rule part m queue number receipt seconds text ≡ None → IsNamed part m queue number receipt
named_by_update part m queue number receipt seconds text is =
    let last = message_rule part m queue number receipt in
    let first = unbroken-head (new_text_rule text) (range_rule seconds 0 604800 ∷ last ∷ []) is in
    let second = unbroken-head (range_rule seconds 0 604800) (last ∷ []) first.1 in
    named part m queue number receipt (unbroken-head last [] second.1).0

in_range : (given low high : ℕ) → range_rule given low high ≡ None → given ≤ high
in_range given low high is = by_test (nat_le low given && nat_le given high) refl is
  where
    by_test : (within : Bool) → (nat_le low given && nat_le given high) ≡ within
        → (if within then None else Some (OutOfRange given low high)) ≡ None → given ≤ high
    by_test true test is = grind (arith, nat_tests, test)
    by_test false test is = absurd (cc)

short_text : (text : List ℕ) → text_rule text ≡ None → length text ≤ 65536
short_text text is = by_test (nat_lt 65536 (length text)) refl is
  where
    by_test : (long : Bool) → nat_lt 65536 (length text) ≡ long
        → (if long then Some (TooLarge (length text) 65536) else None) ≡ None → length text ≤ 65536
    by_test true test is = absurd (cc)
    by_test false test is = grind (arith, nat_tests, test)

short_new_text : (text : Option (List ℕ)) → new_text_rule text ≡ None → IfSome text (λ t. length t ≤ 65536)
short_new_text None is = tt
short_new_text (Some text) is = short_text text is

few : (part : QueuePart) (queue : List ℕ) (count seconds : ℕ) → take_rule part queue count seconds ≡ None → count ≤ 32
few part queue count seconds is =
    in_range count 1 32
    (unbroken-head (range_rule count 1 32) (range_rule seconds 1 604800 ∷ queue_rule part queue ∷ []) is).0

held_by_receipt : (found : Option Message) (part : QueuePart) (m : ℕ) (message : HeldMessage)
    → live_row message.number m part.rows ≡ found → receipt_rule found message.receipt ≡ None → IsHeld part m message
held_by_receipt None part m message found is = absurd (cc)
held_by_receipt (Some row) part m message found is = by_test (row.receipt == message.receipt) refl is
  where
    by_test : (same : Bool) → (row.receipt == message.receipt) ≡ same
        → (if same then None else Some (PopReceiptMismatch row.receipt)) ≡ None → IsHeld part m message
    by_test true test is = record { row = row; stands = found; newest = grind (arith, nat_tests) }
    by_test false test is = absurd (cc)

held : (part : QueuePart) (m : ℕ) (message : HeldMessage) → held_rule part m message ≡ None → IsHeld part m message
held part m message is = held_by_receipt (live_row message.number m part.rows) part m message refl is

all_held : (part : QueuePart) (m : ℕ) (messages : List HeldMessage)
    → first_broken (map (held_rule part m) messages) ≡ None → AreHeld part m messages
all_held part m [] is = tt
all_held part m (message ∷ messages) is =
    let both = unbroken-head (held_rule part m message) (map (held_rule part m) messages) is in
    (held part m message both.0, all_held part m messages both.1)

job : (part : QueuePart) (m : ℕ) (message : Option HeldMessage) → job_rule part m message ≡ None → IsJob part m message
job part m None is = tt
job part m (Some message) is = held part m message is

all_short : (outputs : List Output) → outputs_rule outputs ≡ None → AreShort outputs
all_short [] is = tt
all_short (outputs.Queue queue text ∷ more) is =
    let both = unbroken-head (output_rule (outputs.Queue queue text)) (map output_rule more) is in
    let own = unbroken-head (name_rule queue) (text_rule text ∷ []) both.0 in
    (short_text text (unbroken-head (text_rule text) [] own.1).0, all_short more both.1)
all_short (outputs.Blob container blob text ∷ more) is = all_short more is

module _ (P : Ask → List Act → QueueDone → Type 0) (part : QueuePart) (m : ℕ) (ways : Ways P part m)
    (after_ask : QueuePart) (answer : QueueDone) where
  -- no rule refused it
  accepted : (rule : Option Rule) (acts : Acting) → made_by part m (unless_refused rule acts) ≡ Makes after_ask answer
      → (rule ≡ None) × (made_by part m acts ≡ Makes after_ask answer)
  accepted None acts is = (refl, is)
  accepted (Some rule) acts is = absurd (cc)

  way : (ask : Ask) (acts : List Act) (given : QueueDone) → P ask acts given
      → made_by part m (Makes acts given) ≡ Makes after_ask answer → Way P part m ask after_ask answer
  way ask acts given holds is =
      let made : by_acts part (sweep m ∷ acts) ≡ after_ask = cc in
      let same : given ≡ answer = cc in
      record { acts = acts; made = made; holds = subst (λ (d : QueueDone). P ask acts d) same holds }

  by_making : (queue : List ℕ) (there : Bool)
      → made_by part m (if there then Quiets done.There else Makes (AddQueue queue ∷ []) done.Made)
      ≡ Makes after_ask answer → Way P part m (Make queue) after_ask answer
  by_making queue true is = absurd (cc)
  by_making queue false is = way (Make queue) _ _ (ways.makes queue) is

  by_holding : (queue : List ℕ) (count seconds : ℕ) → count ≤ 32 → (rows : List Message)
      → chosen part m queue count ≡ rows
      → made_by part m (holding part.next_receipt (after m seconds) rows) ≡ Makes after_ask answer
      → Way P part m (Take queue count seconds) after_ask answer
  by_holding queue count seconds less [] is made = absurd (cc)
  by_holding queue count seconds less (row ∷ rows) is made =
      way (Take queue count seconds) _ _
      (subst (λ (rs : List Message). P (Take queue count seconds)
      (map (hold (after m seconds)) (taken_items part.next_receipt rs))
      (done.Taken (taken_items part.next_receipt rs))) is (ways.takes queue count seconds less)) made

  by_clearing : (queue : List ℕ) (rows : List Message) → rows_of queue (live m part.rows) ≡ rows
      → made_by part m (clearing queue rows) ≡ Makes after_ask answer → Way P part m (Clear queue) after_ask answer
  by_clearing queue [] is made = absurd (cc)
  by_clearing queue (row ∷ rows) is made =
      way (Clear queue) _ _
      (subst (λ (rs : List Message). P (Clear queue) (EndRows (InQueue queue) endings.Deleted ∷ [])
      (done.Cleared (length rs))) is (ways.clears queue)) made

  by_acting : (ask : Ask) → made_by part m (acting part ask m) ≡ Makes after_ask answer
      → Way P part m ask after_ask answer
  unfolding acting
  by_acting (Make queue) is = by_making queue (has_queue part.queues queue) is
  by_acting (Put queue delay ttl text about) is =
      let fits = accepted (put_rule part queue delay ttl text) _ is in
      let short = short_text text
      (unbroken-head (text_rule text) (ttl_rule ttl ∷ delay_rule delay ttl ∷ queue_rule part queue ∷ []) fits.0).0
      in
      way (Put queue delay ttl text about) _ _ (ways.puts queue delay ttl text about short) fits.1
  by_acting (Take queue count seconds) is =
      let fits = accepted (take_rule part queue count seconds) _ is in
      by_holding queue count seconds (few part queue count seconds fits.0) (chosen part m queue count) refl fits.1
  by_acting (Update queue number receipt seconds text) is =
      let fits = accepted (update_rule part m queue number receipt seconds text) _ is in
      let short = short_new_text text
      (unbroken-head (new_text_rule text)
      (range_rule seconds 0 604800 ∷ message_rule part m queue number receipt ∷ []) fits.0).0 in
      way (Update queue number receipt seconds text) _ _
      (ways.updates queue number receipt seconds text short
      (named_by_update part m queue number receipt seconds text fits.0)) fits.1
  by_acting (Delete queue number receipt) is =
      let fits = accepted (message_rule part m queue number receipt) _ is in
      way (Delete queue number receipt) _ _
      (ways.deletes queue number receipt (named part m queue number receipt fits.0)) fits.1
  by_acting (Clear queue) is =
      by_clearing queue (rows_of queue (live m part.rows)) refl (accepted (queue_rule part queue) _ is).1
  by_acting (Release message delay) is =
      let fits = accepted (release_rule part m message delay) _ is in
      let held_it = unbroken-head (held_rule part m message) (range_rule delay 0 604800 ∷ []) fits.0 in
      way (Release message delay) _ _ (ways.releases message delay (held part m message held_it.0)) fits.1
  by_acting (Renew messages seconds) is =
      let fits = accepted (renew_rule part m messages seconds) _ is in
      let held_all =
      unbroken-head (first_broken (map (held_rule part m) messages)) (range_rule seconds 1 604800 ∷ []) fits.0 in
      way (Renew messages seconds) _ _ (ways.renews messages seconds (all_held part m messages held_all.0)) fits.1
  by_acting (Complete invocation message outputs) is =
      let fits = accepted (complete_rule part m message outputs) _ is in
      let room = room_rule part m message outputs in
      let first = unbroken-head (job_rule part m message) (outputs_rule outputs ∷ room ∷ []) fits.0 in
      let second = unbroken-head (outputs_rule outputs) (room ∷ []) first.1 in
      way (Complete invocation message outputs) _ _
      (ways.completes invocation message outputs (job part m message first.0) (all_short outputs second.0)) fits.1
  by_acting (Poison message queue) is =
      let fits = accepted (held_rule part m message) _ is in
      way (Poison message queue) _ _ (ways.poisons message queue (held part m message fits.0)) fits.1
  by_acting Sweep is = way Sweep _ _ ways.sweeps is

  -- so it holds of each outcome
  pub by_ways : (ask : Ask) → outcome part ask m ≡ Makes after_ask answer → Way P part m ask after_ask answer
  unfolding outcome
  by_ways ask is = by_acting ask is
