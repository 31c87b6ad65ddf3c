-- A recorded step, taken apart, and what holds of all histories because each recorded step keeps it.
use Rattle.std.proofs.Common.{◌≡◌, ◌⊎◌, inl, inr, ℕ, ◌≤◌, arith, Bool, true, false, List, [], ◌∷◌, ◌++◌, Option, Some, None, Ok, length, refl, sym, ◌∙◌, ap, subst, append_assoc, append-nil}
use Rattle.std.specs.Prelude.{nat_le, if◌then◌else◌, Result, Err, unwrap_or}
use Rattle.std.proofs.lemmas.Bool.Decides.{nat_tests}
use Rattle.fh_base.specs.Moments.{greatest_moment}
use Rattle.fh_base.specs.declared.rule.Rule.{Rule}
use Rattle.fh_base.specs.declared.rule.Rule.TheVariants.{MomentTooLate, BadName}
use Rattle.fh_event.specs.declared.command.Command.{Command}
use Rattle.fh_event.specs.declared.command.Command.TheVariants.{Note, Configure, Session, Arm, Tick, Fetch, Begin, Finish, Renewals, Peek, GetBlob, Locate, Unnoted}
use Rattle.fh_event.specs.declared.reply.Item.{Item}
use Rattle.fh_event.specs.declared.reply.Reply.{Reply}
use Rattle.fh_event.specs.declared.reply.Reply.TheVariants as replies
use Rattle.fh_event.specs.Entries.{entry, GivesGoodMasks, GivesShortList}
use Rattle.fh_event.specs.Judging.{Judged}
use Rattle.fh_event.specs.Judging as judging
use Rattle.fh_queues.specs.Asks as queue_asks
use Rattle.fh_queues.specs.Outcome as queues
use Rattle.fh_queues.specs.Outcome.{peeked}
use Rattle.fh_blobs.specs.declared.blob.BlobRow.{BlobRow}
use Rattle.fh_blobs.specs.Part.{blob_of, unnoted}
use Rattle.fh_blobs.specs.Asks as blob_asks
use Rattle.fh_blobs.specs.Outcome as blobs
use Rattle.fh_leases.specs.Asks as lease_asks
use Rattle.fh_leases.specs.Outcome as leases
use Rattle.fh_timers.specs.declared.ask.TimerAsk.{TimerAsk}
use Rattle.fh_timers.specs.declared.ask.TimerAsk.TheVariants as timer_asks
use Rattle.fh_timers.specs.declared.done.TimerDone.{TimerDone}
use Rattle.fh_timers.specs.declared.done.TimerDone.TheVariants as timer_done
use Rattle.fh_timers.specs.declared.done.TimerRun.{TimerRun}
use Rattle.fh_timers.specs.Laws as timer_laws
use Rattle.fh_timers.specs.Outcome as timers
use Rattle.fh_timers.specs.Part.{TimerPart}
use Rattle.fh_timers.specs.Runs.{run_of}
use Rattle.fh_timers.proofs.Lawful.{answers_the_ask as timers_answer}
use Rattle.fh_dispatch.specs.declared.done.WorkDone.{WorkDone}
use Rattle.fh_dispatch.specs.declared.timer.Timer.{Timer}
use Rattle.fh_dispatch.specs.declared.trigger.Trigger.{Trigger}
use Rattle.fh_dispatch.specs.Asked.{asks_queues, asks_blobs, asks_leases}
use Rattle.fh_dispatch.specs.Queues.{trigger_of, batch_of}
use Rattle.fh_dispatch.specs.Asks as work_asks
use Rattle.fh_dispatch.specs.Laws as work_laws
use Rattle.fh_dispatch.specs.Timers.{timer_of}
use Rattle.fh_dispatch.specs.Part.{WorkPart, Others, function_of}
use Rattle.fh_dispatch.specs.Outcome as work
use Rattle.fh_dispatch.proofs.Lawful.{asks_as_it_says, asks_only_to_remove, fetches_as_told}
use Rattle.fh_hub.specs.Stores.{Parts, Asks, Done, others_of, function_asked, run_made, ready_by, asked_timers, asked_queues, asked_blobs, asked_leases, outcomes, too_full}
use Rattle.fh_hub.specs.Names.{has_good_names}
use Rattle.fh_hub.specs.Asked.{Asked, Refuses, Reads, AsksAll, number_in, queue_ask_in, blob_ask_in, lease_ask, timer_ask_in, work_ask, asks_in, reads_items, reads_blob, works_on_blobs, unless_strange, unless_missing, unless_untimed, asked_of, unless_misnamed, asked}
use Rattle.fh_hub.specs.Replies.{reply_of}
use Rattle.fh_hub.specs.World.{World, empty, Stepped, Refused, Read, Quieted, Recorded, full_rule, world_with, recorded, unless_full, judged, stepped_by, step, step_at, effective_moment}
use Rattle.fh_hub.specs.Replay.{Entry, Event, world_after, after, replay_from, replay, event_of, trace_from, trace}
use Rattle.fh_hub.proofs.Outcomes.{all_make}

abbrev pub is_configure : Command → Bool
is_configure (Configure function settings) = true
is_configure command = false

abbrev pub is_timed : Command → Bool
is_timed (Arm function) = true
is_timed (Tick function) = true
is_timed command = false

abbrev pub is_fetch : Command → Bool
is_fetch (Fetch function) = true
is_fetch command = false

-- the queues are asked for what the command asks, or for the queue of a function that it configures, or for the batch of
-- one that fetches
abbrev pub IsAskedOf : Parts → Command → queue_asks.Ask → Type 0
IsAskedOf parts (Configure function settings) ask =
    (ask ≡ queue_asks.Sweep) ⊎ ((queue : List ℕ) × (ask ≡ queue_asks.Make queue))
IsAskedOf parts (Fetch function) ask =
    (trigger : Trigger) × (trigger_of function parts.work.functions ≡ Some trigger) × (ask ≡ batch_of trigger)
IsAskedOf parts command ask = ask ≡ queue_ask_in parts command

-- what a command asks of all stores at this moment
abbrev pub asks_at : World → Command → ℕ → Asks
asks_at w command now = asks_in w.parts command (effective_moment w now)

-- what the stores did in a recorded step
pub record Made (w : World) (command : Command) (now : ℕ) (new : World) (reply : Reply) : Type 0 where
  pub done : Done
  pub ask : queue_asks.Ask
  pub asked : IsAskedOf w.parts command ask
  pub queues : queues.outcome w.parts.queues ask (effective_moment w now) ≡ judging.Makes new.parts.queues done.queues
  pub blobs : blobs.outcome w.parts.blobs (blob_ask_in w.parts command) (effective_moment w now)
      ≡ judging.Makes new.parts.blobs done.blobs
  pub leases : leases.outcome w.parts.leases (lease_ask command) (effective_moment w now)
      ≡ judging.Makes new.parts.leases done.leases
  pub timers : timers.outcome w.parts.timers (asked_timers w.parts (asks_at w command now)) (effective_moment w now)
      ≡ judging.Makes new.parts.timers done.timers
  pub work : work.outcome w.parts.work (others_of w.parts) (asks_at w command now).work (effective_moment w now)
      ≡ judging.Makes new.parts.work done.work
  pub replies : reply ≡ reply_of done
  pub last : new.last ≡ effective_moment w now
  pub timely : now ≤ greatest_moment

-- what is told of a sweep and of a queue that is made is told of what the queues were asked for
pub as_asked : {A : Type 0} (parts : Parts) (command : Command) (ask : queue_asks.Ask) (of_ask : queue_asks.Ask → A)
    → is_fetch command ≡ false → IsAskedOf parts command ask
    → ((queue : List ℕ) → of_ask queue_asks.Sweep ≡ of_ask (queue_asks.Make queue))
    → of_ask (queue_ask_in parts command) ≡ of_ask ask
as_asked parts (Fetch function) ask of_ask plain is same = absurd (cc)
as_asked parts (Configure function settings) ask of_ask plain is same =
    elim is [
      | inl swept ↦ ap of_ask (sym swept)
      | inr one ↦ same one.0 ∙ ap of_ask (sym one.1)
    ]
as_asked parts command ask of_ask plain is same = ap of_ask (sym is)

differ : {b : Bool} → b ≡ true → b ≡ false → ⊥
differ holds fails = cc

-- a command that is about no function's queue asks what it says
pub asked_plainly : (parts : Parts) (command : Command) (ask : queue_asks.Ask) → is_configure command ≡ false
    → is_fetch command ≡ false
    → IsAskedOf parts command ask → ask ≡ queue_ask_in parts command
asked_plainly parts (Configure function settings) ask plain apart is = absurd (differ refl plain)
asked_plainly parts (Fetch function) ask plain apart is = absurd (differ refl apart)
asked_plainly parts command ask plain apart is = is

-- timers that are asked for nothing make no run
pub no_run : (part : TimerPart) (m : ℕ) → run_made (timers.outcome part timer_asks.Nothing m) ≡ None
no_run part m = by_judged (timers.outcome part timer_asks.Nothing m) refl
  where
    by_answer : (answer : TimerDone) → timer_laws.answers timer_asks.Nothing answer ≡ true → run_of answer ≡ None
    by_answer timer_done.Nothing is = refl
    by_answer answer is = absurd (cc)

    by_judged : (found : Judged TimerPart TimerDone) → timers.outcome part timer_asks.Nothing m ≡ found
        → run_made found ≡ None
    by_judged (judging.Refuses rule) is = refl
    by_judged (judging.Quiets answer) is = refl
    by_judged (judging.Makes after answer) is = by_answer answer
        (timers_answer part timer_asks.Nothing m after answer is)

-- a command that is about no timer asks of the work what it says
pub work_asked : (parts : Parts) (command : Command) (m : ℕ) → is_timed command ≡ false
    → (asks_in parts command m).work ≡ work_ask command
work_asked parts (Arm function) m plain = absurd (cc)
work_asked parts (Tick function) m plain = absurd (cc)
work_asked parts command m plain = refl

-- and one about a timer asks of it at most that a run is made ready
pub work_timed : (parts : Parts) (command : Command) (m : ℕ) → is_timed command ≡ true
    → (asks_in parts command m).work ≡ ready_by (function_asked (timer_ask_in parts command))
    (run_made (timers.outcome parts.timers (timer_ask_in parts command) m))
work_timed parts (Arm function) m timed = refl
work_timed parts (Tick function) m timed = refl
work_timed parts command m timed = absurd (cc)

queues_asked : (parts : Parts) (command : Command) (m : ℕ)
    → (asks_in parts command m).queues ≡ queue_ask_in parts command
queues_asked parts (Arm function) m = refl
queues_asked parts (Tick function) m = refl
queues_asked parts command m = refl

own_timers_asked : (parts : Parts) (command : Command) (m : ℕ)
    → (asks_in parts command m).timers ≡ timer_ask_in parts command
own_timers_asked parts (Arm function) m = refl
own_timers_asked parts (Tick function) m = refl
own_timers_asked parts command m = refl

configures : (command : Command) → work_laws.is_configure (work_ask command) ≡ is_configure command
configures (Configure function settings) = refl
configures command = refl

configures_nothing : (function : ℕ) (run : Option TimerRun) → work_laws.is_configure (ready_by function run) ≡ true → ⊥
configures_nothing function None is = cc
configures_nothing function (Some run) is = cc

-- what configures by what it asks of the work configures
configures_by : (parts : Parts) (command : Command) (m : ℕ)
    → work_laws.is_configure (asks_in parts command m).work ≡ true → is_configure command ≡ true
configures_by parts command m is = by_kind (is_timed command) refl
  where
    by_kind : (timed : Bool) → is_timed command ≡ timed → is_configure command ≡ true
    by_kind false plain = sym (configures command) ∙ ap work_laws.is_configure (sym (work_asked parts command m plain))
        ∙ is
    by_kind true timed = absurd (configures_nothing _ _
        (ap work_laws.is_configure (sym (work_timed parts command m timed)) ∙ is))

-- who asks at most that a run be ready asks nothing of the queues
ready_asks_none : (part : WorkPart) (others : Others) (function : ℕ) (run : Option TimerRun) (m : ℕ)
    → asks_queues part others (ready_by function run) m ≡ None
ready_asks_none part others function None m = asks_as_it_says part others work_asks.Nothing m
ready_asks_none part others function (Some run) m = asks_as_it_says part others (work_asks.Ready function run) m

-- nor of the blobs and the leases
ready_asks_no_blobs : (part : WorkPart) (others : Others) (function : ℕ) (run : Option TimerRun) (m : ℕ)
    → asks_blobs part others (ready_by function run) m ≡ None
unfolding asks_blobs
ready_asks_no_blobs part others function None m = refl
ready_asks_no_blobs part others function (Some run) m = refl

ready_asks_no_leases : (part : WorkPart) (others : Others) (function : ℕ) (run : Option TimerRun) (m : ℕ)
    → asks_leases part others (ready_by function run) m ≡ None
unfolding asks_leases
ready_asks_no_leases part others function None m = refl
ready_asks_no_leases part others function (Some run) m = refl

-- the work asks nothing of the blobs and the leases by these commands
pub asked_of_blobs : (parts : Parts) (command : Command) (m : ℕ)
    → asked_blobs parts (asks_in parts command m) m ≡ blob_ask_in parts command
unfolding asks_blobs
asked_of_blobs parts (Arm function) m =
    ap (λ ask. unwrap_or ask blob_asks.Nothing) (ready_asks_no_blobs parts.work (others_of parts) _ _ m)
asked_of_blobs parts (Tick function) m =
    ap (λ ask. unwrap_or ask blob_asks.Nothing) (ready_asks_no_blobs parts.work (others_of parts) _ _ m)
asked_of_blobs parts (Configure function settings) m = refl
asked_of_blobs parts (Fetch function) m = refl
asked_of_blobs parts Session m = refl
asked_of_blobs parts command m = refl

pub asked_of_leases : (parts : Parts) (command : Command) (m : ℕ)
    → asked_leases parts (asks_in parts command m) m ≡ lease_ask command
unfolding asks_leases
asked_of_leases parts (Arm function) m =
    ap (λ ask. unwrap_or ask lease_asks.Nothing) (ready_asks_no_leases parts.work (others_of parts) _ _ m)
asked_of_leases parts (Tick function) m =
    ap (λ ask. unwrap_or ask lease_asks.Nothing) (ready_asks_no_leases parts.work (others_of parts) _ _ m)
asked_of_leases parts (Configure function settings) m = refl
asked_of_leases parts (Fetch function) m = refl
asked_of_leases parts Session m = refl
asked_of_leases parts command m = refl

pub asked_of_queues : (parts : Parts) (command : Command) (m : ℕ) (after : WorkPart) (answer : WorkDone)
    → work.outcome parts.work (others_of parts) (asks_in parts command m).work m ≡ judging.Makes after answer
    → IsAskedOf parts command (asked_queues parts (asks_in parts command m) m)
asked_of_queues parts (Configure function settings) m after answer is =
    elim (asks_as_it_says parts.work (others_of parts) (work_asks.Configure function settings) m) [
      | inl none ↦ inl (ap (λ ask. unwrap_or ask queue_asks.Sweep) none)
      | inr one ↦ inr (one.0, ap (λ ask. unwrap_or ask queue_asks.Sweep) one.1)
    ]
asked_of_queues parts (Fetch function) m after answer is =
    let fetch = fetches_as_told parts.work (others_of parts) function m after answer is in
    (fetch.trigger, fetch.found, ap (λ ask. unwrap_or ask queue_asks.Sweep) fetch.asks)
asked_of_queues parts (Arm function) m after answer is =
    ap (λ ask. unwrap_or ask queue_asks.Sweep) (ready_asks_none parts.work (others_of parts) _ _ m)
asked_of_queues parts (Tick function) m after answer is =
    ap (λ ask. unwrap_or ask queue_asks.Sweep) (ready_asks_none parts.work (others_of parts) _ _ m)
asked_of_queues parts Session m after answer is =
    ap (λ ask. unwrap_or ask queue_asks.Sweep) (asks_as_it_says parts.work (others_of parts) work_asks.Session m)
asked_of_queues parts command m after answer is =
    ap (λ ask. unwrap_or ask (queue_ask_in parts command))
    (asks_as_it_says parts.work (others_of parts) work_asks.Nothing m)

pub timer_ask_plain : (parts : Parts) (command : Command) → is_timed command ≡ false
    → timer_ask_in parts command ≡ timer_asks.Nothing
timer_ask_plain parts (Arm function) plain = absurd (cc)
timer_ask_plain parts (Tick function) plain = absurd (cc)
timer_ask_plain parts command plain = refl

-- the timers are asked for what the command asks, or to remove the row of a function that it configures
abbrev pub IsTimerAskOf : Parts → Command → TimerAsk → Type 0
IsTimerAskOf parts command ask =
    (ask ≡ timer_ask_in parts command) ⊎ ((function : ℕ) × (ask ≡ timer_asks.Remove function)
    × (is_configure command ≡ true))

pub asked_of_timers : (parts : Parts) (command : Command) (m : ℕ)
    → IsTimerAskOf parts command (asked_timers parts (asks_in parts command m))
asked_of_timers parts command m =
    elim (asks_only_to_remove parts.work (asks_in parts command m).work) [
      | inl none ↦ inl (ap (λ ask. unwrap_or ask (asks_in parts command m).timers) none
          ∙ own_timers_asked parts command m)
      | inr one ↦ inr (
        one.0,
        ap (λ ask. unwrap_or ask (asks_in parts command m).timers) one.1,
        configures_by parts command m one.2,
      )
    ]

pub timers_asked_plainly : (parts : Parts) (command : Command) (m : ℕ) → is_configure command ≡ false
    → asked_timers parts (asks_in parts command m) ≡ timer_ask_in parts command
timers_asked_plainly parts command m plain =
    elim (asked_of_timers parts command m) [
      | inl is ↦ is
      | inr one ↦ absurd (differ one.2 plain)
    ]

named : (command : Command) (given : Asked) (all : Asks) → unless_misnamed command given ≡ AsksAll all
    → given ≡ AsksAll all
named command given all is = by_test (has_good_names command) is
  where
    by_test : (good : Bool) → (if good then given else Refuses BadName) ≡ AsksAll all → given ≡ AsksAll all
    by_test true is = is
    by_test false is = absurd (cc)

-- readings ask nothing of the stores
peeks_nothing : (found : Result (List Item) Rule) (all : Asks) → reads_items found ≡ AsksAll all → ⊥
peeks_nothing (Ok items) all is = cc
peeks_nothing (Err rule) all is = cc

gets_nothing : (found : Option BlobRow) (all : Asks) → reads_blob found ≡ AsksAll all → ⊥
gets_nothing None all is = cc
gets_nothing (Some row) all is = cc

same_asks : (all given : Asks) → AsksAll given ≡ AsksAll all → all ≡ given
same_asks all given is = let same : given ≡ all = cc in sym same

strange_asks_nothing : (known : Bool) (given : Asked) (all : Asks) → unless_strange known given ≡ AsksAll all
    → given ≡ AsksAll all
strange_asks_nothing true given all is = is
strange_asks_nothing false given all is = absurd (cc)

missing_asks_nothing : (found : Option BlobRow) (given : Asked) (all : Asks) → unless_missing found given ≡ AsksAll all
    → given ≡ AsksAll all
missing_asks_nothing None given all is = absurd (cc)
missing_asks_nothing (Some row) given all is = is

untimed_asks_nothing : (found : Option Timer) (given : Asked) (all : Asks) → unless_untimed found given ≡ AsksAll all
    → given ≡ AsksAll all
untimed_asks_nothing None given all is = absurd (cc)
untimed_asks_nothing (Some timer) given all is = is

asked_of_command : (parts : Parts) (command : Command) (m : ℕ) (all : Asks) → asked_of parts command m ≡ AsksAll all
    → all ≡ asks_in parts command m
asked_of_command parts (Peek queue count) m all is = absurd (peeks_nothing (peeked parts.queues queue count m) all is)
asked_of_command parts (GetBlob container blob) m all is =
    absurd (gets_nothing (blob_of container blob parts.blobs.blobs) all is)
asked_of_command parts (Locate number) m all is = absurd (cc)
asked_of_command parts (Note function container blob) m all is =
    same_asks all (asks_in parts (Note function container blob) m)
    (missing_asks_nothing (blob_of container blob parts.blobs.blobs) _ all
    (strange_asks_nothing (works_on_blobs (function_of function parts.work.functions)) _ all is))
asked_of_command parts (Unnoted function container) m all is =
    absurd (reads_nothing (strange_asks_nothing (works_on_blobs (function_of function parts.work.functions)) _ all is))
  where
    reads_nothing : Reads (replies.Unnoted (unnoted parts.blobs (number_in parts.work function) container))
        ≡ AsksAll all → ⊥
    reads_nothing is = cc
asked_of_command parts (Arm function) m all is =
    same_asks all (asks_in parts (Arm function) m)
    (untimed_asks_nothing (timer_of function parts.work.functions) _ all is)
asked_of_command parts (Tick function) m all is =
    same_asks all (asks_in parts (Tick function) m)
    (untimed_asks_nothing (timer_of function parts.work.functions) _ all is)
asked_of_command parts (Begin function high low) m all is = absurd (cc)
asked_of_command parts (Finish invocation outcome) m all is = absurd (cc)
asked_of_command parts Renewals m all is = absurd (cc)
asked_of_command parts command m all is = same_asks all (asks_in parts command m) is

-- what is asked is what the command says
pub asks_as_told : (parts : Parts) (command : Command) (m : ℕ) (all : Asks) → asked parts command m ≡ AsksAll all
    → all ≡ asks_in parts command m
unfolding asked
asks_as_told parts command m all is = asked_of_command parts command m all
    (named command (asked_of parts command m) all is)

-- what is accepted has good masks
pub masks_by_asks : (parts : Parts) (command : Command) (m : ℕ) (all : Asks) → asked parts command m ≡ AsksAll all
    → work_asks.GivesGoodMasks all.work → GivesGoodMasks command
masks_by_asks parts (Configure function settings) m all is good =
    subst (λ (a : Asks). work_asks.GivesGoodMasks a.work) (asks_as_told parts (Configure function settings) m all is)
    good
masks_by_asks parts command m all is good = tt

-- and no list that is too long
pub list_by_asks : (parts : Parts) (command : Command) (m : ℕ) (all : Asks) → asked parts command m ≡ AsksAll all
    → GivesShortList command
unfolding asked
list_by_asks parts (Finish invocation outcome) m all is = absurd (cc)
list_by_asks parts command m all is = tt

module _ (w : World) (command : Command) (now : ℕ) (new : World) (reply : Reply)
    (in_time : nat_le now greatest_moment ≡ true) where
  abbrev m : ℕ
  m = effective_moment w now

  from_room : (full : Option Rule) (stepped : Stepped) → unless_full full stepped ≡ Recorded new reply
      → stepped ≡ Recorded new reply
  from_room None stepped is = is
  from_room (Some rule) stepped is = absurd (cc)

  from_judged : (size : ℕ) (full : Option Rule) (all : Asks) (found : Judged Parts Done)
      → all ≡ asks_in w.parts command m → outcomes w.parts all m ≡ found
      → judged w m size full found ≡ Recorded new reply → Made w command now new reply
  from_judged size full all (judging.Refuses rule) asking makes is = absurd (cc)
  from_judged size full all (judging.Quiets answer) asking makes is = absurd (cc)
  from_judged size full all (judging.Makes parts answer) asking makes is =
      let stepped : recorded w m size parts answer ≡ Recorded new reply = from_room (full_rule w.gate size full) _ is in
      let new_is : world_with w parts m size ≡ new = cc in
      let reply_is : reply_of answer ≡ reply = cc in
      let told = ap (λ (a : Asks). outcomes w.parts a m) (sym asking) ∙ makes
      ∙ ap (λ (x : World). judging.Makes x.parts answer) new_is in
      let did = all_make w.parts (asks_in w.parts command m) m new.parts answer told in
      record {
        done = answer;
        ask = asked_queues w.parts (asks_at w command now) (effective_moment w now);
        asked = asked_of_queues w.parts command m new.parts.work answer.work did.work;
        queues = did.queues;
        blobs = ap (λ a. blobs.outcome w.parts.blobs a m) (sym (asked_of_blobs w.parts command m)) ∙ did.blobs;
        leases = ap (λ a. leases.outcome w.parts.leases a m) (sym (asked_of_leases w.parts command m)) ∙ did.leases;
        timers = did.timers;
        work = did.work;
        timely = grind (arith, nat_tests, in_time);
        replies = sym reply_is;
        last = sym (ap (λ (x : World). x.last) new_is);
      }

  from_stepped_by : (size : ℕ) (a : Asked) → asked w.parts command m ≡ a → stepped_by w m size a ≡ Recorded new reply
      → Made w command now new reply
  from_stepped_by size (Refuses rule) asking is = absurd (cc)
  from_stepped_by size (Reads r) asking is = absurd (cc)
  from_stepped_by size (AsksAll all) asking is =
      from_judged size (too_full w.parts all m) all (outcomes w.parts all m)
      (asks_as_told w.parts command m all asking) refl is

-- what the stores did in a step that is recorded
pub made : (w : World) (command : Command) (now : ℕ) (new : World) (reply : Reply)
    → step w command now ≡ Recorded new reply → Made w command now new reply
unfolding step step_at
made w command now new reply is = by_test (nat_le now greatest_moment) refl is
  where
    by_test : (timely : Bool) → nat_le now greatest_moment ≡ timely
        → (if timely then step_at w command (effective_moment w now) else Refused MomentTooLate) ≡ Recorded new reply
        → Made w command now new reply
    by_test true in_time is = from_stepped_by w command now new reply in_time
        (length (entry (effective_moment w now) command)) (asked w.parts command (effective_moment w now)) refl is
    by_test false late is = absurd (cc)

-- the event of a recorded step
abbrev pub event : World → Command → ℕ → Reply → World → Event
event w command now reply new = record { before = w; command = command; moment = now; reply = reply; after = new }

-- what each recorded step keeps
abbrev pub IsKept : (List Event → World → Type 0) → Type 0
IsKept I =
    (events : List Event) (w : World) (command : Command) (now : ℕ) (new : World) (reply : Reply)
    → I events w → Made w command now new reply → I (events ++ event w command now reply new ∷ []) new

module _ (I : List Event → World → Type 0) (keeps : IsKept I) where
  kept_by_one : (events : List Event) (w : World) (command : Command) (now : ℕ) (s : Stepped) → I events w
      → step w command now ≡ s → I (events ++ event_of w command now s) (world_after w s)
  kept_by_one events w command now (Refused rule) holds is =
      subst (λ (es : List Event). I es w) (sym (append-nil events)) holds
  kept_by_one events w command now (Read reply) holds is =
      subst (λ (es : List Event). I es w) (sym (append-nil events)) holds
  kept_by_one events w command now (Quieted reply) holds is =
      subst (λ (es : List Event). I es w) (sym (append-nil events)) holds
  kept_by_one events w command now (Recorded new reply) holds is =
      keeps events w command now new reply holds (made w command now new reply is)

  -- so it holds after more entries, where it holds before them
  pub kept_from : (entries : List Entry) (events : List Event) (w : World) → I events w
      → I (events ++ trace_from w entries) (replay_from w entries)
  kept_from [] events w holds = subst (λ (es : List Event). I es w) (sym (append-nil events)) holds
  kept_from (e ∷ entries) events w holds =
      let s = step w e.command e.moment in
      let first = event_of w e.command e.moment s in
      subst (λ (es : List Event). I es (replay_from (after w e) entries))
      (append_assoc events first (trace_from (after w e) entries))
      (kept_from entries (events ++ first) (after w e) (kept_by_one events w e.command e.moment s holds refl))

  -- and of each history
  pub kept_by_all : I [] empty → (history : List Entry) → I (trace history) (replay history)
  kept_by_all begins history = kept_from history [] empty begins
