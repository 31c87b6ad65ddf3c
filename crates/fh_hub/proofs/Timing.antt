-- The due times of timers rise and are scheduled, and one run of a function is ready.
use Rattle.std.proofs.Common.{◌≡◌, ◌⊎◌, inl, inr, ℕ, ◌<◌, ◌≤◌, Bool, true, false, List, [], ◌∷◌, ◌++◌, Option, Some, None, refl, sym, ◌∙◌, ap, subst, arith}
use Rattle.std.specs.Prelude.{◌==◌, ◌&&◌, if◌then◌else◌, IfSome, option_map, unwrap_or, pos}
use Rattle.std.specs.List.{All}
use Rattle.std.proofs.lemmas.Bool.Decides.{nat_tests}
use Rattle.std.proofs.lemmas.List.Elements.{All-nil, All-push}
use Rattle.std.proofs.lemmas.List.Sums.{fold_push}
use Rattle.fh_base.specs.Moments.{greatest_moment}
use Rattle.fh_event.specs.declared.command.Command.{Command}
use Rattle.fh_event.specs.declared.command.Command.TheVariants.{Configure, Arm, Tick}
use Rattle.fh_event.specs.declared.reply.Reply.{Reply}
use Rattle.fh_event.specs.Judging as judging
use Rattle.fh_ncrontab.specs.declared.schedule.Schedule.{Schedule}
use Rattle.fh_ncrontab.specs.Schedule.{is_in}
use Rattle.fh_timers.specs.declared.row.TimerRow.{TimerRow}
use Rattle.fh_timers.specs.declared.ask.TimerAsk.{TimerAsk}
use Rattle.fh_timers.specs.declared.ask.TimerAsk.TheVariants as asks
use Rattle.fh_timers.specs.declared.done.TimerDone.{TimerDone}
use Rattle.fh_timers.specs.declared.done.TimerDone.TheVariants as done
use Rattle.fh_timers.specs.declared.done.TimerRun.{TimerRun}
use Rattle.fh_timers.specs.Outcome as timers
use Rattle.fh_timers.specs.Part.{TimerPart, row_of}
use Rattle.fh_timers.specs.Laws as laws
use Rattle.fh_timers.specs.Laws.{next_of, schedule_given, due_time, IsDueAt, IsDueBetween, IsTimeGiven}
use Rattle.fh_timers.proofs.Lawful as timer_laws
use Rattle.fh_dispatch.specs.declared.function.Function.{Function}
use Rattle.fh_dispatch.specs.declared.timer.Timer.{Timer}
use Rattle.fh_dispatch.specs.declared.done.WorkDone.{WorkDone}
use Rattle.fh_dispatch.specs.declared.done.WorkDone.TheVariants as work_done
use Rattle.fh_dispatch.specs.Asks as work
use Rattle.fh_dispatch.specs.Laws as work_specs
use Rattle.fh_dispatch.specs.Laws.{number_of}
use Rattle.fh_dispatch.specs.Part.{WorkPart, function_of}
use Rattle.fh_dispatch.specs.InWork.{is_busy, runs_in}
use Rattle.fh_dispatch.specs.Timers.{timer_found, timer_of, asks_timers}
use Rattle.fh_dispatch.proofs.Lawful as work_laws
use Rattle.fh_hub.specs.Asked.{arming, ticking, timer_ask_in, work_ask}
use Rattle.fh_hub.specs.Stores.{Parts, others_of, function_asked, run_made, ready_by, asked_timers}
use Rattle.fh_hub.specs.Replies.{reply_of_timers, reply_of_work, reply_of_stores}
use Rattle.fh_hub.specs.World.{World, empty, effective_moment}
use Rattle.fh_hub.specs.Replay.{Entry, Event, trace, replay}
use Rattle.fh_hub.specs.Timing.{timer_in, due_told, due_if, due_of, DueTimes, is_above, and_then, due_times, IsScheduled, IsDueInTime, RunsInTurn}
use Rattle.fh_hub.proofs.Steps.{Made, is_configure, is_timed, asks_at, no_run, work_asked, work_timed, asked_of_timers, timers_asked_plainly, IsKept, event, kept_by_all}
use Rattle.fh_hub.proofs.Answering.{timers_answered, work_answered}

-- ---- what a timer's command asks

-- a timer's function has its number
timer-number : (name : List ℕ) (part : WorkPart) (timer : Timer) → timer_of name part.functions ≡ Some timer
    → number_of part name ≡ Some timer.function
timer-number name part timer is = by_found (function_of name part.functions) refl
  where
    by_found : (found : Option Function) → function_of name part.functions ≡ found
        → number_of part name ≡ Some timer.function
    by_found None found = absurd (none_found (sym (ap timer_found found) ∙ is))
      where
        none_found : None ≡ Some timer → ⊥
        none_found is = cc
    by_found (Some function) found =
        ap (option_map (λ (f : Function). f.number)) found
        ∙ ap (λ (n : ℕ). Some n) (sym (work_laws.timer-number function.number function.settings timer
        (sym (ap timer_found found) ∙ is)))

-- the ask is for this timer, and tells whether a job of it is in work
record AsksFor (parts : Parts) (timer : Timer) (ask : TimerAsk) : Type 0 where
  about : (f : ℕ) → laws.is_about f ask ≡ (timer.function == f)
  given : (f : ℕ) → schedule_given f ask ≡ (if timer.function == f then Some timer.schedule else None)
  busy : laws.is_busy ask ≡ is_busy timer.function parts.work
  asked : function_asked ask ≡ timer.function

asks_for : (parts : Parts) (command : Command) (timer : Timer) → timer_in parts command ≡ Some timer
    → AsksFor parts timer (timer_ask_in parts command)
asks_for parts (Arm function) timer is =
    subst (λ (t : Option Timer). AsksFor parts timer (arming parts.work t)) (sym is)
    (record { about = λ f. refl; given = λ f. refl; busy = refl; asked = refl })
asks_for parts (Tick function) timer is =
    subst (λ (t : Option Timer). AsksFor parts timer (ticking parts.work t)) (sym is)
    (record { about = λ f. refl; given = λ f. refl; busy = refl; asked = refl })
asks_for parts command timer is = absurd (cc)

-- a command without a timer asks for none
asks_none : (parts : Parts) (command : Command) → timer_in parts command ≡ None
    → timer_ask_in parts command ≡ asks.Nothing
asks_none parts (Arm function) is = ap (arming parts.work) is
asks_none parts (Tick function) is = ap (ticking parts.work) is
asks_none parts command is = refl

timed : (parts : Parts) (command : Command) (timer : Timer) → timer_in parts command ≡ Some timer
    → is_timed command ≡ true
timed parts (Arm function) timer is = refl
timed parts (Tick function) timer is = refl
timed parts command timer is = absurd (cc)

plainly : (parts : Parts) (command : Command) (timer : Timer) → timer_in parts command ≡ Some timer
    → is_configure command ≡ false
plainly parts (Arm function) timer is = refl
plainly parts (Tick function) timer is = refl
plainly parts command timer is = absurd (cc)

-- the name by which a command is about its timer
record HasName (part : WorkPart) (timer : Timer) : Type 0 where
  name : List ℕ
  is : timer_of name part.functions ≡ Some timer

name_of : (parts : Parts) (command : Command) (timer : Timer) → timer_in parts command ≡ Some timer
    → HasName parts.work timer
name_of parts (Arm function) timer is = record { name = function; is = is }
name_of parts (Tick function) timer is = record { name = function; is = is }
name_of parts command timer is = absurd (cc)

-- ---- what the reply tells

differ : {b : Bool} → b ≡ true → b ≡ false → ⊥
differ holds fails = cc

none_some : {A : Type 0} (x : A) → None ≡ Some x → ⊥
none_some x is = cc

same_some : (a b : ℕ) → Some a ≡ Some b → a ≡ b
same_some a b is = cc

told_due : (stores : Reply) (f : ℕ) (s : Schedule) (ask : TimerAsk) (answer : TimerDone)
    → schedule_given f ask ≡ Some s → laws.answers ask answer ≡ true
    → due_told (reply_of_timers stores answer) ≡ due_time answer
told_due stores f s (asks.Arm function schedule startup monitor busy) (done.PastDue due next) given answers = refl
told_due stores f s (asks.Arm function schedule startup monitor busy) (done.Armed next ready) given answers = refl
told_due stores f s (asks.Arm function schedule startup monitor busy) answer given answers = absurd (cc)
told_due stores f s (asks.Tick function schedule busy) (done.Ticked due next) given answers = refl
told_due stores f s (asks.Tick function schedule busy) answer given answers = absurd (cc)
told_due stores f s (asks.Remove function) answer given answers = absurd (none_some s given)
told_due stores f s asks.Nothing answer given answers = absurd (none_some s given)

-- a run that is made ready isn't told by the work
work_silent : (reply : Reply) (function : ℕ) (run : Option TimerRun) (answer : WorkDone)
    → work_specs.answers (ready_by function run) answer ≡ true → reply_of_work reply answer ≡ reply
work_silent reply function None work_done.Nothing answers = refl
work_silent reply function None answer answers = absurd (cc)
work_silent reply function (Some run) work_done.Ready answers = refl
work_silent reply function (Some run) answer answers = absurd (cc)

own_number : (n : ℕ) → (n == n) ≡ true
own_number n = grind (arith, nat_tests)

-- ---- what each step keeps

-- the function of this number has a name
record Owned (part : WorkPart) (f : ℕ) : Type 0 where
  name : List ℕ
  is : number_of part name ≡ Some f

-- the due times rose, the last one is over, and the next one comes behind it
record Rising (times : DueTimes) (last : ℕ) (next : Option ℕ) : Type 0 where
  rose : times.rose ≡ true
  past : IfSome times.last (λ due. (due ≤ last) × IfSome next (λ time. due < time))

record Timed (events : List Event) (w : World) : Type 0 where
  work : work_specs.IsWhole w.parts.work
  timers : laws.IsWhole w.parts.timers
  timely : w.last ≤ greatest_moment
  owned : (f : ℕ) (row : TimerRow) → row_of f w.parts.timers.timers ≡ Some row → Owned w.parts.work f
  rising : (f : ℕ) → Rising (due_times f events) w.last (next_of (row_of f w.parts.timers.timers))
  scheduled : (name : List ℕ) (timer : Timer) → timer_of name w.parts.work.functions ≡ Some timer
      → (time : ℕ) → next_of (row_of timer.function w.parts.timers.timers) ≡ Some time → IsScheduled timer time
  one : (f : ℕ) → runs_in f w.parts.work ≤ 1
  due : All IsDueInTime events

-- a due time is the next one that was stored, and then comes a later one
record IsDue (w new : World) (m f due : ℕ) : Type 0 where
  stored : next_of (row_of f w.parts.timers.timers) ≡ Some due
  come : due ≤ m
  later : IfSome (next_of (row_of f new.parts.timers.timers)) (λ time. m < time)

has_row : (found : Option TimerRow) (time : ℕ) → next_of found ≡ Some time → (row : TimerRow) × (found ≡ Some row)
has_row None time is = absurd (none_some time is)
has_row (Some row) time is = (row, refl)

of_schedule : (before timer : Timer) (time : ℕ) → before.schedule ≡ timer.schedule → IsScheduled before time
    → IsScheduled timer time
of_schedule before timer time same is =
    record {
      second = is.second;
      at = is.at;
      scheduled = ap (λ (s : Schedule). is_in s (pos is.second)) (sym same)
          ∙ is.scheduled;
    }

module _ (events : List Event) (w : World) (command : Command) (now : ℕ) (new : World) (reply : Reply)
    (h : Timed events w) (made : Made w command now new reply) where
  abbrev m : ℕ
  m = effective_moment w now

  abbrev e : Event
  e = event w command now reply new

  abbrev ask : TimerAsk
  ask = asked_timers w.parts (asks_at w command now)

  abbrev given : work.Ask
  given = (asks_at w command now).work

  early : m ≤ greatest_moment
  early = omega (arith, h.timely, made.timely)

  -- the asks of a command with a timer
  ask_is : (timer : Timer) → timer_in w.parts command ≡ Some timer → AsksFor w.parts timer ask
  ask_is timer is =
      subst (λ (a : TimerAsk). AsksFor w.parts timer a)
      (sym (timers_asked_plainly w.parts command m (plainly w.parts command timer is)))
      (asks_for w.parts command timer is)

  removed : (function f : ℕ) → ask ≡ asks.Remove function → function ≡ f → row_of f new.parts.timers.timers ≡ None
  removed function f is same =
      ap (λ n. row_of n new.parts.timers.timers) (sym same)
      ∙ subst (λ (a : TimerAsk). laws.RemovesRows w.parts.timers m a new.parts.timers made.done.timers) is
      (timer_laws.removes_rows w.parts.timers ask m new.parts.timers made.done.timers h.timers early made.timers)

  -- and of one without
  ask_none : timer_in w.parts command ≡ None → (f : ℕ)
      → (schedule_given f ask ≡ None) × ((laws.is_about f ask ≡ false) ⊎ (row_of f new.parts.timers.timers ≡ None))
  ask_none is f =
      elim (asked_of_timers w.parts command m) [
        | inl plain ↦ (
          ap (schedule_given f) (plain ∙ asks_none w.parts command is),
          inl (ap (laws.is_about f) (plain ∙ asks_none w.parts command is)),
        )
        | inr one ↦ (ap (schedule_given f) one.1, by_test one.0 one.1 (one.0 == f) refl)
      ]
    where
      by_test : (function : ℕ) → ask ≡ asks.Remove function → (b : Bool) → (function == f) ≡ b
          → (laws.is_about f ask ≡ false) ⊎ (row_of f new.parts.timers.timers ≡ None)
      by_test function is false apart = inl (ap (laws.is_about f) is ∙ apart)
      by_test function is true same = inr (removed function f is (grind (arith, nat_tests, same)))

  -- ---- due times

  told : (timer : Timer) → timer_in w.parts command ≡ Some timer → due_told reply ≡ due_time made.done.timers
  told timer is =
      let about = ask_is timer is in
      let ready = work_timed w.parts command m (timed w.parts command timer is) in
      let silent = work_silent (reply_of_timers (reply_of_stores made.done) made.done.timers) _ _ made.done.work
      (subst (λ (a : work.Ask). work_specs.answers a made.done.work ≡ true) ready
      (work_answered w command now new reply made)) in
      ap due_told (made.replies ∙ silent)
      ∙ told_due (reply_of_stores made.done) timer.function timer.schedule ask made.done.timers
      (about.given timer.function ∙ ap (λ b. if b then Some timer.schedule else None) (own_number timer.function))
      (timers_answered w command now new reply made)

  is_due : (timer : Timer) (due : ℕ) → timer_in w.parts command ≡ Some timer → due_told reply ≡ Some due
      → IsDue w new m timer.function due
  is_due timer due is tells =
      between (row_of timer.function w.parts.timers.timers) (row_of timer.function new.parts.timers.timers) refl refl
      (timer_laws.raises_due_times w.parts.timers ask m new.parts.timers made.done.timers h.timers early made.timers
      timer.function due
      ((ask_is timer is).about timer.function ∙ own_number timer.function) (sym (told timer is) ∙ tells))
    where
      between : (before after : Option TimerRow) → row_of timer.function w.parts.timers.timers ≡ before
          → row_of timer.function new.parts.timers.timers ≡ after → IsDueBetween m due before after
          → IsDue w new m timer.function due
      between (Some row) (Some later) was is by = record {
        stored = ap next_of was ∙ by.stored;
        come = by.come;
        later = subst (λ (r : Option TimerRow). IfSome (next_of r) (λ time. m < time)) (sym is) by.goes_on;
      }
      between None after was is by = absurd by
      between (Some row) None was is by = absurd by

  -- the next time stays behind what is over
  stays_later : (f due : ℕ) → due ≤ m → IfSome (next_of (row_of f w.parts.timers.timers)) (λ time. due < time)
      → IfSome (next_of (row_of f new.parts.timers.timers)) (λ time. due < time)
  stays_later f due over before = timer_laws.keeps_later w.parts.timers ask m new.parts.timers made.done.timers
      h.timers early made.timers f due over before

  goes_on : (f : ℕ) → Rising (due_times f events) m (next_of (row_of f new.parts.timers.timers))
  goes_on f = record { rose = (h.rising f).rose; past = still (due_times f events).last (h.rising f).past }
    where
      still : (last : Option ℕ) → IfSome last (λ due. (due ≤ w.last)
          × IfSome (next_of (row_of f w.parts.timers.timers)) (λ time. due < time))
          → IfSome last (λ due. (due ≤ m) × IfSome (next_of (row_of f new.parts.timers.timers)) (λ time. due < time))
      still None past = tt
      still (Some due) past =
          let over : due ≤ m = let first = past.0 in omega (arith, first) in
          (over, stays_later f due over past.1)

  rises : (f due : ℕ) → IsDue w new m f due → Rising (and_then (due_times f events) (Some due)) m
      (next_of (row_of f new.parts.timers.timers))
  rises f due is = record {
    rose = both (due_times f events).rose _ (h.rising f).rose (above (due_times f events).last (h.rising f).past);
    past = (is.come, all_later (next_of (row_of f new.parts.timers.timers)) is.later);
  }
    where
      both : (a b : Bool) → a ≡ true → b ≡ true → (a && b) ≡ true
      both a b x y = rw x y

      above : (last : Option ℕ) → IfSome last (λ d. (d ≤ w.last)
          × IfSome (next_of (row_of f w.parts.timers.timers)) (λ time. d < time)) → is_above due last ≡ true
      above None past = refl
      above (Some d) past =
          let less : d < due = subst (λ (next : Option ℕ). IfSome next (λ time. d < time)) is.stored past.1 in
          grind (arith, nat_tests, less)

      all_later : (next : Option ℕ) → IfSome next (λ time. m < time) → IfSome next (λ time. due < time)
      all_later None later = tt
      all_later (Some time) later = let come = is.come in omega (arith, later, come)

  due_is : (f : ℕ) (found : Option Timer) → timer_in w.parts command ≡ found → (told_due : Option ℕ)
      → due_told reply ≡ told_due
      → Rising (and_then (due_times f events) (due_if f found told_due)) m (next_of (row_of f new.parts.timers.timers))
  due_is f None is due tells = goes_on f
  due_is f (Some timer) is None tells = by_test (timer.function == f)
    where
      by_test : (b : Bool) → Rising (and_then (due_times f events) (if b then None else None)) m
          (next_of (row_of f new.parts.timers.timers))
      by_test true = goes_on f
      by_test false = goes_on f
  due_is f (Some timer) is (Some due) tells = by_test (timer.function == f) refl
    where
      by_test : (b : Bool) → (timer.function == f) ≡ b → Rising
          (and_then (due_times f events) (if b then Some due else None)) m (next_of (row_of f new.parts.timers.timers))
      by_test false apart = goes_on f
      by_test true same = rises f due (subst (λ (n : ℕ). IsDue w new m n due) (grind (arith, nat_tests, same))
          (is_due timer due is tells))

  rising_after : (f : ℕ) → Rising (due_times f (events ++ e ∷ [])) new.last (next_of (row_of f new.parts.timers.timers))
  rising_after f =
      subst (λ (k : ℕ). Rising (due_times f (events ++ e ∷ [])) k (next_of (row_of f new.parts.timers.timers)))
      (sym made.last)
      (subst (λ (t : DueTimes). Rising t m (next_of (row_of f new.parts.timers.timers)))
      (sym (fold_push (λ times (x : Event). and_then times (due_of f x)) (record { last = None; rose = true })
      events e))
      (due_is f (timer_in w.parts command) refl (due_told reply) refl))

  -- ---- rows of functions

  kept : (f : ℕ) → Owned w.parts.work f → Owned new.parts.work f
  kept f owned = record {
    name = owned.name;
    is = work_laws.numbers_kept w.parts.work (others_of w.parts)
        given m new.parts.work made.done.work h.work made.work owned.name f owned.is;
  }

  owned_after : (f : ℕ) (row : TimerRow) → row_of f new.parts.timers.timers ≡ Some row → Owned new.parts.work f
  owned_after f row is = by_timer (timer_in w.parts command) refl
    where
      other : laws.is_about f ask ≡ false → Owned new.parts.work f
      other apart = kept f (h.owned f row (sym
          (timer_laws.keeps_others w.parts.timers ask m new.parts.timers made.done.timers h.timers early made.timers f
          apart) ∙ is))

      by_test : (timer : Timer) → timer_in w.parts command ≡ Some timer → (b : Bool) → (timer.function == f) ≡ b
          → Owned new.parts.work f
      by_test timer there false apart = other ((ask_is timer there).about f ∙ apart)
      by_test timer there true same =
          let named = name_of w.parts command timer there in
          let number : timer.function ≡ f = grind (arith, nat_tests, same) in
          kept f (record {
            name = named.name;
            is = timer-number named.name w.parts.work timer named.is
                ∙ ap (λ (n : ℕ). Some n) number;
          })

      by_timer : (found : Option Timer) → timer_in w.parts command ≡ found → Owned new.parts.work f
      by_timer None none =
          elim (ask_none none f).1 [
            | inl apart ↦ other apart
            | inr gone ↦ absurd (none_some row (sym gone ∙ is))
          ]
      by_timer (Some timer) there = by_test timer there (timer.function == f) refl

  -- ---- schedules

  old_schedule : (timer : Timer) (time : ℕ) (name : List ℕ) → work_specs.HasTimer w.parts.work name timer
      → next_of (row_of timer.function w.parts.timers.timers) ≡ Some time → IsScheduled timer time
  old_schedule timer time name old was =
      of_schedule old.before timer time old.schedule
      (h.scheduled name old.before old.there time
      (ap (λ n. next_of (row_of n w.parts.timers.timers)) old.function ∙ was))

  no_next : (timer : Timer) (time : ℕ) → row_of timer.function new.parts.timers.timers ≡ None
      → next_of (row_of timer.function new.parts.timers.timers) ≡ Some time → ⊥
  no_next timer time none next = none_some time (sym (ap next_of none) ∙ next)

  asked_removal : (timer : Timer) → asks_timers w.parts.work given ≡ Some (asks.Remove timer.function)
      → row_of timer.function new.parts.timers.timers ≡ None
  asked_removal timer removes =
      removed timer.function timer.function (ap (λ (a : Option TimerAsk). unwrap_or a (asks_at w command now).timers)
      removes) refl

  not_new : (timer : Timer) → Owned w.parts.work timer.function → timer.function ≡ w.parts.work.next_function → ⊥
  not_new timer owned new_one =
      let before = (h.work.given owned.name timer.function owned.is).1 in omega (arith, before, new_one)

  stored_before : (name : List ℕ) (timer : Timer) (time : ℕ) → timer_of name new.parts.work.functions ≡ Some timer
      → next_of (row_of timer.function new.parts.timers.timers) ≡ Some time
      → next_of (row_of timer.function w.parts.timers.timers) ≡ Some time → IsScheduled timer time
  stored_before name timer time is next was =
      elim (work_laws.keeps_timers w.parts.work (others_of w.parts)
      given m new.parts.work made.done.work h.work made.work name timer is) [
        | inl old ↦ old_schedule timer time name old was
        | inr more ↦ elim more [
          | inl fresh ↦ (let there = has_row (row_of timer.function w.parts.timers.timers) time was in
              absurd (not_new timer (h.owned timer.function there.0 there.1) fresh))
          | inr removes ↦ absurd (no_next timer time (asked_removal timer removes) next)
        ]
      ]

  -- the timer of a number is one
  one_timer : (name : List ℕ) (timer other : Timer) → work_specs.HasTimer w.parts.work name timer
      → HasName w.parts.work other → other.function ≡ timer.function → other.schedule ≡ timer.schedule
  one_timer name timer other old named same =
      let first = timer-number name w.parts.work old.before old.there
      ∙ ap (λ (n : ℕ). Some n) (old.function ∙ sym same) in
      let second = timer-number named.name w.parts.work other named.is in
      let names = h.work.apart name named.name other.function first second in
      let timers : Some old.before ≡ Some other = sym old.there ∙ ap (λ n. timer_of n w.parts.work.functions) names
      ∙ named.is in
      let are : old.before ≡ other = cc in
      ap (λ (t : Timer). t.schedule) (sym are) ∙ old.schedule

  given_now : (name : List ℕ) (timer : Timer) (time : ℕ) → timer_of name new.parts.work.functions ≡ Some timer
      → next_of (row_of timer.function new.parts.timers.timers) ≡ Some time
      → IsTimeGiven (schedule_given timer.function ask) m time → IsScheduled timer time
  given_now name timer time is next gives = by_timer (timer_in w.parts command) refl
    where
      by_test : (other : Timer) → timer_in w.parts command ≡ Some other → (b : Bool)
          → (other.function == timer.function) ≡ b → IsTimeGiven (if b then Some other.schedule else None) m time
          → IsScheduled timer time
      by_test other there false apart by = absurd by
      by_test other there true same by =
          let number : other.function ≡ timer.function = grind (arith, nat_tests, same) in
          let named = name_of w.parts command other there in
          let owned : Owned w.parts.work timer.function =
          record {
            name = named.name;
            is = timer-number named.name w.parts.work other named.is
                ∙ ap (λ (n : ℕ). Some n) number;
          } in
          let found : IsScheduled other time = record { second = by.second; at = by.at; scheduled = by.scheduled } in
          elim (work_laws.keeps_timers w.parts.work (others_of w.parts)
          given m new.parts.work made.done.work h.work made.work name timer is) [
            | inl old ↦ of_schedule other timer time (one_timer name timer other old named number) found
            | inr more ↦ elim more [
              | inl fresh ↦ absurd (not_new timer owned fresh)
              | inr removes ↦ absurd (no_next timer time (asked_removal timer removes) next)
            ]
          ]

      by_timer : (found : Option Timer) → timer_in w.parts command ≡ found → IsScheduled timer time
      by_timer None none = absurd (subst (λ (s : Option Schedule). IsTimeGiven s m time)
          (ask_none none timer.function).0 gives)
      by_timer (Some other) there =
          by_test other there (other.function == timer.function) refl
          (subst (λ (s : Option Schedule). IsTimeGiven s m time) ((ask_is other there).given timer.function) gives)

  scheduled_after : (name : List ℕ) (timer : Timer) → timer_of name new.parts.work.functions ≡ Some timer → (time : ℕ)
      → next_of (row_of timer.function new.parts.timers.timers) ≡ Some time → IsScheduled timer time
  scheduled_after name timer is time next =
      elim (timer_laws.keeps_schedules w.parts.timers ask m new.parts.timers made.done.timers h.timers early
      made.timers timer.function time next) [
        | inl was ↦ stored_before name timer time is next was
        | inr gives ↦ given_now name timer time is next gives
      ]

  due_in_time : IsDueInTime e
  due_in_time = by_timer (timer_in w.parts command) refl (due_told reply) refl
    where
      by_timer : (found : Option Timer) → timer_in w.parts command ≡ found → (due : Option ℕ) → due_told reply ≡ due
          → IfSome found (λ timer. IfSome due (IsScheduled timer))
      by_timer None is due tells = tt
      by_timer (Some timer) is None tells = tt
      by_timer (Some timer) is (Some due) tells =
          let named = name_of w.parts command timer is in
          h.scheduled named.name timer named.is due (is_due timer due is tells).stored

  -- ---- ready runs

  -- a run is made ready where no job of its function is in work
  finds_none : work_specs.FindsNoJob w.parts.work given
  finds_none = by_kind (is_timed command) refl
    where
      plain_ask : (c : Command) → work_specs.FindsNoJob w.parts.work (work_ask c)
      plain_ask (Configure function settings) = tt
      plain_ask c = tt

      own : TimerAsk
      own = timer_ask_in w.parts command

      idle : (run : TimerRun) (found : judging.Judged TimerPart TimerDone)
          → timers.outcome w.parts.timers own m ≡ found → run_made found ≡ Some run → laws.is_busy own ≡ false
      idle run (judging.Refuses rule) is makes = absurd (none_some run makes)
      idle run (judging.Quiets answer) is makes = absurd (none_some run makes)
      idle run (judging.Makes part answer) is makes =
          subst (λ (r : Option TimerRun). IfSome r (λ x. laws.is_busy own ≡ false)) makes
          (timer_laws.runs_where_idle w.parts.timers own m part answer is)

      by_found : (found : Option Timer) → timer_in w.parts command ≡ found → (run : Option TimerRun)
          → run_made (timers.outcome w.parts.timers own m) ≡ run
          → work_specs.FindsNoJob w.parts.work (ready_by (function_asked own) run)
      by_found found is None makes = tt
      by_found None is (Some run) makes =
          absurd (none_some run (sym (no_run w.parts.timers m)
          ∙ ap (λ a. run_made (timers.outcome w.parts.timers a m)) (sym (asks_none w.parts command is)) ∙ makes))
      by_found (Some timer) is (Some run) makes =
          let about = asks_for w.parts command timer is in
          ap (λ f. is_busy f w.parts.work) about.asked ∙ sym about.busy
          ∙ idle run (timers.outcome w.parts.timers own m) refl makes

      by_kind : (b : Bool) → is_timed command ≡ b → work_specs.FindsNoJob w.parts.work given
      by_kind false plain = subst (work_specs.FindsNoJob w.parts.work) (sym (work_asked w.parts command m plain))
          (plain_ask command)
      by_kind true kind =
          subst (work_specs.FindsNoJob w.parts.work) (sym (work_timed w.parts command m kind))
          (by_found (timer_in w.parts command) refl (run_made (timers.outcome w.parts.timers own m)) refl)

  one_after : (f : ℕ) → runs_in f new.parts.work ≤ 1
  one_after f = work_laws.keeps_one_run w.parts.work (others_of w.parts)
      given m new.parts.work made.done.work h.work made.work finds_none f (h.one f)

  timed_after : Timed (events ++ e ∷ []) new
  timed_after = record {
    work = work_laws.Whole-outcome w.parts.work (others_of w.parts)
        given m new.parts.work made.done.work h.work made.work;
    timers = timer_laws.Whole-outcome w.parts.timers ask m new.parts.timers made.done.timers h.timers early made.timers;
    timely = omega (arith, made.last, early);
    owned = owned_after;
    rising = rising_after;
    scheduled = scheduled_after;
    one = one_after;
    due = All-push IsDueInTime events e h.due due_in_time;
  }

timed_kept : IsKept Timed
timed_kept = timed_after

timed_none : Timed [] empty
timed_none = record {
  work = work_laws.Whole-none;
  timers = timer_laws.Whole-none;
  timely = omega arith;
  owned = λ f row is. absurd (none_some row is);
  rising = λ f. record { rose = refl; past = tt };
  scheduled = λ name timer is. absurd (none_some timer is);
  one = λ f. omega arith;
  due = All-nil IsDueInTime;
}

always : (history : List Entry) → Timed (trace history) (replay history)
always history = kept_by_all Timed timed_kept timed_none history

pub runs_in_turn : (history : List Entry) (f : ℕ) → RunsInTurn history f
runs_in_turn history f = record { rise = ((always history).rising f).rose; one = (always history).one f }

pub all_in_time : (history : List Entry) → All IsDueInTime (trace history)
all_in_time history = (always history).due
