-- What every layer above may cite: one lemma for each law of the timers.
use Rattle.std.proofs.Common.{◌≡◌, ℕ, ◌<◌, ◌≤◌, Bool, true, false, Option, Some, None, refl, sym, ap, ◌∙◌, subst, ◌⊎◌, inl, inr, arith}
use Rattle.std.specs.Prelude.{◌==◌, if◌then◌else◌, IfSome}
use Rattle.std.proofs.lemmas.Bool.Decides.{nat_tests}
use Rattle.fh_base.specs.Moments.{greatest_moment}
use Rattle.fh_event.specs.Judging.{Makes}
use Rattle.fh_ncrontab.specs.declared.schedule.Schedule.{Schedule}
use Rattle.fh_timers.specs.declared.row.TimerRow.{TimerRow}
use Rattle.fh_timers.specs.declared.ask.TimerAsk.{TimerAsk}
use Rattle.fh_timers.specs.declared.ask.TimerAsk.TheVariants as asks
use Rattle.fh_timers.specs.declared.act.Act.{Act}
use Rattle.fh_timers.specs.declared.act.Act.TheVariants as acts
use Rattle.fh_timers.specs.declared.done.TimerDone.{TimerDone}
use Rattle.fh_timers.specs.declared.done.TimerDone.TheVariants as done
use Rattle.fh_timers.specs.Part.{TimerPart, no_timers, row_of}
use Rattle.fh_timers.specs.Acts.{acted}
use Rattle.fh_timers.specs.Outcome.{next_time, missed, due, new_row, after_run, watching, arming_found, running, ticking_found, acting, made_by, outcome}
use Rattle.fh_timers.specs.Laws.{IsRising, IsWhole, OfEachAsk, StaysWhole, schedule_given, IsDueBetween, RaisesDueTimes, IsTimeGiven, next_of, KeepsSchedules, KeepsLater, KeepsOthers, answers, AnswersTheAsk, is_busy, RunsWhereIdle, RemovesRows}
use Rattle.fh_timers.specs.Runs.{run_of}
use Rattle.fh_timers.proofs.Numbering.{same_number, row_of-set, row_of-removed, row_of-number}
use Rattle.fh_timers.proofs.Times.{next_time-later, next_time-scheduled, missed-is, due-is}

-- the row of a function, whose next time has come
record IsReady (part : TimerPart) (m f : ℕ) (row : TimerRow) (time : ℕ) : Type 0 where
  stands : row_of f part.timers ≡ Some row
  number : row.function ≡ f
  stored : row.next ≡ Some time
  come : time ≤ m

-- what holds of each way in which an ask changes something
record Ways (P : TimerAsk → Act → TimerDone → Type 0) (part : TimerPart) (m : ℕ) : Type 0 where
  makes_up : (f : ℕ) (s : Schedule) (startup : Bool) (row : TimerRow) (time : ℕ) → IsReady part m f row time
      → P (asks.Arm f s startup true false) (acts.Set (after_run row time s m)) (done.PastDue time (next_time s m))
  starts : (f : ℕ) (s : Schedule) (row : TimerRow)
      → P (asks.Arm f s true true false) acts.Keep (done.Armed row.next true)
  anew : (f : ℕ) (s : Schedule) (startup monitor : Bool)
      → P (asks.Arm f s startup monitor false) (acts.Set (new_row f s m)) (done.Armed (next_time s m) startup)
  ticks : (f : ℕ) (s : Schedule) (row : TimerRow) (time : ℕ) → IsReady part m f row time
      → P (asks.Tick f s false) (acts.Set (after_run row time s m)) (done.Ticked time (next_time s m))
  removes : (f : ℕ) → P (asks.Remove f) (acts.Remove f) done.Removed
  nothing : P asks.Nothing acts.Keep done.Nothing

record Way (P : TimerAsk → Act → TimerDone → Type 0) (part : TimerPart) (ask : TimerAsk) (after : TimerPart)
    (answer : TimerDone) : Type 0 where
  act : Act
  made : acted part act ≡ after
  holds : P ask act answer

module _ (P : TimerAsk → Act → TimerDone → Type 0) (part : TimerPart) (m : ℕ) (ways : Ways P part m)
    (after : TimerPart) (answer : TimerDone) where
  way : (ask : TimerAsk) (act : Act) (given : TimerDone) → P ask act given
      → made_by part (Makes act given) ≡ Makes after answer → Way P part ask after answer
  way ask act given holds is =
      let made : acted part act ≡ after = cc in
      let same : given ≡ answer = cc in
      record { act = act; made = made; holds = subst (λ (d : TimerDone). P ask act d) same holds }

  ready : (f : ℕ) (row : TimerRow) (time : ℕ) → row_of f part.timers ≡ Some row → (row.next ≡ Some time) × (time ≤ m)
      → IsReady part m f row time
  ready f row time stands is =
      record { stands = stands; number = row_of-number f part row stands; stored = is.0; come = is.1 }

  by_watching : (f : ℕ) (s : Schedule) (startup : Bool) (row : TimerRow) (over : Option ℕ)
      → row_of f part.timers ≡ Some row → missed m row.next ≡ over
      → made_by part (watching row s startup m over) ≡ Makes after answer
      → Way P part (asks.Arm f s startup true false) after answer
  by_watching f s startup row (Some time) stands over is =
      way (asks.Arm f s startup true false) _ _
      (ways.makes_up f s startup row time (ready f row time stands (missed-is m row.next time over))) is
  by_watching f s false row None stands over is = absurd (cc)
  by_watching f s true row None stands over is = way (asks.Arm f s true true false) _ _ (ways.starts f s row) is

  by_arming : (f : ℕ) (found : Option TimerRow) (s : Schedule) (startup monitor busy : Bool)
      → row_of f part.timers ≡ found
      → made_by part (arming_found f found s startup monitor busy m) ≡ Makes after answer
      → Way P part (asks.Arm f s startup monitor busy) after answer
  by_arming f found s startup monitor true stands is = absurd (cc)
  by_arming f (Some row) s startup true false stands is = by_watching f s startup row (missed m row.next) stands refl is
  by_arming f (Some row) s startup false false stands is =
      way (asks.Arm f s startup false false) _ _ (ways.anew f s startup false) is
  by_arming f None s startup monitor false stands is =
      way (asks.Arm f s startup monitor false) _ _ (ways.anew f s startup monitor) is

  by_running : (f : ℕ) (s : Schedule) (row : TimerRow) (come : Option ℕ) → row_of f part.timers ≡ Some row
      → due m row.next ≡ come → made_by part (running row s m come) ≡ Makes after answer
      → Way P part (asks.Tick f s false) after answer
  by_running f s row None stands come is = absurd (cc)
  by_running f s row (Some time) stands come is =
      way (asks.Tick f s false) _ _ (ways.ticks f s row time (ready f row time stands (due-is m row.next time come))) is

  by_ticking : (f : ℕ) (found : Option TimerRow) (s : Schedule) (busy : Bool) → row_of f part.timers ≡ found
      → made_by part (ticking_found found s busy m) ≡ Makes after answer → Way P part (asks.Tick f s busy) after answer
  by_ticking f None s busy stands is = absurd (cc)
  by_ticking f (Some row) s true stands is = absurd (cc)
  by_ticking f (Some row) s false stands is = by_running f s row (due m row.next) stands refl is

  by_acting : (ask : TimerAsk) → made_by part (acting part ask m) ≡ Makes after answer → Way P part ask after answer
  unfolding acting
  by_acting (asks.Arm f s startup monitor busy) is = by_arming f (row_of f part.timers) s startup monitor busy refl is
  by_acting (asks.Tick f s busy) is = by_ticking f (row_of f part.timers) s busy refl is
  by_acting (asks.Remove f) is = way (asks.Remove f) _ _ (ways.removes f) is
  by_acting asks.Nothing is = way asks.Nothing _ _ ways.nothing is

  by_ways : (ask : TimerAsk) → outcome part ask m ≡ Makes after answer → Way P part ask after answer
  unfolding outcome
  by_ways ask is = by_acting ask is

kept : (part : TimerPart) → acted part acts.Keep ≡ part
unfolding acted
kept part = refl

-- ---- answers

answer_ways : (part : TimerPart) (m : ℕ) → Ways (λ ask act answer. answers ask answer ≡ true) part m
answer_ways part m = record {
  makes_up = λ f s startup row time ready. refl;
  starts = λ f s row. refl;
  anew = λ f s startup monitor. refl;
  ticks = λ f s row time ready. refl;
  removes = λ f. refl;
  nothing = refl;
}

pub answers_the_ask : AnswersTheAsk
answers_the_ask part ask m after answer is = (by_ways _ part m (answer_ways part m) after answer ask is).holds

idle_ways : (part : TimerPart) (m : ℕ) → Ways (λ ask act answer. IfSome (run_of answer) (λ run. is_busy ask ≡ false)) part m
idle_ways part m = record {
  makes_up = λ f s startup row time ready. refl;
  starts = λ f s row. refl;
  anew = λ f s startup monitor. at_start startup (next_time s m);
  ticks = λ f s row time ready. refl;
  removes = λ f. tt;
  nothing = tt;
}
  where
    at_start : (startup : Bool) (next : Option ℕ) → IfSome (run_of (done.Armed next startup)) (λ run. ◌≡◌ {A = Bool} false false)
    at_start true next = refl
    at_start false next = tt

pub runs_where_idle : RunsWhereIdle
runs_where_idle part ask m after answer is = (by_ways _ part m (idle_ways part m) after answer ask is).holds

-- ---- whole parts

pub Whole-none : IsWhole no_timers
Whole-none = λ f. tt

module _ (part : TimerPart) (m : ℕ) (h : IsWhole part) (within : m ≤ greatest_moment) where
  abbrev Stays : TimerAsk → Act → TimerDone → Type 0
  Stays ask act answer = IsWhole (acted part act)

  Whole-set : (row : TimerRow) → IsRising row → IsWhole (acted part (acts.Set row))
  Whole-set row rising f =
      subst (λ (found : Option TimerRow). IfSome found IsRising) (sym (row_of-set row part f))
      (by_test (row.function == f))
    where
      by_test : (b : Bool) → IfSome (if b then Some row else row_of f part.timers) IsRising
      by_test true = rising
      by_test false = h f

  Whole-removed : (g : ℕ) → IsWhole (acted part (acts.Remove g))
  Whole-removed g f =
      subst (λ (found : Option TimerRow). IfSome found IsRising) (sym (row_of-removed g part f)) (by_test (g == f))
    where
      by_test : (b : Bool) → IfSome (if b then None else row_of f part.timers) IsRising
      by_test true = tt
      by_test false = h f

  whole_ways : Ways Stays part m
  whole_ways = record {
    makes_up =
        λ f s startup row time is. Whole-set (after_run row time s m)
        (record { past = is.come; future = next_time-later s m within });
    starts = λ f s row. subst IsWhole (sym (kept part)) h;
    anew = λ f s startup monitor. Whole-set (new_row f s m) (record { past = tt; future = next_time-later s m within });
    ticks =
        λ f s row time is. Whole-set (after_run row time s m)
        (record { past = is.come; future = next_time-later s m within });
    removes = λ f. Whole-removed f;
    nothing = subst IsWhole (sym (kept part)) h;
  }

pub Whole-outcome : OfEachAsk StaysWhole
Whole-outcome part ask m after answer h within is =
    let by = by_ways (Stays part m h within) part m (whole_ways part m h within) after answer ask is in
    subst IsWhole by.made by.holds

-- ---- due times

module _ (part : TimerPart) (m : ℕ) (h : IsWhole part) (within : m ≤ greatest_moment) where
  abbrev Raises : TimerAsk → Act → TimerDone → Type 0
  Raises ask act answer = RaisesDueTimes part m ask (acted part act) answer

  -- what was last isn't after the row's moment, which is before what is next
  above_last : (row : TimerRow) (time : ℕ) → IsRising row → row.next ≡ Some time → IfSome row.last (λ last. last < time)
  above_last row time rising stored = by_last row.last rising.past
    where
      set_before : row.updated < time
      set_before = subst (λ (next : Option ℕ). IfSome next (λ n. row.updated < n)) stored rising.future

      by_last : (last : Option ℕ) → IfSome last (λ l. l ≤ row.updated) → IfSome last (λ l. l < time)
      by_last None past = tt
      by_last (Some l) past = omega (arith, past, set_before)

  raised : (g : ℕ) (s : Schedule) (row : TimerRow) (time : ℕ) → IsReady part m g row time → (f due : ℕ)
      → (g == f) ≡ true → Some time ≡ Some due
      → IsDueBetween m due (row_of f part.timers) (row_of f (acted part (acts.Set (after_run row time s m))).timers)
  raised g s row time is f due about same =
      let one : time ≡ due = cc in
      let here : row_of f part.timers ≡ Some row =
      ap (λ n. row_of n part.timers) (sym (same_number g f about)) ∙ is.stands in
      let rising : IsRising row = subst (λ (found : Option TimerRow). IfSome found IsRising) here (h f) in
      let new = after_run row time s m in
      let later : row_of f (acted part (acts.Set new)).timers ≡ Some new =
      row_of-set new part f
      ∙ ap (λ b. if b then Some new else row_of f part.timers) (ap (λ n. n == f) is.number ∙ about) in
      rw (here, later) (record {
        stored = is.stored ∙ same;
        rises = above_last row due rising (is.stored ∙ same);
        come = rw (← one) is.come;
        kept = same;
        goes_on = next_time-later s m within;
      })

  raise_ways : Ways Raises part m
  raise_ways = record {
    makes_up = λ f s startup row time is g due about same. raised f s row time is g due about same;
    starts = λ f s row g due about same. cc;
    anew = λ f s startup monitor g due about same. cc;
    ticks = λ f s row time is g due about same. raised f s row time is g due about same;
    removes = λ f g due about same. cc;
    nothing = λ g due about same. cc;
  }

pub raises_due_times : OfEachAsk RaisesDueTimes
raises_due_times part ask m after answer h within is =
    let by = by_ways (Raises part m h within) part m (raise_ways part m h within) after answer ask is in
    subst (λ (p : TimerPart). RaisesDueTimes part m ask p answer) by.made by.holds

-- ---- schedules

module _ (part : TimerPart) (m : ℕ) (within : m ≤ greatest_moment) where
  abbrev Scheduled : TimerAsk → Act → TimerDone → Type 0
  Scheduled ask act answer = KeepsSchedules part m ask (acted part act) answer

  -- the time was stored before, or it is one of the schedule that is given
  abbrev Origin : ℕ → ℕ → Option Schedule → Type 0
  Origin f time given = (next_of (row_of f part.timers) ≡ Some time) ⊎ IsTimeGiven given m time

  set_scheduled : (row : TimerRow) (s : Schedule) → row.next ≡ next_time s m → (f time : ℕ)
      → next_of (row_of f (acted part (acts.Set row)).timers) ≡ Some time
      → Origin f time (if row.function == f then Some s else None)
  set_scheduled row s given f time is = by_test (row.function == f) (sym (ap next_of (row_of-set row part f)) ∙ is)
    where
      by_test : (b : Bool) → next_of (if b then Some row else row_of f part.timers) ≡ Some time
          → Origin f time (if b then Some s else None)
      by_test true same = inr (next_time-scheduled s m time within (sym given ∙ same))
      by_test false same = inl same

  run_scheduled : (g : ℕ) (s : Schedule) (row : TimerRow) (last : ℕ) → IsReady part m g row last → (f time : ℕ)
      → next_of (row_of f (acted part (acts.Set (after_run row last s m))).timers) ≡ Some time
      → Origin f time (if g == f then Some s else None)
  run_scheduled g s row last ready f time is =
      subst (λ (n : ℕ). Origin f time (if n == f then Some s else None)) ready.number
      (set_scheduled (after_run row last s m) s refl f time is)

  removed_next : (found : Option TimerRow) (time : ℕ) (b : Bool) → next_of (if b then None else found) ≡ Some time
      → next_of found ≡ Some time
  removed_next found time true is = cc
  removed_next found time false is = is

  scheduled_ways : Ways Scheduled part m
  scheduled_ways = record {
    makes_up = λ f s startup row last ready g time is. run_scheduled f s row last ready g time is;
    starts =
        λ f s row g time is. inl (subst (λ (p : TimerPart). next_of (row_of g p.timers) ≡ Some time) (kept part) is);
    anew = λ f s startup monitor g time is. set_scheduled (new_row f s m) s refl g time is;
    ticks = λ f s row last ready g time is. run_scheduled f s row last ready g time is;
    removes =
        λ f g time is. inl (removed_next (row_of g part.timers) time (f == g)
        (sym (ap next_of (row_of-removed f part g)) ∙ is));
    nothing = λ g time is. inl (subst (λ (p : TimerPart). next_of (row_of g p.timers) ≡ Some time) (kept part) is);
  }

pub keeps_schedules : OfEachAsk KeepsSchedules
keeps_schedules part ask m after answer h within is =
    let by = by_ways (Scheduled part m within) part m (scheduled_ways part m within) after answer ask is in
    subst (λ (p : TimerPart). KeepsSchedules part m ask p answer) by.made by.holds

later_given : (s : Option Schedule) (m time next : ℕ) → time ≤ m → IsTimeGiven s m next → time < next
later_given None m time next over is = absurd is
later_given (Some s) m time next over is = omega (arith, over, is.later)

pub keeps_later : OfEachAsk KeepsLater
keeps_later part ask m after answer h within is f time over before = by_next (next_of (row_of f after.timers)) refl
  where
    by_origin :
        (next : ℕ)
        → (next_of (row_of f part.timers) ≡ Some next) ⊎ IsTimeGiven (schedule_given f ask) m next → time < next
    by_origin next (inl same) = subst (λ (found : Option ℕ). IfSome found (λ n. time < n)) same before
    by_origin next (inr given) = later_given (schedule_given f ask) m time next over given

    by_next :
        (found : Option ℕ) → next_of (row_of f after.timers) ≡ found → IfSome found (λ next. time < next)
    by_next None stands = tt
    by_next (Some next) stands = by_origin next (keeps_schedules part ask m after answer h within is f next stands)

-- ---- other functions

module _ (part : TimerPart) (m : ℕ) where
  abbrev Others : TimerAsk → Act → TimerDone → Type 0
  Others ask act answer = KeepsOthers part m ask (acted part act) answer

  skipped : (about : Bool) (new before : Option TimerRow) → about ≡ false → (if about then new else before) ≡ before
  skipped true new before is = cc
  skipped false new before is = refl

  set_other : (row : TimerRow) (f : ℕ) → (row.function == f) ≡ false
      → row_of f (acted part (acts.Set row)).timers ≡ row_of f part.timers
  set_other row f apart = row_of-set row part f ∙ skipped (row.function == f) (Some row) _ apart

  run_other : (g : ℕ) (s : Schedule) (row : TimerRow) (last : ℕ) → IsReady part m g row last → (f : ℕ)
      → (g == f) ≡ false → row_of f (acted part (acts.Set (after_run row last s m))).timers ≡ row_of f part.timers
  run_other g s row last ready f apart = set_other (after_run row last s m) f (ap (λ n. n == f) ready.number ∙ apart)

  other_ways : Ways Others part m
  other_ways = record {
    makes_up = λ f s startup row last ready g apart. run_other f s row last ready g apart;
    starts = λ f s row g apart. ap (λ p. row_of g p.timers) (kept part);
    anew = λ f s startup monitor g apart. set_other (new_row f s m) g apart;
    ticks = λ f s row last ready g apart. run_other f s row last ready g apart;
    removes = λ f g apart. row_of-removed f part g ∙ skipped (f == g) None _ apart;
    nothing = λ g apart. ap (λ p. row_of g p.timers) (kept part);
  }

pub keeps_others : OfEachAsk KeepsOthers
keeps_others part ask m after answer h within is =
    let by = by_ways (Others part m) part m (other_ways part m) after answer ask is in
    subst (λ (p : TimerPart). KeepsOthers part m ask p answer) by.made by.holds

-- ---- removed rows

module _ (part : TimerPart) (m : ℕ) where
  abbrev Removes : TimerAsk → Act → TimerDone → Type 0
  Removes ask act answer = RemovesRows part m ask (acted part act) answer

  same : (f : ℕ) → (f == f) ≡ true
  same f = grind (arith, nat_tests)

  remove_ways : Ways Removes part m
  remove_ways = record {
    makes_up = λ f s startup row time ready. tt;
    starts = λ f s row. tt;
    anew = λ f s startup monitor. tt;
    ticks = λ f s row time ready. tt;
    removes = λ f. row_of-removed f part f ∙ ap (λ b. if b then None else row_of f part.timers) (same f);
    nothing = tt;
  }

pub removes_rows : OfEachAsk RemovesRows
removes_rows part ask m after answer h early is =
    let by = by_ways (Removes part m) part m (remove_ways part m) after answer ask is in
    subst (λ (p : TimerPart). RemovesRows part m ask p answer) by.made by.holds
