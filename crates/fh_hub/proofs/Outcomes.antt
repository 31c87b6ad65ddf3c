-- What the stores do together is what each does.
use Rattle.std.proofs.Common.{◌≡◌, ℕ, refl, ap, ◌∙◌, subst, Bool, true, false, List, [], ◌∷◌}
use Rattle.std.specs.Prelude.{Result, Ok, Err, ⊤, if◌then◌else◌}
use Rattle.fh_base.specs.declared.rule.Rule.{Rule}
use Rattle.fh_event.specs.declared.faults.PlanFault.{PlanFault}
use Rattle.fh_event.specs.declared.faults.PlanFault.TheVariants.{Rule as OfRule, NoMemory}
use Rattle.fh_event.specs.Judging.{Judged, Refuses, Quiets, Makes, both}
use Rattle.fh_queues.specs.declared.done.QueueDone.{QueueDone}
use Rattle.fh_queues.specs.Part.{QueuePart}
use Rattle.fh_queues.specs.Outcome as queues
use Rattle.fh_queues.specs.Edits as queue_edits
use Rattle.fh_queues.specs.declared.act.Act.{Act}
use Rattle.fh_blobs.specs.declared.done.BlobDone.{BlobDone}
use Rattle.fh_blobs.specs.Part.{BlobPart}
use Rattle.fh_blobs.specs.Outcome as blobs
use Rattle.fh_blobs.specs.Edits as blob_edits
use Rattle.fh_blobs.specs.declared.act.Act.{Act as BlobAct}
use Rattle.fh_blobs.specs.declared.done.BlobDone.TheVariants as blob_done
use Rattle.fh_leases.specs.declared.done.LeaseDone.{LeaseDone}
use Rattle.fh_leases.specs.Part.{LeasePart}
use Rattle.fh_leases.specs.Outcome as leases
use Rattle.fh_leases.specs.Edits as lease_edits
use Rattle.fh_timers.specs.declared.done.TimerDone.{TimerDone}
use Rattle.fh_timers.specs.declared.done.TimerDone.TheVariants as timer_done
use Rattle.fh_timers.specs.declared.act.Act.{Act as TimerAct}
use Rattle.fh_timers.specs.Part.{TimerPart}
use Rattle.fh_timers.specs.Outcome as timers
use Rattle.fh_timers.specs.Edits as timer_edits
use Rattle.fh_dispatch.specs.declared.done.WorkDone.{WorkDone}
use Rattle.fh_dispatch.specs.Part.{WorkPart}
use Rattle.fh_dispatch.specs.Outcome as work
use Rattle.fh_dispatch.specs.Acts as work_acts
use Rattle.fh_dispatch.specs.Edits as work_edits
use Rattle.fh_dispatch.specs.Faults as work_faults
use Rattle.fh_hub.specs.Stores.{Parts, Asks, Done, others_of, AllParts, AllDone, asked_timers, asked_queues, asked_blobs, asked_leases, parts_with, done_with, of_all, led_by, joined, outcomes}
use Rattle.fh_hub.specs.StoreEdits.{IsPlanOf, both_planned, IsOutcome}

-- ---- plans

-- a plan that was made comes to this outcome, or its fault is the outcome's
abbrev pub Plans : {Part Done Change : Type 0} → Judged Part Done → (Change → Judged Part Done)
    → Result Change PlanFault → Type 0
Plans outcome planned (Ok change) = outcome ≡ planned change
Plans outcome planned (Err (OfRule rule)) = outcome ≡ Refuses rule
Plans outcome planned (Err NoMemory) = ⊤

abbrev is_accepted : {Part Done : Type 0} → Judged Part Done → Bool
is_accepted (Refuses rule) = false
is_accepted judged = true

refused_second : {Part Other Done More : Type 0} (judged : Judged Part Done) (rule : Rule) → is_accepted judged ≡ true
    → both {Other = Other} {More = More} judged (Refuses rule) ≡ Refuses rule
refused_second (Refuses other) rule is = absurd (cc)
refused_second (Quiets done) rule is = refl
refused_second (Makes part done) rule is = refl

refused_first : {Part Other Done More : Type 0} (judged : Judged Other More) (rule : Rule) → is_accepted judged ≡ true
    → both {Part = Part} {Done = Done} (Refuses rule) judged ≡ Refuses rule
refused_first (Refuses other) rule is = absurd (cc)
refused_first (Quiets done) rule is = refl
refused_first (Makes part done) rule is = refl

accepted_both : {Part Other Done More : Type 0} (judged : Judged Part Done) (others : Judged Other More)
    → is_accepted judged ≡ true
    → is_accepted others ≡ true → is_accepted (both judged others) ≡ true
accepted_both (Refuses rule) others first second = absurd (cc)
accepted_both judged (Refuses rule) first second = absurd (cc)
accepted_both (Quiets done) (Quiets more) first second = refl
accepted_both (Quiets done) (Makes other more) first second = refl
accepted_both (Makes part done) (Quiets more) first second = refl
accepted_both (Makes part done) (Makes other more) first second = refl

both_plan : {Part Other Done More Change Changes : Type 0} (outcome : Judged Part Done) (others : Judged Other More)
    (planned : Change → Judged Part Done) (planned_others : Changes → Judged Other More)
    (first : Result Change PlanFault) (second : Result Changes PlanFault)
    → ((c : Change) → is_accepted (planned c) ≡ true) → ((c : Changes) → is_accepted (planned_others c) ≡ true)
    → Plans outcome planned first → Plans others planned_others second
    → Plans (both outcome others) (λ (c : Change × Changes). both (planned c.0) (planned_others c.1))
    (both_planned first second)
both_plan outcome others planned planned_others (Ok a) (Ok b) accepted accepts one two = rw (one, two) refl
both_plan outcome others planned planned_others (Ok a) (Err (OfRule rule)) accepted accepts one two =
    rw (one, two) (refused_second (planned a) rule (accepted a))
both_plan outcome others planned planned_others (Ok a) (Err NoMemory) accepted accepts one two = tt
both_plan outcome others planned planned_others (Err (OfRule rule)) (Ok b) accepted accepts one two =
    rw (one, two) (refused_first (planned_others b) rule (accepts b))
both_plan outcome others planned planned_others (Err NoMemory) (Ok b) accepted accepts one two = tt
both_plan outcome others planned planned_others (Err NoMemory) (Err fault) accepted accepts one two = tt
both_plan outcome others planned planned_others (Err (OfRule rule)) (Err NoMemory) accepted accepts one two = tt
both_plan outcome others planned planned_others (Err (OfRule rule)) (Err (OfRule other)) accepted accepts one two =
    rw (one, two) refl

queues_accepted : (part : QueuePart) (acts : List Act) (done : QueueDone)
    → is_accepted (queue_edits.judged part acts done) ≡ true
queues_accepted part [] done = refl
queues_accepted part (act ∷ acts) done = refl

blobs_accepted : (part : BlobPart) (acts : List BlobAct) (done : BlobDone)
    → is_accepted (blob_edits.judged part acts done) ≡ true
blobs_accepted part acts blob_done.Noted = refl
blobs_accepted part acts done = refl

work_accepted : (part : WorkPart) (change : work_edits.Change) → is_accepted (work_edits.planned part change) ≡ true
work_accepted part change = by_test change.quiet
  where
    by_test : (quiet : Bool) → is_accepted (if quiet then Quiets change.done else Makes
        (work_acts.by_acts part change.acts) change.done) ≡ true
    by_test true = refl
    by_test false = refl

timers_accepted : (part : TimerPart) (act : TimerAct) (done : TimerDone)
    → is_accepted (timer_edits.judged part act done) ≡ true
timers_accepted part act timer_done.Running = refl
timers_accepted part act timer_done.Same = refl
timers_accepted part act timer_done.Unarmed = refl
timers_accepted part act timer_done.NotDue = refl
timers_accepted part act done = refl

-- an accepted leader leaves it to the others to refuse
led_refused : {Part Other Done More : Type 0} (judged : Judged Part Done) (rule : Rule) → is_accepted judged ≡ true
    → led_by {Other = Other} {More = More} judged (Refuses rule) ≡ Refuses rule
led_refused (Refuses other) rule is = absurd (cc)
led_refused (Quiets done) rule is = refl
led_refused (Makes part done) rule is = refl

-- a fault of the work is that of the outcome
pub fault_of_work : (parts : Parts) (asks : Asks) (m : ℕ) (fault : PlanFault)
    → work_faults.IsPlanOf parts.work (work.outcome parts.work (others_of parts) asks.work m) (Err fault)
    → IsPlanOf parts (outcomes parts asks m) (Err fault)
unfolding outcomes
fault_of_work parts asks m (OfRule rule) is =
    ap (λ judged. joined judged (timers.outcome parts.timers (asked_timers parts asks) m)
    (queues.outcome parts.queues (asked_queues parts asks m) m) (blobs.outcome parts.blobs (asked_blobs parts asks m) m)
    (leases.outcome parts.leases (asked_leases parts asks m) m)) is
fault_of_work parts asks m NoMemory is = tt

timers_plan : (part : TimerPart) (outcome : Judged TimerPart TimerDone) (result : Result timer_edits.Change PlanFault)
    → timer_edits.IsPlanOf part outcome result → Plans outcome (timer_edits.planned part) result
timers_plan part outcome (Ok change) is = is
timers_plan part outcome (Err fault) is = absurd is

-- where the work has a plan, so is a fault of a plan of the others
module _ (parts : Parts) (asks : Asks) (m : ℕ) (of_work : work_edits.Change)
    (of_timers : Result timer_edits.Change PlanFault) (of_queues : Result queue_edits.Change PlanFault)
    (of_blobs : Result blob_edits.Change PlanFault) (of_leases : Result lease_edits.Change PlanFault)
    (led : work.outcome parts.work (others_of parts) asks.work m ≡ work_edits.planned parts.work of_work)
    (timed : timer_edits.IsPlanOf parts.timers (timers.outcome parts.timers (asked_timers parts asks) m) of_timers)
    (queued : Plans (queues.outcome parts.queues (asked_queues parts asks m) m) (queue_edits.planned parts.queues)
    of_queues)
    (stored : Plans (blobs.outcome parts.blobs (asked_blobs parts asks m) m) (blob_edits.planned parts.blobs) of_blobs)
    (leased : Plans (leases.outcome parts.leases (asked_leases parts asks m) m) (lease_edits.planned parts.leases) of_leases) where
  abbrev planned_blobs : blob_edits.Change × lease_edits.Change → Judged (BlobPart × LeasePart) (BlobDone × LeaseDone)
  planned_blobs c = both (blob_edits.planned parts.blobs c.0) (lease_edits.planned parts.leases c.1)

  abbrev planned_queues : queue_edits.Change × (blob_edits.Change × lease_edits.Change)
      → Judged (QueuePart × (BlobPart × LeasePart)) (QueueDone × (BlobDone × LeaseDone))
  planned_queues c = both (queue_edits.planned parts.queues c.0) (planned_blobs c.1)

  blobs_fit : (c : blob_edits.Change × lease_edits.Change) → is_accepted (planned_blobs c) ≡ true
  blobs_fit c = accepted_both (blob_edits.planned parts.blobs c.0) (lease_edits.planned parts.leases c.1)
      (blobs_accepted parts.blobs c.0.acts c.0.done) refl

  inner : Plans (both (blobs.outcome parts.blobs (asked_blobs parts asks m) m) (leases.outcome parts.leases (asked_leases parts asks m) m))
      planned_blobs (both_planned of_blobs of_leases)
  inner = both_plan _ _ (blob_edits.planned parts.blobs) (lease_edits.planned parts.leases) of_blobs of_leases
      (λ c. blobs_accepted parts.blobs c.acts c.done) (λ c. refl) stored leased

  middle : Plans (both (queues.outcome parts.queues (asked_queues parts asks m) m)
      (both (blobs.outcome parts.blobs (asked_blobs parts asks m) m) (leases.outcome parts.leases (asked_leases parts asks m) m)))
      planned_queues (both_planned of_queues (both_planned of_blobs of_leases))
  middle = both_plan _ _ (queue_edits.planned parts.queues) planned_blobs
      of_queues (both_planned of_blobs of_leases) (λ c. queues_accepted parts.queues c.acts c.done)
      blobs_fit queued inner

  whole : Plans (both (timers.outcome parts.timers (asked_timers parts asks) m)
      (both (queues.outcome parts.queues (asked_queues parts asks m) m)
      (both (blobs.outcome parts.blobs (asked_blobs parts asks m) m) (leases.outcome parts.leases (asked_leases parts asks m) m))))
      (λ (c : timer_edits.Change × (queue_edits.Change × (blob_edits.Change × lease_edits.Change))). both
      (timer_edits.planned parts.timers c.0) (planned_queues c.1))
      (both_planned of_timers (both_planned of_queues (both_planned of_blobs of_leases)))
  whole = both_plan _ _ (timer_edits.planned parts.timers) planned_queues
      of_timers (both_planned of_queues (both_planned of_blobs of_leases))
      (λ c. timers_accepted parts.timers c.act c.done)
      (λ c. accepted_both (queue_edits.planned parts.queues c.0) (planned_blobs c.1)
      (queues_accepted parts.queues c.0.acts c.0.done) (blobs_fit c.1))
      (timers_plan parts.timers (timers.outcome parts.timers (asked_timers parts asks) m) of_timers timed) middle

  pub fault_of_all : (fault : PlanFault) → both_planned of_timers
      (both_planned of_queues (both_planned of_blobs of_leases)) ≡ Err fault
      → IsPlanOf parts (outcomes parts asks m) (Err fault)
  unfolding outcomes
  fault_of_all (OfRule rule) is =
      ap of_all (ap (λ others. led_by (work.outcome parts.work (others_of parts) asks.work m) others)
      (subst (Plans _ _) is whole)
      ∙ ap (λ judged. led_by judged (Refuses rule)) led
      ∙ led_refused (work_edits.planned parts.work of_work) rule (work_accepted parts.work of_work))
  fault_of_all NoMemory is = tt

  -- and plans of all are the plan of the outcome
  pub plan_of_all : (c : timer_edits.Change × (queue_edits.Change × (blob_edits.Change × lease_edits.Change)))
      → both_planned of_timers (both_planned of_queues (both_planned of_blobs of_leases)) ≡ Ok c
      → outcomes parts asks m ≡ joined (work_edits.planned parts.work of_work) (timer_edits.planned parts.timers c.0)
      (queue_edits.planned parts.queues c.1.0) (blob_edits.planned parts.blobs c.1.1.0)
      (lease_edits.planned parts.leases c.1.1.1)
  unfolding outcomes
  plan_of_all c is =
      ap of_all (ap (λ others. led_by (work.outcome parts.work (others_of parts) asks.work m) others)
      (subst (Plans _ _) is whole)
      ∙ ap (λ judged. led_by judged (both (timer_edits.planned parts.timers c.0) (planned_queues c.1))) led)

-- ---- changes

-- two stores that change together each change so
pub record MakesBoth {Part Other Done More : Type 0} (judged : Judged Part Done) (others : Judged Other More)
    (made : Part × Other) (done : Done × More) : Type 0 where
  pub first : judged ≡ Makes made.0 done.0
  pub second : others ≡ Makes made.1 done.1

both_make : {Part Other Done More : Type 0} (judged : Judged Part Done) (others : Judged Other More)
    (made : Part × Other) (done : Done × More)
    → both judged others ≡ Makes made done → MakesBoth judged others made done
both_make (Refuses rule) (Refuses other) made done is = absurd (cc)
both_make (Refuses rule) (Quiets more) made done is = absurd (cc)
both_make (Refuses rule) (Makes other more) made done is = absurd (cc)
both_make (Quiets answer) (Refuses other) made done is = absurd (cc)
both_make (Quiets answer) (Quiets more) made done is = absurd (cc)
both_make (Quiets answer) (Makes other more) made done is = absurd (cc)
both_make (Makes part answer) (Refuses other) made done is = absurd (cc)
both_make (Makes part answer) (Quiets more) made done is = absurd (cc)
both_make {Part} {Other} {Done} {More} (Makes part answer) (Makes other more) made done is =
    let parts : (part, other) ≡ made = cc in
    let answers : (answer, more) ≡ done = cc in
    let part_is : part ≡ made.0 = ap (λ (p : Part × Other). p.0) parts in
    let other_is : other ≡ made.1 = ap (λ (p : Part × Other). p.1) parts in
    let answer_is : answer ≡ done.0 = ap (λ (d : Done × More). d.0) answers in
    let more_is : more ≡ done.1 = ap (λ (d : Done × More). d.1) answers in
    record { first = cc; second = cc }

led_make : {Part Other Done More : Type 0} (judged : Judged Part Done) (others : Judged Other More)
    (made : Part × Other) (done : Done × More)
    → led_by judged others ≡ Makes made done → MakesBoth judged others made done
led_make (Refuses rule) others made done is = absurd (cc)
led_make (Quiets answer) others made done is = both_make (Quiets answer) others made done is
led_make (Makes part answer) others made done is = both_make (Makes part answer) others made done is

-- what all stores made, as each made it
pub record MakesAll (of_work : Judged WorkPart WorkDone) (of_timers : Judged TimerPart TimerDone)
    (of_queues : Judged QueuePart QueueDone) (of_blobs : Judged BlobPart BlobDone)
    (of_leases : Judged LeasePart LeaseDone) (after : Parts) (done : Done) : Type 0 where
  pub work : of_work ≡ Makes after.work done.work
  pub timers : of_timers ≡ Makes after.timers done.timers
  pub queues : of_queues ≡ Makes after.queues done.queues
  pub blobs : of_blobs ≡ Makes after.blobs done.blobs
  pub leases : of_leases ≡ Makes after.leases done.leases

abbrev parts_in : Parts → AllParts
parts_in p = (p.work, (p.timers, (p.queues, (p.blobs, p.leases))))

abbrev done_in : Done → AllDone
done_in d = (d.work, (d.timers, (d.queues, (d.blobs, d.leases))))

of_all_makes : (judged : Judged AllParts AllDone) (after : Parts) (done : Done) → of_all judged ≡ Makes after done
    → judged ≡ Makes (parts_in after) (done_in done)
of_all_makes (Refuses rule) after done is = absurd (cc)
of_all_makes (Quiets answer) after done is = absurd (cc)
of_all_makes (Makes made answer) after done is =
    let parts : parts_with made ≡ after = cc in
    let answers : done_with answer ≡ done = cc in
    let made_is : made ≡ parts_in after = ap parts_in parts in
    let answer_is : answer ≡ done_in done = ap done_in answers in
    cc

joined_make : (of_work : Judged WorkPart WorkDone) (of_timers : Judged TimerPart TimerDone)
    (of_queues : Judged QueuePart QueueDone) (of_blobs : Judged BlobPart BlobDone)
    (of_leases : Judged LeasePart LeaseDone) (after : Parts) (done : Done)
    → joined of_work of_timers of_queues of_blobs of_leases ≡ Makes after done
    → MakesAll of_work of_timers of_queues of_blobs of_leases after done
joined_make of_work of_timers of_queues of_blobs of_leases after done is =
    let whole = of_all_makes (led_by of_work (both of_timers (both of_queues (both of_blobs of_leases))))
    after done is in
    let led = led_make of_work (both of_timers (both of_queues (both of_blobs of_leases))) (parts_in after)
    (done_in done) whole in
    let timed = both_make of_timers (both of_queues (both of_blobs of_leases)) (parts_in after).1
    (done_in done).1 led.second in
    let queued = both_make of_queues (both of_blobs of_leases) (parts_in after).1.1 (done_in done).1.1 timed.second in
    let stored = both_make of_blobs of_leases (parts_in after).1.1.1 (done_in done).1.1.1 queued.second in
    record {
      work = led.first;
      timers = timed.first;
      queues = queued.first;
      blobs = stored.first;
      leases =
          stored.second;
    }

-- what all stores made of a command's asks
abbrev pub MadeOf : Parts → Asks → ℕ → Parts → Done → Type 0
MadeOf parts asks m after done =
    MakesAll (work.outcome parts.work (others_of parts) asks.work m)
    (timers.outcome parts.timers (asked_timers parts asks) m)
    (queues.outcome parts.queues (asked_queues parts asks m) m)
    (blobs.outcome parts.blobs (asked_blobs parts asks m) m)
    (leases.outcome parts.leases (asked_leases parts asks m) m) after done

pub all_make : (parts : Parts) (asks : Asks) (m : ℕ) (after : Parts) (done : Done)
    → outcomes parts asks m ≡ Makes after done → MadeOf parts asks m after done
unfolding outcomes
all_make parts asks m after done is =
    joined_make (work.outcome parts.work (others_of parts) asks.work m)
    (timers.outcome parts.timers (asked_timers parts asks) m)
    (queues.outcome parts.queues (asked_queues parts asks m) m) (blobs.outcome parts.blobs (asked_blobs parts asks m) m)
    (leases.outcome parts.leases (asked_leases parts asks m) m) after done is

pub is_outcome_of_queues : (parts after : Parts) (done : Done) → IsOutcome parts after done
    → queue_edits.IsOutcome parts.queues (after.queues, done.queues)
is_outcome_of_queues parts after done is =
    record {
      ask = asked_queues parts is.asks is.moment;
      moment = is.moment;
      is =
          (all_make parts is.asks is.moment after done is.is).queues;
    }
