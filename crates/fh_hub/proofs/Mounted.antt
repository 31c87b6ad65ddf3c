-- Why a journal isn't mounted.
use Rattle.std.proofs.Common.{◌≡◌, ◌⊎◌, inl, inr, ℕ, ◌<◌, ◌≤◌, Bool, true, false, List, [], ◌∷◌, ◌++◌, length, Option, Some, None, Ok, Err, refl, sym, ap, ◌∙◌, subst, arith, length-append}
use Rattle.std.specs.Prelude.{nat_le, if◌then◌else◌, Result, IfErr, IfSome}
use Rattle.std.proofs.lemmas.Bool.Decides.{nat_tests}
use Rattle.fh_disk.specs.Moments.{LeavesOnly}
use Rattle.fh_disk.specs.declared.disk.Disk.{Ghosts}
use Rattle.fh_event.specs.Entries.{IsEntry}
use Rattle.fh_event.proofs.EntryLaws.{read_again}
use Rattle.fh_journal.specs.Frames.{payloads_of as payloads_in, frames_from}
use Rattle.fh_journal.specs.Journal.{opened, gate_behind, Stands}
use Rattle.fh_journal.specs.Keeping.{Keeps}
use Rattle.fh_journal.specs.Mounting.{IsBeingMade, MountsTold, mounted_file, fresh_file}
use Rattle.fh_journal.specs.declared.frames.Frame.{Frame}
use Rattle.fh_journal.specs.declared.mounting.Prepared.{Prepared}
use Rattle.fh_journal.specs.declared.faults.MountFault.{MountFault}
use Rattle.fh_journal.specs.declared.faults.MountFault.TheVariants as frames
use Rattle.fh_journal.proofs.Making.{short_journal}
use Rattle.fh_journal.proofs.Readings.{stands_once, broken_journal, foreign_journal}
use Rattle.fh_hub.proofs.Histories.{broken_history}
use Rattle.fh_hub.specs.World.{World}
use Rattle.fh_hub.specs.Replay.{Entry, payloads_of, replay, IsLegal, IsNext}
use Rattle.fh_hub.specs.State.{HubState, world_of}
use Rattle.fh_hub.specs.Hub.{KeepsHistory, NewImagesHave, StandsForHistory}
use Rattle.fh_hub.specs.Mounting.{HasEntryReason, HasPlanReason, HasReplayReason, IsRefusedAt, BreaksEntryAt, MountsHistory, MountsBytes, fault_of_entry, fault_of_mount}
use Rattle.fh_hub.specs.declared.faults.HubFault.{HubFault}
use Rattle.fh_hub.specs.declared.faults.HubFault.TheVariants.{BadHeader, BadFrame, DiskFault, NoMemory}
use Rattle.fh_hub.specs.declared.faults.HubRule.{HubRule}
use Rattle.fh_hub.specs.declared.faults.HubRule.TheVariants.{Frame as OfFrame, Event, Refused}
use Rattle.fh_hub.specs.declared.faults.EntryFault.{EntryFault}
use Rattle.fh_hub.specs.declared.faults.EntryFault.TheVariants as entries

-- an entry that the machine doesn't record
entry_refused : (s : HubState) (payload : List ℕ) (e : Entry) (fault : EntryFault) → world_of s ≡ replay s.history
    → IsEntry payload e.moment e.command → HasPlanReason (world_of s) e fault → HasEntryReason s.history payload fault
entry_refused s payload e (entries.Event fault) world is reason = absurd reason
entry_refused s payload e entries.Refused world is reason = record {
  entry = e;
  read = read_again payload e.moment e.command is;
  refused = λ next. reason (subst (λ (w : World). IsNext w e) (sym world) next);
}
entry_refused s payload e entries.NoMemory world is reason = tt

pub refused_entry : {T : Type 0} (s : HubState) (payload : List ℕ) (e : Entry) (r : Result T EntryFault)
    → world_of s ≡ replay s.history → IsEntry payload e.moment e.command → IfErr r (HasPlanReason (world_of s) e)
    → IfErr r (HasEntryReason s.history payload)
refused_entry s payload e (Ok x) world is reason = tt
refused_entry s payload e (Err fault) world is reason = entry_refused s payload e fault world is reason

-- the frames that are left, of which the first has its gate at this place and each next one follows
pub rest_follow : (at : ℕ) (f : Frame) (rest : List Frame) → f ∷ rest ≡ frames_from at (payloads_in (f ∷ rest))
    → (f.at ≡ at) × (rest ≡ frames_from (gate_behind at (length f.payload)) (payloads_in rest))
rest_follow at f rest follow =
    let is : f ≡ record { at = at; payload = f.payload } = cc in
    let others : rest ≡ frames_from (gate_behind at (length f.payload)) (payloads_in rest) = cc in
    (ap (λ (g : Frame). g.at) is, others)

-- a frame whose entry isn't replayed behind a history
pub frame_refused : (payloads : List (List ℕ)) (f : Frame) (rest : List Frame) (history : List Entry)
    (fault : EntryFault)
    → payloads_of history ++ payloads_in (f ∷ rest) ≡ payloads → f.at ≡ length (opened (payloads_of history))
    → IsLegal history
    → HasEntryReason history f.payload fault → HasReplayReason payloads (fault_of_entry f.at fault)
frame_refused payloads f rest history (entries.Event fault) whole place legal reason = record {
  history = history;
  legal = legal;
  payload = f.payload;
  more = payloads_in rest;
  whole = sym whole;
  place = place;
  refused = reason;
}
frame_refused payloads f rest history entries.Refused whole place legal reason = record {
  history = history;
  legal = legal;
  payload = f.payload;
  more = payloads_in rest;
  whole = sym whole;
  place = place;
  refused = reason;
}
frame_refused payloads f rest history entries.NoMemory whole place legal reason = tt

-- a file whose frames are whole, and of which an entry isn't replayed
broken : (was now : List ℕ) (payloads : List (List ℕ)) (gate : ℕ) (fault : HubFault) → Stands now payloads gate
    → now ≡ mounted_file was → HasReplayReason payloads fault → MountsBytes was now (Some fault)
broken was now payloads gate fault stands is reason = by_length (nat_le (length was) 7) refl
  where
    no_frames : Stands fresh_file [] 6
    no_frames = record {
      closed = 0;
      rest = [];
      shut = λ none. omega (arith, none);
      place = refl;
      whole = refl;
      short =
          λ k d within. absurd (omega (arith, within));
    }

    refused_none : (at : ℕ) (rule : _) → payloads ≡ [] → IsRefusedAt payloads at rule → ⊥
    refused_none at rule none refused =
        let sized = ap length (sym none ∙ refused.whole) in
        omega (arith, sized, length-append (payloads_of refused.history) (refused.payload ∷ refused.more))

    on_short : (f : HubFault) → length was ≤ 7 → length now ≤ 7 → payloads ≡ [] → HasReplayReason payloads f
        → MountsBytes was now (Some f)
    on_short BadHeader short small none r = absurd r
    on_short (BadFrame at rule) short small none r = absurd (refused_none at rule none r)
    on_short DiskFault short small none r = absurd r
    on_short NoMemory short small none r = inr (short, small)

    broken_at : (at : ℕ) (rule : HubRule) → now ≡ was → IsRefusedAt payloads at rule → BreaksEntryAt was at rule
    broken_at at rule same r = record {
      payloads = payloads;
      gate = gate;
      stands =
          subst (λ (file : List ℕ). Stands file payloads gate) same stands;
      refused = r;
    }

    on_long : (f : HubFault) → 7 < length was → now ≡ was → HasReplayReason payloads f → MountsBytes was now (Some f)
    on_long BadHeader long same r = absurd r
    on_long (BadFrame at (OfFrame rule)) long same r = absurd r.refused
    on_long (BadFrame at (Event e)) long same r =
        let breaks = broken_at at (Event e) same r in
        (same, breaks, λ history. broken_history was at (Event e) history long breaks)
    on_long (BadFrame at Refused) long same r =
        let breaks = broken_at at Refused same r in
        (same, breaks, λ history. broken_history was at Refused history long breaks)
    on_long DiskFault long same r = absurd r
    on_long NoMemory long same r = inl same

    by_length : (short : Bool) → nat_le (length was) 7 ≡ short → MountsBytes was now (Some fault)
    by_length true test =
        let fresh : now ≡ fresh_file = is ∙ ap (λ (b : Bool). if b then fresh_file else was) test in
        let none : payloads ≡ [] = (stands_once now payloads [] gate 6 stands
        (subst (λ (file : List ℕ). Stands file [] 6) (sym fresh) no_frames)).0 in
        on_short fault (grind (arith, nat_tests, test)) (omega (arith, ap length fresh)) none reason
    by_length false test =
        let same : now ≡ was = is ∙ ap (λ (b : Bool). if b then fresh_file else was) test in
        on_long fault (grind (arith, nat_tests, test)) same reason

mount_refused : (was now : Option (List ℕ)) (images : List ℕ → Type 0) (made : Prepared) (fault : HubFault)
    → Keeps now images false (payloads_in made.frames) [] made.gate → MountsTold was now (Ok made)
    → HasReplayReason (payloads_in made.frames) fault → MountsHistory was now (Some fault)
mount_refused None now images made fault keeps mounts reason = mounts
mount_refused (Some was) None images made fault keeps mounts reason = absurd mounts
mount_refused (Some was) (Some now) images made fault keeps mounts reason =
    broken was now (payloads_in made.frames) made.gate fault keeps.as_read mounts reason

pub refused_mount : {T : Type 0} (was now : Option (List ℕ)) (images : List ℕ → Type 0) (made : Prepared)
    (r : Result T HubFault) → Keeps now images false (payloads_in made.frames) [] made.gate
    → MountsTold was now (Ok made) → IfErr r (HasReplayReason (payloads_in made.frames))
    → IfErr r (λ fault. MountsHistory was now (Some fault))
refused_mount was now images made (Ok x) keeps mounts reason = tt
refused_mount was now images made (Err fault) keeps mounts reason =
    mount_refused was now images made fault keeps mounts reason

-- a file with a broken frame or another header stands for nothing
pub frames_refused : (was now : Option (List ℕ)) (fault : MountFault) → MountsTold was now (Err fault)
    → MountsHistory was now (Some (fault_of_mount fault))
frames_refused None now fault mounts = mounts
frames_refused (Some was) None fault mounts = absurd mounts
frames_refused (Some was) (Some now) frames.BadHeader mounts =
    (mounts.0, mounts.1, λ history legal. foreign_journal was (payloads_of history) mounts.1)
frames_refused (Some was) (Some now) (frames.BadFrame at rule) mounts =
    (mounts.0, mounts.2, λ history legal. broken_journal was at rule (payloads_of history) mounts.1 mounts.2)
frames_refused (Some was) (Some now) frames.DiskFault mounts = mounts
frames_refused (Some was) (Some now) frames.NoMemory mounts = mounts

-- what the file stands for that a mount leaves, the file before it did
pub stood_before : (was now : Option (List ℕ)) → MountsHistory was now None → (history : List Entry)
    → IfSome now (StandsForHistory history) → IfSome was (StandsForHistory history)
stood_before None now mounted history stands = tt
stood_before (Some was) None mounted history stands = absurd mounted
stood_before (Some was) (Some now) mounted history stands = by_length (nat_le (length was) 7) refl
  where
    by_length : (short : Bool) → nat_le (length was) 7 ≡ short → StandsForHistory history was
    by_length true short =
        let fresh : now ≡ fresh_file = rw short at mounted in
        inl (
          grind (arith, nat_tests),
          short_journal fresh_file (payloads_of history) (omega arith)
              (subst (λ (file : List ℕ). StandsForHistory history file) fresh stands),
        )
    by_length false long =
        let same : now ≡ was = rw long at mounted in
        subst (λ (file : List ℕ). StandsForHistory history file) same stands

-- where no frame is torn, whatever entry may have failed
pub keeps_whole : (told : Option (List ℕ)) (images : List ℕ → Type 0) (payloads : List (List ℕ)) (history : List Entry)
    (gate : ℕ)
    → payloads_of history ≡ payloads → Keeps told images false payloads [] gate → (failed : Entry)
    → KeepsHistory told images false history failed gate
keeps_whole told images payloads history gate is keeps failed = rw is keeps

-- the file before a mount stood for the history that it found
pub stood : (was now : Option (List ℕ)) (images : List ℕ → Type 0) (payloads : List (List ℕ)) (history : List Entry)
    (gate : ℕ)
    → MountsHistory was now None → payloads_of history ≡ payloads → Keeps now images false payloads [] gate
    → IfSome was (StandsForHistory history)
stood was now images payloads history gate mounted is keeps =
    stood_before was now mounted history (as_read now (rw is keeps))
  where
    as_read : (told : Option (List ℕ)) → Keeps told images false (payloads_of history) [] gate
        → IfSome told (StandsForHistory history)
    as_read None keeps = tt
    as_read (Some file) keeps = inr (gate, keeps.as_read)

module _ {D : Type 0} (J : Ghosts D) (old new : D) where
  -- what a crash leaves while a file is made
  pub made_images : IfSome (J.told old) (λ file. LeavesOnly J.moment J.left_since old new
      (λ c. J.may_leave old c ⊎ IsBeingMade file c))
      → NewImagesHave J old new (λ c. IfSome (J.told old) (λ file. IsBeingMade file c))
  made_images = of_told (J.told old)
    where
      of_told : (bytes : Option (List ℕ)) → IfSome bytes
          (λ file. LeavesOnly J.moment J.left_since old new (λ c. J.may_leave old c ⊎ IsBeingMade file c))
          → IfSome bytes (λ _. LeavesOnly J.moment J.left_since old new
          (λ c. J.may_leave old c ⊎ IfSome bytes (λ file. IsBeingMade file c)))
      of_told None leaves = tt
      of_told (Some file) leaves = leaves

  -- a file that stands for a history
  pub same_images : (history : List Entry)
      → IfSome (J.told old) (λ file. StandsForHistory history file
      → LeavesOnly J.moment J.left_since old new (λ c. J.may_leave old c ⊎ StandsForHistory history c))
      → IfSome (J.told old) (StandsForHistory history) → NewImagesHave J old new (StandsForHistory history)
  same_images history = of_told (J.told old)
    where
      of_told : (bytes : Option (List ℕ))
          → IfSome bytes (λ file. StandsForHistory history file
          → LeavesOnly J.moment J.left_since old new (λ c. J.may_leave old c ⊎ StandsForHistory history c))
          → IfSome bytes (StandsForHistory history)
          → IfSome bytes (λ _. LeavesOnly J.moment J.left_since old new
          (λ c. J.may_leave old c ⊎ StandsForHistory history c))
      of_told None leaves stood = tt
      of_told (Some file) leaves stood = leaves stood
