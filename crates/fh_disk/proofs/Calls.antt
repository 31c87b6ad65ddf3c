-- What one call more changes of a disk that keeps a record of its calls, or none.
use Rattle.std.proofs.Common.{◌≡◌, ◌⊎◌, inl, inr, ℕ, ◌+◌, ◌<◌, ◌≤◌, List, [], ◌∷◌, ◌++◌, length, Option, Some, None, Result, Ok, Err, OnOk, OnErr, refl, sym, ◌∙◌, ap, subst, arith, length-append}
use Rattle.std.specs.Option.{option_map}
use Rattle.std.proofs.lemmas.List.{take_all, take-append-le}
use Rattle.std.proofs.lemmas.Bool.{cases_lt}
use Rattle.fh_disk.specs.Disk.{written_at, Torn, TornTold, Follows, NoNewImage, OnlyTold}
use Rattle.fh_disk.specs.Moments.{Elapses}
use Rattle.fh_disk.specs.declared.record.Call.{Call}
use Rattle.fh_disk.specs.declared.record.Call.TheVariants.{Write, Sync}
use Rattle.fh_disk.specs.Recorded.{Recorded, added, replayed, Leaves, LeavesAfter, told_by, left_by, moment_of, left_since_by}
use Rattle.fh_disk.specs.RecordedLaws.{leaves_replayed, some_same}
use Rattle.fh_disk.specs.Torn.{torn_same}
use Rattle.fh_disk.specs.Written.{Gives}

pub replayed-push : (file : List ℕ) (calls : List Call) (call : Call)
    → replayed file (calls ++ call ∷ []) ≡ replayed (replayed file calls) (call ∷ [])
replayed-push file [] call = refl
replayed-push file (Write at bytes ∷ later) call = replayed-push (written_at at bytes file) later call
replayed-push file (Sync ∷ later) call = replayed-push file later call

-- each image after a write is an earlier one, torn by it
pub leaves_write : (file : List ℕ) (images : List ℕ → Type 0) (calls : List Call) (at : ℕ) (bytes c : List ℕ)
    → Leaves file images (calls ++ Write at bytes ∷ []) c
    → (d : List ℕ) × Leaves file images calls d × Torn at (length bytes) d c
leaves_write file images [] at bytes c left = left
leaves_write file images (Write place piece ∷ later) at bytes c left =
    leaves_write (written_at place piece file) (λ new. (old : List ℕ) × images old × Torn place (length piece) old new)
    later at bytes c left
leaves_write file images (Sync ∷ later) at bytes c left = leaves_write file (λ new. new ≡ file) later at bytes c left

-- and the other way
pub torn_leaves : (file : List ℕ) (images : List ℕ → Type 0) (calls : List Call) (at : ℕ) (bytes d c : List ℕ)
    → Leaves file images calls d → Torn at (length bytes) d c → Leaves file images (calls ++ Write at bytes ∷ []) c
torn_leaves file images [] at bytes d c left torn = (d, left, torn)
torn_leaves file images (Write place piece ∷ later) at bytes d c left torn =
    torn_leaves (written_at place piece file) (λ new. (old : List ℕ) × images old × Torn place (length piece) old new)
    later at bytes d c left torn
torn_leaves file images (Sync ∷ later) at bytes d c left torn =
    torn_leaves file (λ new. new ≡ file) later at bytes d c left torn

-- after a sync the image is what reads give
pub leaves_sync : (file : List ℕ) (images : List ℕ → Type 0) (calls : List Call) (c : List ℕ)
    → Leaves file images (calls ++ Sync ∷ []) c → c ≡ replayed file calls
leaves_sync file images [] c left = left
leaves_sync file images (Write place piece ∷ later) c left =
    leaves_sync (written_at place piece file) (λ new. (old : List ℕ) × images old × Torn place (length piece) old new)
    later c left
leaves_sync file images (Sync ∷ later) c left = leaves_sync file (λ new. new ≡ file) later c left

-- and the other way
pub sync_leaves : (file : List ℕ) (images : List ℕ → Type 0) (calls : List Call) (c : List ℕ)
    → c ≡ replayed file calls → Leaves file images (calls ++ Sync ∷ []) c
sync_leaves file images [] c is = is
sync_leaves file images (Write place piece ∷ later) c is =
    sync_leaves (written_at place piece file) (λ new. (old : List ℕ) × images old × Torn place (length piece) old new)
    later c is
sync_leaves file images (Sync ∷ later) c is = sync_leaves file (λ new. new ≡ file) later c is

-- the images now, without the count of calls
abbrev pub Now : Recorded → List Call → List ℕ → Type 0
Now r calls c = Leaves r.first (λ new. new ≡ r.first) calls c

pub all_calls : (r : Recorded) (c : List ℕ) → LeavesAfter r (length r.calls) c → Now r r.calls c
all_calls r c left = subst (λ (calls : List Call). Now r calls c) (take_all (length r.calls) r.calls (omega arith)) left

pub calls_all : (r : Recorded) (c : List ℕ) → Now r r.calls c → LeavesAfter r (length r.calls) c
calls_all r c left = subst (λ (calls : List Call). Now r calls c)
    (sym (take_all (length r.calls) r.calls (omega arith))) left

-- what was left before a call more, and after it
pub earlier_calls : (r : Recorded) (call : Call) (k : ℕ) (c : List ℕ) → k ≤ length r.calls
    → LeavesAfter (added call r) k c → LeavesAfter r k c
earlier_calls r call k c le left = subst (λ (calls : List Call). Now r calls c)
    (take-append-le k r.calls (call ∷ []) le) left

pub later_calls : (r : Recorded) (call : Call) (k : ℕ) (c : List ℕ) → k ≤ length r.calls → LeavesAfter r k c
    → LeavesAfter (added call r) k c
later_calls r call k c le left = subst (λ (calls : List Call). Now r calls c)
    (sym (take-append-le k r.calls (call ∷ []) le)) left

-- a call that leaves the record as it was
pub time_stays : (r : Option Recorded) → Elapses (moment_of r) (moment_of r) (left_since_by r) (left_since_by r)
    (left_by r)
time_stays r = record { later = omega arith; nothing_else = λ t c le left. inl left; keeps = λ t c le left. left }

length-added : (r : Recorded) (call : Call) → length (r.calls ++ call ∷ []) ≡ length r.calls + 1
length-added r call = omega (arith, length-append r.calls (call ∷ []))

-- a call that is added to it
pub time_goes : (r : Option Recorded) (call : Call)
    → Elapses (moment_of r) (moment_of (option_map (added call) r)) (left_since_by r)
    (left_since_by (option_map (added call) r)) (left_by (option_map (added call) r))
time_goes None call = record {
  later = omega arith;
  nothing_else = λ t c le left. inl left;
  keeps =
      λ t c le left. left;
}
time_goes (Some r) call = record {
  later = omega (arith, length-added r call);
  nothing_else = λ t c le left. was_or_is t c left (cases_lt (length r.calls) left.0);
  keeps = λ t c le left. (
    left.0,
    left.1,
    omega (arith, left.2, length-added r call),
    later_calls r call left.0 c left.2 left.3,
  );
}
  where
    was_or_is : (t : ℕ) (c : List ℕ) (left : left_since_by (Some (added call r)) t c)
        → (length r.calls < left.0) ⊎ (left.0 ≤ length r.calls)
        → left_since_by (Some r) t c ⊎ left_by (Some (added call r)) c
    was_or_is t c left (inr before) = inl (left.0, left.1, before, earlier_calls r call left.0 c before left.3)
    was_or_is t c left (inl after) =
        let now : left.0 ≡ length (r.calls ++ call ∷ []) = omega (arith, left.2, length-added r call) in
        inr (subst (λ (k : ℕ). LeavesAfter (added call r) k c) now left.3)

-- a write
pub told_written : (r : Option Recorded) (at : ℕ) (bytes : List ℕ)
    → told_by (option_map (added (Write at bytes)) r) ≡ option_map (written_at at bytes) (told_by r)
told_written None at bytes = refl
told_written (Some r) at bytes = ap (λ (file : List ℕ). Some file) (replayed-push r.first r.calls (Write at bytes))

pub images_torn : (r : Option Recorded) (at : ℕ) (bytes : List ℕ)
    → Follows (Torn at (length bytes)) (left_by r) (left_by (option_map (added (Write at bytes)) r))
images_torn None at bytes c left = (c, tt, torn_same at (length bytes) c)
images_torn (Some r) at bytes c left =
    let from = leaves_write r.first (λ new. new ≡ r.first) r.calls at bytes c
    (all_calls (added (Write at bytes) r) c left) in
    (from.0, calls_all r from.0 from.1, from.2)

-- a write that fails
pub images_stay_torn : (r : Option Recorded) (at n : ℕ) → Follows (Torn at n) (left_by r) (left_by r)
images_stay_torn r at n c left = (c, left, torn_same at n c)

pub told_stays_torn : (r : Option Recorded) (at n : ℕ) → TornTold at n (told_by r) (told_by r)
told_stays_torn None at n = refl
told_stays_torn (Some r) at n = torn_same at n (replayed r.first r.calls)

-- a sync
pub told_synced : (r : Option Recorded) → told_by (option_map (added Sync) r) ≡ told_by r
told_synced None = refl
told_synced (Some r) = ap (λ (file : List ℕ). Some file) (replayed-push r.first r.calls Sync)

pub only_synced : (r : Option Recorded) → OnlyTold (told_by (option_map (added Sync) r))
    (left_by (option_map (added Sync) r))
only_synced None = tt
only_synced (Some r) = λ c left.
    leaves_sync r.first (λ new. new ≡ r.first) r.calls c (all_calls (added Sync r) c left)
    ∙ sym (replayed-push r.first r.calls Sync)

pub no_new_image : (r : Option Recorded) → NoNewImage (left_by r) (left_by (option_map (added Sync) r))
no_new_image None c left = tt
no_new_image (Some r) c left =
    let is = leaves_sync r.first (λ new. new ≡ r.first) r.calls c (all_calls (added Sync r) c left) in
    calls_all r c (subst (Now r r.calls) (sym is) (leaves_replayed r.first (λ new. new ≡ r.first) r.calls refl))

-- the record goes on giving the bytes
pub gives_written : (r : Option Recorded) (at : ℕ) (bytes file : List ℕ) → Gives r file
    → Gives (option_map (added (Write at bytes)) r) (written_at at bytes file)
gives_written None at bytes file gives = refl
gives_written (Some r) at bytes file gives =
    ap (λ (l : List ℕ). Some l) (replayed-push r.first r.calls (Write at bytes)
    ∙ ap (written_at at bytes) (some_same (replayed r.first r.calls) file gives))

pub gives_synced : (r : Option Recorded) (file : List ℕ) → Gives r file → Gives (option_map (added Sync) r) file
gives_synced None file gives = refl
gives_synced (Some r) file gives = ap (λ (l : List ℕ). Some l) (replayed-push r.first r.calls Sync) ∙ gives

-- and so it does whether memory was refused or not
pub gives_after_write : {T E : Type 0} (result : Result T E) (old new : Option Recorded) (at : ℕ)
    (bytes file after : List ℕ)
    → OnOk result (new ≡ option_map (added (Write at bytes)) old) → OnOk result (after ≡ written_at at bytes file)
    → OnErr result (new ≡ old) → OnErr result (after ≡ file)
    → Gives old file → Gives new after
gives_after_write (Ok x) old new at bytes file after noted written same_past same_file gives =
    rw (noted, written) (gives_written old at bytes file gives)
gives_after_write (Err e) old new at bytes file after noted written same_past same_file gives =
    rw (same_past, same_file) gives

pub gives_after_sync : {T E : Type 0} (result : Result T E) (old new : Option Recorded) (file : List ℕ)
    → OnOk result (new ≡ option_map (added Sync) old) → OnErr result (new ≡ old) → Gives old file → Gives new file
gives_after_sync (Ok x) old new file noted same gives = rw noted (gives_synced old file gives)
gives_after_sync (Err e) old new file noted same gives = rw same gives

-- an image before a call leads to those after it
pub image_goes_on : (file : List ℕ) (images : List ℕ → Type 0) (calls : List Call) (call : Call) (d c : List ℕ)
    → Leaves file images calls d → Leaves (replayed file calls) (λ new. new ≡ d) (call ∷ []) c
    → Leaves file images (calls ++ call ∷ []) c
image_goes_on file images calls (Write at bytes) d c left step =
    torn_leaves file images calls at bytes d c left
    (subst (λ (old : List ℕ). Torn at (length bytes) old c) step.1 step.2)
image_goes_on file images calls Sync d c left step = sync_leaves file images calls c step
