-- What a crash leaves of a run's journal, and what its bytes stand for.
use Rattle.std.proofs.Common.{◌≡◌, ◌⊎◌, inl, inr, ⊎_elim, ℕ, ◌≤◌, false, List, [], ◌++◌, Some, IfSome, refl, sym, subst, append_assoc, append-nil, arith}
use Rattle.std.proofs.lemmas.Option.{IfSome_then}
use Rattle.fh_disk.specs.Moments.{LeavesOnly}
use Rattle.fh_disk.specs.declared.disk.Disk.{Ghosts}
use Rattle.fh_journal.specs.Journal.{IsJournalOf}
use Rattle.fh_disk.specs.Disk.{Each, StaysTold}
use Rattle.fh_hub.specs.Hub.{KeepsIn, LeavesSince, MayStandFor, StandsForHistory}
use Rattle.fh_hub.specs.declared.hub.Hub.{Hub}
use Rattle.fh_hub.specs.History.{entry_of}
use Rattle.fh_hub.specs.Replay.{Entry}
use Rattle.fh_script.specs.Answerer.{HoldsIn, StandsEither}
use Rattle.fh_script.specs.Outside.{crash_of}
use Rattle.fh_script.specs.Script.{StandsForPart, SurvivesCrash}

module _ {D : Type 0} {J : Ghosts D} {hub : Hub D J} (holds : HoldsIn hub) where
  pub stands : IfSome (J.told hub.journal.disk.now) (StandsForHistory hub.state.history)
  stands = IfSome_then (J.told hub.journal.disk.now) holds.keeps (λ file each. inr (hub.journal.gate, each.as_read))

  -- what the file stands for, each image stands for too, since a file is a journal of one list of payloads
  pub survives : ((file : List ℕ) (payloads others : List (List ℕ)) → IsJournalOf file payloads
      → IsJournalOf file others → payloads ≡ others)
      → SurvivesCrash (J.told hub.journal.disk.now) (J.may_leave hub.journal.disk.now)
  survives once = IfSome_then (J.told hub.journal.disk.now) holds.keeps (λ file each other c stands left.
      subst (IsJournalOf c) (once file _ _ (inr (hub.journal.gate, each.as_read)) stands)
      (inr (hub.journal.gate, each.after_crash c left)))

  -- whatever entry may have failed, since none did
  pub kept : (e : Entry) → KeepsIn hub e
  kept e = rw holds.whole holds.keeps

  -- a line that makes no call
  pub leaves_as_was : ((disk : D) (c : List ℕ) → J.left_since disk (J.moment disk) c → J.may_leave disk c)
      → (entries : List Entry) → LeavesSince hub hub (StandsEither hub.state.history entries)
  leaves_as_was only_now entries = grind (arith, holds.keeps)

module _ {D : Type 0} {J : Ghosts D} {old : Hub D J} (holds : HoldsIn old) (new : Hub D J) where
  -- behind a step that went well
  pub held : (e : Entry) → new.journal.torn ≡ false
      → ((failed : Entry) → KeepsIn old failed → KeepsIn new failed ⊎ KeepsIn new e) → HoldsIn new
  held e whole keeps = record {
    whole = whole;
    keeps = rw whole at (⊎_elim (λ was. was) (λ now. now) (keeps e (kept holds e)));
  }

  -- during a step
  pub leaves_either : (entries : List Entry)
      → ((failed : Entry) → KeepsIn old failed
      → LeavesSince old new (MayStandFor old.journal.torn old.state.history failed entries))
      → LeavesSince old new (StandsEither old.state.history entries)
  leaves_either entries leaves =
      IfSome_then (J.told old.journal.disk.now) (leaves (entry_of []) (kept holds (entry_of []))) (λ file only.
      grind (arith, only, holds.whole))

part_of_either : (opening behind entries : List Entry) (c : List ℕ) → StandsEither (opening ++ behind) entries c
    → StandsForPart opening (behind ++ entries) c
part_of_either opening behind entries c (inl before) =
    record { front = behind; rest = entries; whole = refl; stands = before }
part_of_either opening behind entries c (inr after) = record {
  front = behind ++ entries;
  rest = [];
  whole = sym (append-nil (behind ++ entries));
  stands = rw append_assoc at after;
}

part_of_none : (opening : List Entry) (c : List ℕ) → StandsForHistory opening c → StandsForPart opening [] c
part_of_none opening c stands = record { front = []; rest = []; whole = refl; stands = rw append-nil stands }

part_grows : (opening behind entries : List Entry) (c : List ℕ) → StandsForPart opening behind c
    → StandsForPart opening (behind ++ entries) c
part_grows opening behind entries c it = record {
  front = it.front;
  rest = it.rest ++ entries;
  whole = rw it.whole (append_assoc it.front it.rest entries);
  stands = it.stands;
}

module _ {D : Type 0} (J : Ghosts D) where
  abbrev Leaves : D → D → (List ℕ → Type 0) → Type 0
  Leaves old new P = IfSome (J.told old) (λ _. LeavesOnly J.moment J.left_since old new P)

  -- what is told is one of the images, and each of these is left since then
  pub told_is_left : (old new : D) (P : List ℕ → Type 0)
      → ((disk : D) (c : List ℕ) → J.told disk ≡ Some c → J.may_leave disk c)
      → ((disk : D) (t : ℕ) (c : List ℕ) → t ≤ J.moment disk → J.may_leave disk c → J.left_since disk t c)
      → StaysTold (J.told old) (J.told new) → Leaves old new P
      → IfSome (J.told new) (λ file. Each file (J.may_leave new) P)
  told_is_left old new P reads counts stays leaves = grind arith

  -- calls that go on
  grows : (first mid new : D) (P Q R : List ℕ → Type 0) → StaysTold (J.told first) (J.told mid) → crash_of J first mid P
      → Leaves mid new Q → ((c : List ℕ) → P c → R c) → ((c : List ℕ) → Q c → R c) → crash_of J first new R
  grows first mid new P Q R stays before line p q = grind arith

  -- one line more
  pub more_images : (first mid new : D) (opening behind entries : List Entry) → StaysTold (J.told first) (J.told mid)
      → crash_of J first mid (StandsForPart opening behind) → Leaves mid new (StandsEither (opening ++ behind) entries)
      → crash_of J first new (StandsForPart opening (behind ++ entries))
  more_images first mid new opening behind entries stays before line =
      grows first mid new _ _ _ stays before line (part_grows opening behind entries)
      (part_of_either opening behind entries)

  -- behind a mount
  pub mounted_images : (first mid : D) (opening : List Entry) → crash_of J first mid (StandsForHistory opening)
      → crash_of J first mid (StandsForPart opening [])
  mounted_images first mid opening leaves = grind (arith, part_of_none)
