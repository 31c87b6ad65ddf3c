-- One step of a hub is one turn.
use Rattle.std.proofs.Common.{◌≡◌, ◌⊎◌, inl, inr, ℕ, ◌≤◌, Bool, true, false, List, [], ◌∷◌, ◌++◌, Option, Some, None}
use Rattle.std.proofs.Common.{Result, Ok, Err, OnOk, OnErr, IsErrOf, refl, sym, ◌∙◌, ap, append-nil}
use Rattle.fh_event.specs.declared.command.Command.{Command}
use Rattle.fh_event.specs.declared.faults.StepFault.{StepFault}
use Rattle.fh_event.specs.declared.faults.StepFault.TheVariants.{Rule, NoMemory, DiskFault}
use Rattle.fh_event.specs.declared.reply.Reply.{Reply}
use Rattle.fh_disk.specs.declared.disk.Disk.{Ghosts}
use Rattle.fh_hub.specs.declared.hub.Hub.{Hub}
use Rattle.fh_hub.specs.Hub.{Answers, KeepsHistory, KeepsIn, faults_of, is_recorded}
use Rattle.fh_hub.specs.World.{World, Stepped, Refused, Read, Quieted, Recorded, step, effective_moment}
use Rattle.fh_hub.specs.Replay.{Entry, noted, noted_of, world_after}
use Rattle.fh_hub.specs.State.{world_of, IsFaithful, IsUnchanged}
use Rattle.fh_hub.specs.Plans.{entry_at}
use Rattle.fh_hub.specs.Turns.{turn_of, failed_answered}
use Rattle.fh_hub.specs.Made.{IsOneOf, KeepsOneIn, Made}

quiet_world : (w : World) (s : Stepped) → is_recorded s ≡ false → world_after w s ≡ w
quiet_world w (Refused rule) quiet = refl
quiet_world w (Read reply) quiet = refl
quiet_world w (Quieted reply) quiet = refl
quiet_world w (Recorded new reply) quiet = absurd (cc)

quiet_noted : (command : Command) (m : ℕ) (s : Stepped) → is_recorded s ≡ false → noted_of command m s ≡ []
quiet_noted command m (Refused rule) quiet = refl
quiet_noted command m (Read reply) quiet = refl
quiet_noted command m (Quieted reply) quiet = refl
quiet_noted command m (Recorded new reply) quiet = absurd (cc)

in_front : (e : Entry) (front behind : List Entry) → IsOneOf e front → IsOneOf e (front ++ behind)
in_front e [] behind one = absurd one
in_front e (x ∷ front) behind (inl is) = inl is
in_front e (x ∷ front) behind (inr later) = inr (in_front e front behind later)

at_end : (e : Entry) (front : List Entry) → IsOneOf e (front ++ e ∷ [])
at_end e [] = inl refl
at_end e (x ∷ front) = inr (at_end e front)

-- a journal that is whole is so whatever is named as failed
whole_for : (told : Option (List ℕ)) (images : List ℕ → Type 0) (torn : Bool) (history : List Entry) (a b : Entry)
    (gate : ℕ) → torn ≡ false → KeepsHistory told images torn history a gate
    → KeepsHistory told images torn history b gate
whole_for told images true history a b gate whole kept = absurd (cc)
whole_for None images false history a b gate whole kept = tt
whole_for (Some file) images false history a b gate whole kept =
    record { as_read = kept.as_read; after_crash = kept.after_crash }

as_was : {D : Type 0} (told : D → Option (List ℕ)) (images : D → List ℕ → Type 0) (d was_d : D) (t was_t : Bool)
    (h was_h : List Entry) (g was_g : ℕ) (e : Entry) → d ≡ was_d → t ≡ was_t → h ≡ was_h → g ≡ was_g
    → KeepsHistory (told was_d) (images was_d) was_t was_h e was_g → KeepsHistory (told d) (images d) t h e g
as_was told images d was_d t was_t h was_h g was_g e same_d same_t same_h same_g kept =
    rw (same_d, same_t, same_h, same_g) kept

module _ {D : Type 0} {J : Ghosts D} (old new : Hub D J) where
  abbrev Untouched : Type 0
  Untouched = (new.journal.disk.now ≡ old.journal.disk.now) × (new.journal.torn ≡ old.journal.torn)

  abbrev KeepsOneMore : List Entry → Type 0
  KeepsOneMore more = (entries : List Entry) → KeepsOneIn old entries → KeepsOneIn new (entries ++ more)

  -- nothing was written, and the world stayed
  same_keeps : Untouched → new.state.history ≡ old.state.history → world_of new.state ≡ world_of old.state
      → KeepsOneMore []
  same_keeps untouched history world entries kept =
      let gate : new.state.gate ≡ old.state.gate = ap (λ (w : World). w.gate) world in
      record {
        entry = kept.entry;
        one = λ torn. in_front kept.entry entries [] (kept.one (sym untouched.1 ∙ torn));
        keeps =
            as_was J.told J.may_leave new.journal.disk.now old.journal.disk.now new.journal.torn old.journal.torn
            new.state.history old.state.history new.journal.gate old.journal.gate kept.entry untouched.0 untouched.1
            history (new.gates ∙ gate ∙ sym old.gates) kept.keeps;
      }

  module _ (x : Entry) (keeps : (e : Entry) → KeepsIn old e → KeepsIn new e ⊎ KeepsIn new x) where
    -- the entry x was appended
    whole_keeps : new.journal.torn ≡ false → KeepsOneMore []
    whole_keeps whole entries kept = by_either (keeps kept.entry kept.keeps)
      where
        by_either : KeepsIn new kept.entry ⊎ KeepsIn new x → KeepsOneIn new (entries ++ [])
        by_either (inl k) = record { entry = kept.entry; one = λ torn. absurd (cc); keeps = k }
        by_either (inr k) = record { entry = x; one = λ torn. absurd (cc); keeps = k }

    -- the disk failed at the entry x
    torn_keeps : KeepsOneMore (x ∷ [])
    torn_keeps entries kept = by_torn old.journal.torn refl
      where
        of_x : KeepsIn new x → KeepsOneIn new (entries ++ x ∷ [])
        of_x k = record { entry = x; one = λ torn. at_end x entries; keeps = k }

        by_torn : (t : Bool) → old.journal.torn ≡ t → KeepsOneIn new (entries ++ x ∷ [])
        by_torn false whole = by_either (keeps x x_kept)
          where
            x_kept : KeepsIn old x
            x_kept =
                whole_for (J.told old.journal.disk.now) (J.may_leave old.journal.disk.now) old.journal.torn
                old.state.history kept.entry x old.journal.gate whole kept.keeps

            by_either : KeepsIn new x ⊎ KeepsIn new x → KeepsOneIn new (entries ++ x ∷ [])
            by_either (inl k) = of_x k
            by_either (inr k) = of_x k
        by_torn true torn = by_either (keeps kept.entry kept.keeps)
          where
            by_either : KeepsIn new kept.entry ⊎ KeepsIn new x → KeepsOneIn new (entries ++ x ∷ [])
            by_either (inl k) =
                record { entry = kept.entry; one = λ again. in_front kept.entry entries (x ∷ []) (kept.one torn); keeps = k }
            by_either (inr k) = of_x k

  module _ (command : Command) (now : ℕ) where
    abbrev w : World
    w = world_of old.state

    abbrev stepped : Stepped
    stepped = step (world_of old.state) command now

    abbrev x : Entry
    x = entry_at old.state command now

    -- a step that answers a reply
    replied : (new.journal.torn ≡ false) ⊎ (is_recorded stepped ≡ false) → world_of new.state ≡ world_after w stepped
        → new.state.history ≡ old.state.history ++ noted w command now → (is_recorded stepped ≡ false → Untouched)
        → ((e : Entry) → KeepsIn old e → KeepsIn new e ⊎ KeepsIn new x) → KeepsOneMore []
    replied (inl whole) world history untouched keeps = whole_keeps x keeps whole
    replied (inr quiet) world history untouched keeps =
        same_keeps (untouched quiet)
        (history ∙ ap (λ (es : List Entry). old.state.history ++ es)
        (quiet_noted command (effective_moment w now) stepped quiet) ∙ append-nil old.state.history)
        (world ∙ quiet_world w stepped quiet)

    whole_or_quiet : (b : Bool) → is_recorded stepped ≡ b → (is_recorded stepped ≡ true → new.journal.torn ≡ false)
        → (new.journal.torn ≡ false) ⊎ (is_recorded stepped ≡ false)
    whole_or_quiet true recorded mended = inl (mended recorded)
    whole_or_quiet false quiet mended = inr quiet

    pub one_turn : (result : Result Reply StepFault) → Answers result stepped (faults_of old) (faults_of new)
        → OnOk result (world_of new.state ≡ world_after w stepped)
        → OnOk result (new.state.history ≡ old.state.history ++ noted w command now)
        → (IsFaithful old.state → IsFaithful new.state) → OnErr result (IsUnchanged old.state new.state)
        → (is_recorded stepped ≡ false → Untouched) → (IsErrOf result NoMemory → Untouched)
        → ((e : Entry) → KeepsIn old e → KeepsIn new e ⊎ KeepsIn new x)
        → (is_recorded stepped ≡ true → OnOk result (new.journal.torn ≡ false))
        → faults_of old ≤ faults_of new → new.journal.disk.ghost_name ≡ old.journal.disk.ghost_name
        → Made old (turn_of command now result (faults_of new) ∷ []) new
    one_turn (Ok reply) answers world history faithful fault untouched memory keeps mended later same = record {
      legal = (record { later = later; answers = answers }, tt);
      world = world;
      history = history ∙ ap (λ (es : List Entry). old.state.history ++ es) (sym (append-nil (noted w command now)));
      faithful = faithful;
      count = refl;
      keeps = replied (whole_or_quiet (is_recorded stepped) refl mended) world history untouched keeps;
      same = same;
    }
    one_turn (Err fault) answers world history faithful unchanged untouched memory keeps mended later same = record {
      legal = (record { later = later; answers = answers }, tt);
      world = unchanged.world;
      history = unchanged.history ∙ sym (append-nil old.state.history);
      faithful = faithful;
      count = refl;
      keeps = by_fault fault answers memory;
      same = same;
    }
      where
        by_fault : (f : StepFault) → Answers (Err f) stepped (faults_of old) (faults_of new)
            → (IsErrOf {T = Reply} (Err f) NoMemory → Untouched)
            → KeepsOneMore (failed_answered w command now (Err f) ++ [])
        by_fault (Rule rule) answers memory =
            same_keeps (untouched (ap is_recorded answers)) unchanged.history unchanged.world
        by_fault NoMemory answers memory = same_keeps (memory refl) unchanged.history unchanged.world
        by_fault DiskFault answers memory = torn_keeps x keeps
