-- Turns that follow each other are one list.
use Rattle.std.specs.Prelude.{◌≡◌, ℕ, List, [], ◌∷◌, ◌++◌, refl}
use Rattle.std.proofs.Common.{sym, ◌∙◌, ap, append_assoc, append-nil}
use Rattle.fh_disk.specs.declared.disk.Disk.{Ghosts}
use Rattle.fh_hub.specs.declared.hub.Hub.{Hub}
use Rattle.fh_hub.specs.Hub.{faults_of}
use Rattle.fh_hub.specs.State.{world_of}
use Rattle.fh_hub.specs.World.{World}
use Rattle.fh_hub.specs.Replay.{Entry}
use Rattle.fh_hub.specs.Turns.{Turn, AreLegal, world_by, world_behind, count_behind, recorded, noted_answered}
use Rattle.fh_hub.specs.Turns.{failed, failed_answered}
use Rattle.fh_hub.specs.Made.{Made}

pub world_joined : (w : World) (first later : List Turn)
    → world_behind w (first ++ later) ≡ world_behind (world_behind w first) later
world_joined w [] later = refl
world_joined w (t ∷ first) later = world_joined (world_by w t) first later

pub count_joined : (n : ℕ) (first later : List Turn)
    → count_behind n (first ++ later) ≡ count_behind (count_behind n first) later
count_joined n [] later = refl
count_joined n (t ∷ first) later = count_joined t.count first later

pub recorded_joined : (w : World) (first later : List Turn)
    → recorded w (first ++ later) ≡ recorded w first ++ recorded (world_behind w first) later
recorded_joined w [] later = refl
recorded_joined w (t ∷ first) later =
    let es = noted_answered w t.command t.moment t.answer in
    let v = world_by w t in
    ap (λ (more : List Entry). es ++ more) (recorded_joined v first later)
    ∙ sym (append_assoc es (recorded v first) (recorded (world_behind v first) later))

pub failed_joined : (w : World) (first later : List Turn)
    → failed w (first ++ later) ≡ failed w first ++ failed (world_behind w first) later
failed_joined w [] later = refl
failed_joined w (t ∷ first) later =
    let es = failed_answered w t.command t.moment t.answer in
    let v = world_by w t in
    ap (λ (more : List Entry). es ++ more) (failed_joined v first later)
    ∙ sym (append_assoc es (failed v first) (failed (world_behind v first) later))

pub legal_joined : (w : World) (n : ℕ) (first later : List Turn) → AreLegal w n first
    → AreLegal (world_behind w first) (count_behind n first) later
    → AreLegal w n (first ++ later)
legal_joined w n [] later one two = two
legal_joined w n (t ∷ first) later one two = (one.0, legal_joined (world_by w t) t.count first later one.1 two)

module _ {D : Type 0} {J : Ghosts D} where
  pub nothing_made : (hub : Hub D J) → Made hub [] hub
  nothing_made hub = record {
    legal = tt;
    world = refl;
    history = sym (append-nil hub.state.history);
    faithful = λ held. held;
    count = refl;
    keeps = λ entries kept. rw append-nil kept;
    same = refl;
  }

  pub joined : (old mid new : Hub D J) (first later : List Turn) → Made old first mid → Made mid later new
      → Made old (first ++ later) new
  joined old mid new first later one two =
      let w = world_of old.state in
      record {
        legal = legal_joined w (faults_of old) first later one.legal (rw (← one.world, ← one.count) two.legal);
        world = two.world ∙ ap (λ (v : World). world_behind v later) one.world ∙ sym (world_joined w first later);
        history =
            two.history ∙ ap (λ (v : World). mid.state.history ++ recorded v later) one.world
            ∙ ap (λ (h : List Entry). h ++ recorded (world_behind w first) later) one.history
            ∙ append_assoc old.state.history (recorded w first) (recorded (world_behind w first) later)
            ∙ ap (λ (es : List Entry). old.state.history ++ es) (sym (recorded_joined w first later));
        faithful = λ held. two.faithful (one.faithful held);
        count =
            two.count ∙ ap (λ (n : ℕ). count_behind n later) one.count
            ∙ sym (count_joined (faults_of old) first later);
        keeps = λ entries kept.
            rw (
              failed_joined w first later,
              ← append_assoc entries (failed w first) (failed (world_behind w first) later),
              ← one.world,
            )
            (two.keeps (entries ++ failed w first) (one.keeps entries kept));
        same = two.same ∙ one.same;
      }
