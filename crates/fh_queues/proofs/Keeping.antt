-- What acts leave of the index: room, and lanes that are ready.
use Rattle.std.proofs.Common.{◌≡◌, ℕ, ◌+◌, ◌≤◌, List, [], ◌∷◌, ◌++◌, length, refl, ap, subst, ◌∙◌, arith}
use Rattle.std.specs.Prelude.{Bool, true, false, set}
use Rattle.std.specs.Str.{bytes_eq}
use Rattle.std.proofs.lemmas.List.{length-set, length_push}
use Rattle.fh_queues.specs.declared.act.Act.{Act}
use Rattle.fh_queues.specs.declared.act.Act.TheVariants.{AddQueue, AddRow, ChangeRow, EndRows}
use Rattle.fh_queues.specs.declared.lists.Lists.{Lists}
use Rattle.fh_queues.specs.Lanes.{LaneValue, lane_of, IsReady, Grows, KeepsKeys}
use Rattle.fh_queues.specs.Lists.{HasRoom, IsReadyFor, AreReady, Stays}
use Rattle.fh_queues.proofs.Naming.{bytes_same}

pub stays-same : (lists : Lists) → Stays lists lists
stays-same lists = record { queues = refl; receipt = refl; numbers = λ name. refl; keys = λ name. refl; spare = λ name. refl; room = λ k room. room }

pub stays-trans : (a b c : Lists) → Stays a b → Stays b c → Stays a c
stays-trans a b c first second = record {
  queues = second.queues ∙ first.queues;
  receipt = second.receipt ∙ first.receipt;
  numbers = λ name. second.numbers name ∙ first.numbers name;
  keys = λ name. second.keys name ∙ first.keys name;
  spare = λ name. second.spare name ∙ first.spare name;
  room = λ k room. second.room k (first.room k room);
}

-- a lane that has the same numbers, as many keys and no less room is as ready
pub ready-same : (k : ℕ) (old new : LaneValue) → new.numbers ≡ old.numbers → length old.keys ≤ length new.keys → old.room ≤ new.room → IsReady k old → IsReady k new
ready-same k old new numbers keys room ready = record { room = omega (arith, room, ready.room); keys = omega (arith, ap length numbers, keys, ready.keys) }

pub ready-stays : (k : ℕ) (name : List ℕ) (old new : Lists) → Stays old new → IsReady k (lane_of name old.lanes) → IsReady k (lane_of name new.lanes)
ready-stays k name old new stays ready =
    ready-same k (lane_of name old.lanes) (lane_of name new.lanes) (stays.numbers name) (omega (arith, stays.keys name)) (omega (arith, stays.spare name)) ready

pub ready-grows : (k : ℕ) (act : Act) (old new : List LaneValue) → Grows old new → IsReadyFor old k act → IsReadyFor new k act
ready-grows k (AddQueue queue) old new grows ready = ready-same k (lane_of queue old) (lane_of queue new) (grows.numbers queue) (grows.keys queue).longer (grows.room queue) ready
ready-grows k (AddRow row) old new grows ready = ready-same k (lane_of row.queue old) (lane_of row.queue new) (grows.numbers row.queue) (grows.keys row.queue).longer (grows.room row.queue) ready
ready-grows k (ChangeRow number change) old new grows ready = tt
ready-grows k (EndRows which ending) old new grows ready = tt

pub all_ready-grows : (k : ℕ) (acts : List Act) (old new : List LaneValue) → Grows old new → AreReady old k acts → AreReady new k acts
all_ready-grows k [] old new grows ready = tt
all_ready-grows k (act ∷ acts) old new grows ready = (ready-grows k act old new grows ready.0, all_ready-grows k acts old new grows ready.1)

pub keeps-same : (keys : List ℕ) → KeepsKeys keys keys
keeps-same keys = record { longer = omega arith; same = λ i low. refl }

pub keeps-trans : (a b c : List ℕ) → KeepsKeys a b → KeepsKeys b c → KeepsKeys a c
keeps-trans a b c first second = record {
  longer = omega (arith, first.longer, second.longer);
  same = λ i low. second.same i (omega (arith, low, first.longer)) ∙ first.same i low;
}

pub grows-same : (lanes : List LaneValue) → Grows lanes lanes
grows-same lanes = record { queues = refl; numbers = λ name. refl; keys = λ name. keeps-same (lane_of name lanes).keys; room = λ name. omega arith }

pub grows-trans : (a b c : List LaneValue) → Grows a b → Grows b c → Grows a c
grows-trans a b c first second = record {
  queues = second.queues ∙ first.queues;
  numbers = λ name. second.numbers name ∙ first.numbers name;
  keys = λ name. keeps-trans (lane_of name a).keys (lane_of name b).keys (lane_of name c).keys (first.keys name) (second.keys name);
  room = λ name. omega (arith, first.room name, second.room name);
}

pub all_ready-push : (k : ℕ) (acts : List Act) (act : Act) (lanes : List LaneValue) → AreReady lanes k acts → IsReadyFor lanes k act → AreReady lanes k (acts ++ act ∷ [])
all_ready-push k [] act lanes ready one = (one, tt)
all_ready-push k (first ∷ acts) act lanes ready one = (ready.0, all_ready-push k acts act lanes ready.1 one)

-- after an act, each lane has one message's room less
pub all_ready-act : (k : ℕ) (acts : List Act) (old new : List LaneValue) → ((name : List ℕ) → IsReady (k + 1) (lane_of name old) → IsReady k (lane_of name new)) → AreReady old (k + 1) acts → AreReady new k acts
all_ready-act k [] old new step ready = tt
all_ready-act k (AddQueue queue ∷ acts) old new step ready = (step queue ready.0, all_ready-act k acts old new step ready.1)
all_ready-act k (AddRow row ∷ acts) old new step ready = (step row.queue ready.0, all_ready-act k acts old new step ready.1)
all_ready-act k (ChangeRow number change ∷ acts) old new step ready = (tt, all_ready-act k acts old new step ready.1)
all_ready-act k (EndRows which ending ∷ acts) old new step ready = (tt, all_ready-act k acts old new step ready.1)

pub ready-one : (k : ℕ) (act : Act) (lanes : List LaneValue) → IsReadyFor lanes (k + 1) act → IsReadyFor lanes 1 act
ready-one k (AddQueue queue) lanes ready = record { room = omega (arith, ready.room); keys = omega (arith, ready.keys) }
ready-one k (AddRow row) lanes ready = record { room = omega (arith, ready.room); keys = omega (arith, ready.keys) }
ready-one k (ChangeRow number change) lanes ready = tt
ready-one k (EndRows which ending) lanes ready = tt

pub ready-less : (k : ℕ) (lane : LaneValue) → IsReady (k + 1) lane → IsReady k lane
ready-less k lane ready = record { room = omega (arith, ready.room); keys = omega (arith, ready.keys) }

pub room-less : (k : ℕ) (lists : Lists) → HasRoom lists (k + 1) → HasRoom lists k
room-less k lists room = record { slots = omega (arith, room.slots); expiries = omega (arith, room.expiries) }

-- a message more in one lane
pub ready-add : (queue : List ℕ) (old new : List LaneValue) (number key : ℕ) → (lane_of queue new).numbers ≡ (lane_of queue old).numbers ++ number ∷ [] → (lane_of queue new).keys ≡ set (lane_of queue old).keys (length (lane_of queue old).numbers) key → (lane_of queue old).room ≤ (lane_of queue new).room + 1
    → ((name : List ℕ) → bytes_eq queue name ≡ false → lane_of name new ≡ lane_of name old) → (k : ℕ) (name : List ℕ) → IsReady (k + 1) (lane_of name old) → IsReady k (lane_of name new)
ready-add queue old new number key numbers keys room others k name = by_test (bytes_eq queue name) refl
  where
    here : IsReady (k + 1) (lane_of queue old) → IsReady k (lane_of queue new)
    here ready = record {
      room = omega (arith, ready.room, room);
      keys = omega (arith, ready.keys, ap length numbers, length_push (lane_of queue old).numbers number, ap length keys, length-set (lane_of queue old).keys (length (lane_of queue old).numbers) key);
    }

    by_test : (b : Bool) → bytes_eq queue name ≡ b → IsReady (k + 1) (lane_of name old) → IsReady k (lane_of name new)
    by_test true is ready = subst (λ (n : List ℕ). IsReady (k + 1) (lane_of n old) → IsReady k (lane_of n new)) (bytes_same queue name is) here ready
    by_test false is ready = rw (others name is) (ready-less k (lane_of name old) ready)
