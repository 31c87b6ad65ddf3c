-- A history that goes on by one entry.
use Rattle.std.proofs.Common.{◌≡◌, ℕ, List, [], ◌∷◌, ◌++◌, length, refl, ap, sym, ◌∙◌, subst, arith, length-append}
use Rattle.std.specs.Int.{w32, to_be_bytes}
use Rattle.std.proofs.lemmas.List.{map_push}
use Rattle.fh_event.specs.declared.reply.Reply.{Reply}
use Rattle.fh_event.specs.Entries.{IsEntry}
use Rattle.fh_journal.specs.Journal.{opened, frame, gate_behind}
use Rattle.fh_journal.proofs.Bytes.{opened-push}
use Rattle.fh_hub.specs.Stores.{Parts, Done}
use Rattle.fh_hub.specs.World.{World, empty, Recorded, step, world_with}
use Rattle.fh_hub.specs.Replies.{reply_of}
use Rattle.fh_hub.specs.Replay.{Entry, bytes_of, payloads_of, replay_from, replay, after, world_after, IsWritten, IsNext, IsLegalFrom, IsLegal}
use Rattle.fh_hub.specs.State.{HubState, world_of, IsFaithful, IsPlanned}

pub replay_from-push : (w : World) (history : List Entry) (e : Entry)
    → replay_from w (history ++ e ∷ []) ≡ after (replay_from w history) e
replay_from-push w [] e = refl
replay_from-push w (first ∷ history) e = replay_from-push (after w first) history e

-- a recorded step keeps the state true to its history
pub world_push : (s new : HubState) (e : Entry) (reply : Reply) → world_of s ≡ replay s.history
    → new.history ≡ s.history ++ e ∷ [] → step (world_of s) e.command e.moment ≡ Recorded (world_of new) reply
    → world_of new ≡ replay new.history
world_push s new e reply faithful grows steps =
    sym (ap replay grows ∙ replay_from-push empty s.history e
    ∙ ap (λ w. after w e) (sym faithful)
    ∙ ap (world_after (world_of s)) steps)

legal_from-push : (w : World) (history : List Entry) (e : Entry) → IsLegalFrom w history → IsWritten e
    → IsNext (replay_from w history) e → IsLegalFrom w (history ++ e ∷ [])
legal_from-push w [] e legal written next = ((written, next), tt)
legal_from-push w (first ∷ history) e legal written next =
    (legal.0, legal_from-push (after w first) history e legal.1 written next)

pub legal_push : (history : List Entry) (e : Entry) → IsLegal history → IsWritten e → IsNext (replay history) e
    → IsLegal (history ++ e ∷ [])
legal_push history e legal written next = legal_from-push empty history e legal written next

pub is_written : (payload : List ℕ) (e : Entry) → IsEntry payload e.moment e.command → IsWritten e
is_written payload e is = subst (λ (bytes : List ℕ). IsEntry bytes e.moment e.command) is.spelling is

pub payloads_push : (history : List Entry) (e : Entry)
    → payloads_of (history ++ e ∷ []) ≡ payloads_of history ++ bytes_of e ∷ []
payloads_push history e = map_push bytes_of history e

pub gate_push : (payloads : List (List ℕ)) (payload : List ℕ)
    → length (opened (payloads ++ payload ∷ [])) ≡ gate_behind (length (opened payloads)) (length payload)
gate_push payloads payload =
    ap length (opened-push payloads payload) ∙ length-append (opened payloads) (frame payload)
    ∙ (let sized = length-append (to_be_bytes w32 (length payload)) payload in omega (arith, sized))

-- a faithful state that goes on by a recorded entry stays faithful
pub faithful_push : (s new : HubState) (e : Entry) (reply : Reply) → IsFaithful s → new.history ≡ s.history ++ e ∷ []
    → step (world_of s) e.command e.moment ≡ Recorded (world_of new) reply → IsLegal (s.history ++ e ∷ [])
    → IsFaithful new
faithful_push s new e reply faithful grows steps legal = record {
  world = world_push s new e reply faithful.world grows steps;
  legal = subst IsLegal (sym grows) legal;
}

-- the history of a faithful state goes on by a planned entry
pub legal_planned : (s : HubState) (made : Parts) (done : Done) (payload : List ℕ) (e : Entry) → IsFaithful s
    → IsPlanned s made done e → IsEntry payload e.moment e.command → IsLegal (s.history ++ e ∷ [])
legal_planned s made done payload e faithful planned spelled =
    legal_push s.history e faithful.legal (is_written payload e spelled)
    (subst (λ (w : World). IsNext w e) faithful.world (record {
      new = world_with (world_of s) made e.moment (length (bytes_of e));
      reply = reply_of done;
      records = planned.steps;
      own_moment = planned.own_moment;
    }))
