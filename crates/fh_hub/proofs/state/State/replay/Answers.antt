use Rattle.std.proofs.Common.{rules, ◌≡◌, ◌∷◌, [], ◌++◌, List, ℕ, length, ap, arith, ◌∙◌, sym, append_assoc}
use Rattle.std.proofs.lemmas.Grind.{common_steps}
use Rattle.std.specs.Vec.Iter.{into_iter_items}
use Rattle.fh_journal.specs.Frames.{payloads_of as payloads_in, frames_from}
use Rattle.fh_journal.specs.Journal.{opened}
use Rattle.fh_journal.specs.declared.frames.Frame.{Frame}
use Rattle.fh_hub.specs.Replay.{payloads_of}
use Rattle.fh_hub.proofs.Mounted.{frame_refused, rest_follow}
use Rattle.fh_hub.proofs.Replays.{gate_push}
use Rattle.fh_hub.proofs.state.State.replay.Goals as goal

pub loop-frame-preserved : goal.loop-frame-preserved
loop-frame-preserved c =
    let at = c.loop-frame in
    let f : Frame = c.in-Some.frame in
    let rest = into_iter_items c.next.new.self in
    let steps : into_iter_items at.frame-iterator ≡ f ∷ rest = c.in-Some.ensures.steps.0 in
    let old = payloads_of at.self.history in
    let follow = rest_follow (length (opened old)) f rest
    (sym steps ∙ at.invariant.follow ∙ ap (λ (fs : List Frame). frames_from (length (opened old)) (payloads_in fs))
    steps) in
    let grows : payloads_of c.replay_entry.new.self.history ≡ old ++ f.payload ∷ [] = grind (arith, common_steps) in
    let behind = ap (λ (ps : List (List ℕ)). length (opened ps)) grows ∙ gate_push old f.payload in
    record {
      whole = ap (λ (ps : List (List ℕ)). ps ++ payloads_in rest) grows
          ∙ append_assoc old (f.payload ∷ []) (payloads_in rest)
          ∙ ap (λ (fs : List Frame). old ++ payloads_in fs) (sym steps) ∙ at.invariant.whole;
      follow = follow.1 ∙ ap (λ (k : ℕ). frames_from k (payloads_in rest)) (sym behind);
      len = omega (arith, at.invariant.len, c.in-Some.ensures.steps.1, ap length steps);
      idle = search rules;
      faithful = search rules;
    }

pub returns-in-Err-clause-reason : goal.returns-in-Err-clause-reason
returns-in-Err-clause-reason c =
    let at = c.loop-frame in
    let f : Frame = c.in-Some.frame in
    let rest = into_iter_items c.next.new.self in
    let steps : into_iter_items at.frame-iterator ≡ f ∷ rest = c.in-Some.ensures.steps.0 in
    let old = payloads_of at.self.history in
    let follow = rest_follow (length (opened old)) f rest
    (sym steps ∙ at.invariant.follow ∙ ap (λ (fs : List Frame). frames_from (length (opened old)) (payloads_in fs))
    steps) in
    rw c.at.ensures (frame_refused (payloads_in c.args.frames.items) f rest at.self.history c.in-Err.fault
    (ap (λ (fs : List Frame). old ++ payloads_in fs) (sym steps) ∙ at.invariant.whole)
    follow.0 at.invariant.faithful.legal (search rules))
