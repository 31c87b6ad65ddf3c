use Rattle.std.proofs.Common.{rules, ◌≡◌, ◌∙◌, ◌++◌, ◌∷◌, [], arith, sym, ap, subst, length, ℕ, List}
use Rattle.std.proofs.lemmas.Grind.{common_steps}
use Rattle.fh_journal.specs.Journal.{opened, gate_behind}
use Rattle.fh_queues.proofs.Lawful.{moves_little}
use Rattle.fh_hub.specs.Stores.{Parts, Done, asked_queues}
use Rattle.fh_hub.specs.StoreEdits.{parts_of, made, made_done}
use Rattle.fh_hub.specs.Replay.{Entry, bytes_of, payloads_of}
use Rattle.fh_hub.specs.State.{HubState, IsPlanned}
use Rattle.fh_hub.proofs.Outcomes.{all_make}
use Rattle.fh_hub.proofs.Plain.{few_numbers, few_receipts}
use Rattle.fh_hub.proofs.Bounds.{plain_outcome, receipts_within, versions_within, works_within, begins, goes_within}
use Rattle.fh_hub.proofs.Replays.{faithful_push, legal_planned, payloads_push, gate_push}
use Rattle.fh_hub.proofs.Spelling.{is_spelled, entry_is}
use Rattle.fh_hub.proofs.state.State.settle.Goals as goal

pub add-requires-clause-spelled : goal.add-requires-clause-spelled
add-requires-clause-spelled g c = is_spelled c.args.staged.payload g.e c.requires.spelled

pub returns-clause-history : goal.returns-clause-history
returns-clause-history g c =
    let is = entry_is c.args.staged.payload g.e c.requires.spelled in
    grind (arith, common_steps, is)

pub invariant_of-self : goal.invariant_of-self
invariant_of-self g c =
    let payload : List ℕ = c.args.staged.payload in
    let before : HubState = record {
      stores = c.self.inside.stores;
      last = c.self.inside.last;
      gate =
          c.self.inside.gate;
      history = c.self.inside.history.entries;
      room = c.self.inside.history.room;
    } in
    let new : HubState = record {
      stores = c.settle-done.new.self;
      last = c.ms-self-inside.result;
      gate =
          c.gate_behind-self-inside.result;
      history = c.add.new.self.entries;
      room = c.add.new.self.room;
    } in
    let parts : Parts = made before.stores c.args.staged.stores in
    let did : Done = made_done before.stores c.args.staged.stores in
    let planned : IsPlanned before parts did g.e = subst
    (λ (s : HubState). IsPlanned s (made s.stores c.args.staged.stores) (made_done s.stores c.args.staged.stores)
    g.e) (sym c.self.view_is) c.requires.planned in
    let parts_is : parts ≡ parts_of new.stores = sym c.settle-done.ensures.parts in
    let size_is : length (bytes_of g.e) ≡ length payload = ap length (sym c.requires.spelled.spelling) in
    let gate_is : new.gate ≡ gate_behind before.gate (length payload) = grind (arith, common_steps) in
    let grows : new.history ≡ before.history ++ g.e ∷ [] = c.add.ensures
    ∙ ap (λ (e : Entry). before.history ++ e ∷ []) (entry_is payload g.e c.requires.spelled) in
    let out = planned.outcome in
    let plain = plain_outcome (parts_of before.stores) parts did out in
    let moves = moves_little before.stores.queues.part (asked_queues (parts_of before.stores) out.asks out.moment)
    out.moment parts.queues did.queues (all_make (parts_of before.stores)
    out.asks out.moment parts did out.is).queues in
    let pushed : payloads_of new.history ≡ payloads_of before.history ++ payload ∷ [] = ap payloads_of grows
    ∙ payloads_push before.history g.e ∙ ap (λ (p : List ℕ). payloads_of before.history ++ p ∷ [])
    (sym c.requires.spelled.spelling) in
    let given = receipts_within before.gate (length payload)
    before.stores.queues.part.next_receipt parts.queues.next_receipt (begins before c.self.invariant)
    c.self.invariant.receipt (omega (
      arith,
      moves.receipt,
      few_receipts (asked_queues (parts_of before.stores) out.asks out.moment) plain,
    )) in
    let versions = versions_within (parts_of before.stores) parts did before.gate (length payload)
    out c.self.invariant.version in
    let works = works_within (parts_of before.stores) parts did before.gate (length payload)
    out c.self.invariant.function c.self.invariant.invocation c.self.invariant.session in
    record {
      place = omega (
        arith,
        gate_is,
        c.self.invariant.place,
        ap (λ (ps : List (List ℕ)). length (opened ps)) pushed,
        gate_push (payloads_of before.history) payload,
      );
      within = rw (gate_is, ← size_is) (goes_within before.gate (length (bytes_of g.e)) planned.room);
      timed = c.ms-self-inside.ensures.range;
      number = omega (
        arith,
        gate_is,
        moves.number,
        few_numbers (asked_queues (parts_of before.stores) out.asks out.moment) plain,
        ap (λ (p : Parts). p.queues.next_number) parts_is,
        c.self.invariant.number,
      );
      receipt = rw gate_is (omega (arith, given, ap (λ (p : Parts). p.queues.next_receipt) parts_is));
      version = omega (arith, gate_is, versions, ap (λ (p : Parts). p.blobs.next_version) parts_is);
      function = omega (arith, gate_is, works.functions, ap (λ (p : Parts). p.work.next_function) parts_is);
      invocation = omega (arith, gate_is, works.invocations, ap (λ (p : Parts). p.work.next_invocation) parts_is);
      session = omega (arith, gate_is, works.sessions, ap (λ (p : Parts). p.work.session) parts_is);
    }

pub returns-clause-faithful : goal.returns-clause-faithful
returns-clause-faithful g c faithful =
    let new : HubState = record {
      stores = c.settle-done.new.self;
      last = c.ms-self-inside.result;
      gate =
          c.gate_behind-self-inside.result;
      history = c.add.new.self.entries;
      room = c.add.new.self.room;
    } in
    faithful_push c.args.self.now new g.e c.reply_of.result faithful (returns-clause-history g c) (search rules)
    (legal_planned c.args.self.now (made c.args.self.now.stores c.args.staged.stores)
    (made_done c.args.self.now.stores c.args.staged.stores)
    c.args.staged.payload g.e faithful c.requires.planned c.requires.spelled)
