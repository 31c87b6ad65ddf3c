use Rattle.std.proofs.Common.{◌≡◌, ℕ, ◌+◌, ◌++◌, ◌≤◌, ◌∷◌, [], ap, sym, ◌∙◌, subst, length, rules, arith}
use Rattle.std.specs.Prelude.{vec_len}
use Rattle.std.proofs.lemmas.List.{length-append}
use Rattle.fh_dispatch.specs.Invocations.{InvocationsState, with_run}
use Rattle.fh_dispatch.specs.Runs.{HasKey}
use Rattle.fh_dispatch.proofs.Indexes.{indexed-begun, running-begun}
use Rattle.fh_dispatch.proofs.invocations.Invocations.begin.Goals as goal

pub invariant_of-self : goal.invariant_of-self
invariant_of-self c =
    let run = c.args.run in
    let functions = c.self.inside.functions.items in
    let rows = c.self.inside.rows.rows in
    let dues = c.self.inside.dues in
    let was = c.self.invariant in
    let number : run.invocation ≡ length functions + 1 = c.requires.number
    ∙ sym (ap (λ (s : InvocationsState). s.next) c.self.view_is) in
    let pushed : c.push-added.new.self.items ≡ functions ++ run.function ∷ [] = search rules in
    let key = subst (λ (k : ℕ). HasKey run.invocation k dues c.set_key.new.dues)
    c.key_of.ensures c.set_key.ensures.key in
    let room : 1 ≤ c.self.inside.room = search rules in
    let long : length c.push-added.new.self.items ≡ length functions + 1 = ap length pushed
    ∙ length-append functions (run.function ∷ []) in
    let one_more : vec_len c.push-added.new.self ≡ vec_len c.self.inside.functions + 1 = search rules in
    record {
      indexed = rw (c.set.ensures.rows, pushed)
          (indexed-begun rows functions dues was.indexed run number c.set_key.new.dues c.set_key.ensures.len key);
      keys = omega (arith, was.keys, room, long, c.set_key.ensures.len);
      rows_room = omega (arith, was.rows_room, c.set.ensures.room);
      functions_room = omega (arith, was.functions_room, room, one_more, c.push-added.ensures.capacity);
    }

pub returns-clause-running : goal.returns-clause-running
returns-clause-running c =
    let run = c.args.run in
    let functions = c.self.inside.functions.items in
    let rows = c.self.inside.rows.rows in
    let number : run.invocation ≡ length functions + 1 = c.requires.number
    ∙ sym (ap (λ (s : InvocationsState). s.next) c.self.view_is) in
    let pushed : c.push-added.new.self.items ≡ functions ++ run.function ∷ [] = search rules in
    rw (c.set.ensures.rows, pushed, length-append functions (run.function ∷ []))
    (running-begun rows functions c.self.inside.dues c.self.invariant.indexed run number
    ∙ ap (λ (s : InvocationsState). with_run run s.running) c.self.view_is)
