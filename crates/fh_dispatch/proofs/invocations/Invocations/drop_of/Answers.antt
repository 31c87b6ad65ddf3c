use Rattle.std.proofs.Common.{ap, sym, ◌∙◌, subst, length, List, arith}
use Rattle.std.specs.Ordering.{is_ne}
use Rattle.fh_dispatch.specs.declared.running.Running.{Running}
use Rattle.fh_dispatch.specs.Invocations.{InvocationsState, by_function, without_runs_of}
use Rattle.fh_dispatch.specs.Runs.{in_turn, IsIndexed, HasNoKeys}
use Rattle.fh_dispatch.proofs.InTurn.{in_turn-filter}
use Rattle.fh_dispatch.proofs.Indexes.{indexed-dropped}
use Rattle.fh_dispatch.proofs.invocations.Invocations.drop_of.Goals as goal

pub invariant_of-self : goal.invariant_of-self
invariant_of-self c =
    let functions = c.self.inside.functions.items in
    let rows = c.self.inside.rows.rows in
    let dues = c.self.inside.dues in
    let was = c.self.invariant in
    let keys = subst (λ (gone : List Running). HasNoKeys gone dues c.clear_keys.new.dues)
    c.all_at.ensures c.clear_keys.ensures.keys in
    record {
      indexed =
          subst (λ (rows : List Running). IsIndexed rows functions c.clear_keys.new.dues)
          (sym c.remove_all.ensures.rows)
          (indexed-dropped rows functions dues was.indexed c.args.function c.clear_keys.new.dues
          c.clear_keys.ensures.len keys);
      keys = omega (arith, was.keys, c.clear_keys.ensures.len);
      rows_room = omega (arith, was.rows_room, c.remove_all.ensures.room);
      functions_room = was.functions_room;
    }

pub returns-clause-running : goal.returns-clause-running
returns-clause-running c =
    let functions = c.self.inside.functions.items in
    ap (in_turn (length functions)) c.remove_all.ensures.rows
    ∙ sym (in_turn-filter (λ run. is_ne (by_function c.args.function run)) (length functions) c.self.inside.rows.rows)
    ∙ ap (λ (s : InvocationsState). without_runs_of c.args.function s.running) c.self.view_is
