use Rattle.std.proofs.Common.{◌≡◌, ℕ, suc, ◌+◌, List, take, arith, sym, ap, ◌∙◌, take-suc, slice_index_or}
use Rattle.std.proofs.lemmas.Grind.{common_steps}
use Rattle.fh_rows.specs.Rows.{without_row_at}
use Rattle.fh_blobs.specs.declared.mark.Mark.{Mark}
use Rattle.fh_blobs.specs.declared.mark.Function.{Function}
use Rattle.fh_blobs.specs.Marks.{by_mark, without_marks}
use Rattle.fh_blobs.proofs.Marking.{without_marks-push}
use Rattle.fh_blobs.proofs.marks.unmark.Goals as goal

pub loop-function-preserved : goal.loop-function-preserved
loop-function-preserved c =
    let container = c.args.container.now in
    let name = c.args.name.now in
    let functions = c.args.functions.now in
    let i = c.loop-function.function-index in
    let here : Function = slice_index_or functions i (record { number = 0 }) in
    let next : suc i ≡ i + 1 = omega arith in
    record {
      marks =
          c.remove.ensures.rows
          ∙ ap (λ (marks : List Mark). without_row_at
          (by_mark here.number container name) marks) c.loop-function.invariant.marks
          ∙ sym (without_marks-push container name (take i functions) here c.args.marks.now.rows)
          ∙ ap (λ (some : List Function). without_marks container name some c.args.marks.now.rows) (sym
          (take-suc functions i (record { number = 0 }) c.loop-function-test.true))
          ∙ ap (λ (k : ℕ). without_marks container name (take k functions) c.args.marks.now.rows) next;
      room = grind (arith, common_steps);
    }
