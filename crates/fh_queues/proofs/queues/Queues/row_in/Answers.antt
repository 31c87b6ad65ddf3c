use Rattle.std.proofs.Common.{◌≡◌, ap, arith}
use Rattle.std.proofs.lemmas.Grind.{common_steps}
use Rattle.fh_queues.specs.Rows.{row_in}
use Rattle.fh_queues.specs.Edits.{QueueState}
use Rattle.fh_queues.specs.Index.{kept}
use Rattle.fh_queues.proofs.Looking.{row_in-is}
use Rattle.fh_queues.proofs.queues.Queues.row_in.Goals as goal

pub returns-in_default : goal.returns-in_default
returns-in_default c =
    let rows = kept c.self.inside.lists.slots.items in
    let is = row_in-is c.args.queue.now c.args.number c.args.m 0 rows c.self.invariant.0.rising in
    let seen : row_in c.args.queue.now c.args.number c.args.m rows
    ≡ row_in c.args.queue.now c.args.number c.args.m c.args.self.now.part.rows =
    ap (λ (s : QueueState). row_in c.args.queue.now c.args.number c.args.m s.part.rows) c.self.view_is in
    grind (arith, common_steps, is, seen, c.row_of.ensures)

pub returns-then-not-is_of : goal.returns-then-not-is_of
returns-then-not-is_of c =
    let rows = kept c.self.inside.lists.slots.items in
    let is = row_in-is c.args.queue.now c.args.number c.args.m 0 rows c.self.invariant.0.rising in
    let seen : row_in c.args.queue.now c.args.number c.args.m rows
    ≡ row_in c.args.queue.now c.args.number c.args.m c.args.self.now.part.rows =
    ap (λ (s : QueueState). row_in c.args.queue.now c.args.number c.args.m s.part.rows) c.self.view_is in
    grind (arith, common_steps, is, seen, c.row_of.ensures)

pub returns-then-not-is_live : goal.returns-then-not-is_live
returns-then-not-is_live c =
    let rows = kept c.self.inside.lists.slots.items in
    let is = row_in-is c.args.queue.now c.args.number c.args.m 0 rows c.self.invariant.0.rising in
    let seen : row_in c.args.queue.now c.args.number c.args.m rows
    ≡ row_in c.args.queue.now c.args.number c.args.m c.args.self.now.part.rows =
    ap (λ (s : QueueState). row_in c.args.queue.now c.args.number c.args.m s.part.rows) c.self.view_is in
    grind (arith, common_steps, is, seen, c.row_of.ensures)

pub returns : goal.returns
returns c =
    let rows = kept c.self.inside.lists.slots.items in
    let is = row_in-is c.args.queue.now c.args.number c.args.m 0 rows c.self.invariant.0.rising in
    let seen : row_in c.args.queue.now c.args.number c.args.m rows
    ≡ row_in c.args.queue.now c.args.number c.args.m c.args.self.now.part.rows =
    ap (λ (s : QueueState). row_in c.args.queue.now c.args.number c.args.m s.part.rows) c.self.view_is in
    grind (arith, common_steps, is, seen, c.row_of.ensures)
