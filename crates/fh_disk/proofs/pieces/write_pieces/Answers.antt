use Rattle.std.proofs.Common.{◌≡◌, ◌+◌, List, [], ◌∷◌, ◌++◌, take, drop, sym, ◌∙◌, ap, subst, take_all, take-append-drop, refl, rules}
use Rattle.std.proofs.lemmas.Grind.{take_at_read}
use Rattle.fh_disk.specs.Pieces.{OnlyWrites}
use Rattle.fh_disk.specs.declared.pieces.Piece.{Piece}
use Rattle.fh_disk.proofs.Between.{written_push, writes_none, writes_more, writes_push, writes_still}
use Rattle.fh_disk.proofs.Told.{told_torn}
use Rattle.fh_disk.proofs.pieces.write_pieces.Goals as goal

pub loop-piece-init : goal.loop-piece-init
loop-piece-init g c = record {
  written = search rules;
  only = writes_none g.J.Disk.told g.J.Disk.may_leave g.J.Disk.moment g.J.Disk.left_since c.args.disk.now
      (g.met.J.Disk.only_now c.args.disk.now);
  count = refl;
}

pub loop-piece-preserved : goal.loop-piece-preserved
loop-piece-preserved g c =
    let J = g.J.Disk in
    let done = take c.loop-piece.piece-index c.args.pieces.now in
    let piece = c.piece-item.result in
    let bytes = c.as_slice.ensures in
    let so_far = c.loop-piece.invariant in
    let then = c.in_ok-write_at.ensures in
    let more : take (c.loop-piece.piece-index + 1) c.args.pieces.now ≡ done ++ piece ∷ [] =
    (take_at_read c.args.pieces.now c.loop-piece.piece-index piece c.loop-piece-test.true).1
    ∙ ap (λ (x : Piece). done ++ x ∷ []) (sym c.piece-item.is) in
    let wrote = rw bytes at then.written in
    record {
      written = rw more (written_push done piece _ _ _ so_far.written wrote);
      only =
          rw more (writes_push J.told J.may_leave J.moment J.left_since done piece c.args.disk.now c.loop-piece.disk
          c.write_at.new.self so_far.only
          (told_torn _ _ piece.at piece.bytes wrote) (rw bytes at then.images) then.time);
      count = then.cause.passed refl ∙ so_far.count;
    }

pub returns-in_err-write_at-clause-only : goal.returns-in_err-write_at-clause-only
returns-in_err-write_at-clause-only g c =
    let J = g.J.Disk in
    let pieces = c.args.pieces.now in
    let index = c.loop-piece.piece-index in
    let done = take index pieces in
    let piece = c.piece-item.result in
    let bytes = c.as_slice.ensures in
    let then = c.in_err-write_at.ensures in
    let more : take (index + 1) pieces ≡ done ++ piece ∷ [] =
    (take_at_read pieces index piece c.loop-piece-test.true).1
    ∙ ap (λ (x : Piece). done ++ x ∷ []) (sym c.piece-item.is) in
    let tried : OnlyWrites J.told J.may_leave J.moment J.left_since (take (index + 1) pieces)
    c.args.disk.now c.write_at.new.self =
    rw more (writes_push J.told J.may_leave J.moment J.left_since done piece c.args.disk.now c.loop-piece.disk
    c.write_at.new.self c.loop-piece.invariant.only
    (rw bytes at then.torn) (rw bytes at then.images) then.time) in
    subst (λ (all : List Piece). OnlyWrites J.told J.may_leave J.moment J.left_since all c.args.disk.now
    c.write_at.new.self)
    (take-append-drop (index + 1) pieces)
    (writes_more J.told J.may_leave J.moment J.left_since (take (index + 1) pieces) (drop (index + 1) pieces)
    c.args.disk.now c.write_at.new.self tried)

pub returns-clause-only : goal.returns-clause-only
returns-clause-only g c =
    let J = g.J.Disk in
    let all = take_all c.loop-piece.piece-index c.args.pieces.now c.loop-piece-test.false in
    writes_still J.told J.may_leave J.moment J.left_since c.args.pieces.now c.args.disk.now c.loop-piece.disk
    c.sync.new.self
    (rw all at c.loop-piece.invariant.only) c.sync.ensures.told c.sync.ensures.images c.sync.ensures.time
