use Rattle.std.proofs.Common.{List, ℕ, length, take, refl, arith, ap, ◌∙◌, length-drop, subst}
use Rattle.std.specs.Io.KnownBytes.{Appends}
use Rattle.fh_base.proofs.Appending.{appends_more}
use Rattle.fh_base.proofs.sink.write_all.Goals as goal

pub loop-place-preserved : goal.loop-place-preserved
loop-place-preserved g c =
    let taken = c.in_ok-taken.ensures in
    let loop = c.loop-place.invariant in
    record {
      within = omega (
        arith,
        loop.within,
        taken.takes.bound,
        ap length c.split_at.ensures.back,
        length-drop c.loop-place.place c.args.bytes.now,
      );
      written =
          appends_more _ _ _ c.args.bytes.now c.loop-place.place c.in_ok-taken.taken loop.written
          (subst (λ (rest : List ℕ). Appends (g.O.Sink.written c.loop-place.sink) (g.O.Sink.written c.write.new.self)
          (take c.in_ok-taken.taken rest))
          c.split_at.ensures.back taken.bytes);
      count = taken.cause.passed refl ∙ loop.count;
      sure = λ told. taken.sure.stays (loop.sure told);
      beside = taken.beside ∙ loop.beside;
    }
