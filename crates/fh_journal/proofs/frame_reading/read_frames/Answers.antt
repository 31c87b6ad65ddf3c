use Rattle.std.proofs.Common.{◌≡◌, ◌+◌, ◌<◌, [], ◌∷◌, ◌++◌, length, Err, ◌∙◌, ap, arith}
use Rattle.std.proofs.lemmas.Grind.{common_steps}
use Rattle.fh_journal.specs.Frames.{payloads_of}
use Rattle.fh_disk.proofs.Moments.{quiet_both}
use Rattle.fh_journal.proofs.Walk.{place_behind-push, payloads_of-push, places_more, told_goes_on, told_stands, told_refused}
use Rattle.fh_journal.proofs.frame_reading.read_frames.Goals as goal

pub loop-frames-preserved : goal.loop-frames-preserved
loop-frames-preserved g c =
    let was = c.loop-frames.invariant in
    let payload = c.in-Some.payload in
    let old = payloads_of c.loop-frames.frames.items in
    let pushed : c.push.new.self.items ≡ c.loop-frames.frames.items
    ++ record { at = c.loop-frames.at; payload = payload } ∷ [] = c.in_ok-push.ensures.items in
    let payloads : payloads_of c.push.new.self.items ≡ old ++ payload ∷ [] = ap payloads_of pushed
    ∙ payloads_of-push c.loop-frames.frames.items _ in
    let size : length c.as_slice.result.now ≡ length payload = ap length c.as_slice.ensures in
    let inside : c.loop-frames.at + 5 + length payload < c.args.end =
    rw c.in-Some.is at c.in_ok-payload.ensures.within in
    record {
      inside = omega (arith, inside, size, c.gate_behind-at.ensures);
      place = rw payloads (omega (arith, size, c.gate_behind-at.ensures, was.place, place_behind-push 6 old payload));
      places = places_more c.loop-frames.frames.items _ c.loop-frames.at payload pushed was.places was.place;
      quiet = quiet_both g.J.Disk.told g.J.Disk.may_leave g.J.Disk.moment g.J.Disk.left_since _ _ _ was.quiet
          c.in_ok-payload.ensures.quiet;
      count = c.in_ok-payload.ensures.counted ∙ was.count;
      read =
          told_goes_on _ _ c.args.end c.loop-frames.at _ old _ payload _ was.quiet.same_bytes c.in-Some.is
          (omega (arith, size, c.gate_behind-at.ensures)) payloads was.read
          c.in_ok-payload.ensures.read;
    }

pub returns-in_err-payload-clause-read : goal.returns-in_err-payload-clause-read
returns-in_err-payload-clause-read g c =
    let is : c.from_residual.result ≡ Err c.in_err-payload.field-0.0 = grind (arith, common_steps) in
    told_refused _ _ c.args.end c.loop-frames.at _ c.in_err-payload.field-0.0 c.from_residual.result
    c.loop-frames.invariant.quiet.same_bytes is
    c.loop-frames.invariant.read c.in_err-payload.ensures.read

pub returns-clause-read : goal.returns-clause-read
returns-clause-read g c =
    rw c.new.ensures (
    told_stands _ _ c.args.end c.loop-frames.at _ c.in_ok-payload.field-0 c.loop-frames.invariant.quiet.same_bytes
    c.in_default.is c.loop-frames.invariant.read
    c.in_ok-payload.ensures.read
    )
