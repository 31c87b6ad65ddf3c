use Rattle.std.proofs.Common.{Option, length, subst, sym}
use Rattle.fh_disk.specs.Disk.{Torn, Follows}
use Rattle.fh_disk.specs.Moments.{Elapses}
use Rattle.fh_disk.specs.Recorded.{Recorded, left_by, moment_of, left_since_by}
use Rattle.fh_disk.specs.declared.record.Call.TheVariants.{Write}
use Rattle.fh_disk.proofs.Calls.{gives_after_write, images_torn, time_goes}
use Rattle.fh_disk.proofs.memory_disk.MemoryDiskDisk.write_at.Goals as goal

pub invariant_of-self-2 : goal.invariant_of-self-2
invariant_of-self-2 c =
    let disk = c.args.self.now in
    let then = c.store.ensures in
    record {
      kept = gives_after_write c.store.result disk.past c.store.new.past c.args.at c.args.bytes.now
          disk.bytes.items c.store.new.file.items then.noted then.written then.same_past then.same_file disk.kept;
    }

pub returns-in-Ok-clause-images : goal.returns-in-Ok-clause-images
returns-in-Ok-clause-images c =
    let old = c.args.self.now.past in
    subst (λ (r : Option Recorded). Follows (Torn c.args.at (length c.args.bytes.now)) (left_by old) (left_by r))
    (sym c.in-Ok.ensures.noted) (images_torn old c.args.at c.args.bytes.now)

pub returns-in-Ok-clause-time : goal.returns-in-Ok-clause-time
returns-in-Ok-clause-time c =
    let old = c.args.self.now.past in
    subst (λ (r : Option Recorded). Elapses (moment_of old) (moment_of r) (left_since_by old) (left_since_by r)
    (left_by r)) (sym c.in-Ok.ensures.noted) (time_goes old (Write c.args.at c.args.bytes.now))
