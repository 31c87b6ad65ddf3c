use Rattle.std.proofs.Common.{Option, subst, sym}
use Rattle.fh_disk.specs.Disk.{NoNewImage, OnlyTold}
use Rattle.fh_disk.specs.Recorded.{Recorded, told_by, left_by}
use Rattle.fh_disk.proofs.Calls.{gives_after_sync, only_synced, no_new_image}
use Rattle.fh_disk.proofs.memory_disk.MemoryDiskDisk.sync.Goals as goal

pub invariant_of-self-2 : goal.invariant_of-self-2
invariant_of-self-2 c =
    let then = c.note_sync.ensures in
    record {
      kept = gives_after_sync c.note_sync.result c.args.self.now.past c.note_sync.new.past
          c.args.self.now.bytes.items then.ok then.err c.args.self.now.kept;
    }

pub returns-in-Ok-clause-durable : goal.returns-in-Ok-clause-durable
returns-in-Ok-clause-durable c =
    subst (λ (r : Option Recorded). OnlyTold (told_by r) (left_by r)) (sym c.in-Ok.ensures.ok)
    (only_synced c.args.self.now.past)

pub returns-in-Ok-clause-images : goal.returns-in-Ok-clause-images
returns-in-Ok-clause-images c =
    subst (λ (r : Option Recorded). NoNewImage (left_by c.args.self.now.past) (left_by r)) (sym c.in-Ok.ensures.ok)
    (no_new_image c.args.self.now.past)
