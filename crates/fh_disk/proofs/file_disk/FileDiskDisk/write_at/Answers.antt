-- Nothing is told of what a crash may leave, so it may leave what it might have left before.
use Rattle.std.proofs.Common.{length}
use Rattle.fh_disk.specs.Torn.{torn_same}
use Rattle.fh_disk.proofs.file_disk.FileDiskDisk.write_at.Goals as goal

pub returns-in-Ok-written-clause-images : goal.returns-in-Ok-written-clause-images
returns-in-Ok-written-clause-images g c = λ image any. (image, tt, torn_same c.args.at (length c.args.bytes.now) image)

pub returns-in-Err-written-clause-images : goal.returns-in-Err-written-clause-images
returns-in-Err-written-clause-images g c = λ image any. (image, tt, torn_same c.args.at (length c.args.bytes.now) image)
