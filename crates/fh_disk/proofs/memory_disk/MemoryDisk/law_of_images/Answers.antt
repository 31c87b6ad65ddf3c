use Rattle.std.proofs.Common.{◌≡◌, List, [], ℕ, Option, Some, None, IfSome}
use Rattle.fh_disk.specs.Images.{IsImage, synced_bytes, unsynced_writes}
use Rattle.fh_disk.specs.Recorded.{Recorded, left_by}
use Rattle.fh_disk.proofs.Calls.{all_calls, calls_all}
use Rattle.fh_disk.proofs.Images.{only_images, all_images, synced_image, image_synced}
use Rattle.fh_disk.proofs.memory_disk.MemoryDisk.law_of_images.Goals as goal

only_left : (past : Option Recorded) → IfSome past
    (λ r. (c : List ℕ) → left_by (Some r) c → IsImage (synced_bytes r) (unsynced_writes r) c)
only_left None = tt
only_left (Some r) = λ c left. only_images r.first r.first [] (λ new. new ≡ r.first) (synced_image r.first) r.calls c
    (all_calls r c left)

each_left : (past : Option Recorded) → IfSome past
    (λ r. (c : List ℕ) → IsImage (synced_bytes r) (unsynced_writes r) c → left_by (Some r) c)
each_left None = tt
each_left (Some r) = λ c image. calls_all r c
    (all_images r.first r.first [] (λ new. new ≡ r.first) (image_synced r.first) r.calls c image)

pub returns-clause-only : goal.returns-clause-only
returns-clause-only c = only_left c.args.self.now.past

pub returns-clause-each : goal.returns-clause-each
returns-clause-each c = each_left c.args.self.now.past
