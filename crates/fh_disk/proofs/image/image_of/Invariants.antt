use Rattle.std.proofs.Common.{◌≡◌, take}
use Rattle.fh_disk.specs.Images.{synced_by}
use Rattle.fh_disk.specs.Recorded.{replayed, Leaves}
use Rattle.fh_disk.proofs.image.image_of.Given as goal

abbrev pub invariant-loop-call : goal.invariant-loop-call
invariant-loop-call l = record {
  choice : l.draw.choice ≡ l.choice;
  file : l.file.items ≡ replayed l.first (take l.call-index l.calls);
  image : Leaves l.first (λ c. c ≡ l.first) (take l.call-index l.calls) l.image.items;
  lost : l.choice ≡ 0 → l.image.items ≡ synced_by l.first l.first (take l.call-index l.calls);
  whole : l.choice ≡ 1 → l.image.items ≡ l.file.items;
}
