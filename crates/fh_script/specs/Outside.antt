-- What the objects of a run tell, and what a crash may leave of its journal.
use Rattle.std.specs.Prelude.{◌≡◌, ◌⊎◌, ℕ, ◌==◌, List, Option, IfSome, MatchBool}
use Rattle.fh_base.specs.Faults.{Rose}
use Rattle.fh_base.specs.declared.source.Source.{Ghosts as SourceGhosts}
use Rattle.fh_base.specs.declared.sink.Sink.{Ghosts as SinkGhosts}
use Rattle.fh_disk.specs.Moments.{LeavesOnly}
use Rattle.fh_disk.specs.declared.disk.Disk.{Ghosts}

-- what the objects tell at one moment, and their counts of faults
pub record Outside : Type 0 where
  pub left : Option (List ℕ)
  pub read_faults : ℕ
  pub written : Option (List ℕ)
  pub write_faults : ℕ
  pub told : Option (List ℕ)
  pub disk_faults : ℕ

abbrev pub outside_of : {A B D : Type 0} → SourceGhosts A → SinkGhosts B → Ghosts D → A → B → D → Outside
outside_of S O J source sink disk = record {
  left = S.left source;
  read_faults = S.read_faults source;
  written = O.written sink;
  write_faults = O.write_faults sink;
  told = J.told disk;
  disk_faults = J.disk_faults disk;
}

-- that each image of a disk at any moment since a run began is one that it had then, or has some property
abbrev pub Imaging : Type 1
Imaging = (List ℕ → Type 0) → Type 0

abbrev pub crash_of : {D : Type 0} → Ghosts D → D → D → Imaging
crash_of J old new P = IfSome (J.told old)
    (λ _. LeavesOnly J.moment J.left_since old new (λ c. J.may_leave old c ⊎ P c))

-- an object has counted a fault exactly at its own status: the source at 5, the disk at 6 and the sink at 7
pub record Counts (was now : Outside) (code : ℕ) : Type 0 where
  pub reading : MatchBool (code == 5) (Rose was.read_faults now.read_faults) (now.read_faults ≡ was.read_faults)
  pub disk : MatchBool (code == 6) (Rose was.disk_faults now.disk_faults) (now.disk_faults ≡ was.disk_faults)
  pub writing : MatchBool (code == 7) (Rose was.write_faults now.write_faults) (now.write_faults ≡ was.write_faults)
