-- What a disk in memory holds.
use Rattle.std.specs.Prelude.{ℕ, ◌+◌, ◌-◌, ◌^◌, min, Bool, true, false, List, [], Option, Some, None}
use Rattle.fh_base.specs.FaultPlan.{raised}
use Rattle.fh_base.specs.declared.fault_plan.Failing.TheVariants.{After}
use Rattle.fh_base.specs.declared.fault_plan.FaultPlan.{FaultPlan}
use Rattle.fh_disk.specs.declared.record.Call.{Call}
use Rattle.fh_disk.specs.Moments.{Elapses}
use Rattle.fh_disk.specs.Recorded.{Recorded, told_by, left_by, moment_of, left_since_by}
use Rattle.fh_disk.specs.declared.memory_disk.MemoryDisk.{MemoryDisk}

-- what reads give
abbrev pub bytes_of : MemoryDisk → List ℕ
bytes_of disk = disk.bytes.items

-- the record that it keeps, or none
abbrev pub past_of : MemoryDisk → Option Recorded
past_of disk = disk.past

-- what it tells of them, and what a crash may leave
abbrev pub told_of : MemoryDisk → Option (List ℕ)
told_of disk = told_by disk.past

abbrev pub images_of : MemoryDisk → List ℕ → Type 0
images_of disk = left_by disk.past

-- the clock of moments goes on
abbrev pub TimeGoesOn : MemoryDisk → MemoryDisk → Type 0
TimeGoesOn old new = Elapses (moment_of old.past) (moment_of new.past) (left_since_by old.past)
    (left_since_by new.past) (left_by new.past)

abbrev pub calls_of : Option Recorded → List Call
calls_of None = []
calls_of (Some r) = r.calls

-- so many calls more pass, and every later one fails
abbrev pub stopped : ℕ → FaultPlan → FaultPlan
stopped passed plan = record plan { failing = After (min (plan.calls + passed) (2 ^ 64 - 1)) }

-- the count of reads that passed, after one that passed or not
abbrev pub reads_after : Bool → ℕ → ℕ
reads_after true reads = raised reads
reads_after false reads = reads
