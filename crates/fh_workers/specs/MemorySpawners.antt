-- What a spawner in memory holds.
use Rattle.std.specs.Prelude.{ℕ, ◌-◌, length}
use Rattle.fh_workers.specs.declared.memory_spawner.MemorySpawner.{MemorySpawner}

-- the starts that no stop has followed
abbrev pub running_of : MemorySpawner → ℕ
running_of spawner = length spawner.starts.items - spawner.stopped
