-- What a connection and a door in memory hold.
use Rattle.std.specs.Prelude.{ℕ, ◌==◌, ◌||◌, Bool, false, List, length, Option, Some}
use Rattle.fh_base.specs.FaultPlan.{fails_next, never_fails}
use Rattle.fh_base.specs.MemoryStreams.{bytes_left, bytes_written}
use Rattle.fh_workers.specs.declared.memory_conn.MemoryConn.{MemoryConn}
use Rattle.fh_workers.specs.declared.memory_door.MemoryDoor.{MemoryDoor}

-- the bytes that it will still give, and those that it took
abbrev pub left_of : MemoryConn → List ℕ
left_of conn = bytes_left conn.source

abbrev pub written_of : MemoryConn → List ℕ
written_of conn = bytes_written conn.sink

-- what a read leaves, and what a write leaves
abbrev pub kept_by_reads : MemoryConn → Option (List ℕ) × ℕ × Bool
kept_by_reads conn = (Some (written_of conn), conn.sink.plan.faults, false)

abbrev pub kept_by_writes : MemoryConn → Option (List ℕ) × ℕ × ℕ × Bool
kept_by_writes conn =
    (Some (left_of conn), length (left_of conn), conn.source.plan.faults, never_fails conn.source.plan)

-- the next accept fails: by the plan, or because no connection is left
abbrev pub fails_to_accept : MemoryDoor → Bool
fails_to_accept door = fails_next door.plan || (length door.coming.items == 0)
