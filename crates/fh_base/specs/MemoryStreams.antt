-- What a source and a sink in memory hold.
use Rattle.std.specs.Prelude.{ℕ, List, drop}
use Rattle.fh_base.specs.declared.source.MemorySource.{MemorySource}
use Rattle.fh_base.specs.declared.sink.MemorySink.{MemorySink}

-- the bytes that reads will still give
abbrev pub bytes_left : MemorySource → List ℕ
bytes_left source = drop source.place source.bytes.items

-- the bytes that writes have brought
abbrev pub bytes_written : MemorySink → List ℕ
bytes_written sink = sink.bytes.items
