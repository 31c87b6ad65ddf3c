-- The other stores with their parts of the world.
use Rattle.fh_queues.specs.Edits as queue_edits
use Rattle.fh_blobs.specs.Edits as blob_edits
use Rattle.fh_leases.specs.Edits as lease_edits
use Rattle.fh_dispatch.specs.declared.stores.Stores.{Stores}
use Rattle.fh_dispatch.specs.Part.{Others, others_with}

abbrev pub others_of : Stores → Others
others_of stores =
    others_with stores.queues.now.part stores.blobs.now.part stores.leases.now.part stores.timers.now.part

-- nothing is staged in them, and their counters are far from their ends
pub record AreReady (stores : Stores) : Type 0 where
  pub queues : queue_edits.IsIdle stores.queues.now
  pub queue_numbers : queue_edits.HasNumbers stores.queues.now.part
  pub blobs : blob_edits.IsIdle stores.blobs.now
  pub blob_numbers : blob_edits.HasNumbers stores.blobs.now.part
  pub leases : lease_edits.IsIdle stores.leases.now
