-- What the work asks of the other stores.
use Rattle.std.specs.Prelude.{ℕ, Option, None}
use Rattle.fh_queues.specs.Asks as queues
use Rattle.fh_blobs.specs.Asks as blobs
use Rattle.fh_leases.specs.Asks as leases
use Rattle.fh_dispatch.specs.Part.{WorkPart, Others}
use Rattle.fh_dispatch.specs.Asks.{Ask, Configure, Fetch, Begin, Finish, Renewals}
use Rattle.fh_dispatch.specs.Queues.{trigger_of, configuring_queues, fetching_queue}
use Rattle.fh_dispatch.specs.Rulings.{queues_in, blobs_in, leases_in}
use Rattle.fh_dispatch.specs.Begin.{begin_of}
use Rattle.fh_dispatch.specs.Finish.{finish_of}
use Rattle.fh_dispatch.specs.Renewals.{renewals_of}

-- what an ask that is accepted asks of the queues at a moment, if it asks something of them
unfoldable pub asks_queues : WorkPart → Others → Ask → ℕ → Option queues.Ask
asks_queues part others (Configure name settings) m = configuring_queues part others.queues name settings
asks_queues part others (Fetch name) m = fetching_queue part (trigger_of name part.functions)
asks_queues part others (Begin name high low) m = queues_in (begin_of part others name high low m)
asks_queues part others (Finish invocation outcome) m = queues_in (finish_of part others invocation outcome m)
asks_queues part others Renewals m = queues_in (renewals_of part others m)
asks_queues part others ask m = None

-- of the blobs
unfoldable pub asks_blobs : WorkPart → Others → Ask → ℕ → Option blobs.Ask
asks_blobs part others (Begin name high low) m = blobs_in (begin_of part others name high low m)
asks_blobs part others (Finish invocation outcome) m = blobs_in (finish_of part others invocation outcome m)
asks_blobs part others Renewals m = blobs_in (renewals_of part others m)
asks_blobs part others ask m = None

-- and of the leases
unfoldable pub asks_leases : WorkPart → Others → Ask → ℕ → Option leases.Ask
asks_leases part others (Begin name high low) m = leases_in (begin_of part others name high low m)
asks_leases part others (Finish invocation outcome) m = leases_in (finish_of part others invocation outcome m)
asks_leases part others Renewals m = leases_in (renewals_of part others m)
asks_leases part others ask m = None
