-- What the code asks for a command, as the machine does.
use Rattle.std.specs.Prelude.{Some, None}
use Rattle.fh_queues.specs.Asks as queues
use Rattle.fh_blobs.specs.Asks as blobs
use Rattle.fh_leases.specs.Asks as leases
use Rattle.fh_timers.specs.declared.ask.TimerAsk.TheVariants.{Nothing}
use Rattle.fh_dispatch.specs.Asks as work
use Rattle.fh_hub.specs.Stores.{Asks}
use Rattle.fh_hub.specs.Asked.{Asked, Refuses, Reads, AsksAll}
use Rattle.fh_hub.specs.StoreEdits.{asks_of}
use Rattle.fh_hub.specs.declared.asking.Asked.TheVariants as code
use Rattle.fh_hub.specs.declared.asking.Asked as declared
use Rattle.fh_hub.specs.declared.note.NewNote.{NewNote}

-- what a new note asks
abbrev pub asks_of_note : NewNote → Asks
asks_of_note note = record {
  queues = queues.Put note.queue 0 None note.text (Some note.about);
  blobs = blobs.Note note.function note.about.container note.about.blob;
  leases = leases.Nothing;
  timers = Nothing;
  work = work.Nothing;
}

abbrev pub asked_as : declared.Asked → Asked
asked_as (code.Refuses rule) = Refuses rule
asked_as (code.Reads reply) = Reads reply
asked_as (code.Notes note) = AsksAll (asks_of_note note)
asked_as (code.Asks asks) = AsksAll (asks_of asks)
