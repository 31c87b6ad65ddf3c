-- What is answered of a message.
use Rattle.std.specs.Prelude.{ℕ, nat_lt, ◌&&◌, if◌then◌else◌}
use Rattle.fh_event.specs.declared.reply.Place.{Place}
use Rattle.fh_event.specs.declared.reply.Place.TheVariants as place
use Rattle.fh_queues.specs.declared.row.Message.{Message}
use Rattle.fh_queues.specs.declared.done.Ending.{Ending}
use Rattle.fh_queues.specs.declared.done.Ending.TheVariants.{Deleted, Completed, Moved, Expired}
use Rattle.fh_queues.specs.Rows.{is_live}
use Rattle.fh_queues.specs.Part.{QueuePart}
use Rattle.fh_queues.specs.Seen.{Seen, Unborn, Stands, Ended, seen}

-- held before its visible time, where the last change of its visibility was a hold
abbrev pub place_of_live : ℕ → Message → Place
place_of_live m row =
    if row.held && nat_lt m row.visible_at then place.Held row.queue row.visible_at else place.Waiting row.queue

abbrev pub place_of_row : ℕ → Message → Place
place_of_row m row = if is_live m row then place_of_live m row else place.Expired

abbrev pub place_of_ending : Ending → Place
place_of_ending Deleted = place.Deleted
place_of_ending (Completed invocation) = place.Completed invocation
place_of_ending (Moved copy) = place.Moved copy
place_of_ending Expired = place.Expired

abbrev pub place_by : ℕ → Seen → Place
place_by m Unborn = place.Unknown
place_by m (Stands row) = place_of_row m row
place_by m (Ended ending) = place_of_ending ending

abbrev pub place_of : QueuePart → ℕ → ℕ → Place
place_of part number m = place_by m (seen number part)
