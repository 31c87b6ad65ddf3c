-- Each event of a trace guards the messages.
use Rattle.std.proofs.Common.{◌≡◌, ℕ, List, Some, is_some, refl, sym, ◌∙◌, ap}
use Rattle.std.specs.Prelude.{◌&&◌}
use Rattle.std.specs.List.{All}
use Rattle.std.proofs.lemmas.List.Elements.{All-nil, All-push}
use Rattle.fh_event.specs.declared.command.Command.{Command}
use Rattle.fh_event.specs.declared.command.Command.TheVariants.{Take, Fetch}
use Rattle.fh_event.specs.declared.reply.Reply.{Reply}
use Rattle.fh_queues.specs.declared.row.Message.{Message}
use Rattle.fh_queues.specs.declared.done.QueueDone.{QueueDone}
use Rattle.fh_queues.specs.declared.done.QueueDone.TheVariants as done
use Rattle.fh_queues.specs.Rows.{is_visible, row_of}
use Rattle.fh_queues.specs.Part.{QueuePart, end_of}
use Rattle.fh_queues.specs.Seen.{Stands, seen_by, seen}
use Rattle.fh_queues.specs.Receipts.{listed_item, touches}
use Rattle.fh_queues.specs.Asks.{Ask}
use Rattle.fh_queues.specs.Tellings.{items_in, lists as lists_item}
use Rattle.fh_queues.proofs.Lawful.{is_some-item_of, row_seen, keeps_untouched, raises_receipts}
use Rattle.fh_hub.specs.World.{World, effective_moment}
use Rattle.fh_hub.specs.Stores.{Parts}
use Rattle.fh_hub.specs.Replay.{Entry, Event, trace}
use Rattle.fh_hub.specs.Signs.{lists, queue_found, signs_of}
use Rattle.fh_hub.specs.Guards.{GuardsMessages}
use Rattle.fh_hub.proofs.Steps.{Made, IsAskedOf, as_asked, IsKept, event, kept_by_all}
use Rattle.fh_hub.proofs.Told.{Told, reply_as_told, told_kept, told_none}

listed_as_lists : (n : ℕ) (answer : QueueDone) → is_some (listed_item answer n) ≡ lists_item n (items_in answer)
listed_as_lists n done.Made = refl
listed_as_lists n done.There = refl
listed_as_lists n (done.Stored number receipt) = refl
listed_as_lists n (done.Taken items) = is_some-item_of n items
listed_as_lists n done.Empty = refl
listed_as_lists n (done.Updated receipt) = refl
listed_as_lists n done.Deleted = refl
listed_as_lists n (done.Cleared count) = refl
listed_as_lists n (done.Released receipt visible_at) = refl
listed_as_lists n (done.Renewed messages) = refl
listed_as_lists n (done.Completed number receipt count) = refl
listed_as_lists n (done.Poisoned copy receipt) = refl
listed_as_lists n done.Swept = refl

touches_as_told : (parts : Parts) (m : ℕ) (command : Command) (reply : Reply) (ask : Ask) (answer : QueueDone)
    (row : Message)
    → IsAskedOf parts command ask → lists row.number reply ≡ lists_item row.number (items_in answer)
    → touches m ask answer row ≡ (signs_of parts m command reply).acts_on row
touches_as_told parts m (Fetch function) reply ask answer row asked listed =
    ap (λ a. touches m a answer row) asked.2
    ∙ ap (λ among. is_visible asked.0.queue m row && among) (listed_as_lists row.number answer ∙ sym listed)
    ∙ ap (λ found. is_visible (queue_found found) m row && lists row.number reply) (sym asked.1)
touches_as_told parts m (Take queue count hold) reply ask answer row asked listed =
    ap (λ a. touches m a answer row) asked
    ∙ ap (λ among. is_visible queue m row && among) (listed_as_lists row.number answer ∙ sym listed)
touches_as_told parts m command reply ask answer row asked listed =
    sym (as_asked parts command ask (λ a. touches m a answer row) refl asked (λ queue. refl))

-- a row is seen
pub stands_seen : (n : ℕ) (part : QueuePart) (row : Message) → row_of n part.rows ≡ Some row → seen n part ≡ Stands row
stands_seen n part row found = ap (λ r. seen_by r (end_of n part.ends)) found

guards : (events : List Event) (w : World) (command : Command) (now : ℕ) (new : World) (reply : Reply) → Told events w
    → Made w command now new reply → GuardsMessages (event w command now reply new)
guards events w command now new reply h made =
    let m = effective_moment w now in
    let part = w.parts.queues in
    record {
      untouched = λ row found alive untouched.
          row_seen row.number new.parts.queues row
          (keeps_untouched part made.ask m new.parts.queues made.done.queues h.whole made.queues row
          (stands_seen row.number part row found) alive
          (touches_as_told w.parts m command reply made.ask made.done.queues row made.asked
          ((reply_as_told events w command now new reply h made).lists row.number) ∙ untouched));
      rises = λ n before later was stands.
          raises_receipts part made.ask m new.parts.queues made.done.queues h.whole made.queues n before later
          (stands_seen n part before was) (stands_seen n new.parts.queues later stands);
    }

abbrev Guarded : List Event → World → Type 0
Guarded events w = Told events w × All GuardsMessages events

guarded_kept : IsKept Guarded
guarded_kept events w command now new reply h made = (
  told_kept events w command now new reply h.0 made,
  All-push GuardsMessages events (event w command now reply new) h.1 (guards events w command now new reply h.0 made),
)

pub all_guard : (history : List Entry) → All GuardsMessages (trace history)
all_guard history = (kept_by_all Guarded guarded_kept (told_none, All-nil GuardsMessages) history).1
