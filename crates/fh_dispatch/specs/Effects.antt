-- Effects as the code keeps them, with the asks that they are.
use Rattle.std.specs.Prelude.{option_map}
use Rattle.fh_queues.specs.Asks as queues
use Rattle.fh_blobs.specs.Asks as blobs
use Rattle.fh_leases.specs.Asks as leases
use Rattle.fh_dispatch.specs.declared.ruling.QueueEffect.{QueueEffect}
use Rattle.fh_dispatch.specs.declared.ruling.QueueEffect.TheVariants as on_queues
use Rattle.fh_dispatch.specs.declared.ruling.LeaseEffect.{LeaseEffect}
use Rattle.fh_dispatch.specs.declared.ruling.LeaseEffect.TheVariants as on_leases
use Rattle.fh_dispatch.specs.declared.ruling.Effect.{Effect as OwnEffect}
use Rattle.fh_dispatch.specs.declared.ruling.Ruling.{Ruling as OwnRuling}
use Rattle.fh_dispatch.specs.declared.ruling.Ruling.TheVariants as own
use Rattle.fh_dispatch.specs.Rulings.{Effect, Ruling, Refused, Unchanged, Changed}

abbrev pub queue_ask_of : QueueEffect → queues.Ask
queue_ask_of (on_queues.Release message delay) = queues.Release message delay
queue_ask_of (on_queues.Renew messages) = queues.Renew messages.items 600
queue_ask_of (on_queues.Complete invocation message outputs) = queues.Complete invocation message outputs.now
queue_ask_of (on_queues.Poison message queue) = queues.Poison message queue

abbrev pub lease_ask_of : LeaseEffect → leases.Ask
lease_ask_of (on_leases.Acquire name holder seconds) = leases.Acquire name holder seconds
lease_ask_of (on_leases.Release name holder) = leases.Release name holder
lease_ask_of (on_leases.RenewAll held) = leases.RenewAll held.items

abbrev pub effect_of : OwnEffect → Effect
effect_of effect = record {
  queues = option_map queue_ask_of effect.queues;
  blobs = option_map (λ new. blobs.PutAll new.items) effect.blobs;
  leases = option_map lease_ask_of effect.leases;
  acts = effect.acts.items;
  told = effect.told;
}

abbrev pub ruling_of : OwnRuling → Ruling
ruling_of (own.Refused rule) = Refused rule
ruling_of (own.Unchanged reply) = Unchanged reply
ruling_of (own.Changed effect) = Changed (effect_of effect)
