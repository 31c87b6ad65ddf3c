use Rattle.std.proofs.Common.{◌≡◌, None, map, take}
use Rattle.fh_queues.specs.Rules.{first_broken, held_rule}
use Rattle.fh_queues.proofs.queues.Queues.all_held_rule.Given as goal

abbrev pub invariant-loop-message : goal.invariant-loop-message
invariant-loop-message l = first_broken (map (held_rule l.self.part l.m) (take l.message-index l.messages)) ≡ None
