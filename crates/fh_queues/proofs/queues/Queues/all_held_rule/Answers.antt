use Rattle.std.proofs.Common.{arith, ◌≡◌, ◌+◌, ◌++◌, ◌∷◌, [], List, Some, map, take, drop, sym, ap, ◌∙◌}
use Rattle.std.specs.Prelude.{Option, get_or}
use Rattle.std.proofs.lemmas.Grind.{common_steps}
use Rattle.std.proofs.lemmas.List.{take-append-drop}
use Rattle.fh_base.specs.declared.rule.Rule.{Rule}
use Rattle.fh_queues.specs.declared.held.HeldMessage.{HeldMessage}
use Rattle.fh_queues.specs.Rules.{first_broken, held_rule}
use Rattle.fh_queues.proofs.Broken.{broken-push, broken-more}
use Rattle.fh_queues.proofs.queues.Queues.all_held_rule.Goals as goal

pub returns-in-Some : goal.returns-in-Some
returns-in-Some c =
    let messages = c.args.messages.now in
    let judge : HeldMessage → Option Rule = held_rule c.args.self.now.part c.args.m in
    let at = c.loop-message.message-index in
    let message : HeldMessage = get_or messages at record { number = 0; receipt = 0 } in
    let more : take (at + 1) messages ≡ take at messages ++ message ∷ [] = grind (arith, common_steps) in
    let broken : first_broken (map judge (take (at + 1) messages)) ≡ Some c.in-Some.rule =
    ap (λ (ms : List HeldMessage). first_broken (map judge ms)) more
    ∙ broken-push judge (take at messages) message c.loop-message.invariant ∙ sym c.held_rule.ensures
    ∙ c.in-Some.is in
    sym (broken-more judge (take (at + 1) messages) (drop (at + 1) messages) c.in-Some.rule broken)
    ∙ ap (λ (ms : List HeldMessage). first_broken (map judge ms)) (take-append-drop (at + 1) messages)

pub loop-message-preserved : goal.loop-message-preserved
loop-message-preserved c =
    let messages = c.args.messages.now in
    let judge : HeldMessage → Option Rule = held_rule c.args.self.now.part c.args.m in
    let at = c.loop-message.message-index in
    let message : HeldMessage = get_or messages at record { number = 0; receipt = 0 } in
    let more : take (at + 1) messages ≡ take at messages ++ message ∷ [] = grind (arith, common_steps) in
    ap (λ (ms : List HeldMessage). first_broken (map judge ms)) more
    ∙ broken-push judge (take at messages) message c.loop-message.invariant ∙ sym c.held_rule.ensures
    ∙ c.in_default.is
