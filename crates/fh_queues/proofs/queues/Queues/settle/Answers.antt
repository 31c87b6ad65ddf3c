use Rattle.std.proofs.Common.{rules, ◌≡◌, List, Some, ap, subst, sym, arith}
use Rattle.std.specs.Prelude.{option_map}
use Rattle.std.proofs.lemmas.Grind.{common_steps}
use Rattle.fh_event.specs.Judging.{Makes}
use Rattle.fh_queues.specs.declared.act.Act.{Act}
use Rattle.fh_queues.specs.Acts.{by_acts}
use Rattle.fh_queues.specs.Edits.{QueueState, acts_in}
use Rattle.fh_queues.specs.Lists.{part_of}
use Rattle.fh_queues.specs.Outcome.{outcome}
use Rattle.fh_queues.specs.Whole.{IsWhole}
use Rattle.fh_queues.proofs.Fairness.{Whole-outcome}
use Rattle.fh_queues.proofs.queues.Queues.settle.Goals as goal

pub invariant_of-self : goal.invariant_of-self
invariant_of-self c =
    let ask = c.requires.planned.ask in
    let m = c.requires.planned.moment in
    let part = part_of c.self.inside.lists in
    let of_state =
    subst (λ (s : QueueState). outcome s.part ask m ≡ Makes (by_acts s.part (acts_in s.ahead)) c.args.staged.done)
    (sym c.self.view_is) c.requires.planned.is in
    let ahead : c.self.inside.ahead ≡ Some c.in-Some.acts = grind (arith, common_steps) in
    let acts : acts_in (option_map (λ v. v.items) c.self.inside.ahead) ≡ c.in-Some.acts.items =
    ap (λ a. acts_in (option_map (λ v. v.items) a)) ahead in
    let planned : outcome part ask m ≡ Makes (by_acts part c.in-Some.acts.items) c.args.staged.done =
    subst (λ (a : List Act). outcome part ask m ≡ Makes (by_acts part a) c.args.staged.done) acts of_state in
    let whole : IsWhole (part_of c.act_all.new.self) =
    subst IsWhole (sym c.act_all.ensures.part) (Whole-outcome part ask m _ _ c.self.invariant.0 planned) in
    let sound = c.act_all.ensures.sound in
    (whole, record { indexed = sound.indexed; count = sound.count }, search rules)
