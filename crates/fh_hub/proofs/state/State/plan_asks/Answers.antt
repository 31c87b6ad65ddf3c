use Rattle.std.proofs.Common.{◌≡◌, ◌∙◌, arith, refl, sym, length, Some, None, ℕ, ap}
use Rattle.std.proofs.lemmas.Grind.{common_steps}
use Rattle.std.proofs.Common.{rules}
use Rattle.fh_event.specs.Entries.{entry}
use Rattle.fh_event.specs.declared.reply.Reply.{Reply}
use Rattle.fh_event.specs.Judging.{Quiets, Makes}
use Rattle.fh_hub.specs.Stores.{Parts, Asks, Done, outcomes, too_full}
use Rattle.fh_hub.specs.StoreEdits.{asks_of, changed, answered}
use Rattle.fh_hub.specs.Replies.{reply_of}
use Rattle.fh_hub.specs.World.{World, Quieted, full_rule, judged}
use Rattle.fh_hub.specs.State.{world_of}
use Rattle.fh_hub.proofs.Recording.{made_is_recorded, made_is_refused, step_is_at, step_at_asks, fits}
use Rattle.fh_hub.proofs.Steps.{masks_by_asks, list_by_asks}
use Rattle.fh_hub.proofs.state.State.plan_asks.Goals as goal

pub returns-clause-ok : goal.returns-clause-ok
returns-clause-ok c =
    let w : World = world_of c.args.self.now in
    let all : Asks = asks_of c.args.asks.now in
    let m = c.args.m in
    let command = c.args.command.now in
    let size : ℕ = length (entry m command) in
    let after : Parts = changed w.parts c.in_ok-stores.stores in
    let answer : Done = answered c.in_ok-stores.stores in
    let done : outcomes w.parts all m ≡ Makes after answer =
    grind (arith, common_steps, c.is_quiet.ensures.loud w.parts) in
    let unfull : full_rule w.gate size (too_full w.parts all m) ≡ None =
    grind (arith, common_steps, c.full_rule.ensures size (c.entry_size.ensures.size m)) in
    let fit = fits w.gate size (too_full w.parts all m) unfull in
    let records = made_is_recorded w m size (too_full w.parts all m) (outcomes w.parts all m)
    after answer done unfull in
    record {
      steps = records;
      moment = refl;
      planned = record {
        steps = step_is_at w command m (search rules) c.requires.own_moment
            ∙ step_at_asks w command m all c.requires.asks ∙ records;
        own_moment = c.requires.own_moment;
        outcome = record { command = command; asks = all; moment = m; asked = c.requires.asks; is = done };
        masks = masks_by_asks w.parts command m all c.requires.asks (search rules);
        list = list_by_asks w.parts command m all c.requires.asks;
        texts = c.entry_size.ensures.short (omega (arith, fit.short, c.entry_size.ensures.size m));
        short = fit.short;
        room = fit.room;
      };
    }

pub returns-then-is_quiet-clause-ok : goal.returns-then-is_quiet-clause-ok
returns-then-is_quiet-clause-ok c =
    let w : World = world_of c.args.self.now in
    let all : Asks = asks_of c.args.asks.now in
    let m = c.args.m in
    let size : ℕ = length (entry m c.args.command.now) in
    let answer : Done = answered c.in_ok-stores.stores in
    let done : outcomes w.parts all m ≡ Quiets answer = grind (arith, common_steps, c.is_quiet.ensures.quiet w.parts) in
    let reply : c.reply_of.result ≡ reply_of answer = c.reply_of.ensures ∙ ap reply_of c.into_done.ensures in
    ap (judged w m size (too_full w.parts all m)) done ∙ ap (λ (r : Reply). Quieted r) (sym reply)

pub returns-in-Some-clause-err : goal.returns-in-Some-clause-err
returns-in-Some-clause-err c =
    let w : World = world_of c.args.self.now in
    let all : Asks = asks_of c.args.asks.now in
    let m = c.args.m in
    let size : ℕ = length (entry m c.args.command.now) in
    let after : Parts = changed w.parts c.in_ok-stores.stores in
    let answer : Done = answered c.in_ok-stores.stores in
    let done : outcomes w.parts all m ≡ Makes after answer =
    grind (arith, common_steps, c.is_quiet.ensures.loud w.parts) in
    let full : full_rule w.gate size (too_full w.parts all m) ≡ Some c.in-Some.rule =
    grind (arith, common_steps, c.full_rule.ensures size (c.entry_size.ensures.size m)) in
    made_is_refused w m size (too_full w.parts all m) (outcomes w.parts all m) after answer c.in-Some.rule done full
