use Rattle.std.proofs.Common.{arith, ◌≡◌, ◌+◌, ◌<◌, ◌≤◌, ℕ, List, length, sym, subst, ◌≢◌, inl, inr}
use Rattle.std.specs.Prelude.{◌⊎◌}
use Rattle.fh_queues.specs.declared.slot.Slot.{Slot}
use Rattle.std.proofs.lemmas.Bool.Decides.{nat_tests}
use Rattle.fh_queues.specs.declared.act.Which.{Which}
use Rattle.fh_queues.specs.declared.act.Which.TheVariants.{Numbered}
use Rattle.fh_queues.specs.Acts.{is_one, numbered}
use Rattle.fh_queues.specs.Index.{Skips}
use Rattle.fh_queues.proofs.Indexes as indexes
use Rattle.fh_queues.proofs.Slots as rows_at
use Rattle.fh_queues.proofs.Sweeps.{Sweeps, sweeps-start, sweeps-skip, sweeps-one, sweeps-end}
use Rattle.fh_queues.proofs.Keeping as keeping
use Rattle.fh_queues.proofs.lists.Lists.end_one.Goals as goal

-- only the row of that number passes
single : (number at : ℕ) (slots : List Slot) → rows_at.AreNumbered 0 slots → at + 1 ≡ number → (from to : ℕ) → (to ≤ at) ⊎ (at < from) → Skips (is_one (Numbered number)) slots from to
single number at slots numbered is from to apart i row place low high stands =
    let its : row.number ≡ i + 1 = omega (arith, numbered i row place stands) in
    let differ : row.number ≢ number = λ same. absurd (omega (arith, its, same, is, low, high, apart)) in
    grind (arith, nat_tests, differ)

pub returns-in-Some : goal.returns-in-Some
returns-in-Some c =
    let was = c.args.self.now.slots.items in
    let at = c.in-Some.at in
    let number = c.args.number in
    let test = is_one c.args.which.now in
    let one = is_one (Numbered number) in
    let counted = indexes.numbered _ was _ c.requires.sound.indexed in
    let before : Skips test was 0 at = subst (λ (w : Which). Skips (is_one w) was 0 at) (sym c.requires.which) (single number at was counted c.in-Some.ensures.0 0 at (inl (omega arith))) in
    let here = sweeps-one test c.args.ending at was was (sweeps-skip test c.args.ending 0 at was was (sweeps-start test c.args.ending was) (omega arith) before) c.in-Some.ensures.1 in
    let now = c.end_at.new.self.slots.items in
    let swept : Sweeps test c.args.ending (at + 1) was now = subst (λ (ss : List Slot). Sweeps test c.args.ending (at + 1) was ss) (sym c.end_at.ensures.slots) here in
    let behind : Skips test now (at + 1) (length now) = subst (λ (w : Which). Skips (is_one w) now (at + 1) (length now)) (sym c.requires.which) (single number at now (indexes.numbered _ now _ c.end_at.ensures.sound.indexed) c.in-Some.ensures.0 (at + 1) (length now) (inr (omega arith))) in
    record {
      slots = sweeps-end test c.args.ending was now (sweeps-skip test c.args.ending (at + 1) (length now) was now swept (omega (arith, swept.same, c.in-Some.ensures.1)) behind);
      sound = record { indexed = c.end_at.ensures.sound.indexed; count = c.end_at.ensures.sound.count };
      stays = c.end_at.ensures.stays;
    }

pub returns-in_default : goal.returns-in_default
returns-in_default c =
    let was = c.args.self.now.slots.items in
    let test = is_one c.args.which.now in
    let counted = indexes.numbered _ was _ c.requires.sound.indexed in
    let none = rows_at.none_beyond c.args.number was counted c.in_default.ensures in
    let nowhere : Skips (is_one (Numbered c.args.number)) was 0 (length was) = λ i row place low high stands. let differ = none i row place stands in grind (arith, nat_tests, differ) in
    let skips : Skips test was 0 (length was) = subst (λ (w : Which). Skips (is_one w) was 0 (length was)) (sym c.requires.which) nowhere in
    record {
      slots = sweeps-end test c.args.ending was was (sweeps-skip test c.args.ending 0 (length was) was was (sweeps-start test c.args.ending was) (omega arith) skips);
      sound = record { indexed = c.requires.sound.indexed; count = c.requires.sound.count };
      stays = keeping.stays-same c.args.self.now;
    }
