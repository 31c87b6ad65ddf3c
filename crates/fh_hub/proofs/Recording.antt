-- A step that is recorded, put together from what the queues answer.
use Rattle.std.proofs.Common.{◌≡◌, ℕ, ◌≤◌, Bool, true, false, [], ◌∷◌, Option, length, refl, arith, ap, ◌∙◌}
use Rattle.std.specs.Prelude.{◌-◌, ◌^◌, min, nat_le, nat_lt, if◌then◌else◌, Some, None, option_map}
use Rattle.std.proofs.lemmas.Bool.Decides.{nat_tests}
use Rattle.fh_base.specs.Moments.{greatest_moment}
use Rattle.fh_base.specs.declared.rule.Rule.{Rule}
use Rattle.fh_event.specs.declared.command.Command.{Command}
use Rattle.fh_event.specs.Entries.{entry}
use Rattle.fh_base.specs.Limits.{longest_payload}
use Rattle.fh_base.specs.declared.rule.Rule.TheVariants.{TooLarge, JournalFull}
use Rattle.fh_queues.specs.Rules.{first_broken}
use Rattle.fh_journal.specs.Journal.{full_at}
use Rattle.fh_event.specs.Judging.{Judged}
use Rattle.fh_event.specs.Judging as judging
use Rattle.fh_hub.specs.Stores.{Parts, Asks, Done, outcomes, too_full}
use Rattle.fh_hub.specs.Asked.{AsksAll, asked}
use Rattle.fh_hub.specs.World.{World, Refused, judged, full_rule, unless_full, stepped_by, recorded, step, step_at, effective_moment}

-- a command that acts at its own moment
pub step_is_at : (w : World) (command : Command) (m : ℕ) → m ≤ greatest_moment → w.last ≤ m
    → step w command m ≡ step_at w command m
unfolding step
step_is_at w command m early own =
    let first : nat_le m greatest_moment ≡ true = grind (arith, nat_tests, early) in
    let same : effective_moment w m ≡ m = omega (arith, own) in
    rw (first, same) refl

-- what the stores make is recorded where nothing is too full
pub made_is_recorded : (w : World) (m size : ℕ) (full : Option Rule) (found : Judged Parts Done) (parts : Parts)
    (done : Done)
    → found ≡ judging.Makes parts done → full_rule w.gate size full ≡ None
    → judged w m size full found ≡ recorded w m size parts done
made_is_recorded w m size full found parts done is fits =
    ap (judged w m size full) is ∙ ap (λ r. unless_full r (recorded w m size parts done)) fits

-- and refused where something is
pub made_is_refused : (w : World) (m size : ℕ) (full : Option Rule) (found : Judged Parts Done) (parts : Parts)
    (done : Done) (rule : Rule)
    → found ≡ judging.Makes parts done → full_rule w.gate size full ≡ Some rule
    → judged w m size full found ≡ Refused rule
made_is_refused w m size full found parts done rule is fits =
    ap (judged w m size full) is ∙ ap (λ r. unless_full r (recorded w m size parts done)) fits

-- the step of a command that asks the stores
pub step_at_asks : (w : World) (command : Command) (m : ℕ) (all : Asks) → asked w.parts command m ≡ AsksAll all
    → step_at w command m ≡ judged w m (length (entry m command)) (too_full w.parts all m) (outcomes w.parts all m)
unfolding step_at
step_at_asks w command m all is = ap (stepped_by w m (length (entry m command))) is

-- where nothing is too full the entry fits a frame, and the journal has room for it
pub record Fits (gate size : ℕ) : Type 0 where
  pub short : size ≤ longest_payload
  pub room : full_at gate size ≡ None

pub fits : (gate size : ℕ) (full : Option Rule) → full_rule gate size full ≡ None → Fits gate size
fits gate size full is = by_test (nat_lt longest_payload size) refl full (full_at gate size) refl is
  where
    by_test : (long : Bool) → nat_lt longest_payload size ≡ long → (other : Option Rule) (room : Option ℕ)
        → full_at gate size ≡ room
        → first_broken ((if long then Some (TooLarge (min size (2 ^ 64 - 1)) longest_payload) else None)
        ∷ other ∷ option_map (λ at. JournalFull at) room ∷ []) ≡ None
        → Fits gate size
    by_test true test other room roomy is = absurd (cc)
    by_test false test (Some rule) room roomy is = absurd (cc)
    by_test false test None (Some at) roomy is = absurd (cc)
    by_test false test None None roomy is = record { short = grind (arith, nat_tests, test); room = roomy }
