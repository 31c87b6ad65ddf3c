-- Settings that no rule refuses have a schedule where they name one.
use Rattle.std.proofs.Common.{◌≡◌, ℕ, Bool, true, false, List, [], ◌∷◌, Option, Some, None, refl}
use Rattle.std.specs.Prelude.{if◌then◌else◌, slice_index}
use Rattle.fh_base.specs.declared.rule.Rule.{Rule}
use Rattle.fh_base.specs.declared.rule.Rule.TheVariants.{OutOfRange}
use Rattle.fh_event.specs.declared.settings.FunctionSettings.{FunctionSettings}
use Rattle.fh_event.specs.declared.settings.FunctionSettings.TheVariants.{Queue, Blob, Timer}
use Rattle.fh_ncrontab.specs.Schedule.{are_masks}
use Rattle.fh_ncrontab.specs.Sets.{is_mask, all_numbers}
use Rattle.fh_dispatch.specs.Rules.{first_broken, mask_rule, settings_rule}
use Rattle.fh_dispatch.specs.Laws.{HasSchedule}

none_broken : (rule : Option Rule) (rules : List (Option Rule)) → first_broken (rule ∷ rules) ≡ None
    → (rule ≡ None) × (first_broken rules ≡ None)
none_broken None rules none = (refl, none)
none_broken (Some rule) rules none = absurd cc

mask_passes : (low high mask : ℕ) → mask_rule low high mask ≡ None → is_mask low high mask ≡ true
mask_passes low high mask none = by_test (is_mask low high mask) none
  where
    by_test : (b : Bool) → (if b then None else Some (OutOfRange mask 1 (all_numbers low high))) ≡ None → b ≡ true
    by_test true is = refl
    by_test false is = absurd cc

masks_pass : (masks : List ℕ) (startup monitor : Bool) (singleton : ℕ)
    → settings_rule (Timer masks startup monitor singleton) ≡ None → are_masks masks ≡ true
masks_pass masks startup monitor singleton fits =
    let second = none_broken (mask_rule 0 59 (slice_index masks 0)) _ (none_broken _ [] fits).0 in
    let minute = none_broken (mask_rule 0 59 (slice_index masks 1)) _ second.1 in
    let hour = none_broken (mask_rule 0 23 (slice_index masks 2)) _ minute.1 in
    let day = none_broken (mask_rule 1 31 (slice_index masks 3)) _ hour.1 in
    let month = none_broken (mask_rule 1 12 (slice_index masks 4)) _ day.1 in
    let weekday = none_broken (mask_rule 0 6 (slice_index masks 5)) _ month.1 in
    rw (
      mask_passes 0 59 _ second.0,
      mask_passes 0 59 _ minute.0,
      mask_passes 0 23 _ hour.0,
      mask_passes 1 31 _ day.0,
      mask_passes 1 12 _ month.0,
      mask_passes 0 6 _ weekday.0,
    )
    refl

pub is_scheduled : (settings : FunctionSettings) → settings_rule settings ≡ None → HasSchedule settings
is_scheduled (Queue queue batch threshold limit retry singleton) fits = tt
is_scheduled (Blob batch threshold limit retry singleton) fits = tt
is_scheduled (Timer masks startup monitor singleton) fits = masks_pass masks startup monitor singleton fits
