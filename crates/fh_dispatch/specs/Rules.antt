-- The rules that refuse what is asked of the work, in order of their numbers.
use Rattle.std.specs.Prelude.{ℕ, ◌==◌, nat_le, ◌&&◌, if◌then◌else◌, List, [], ◌∷◌, ◌++◌, slice_index, Option, Some, None}
use Rattle.fh_base.specs.Limits.{seconds_of_week}
use Rattle.fh_base.specs.Names.{is_queue_name}
use Rattle.fh_base.specs.declared.rule.Rule.{Rule}
use Rattle.fh_base.specs.declared.rule.Rule.TheVariants.{BadName, OutOfRange}
use Rattle.fh_event.specs.declared.settings.FunctionSettings.{FunctionSettings}
use Rattle.fh_event.specs.declared.settings.FunctionSettings.TheVariants.{Queue, Blob, Timer}
use Rattle.fh_ncrontab.specs.Sets.{is_mask, all_numbers}

-- the first of these rules that is broken
abbrev pub first_broken : List (Option Rule) → Option Rule
first_broken [] = None
first_broken (Some rule ∷ rules) = Some rule
first_broken (None ∷ rules) = first_broken rules

-- the queue that settings name has a queue's name
abbrev pub queue_rule : FunctionSettings → Option Rule
queue_rule (Queue queue batch threshold limit retry singleton) =
    if is_queue_name queue then None else Some BadName
queue_rule settings = None

abbrev pub range_rule : ℕ → ℕ → ℕ → Option Rule
range_rule given low high =
    if nat_le low given && nat_le given high then None else Some (OutOfRange given low high)

-- 0 is no singleton
abbrev pub singleton_rule : ℕ → Option Rule
singleton_rule given = if given == 0 then None else range_rule given 15 60

abbrev pub numbers_rule : ℕ → ℕ → ℕ → ℕ → ℕ → Option Rule
numbers_rule batch threshold limit retry singleton =
    first_broken
    (range_rule batch 1 32 ∷ range_rule threshold 0 1000 ∷ range_rule limit 1 1000
    ∷ range_rule retry 0 seconds_of_week ∷ singleton_rule singleton ∷ [])

-- a mask that isn't one of its field's numbers is told with the greatest one that is
abbrev pub mask_rule : ℕ → ℕ → ℕ → Option Rule
mask_rule low high given = if is_mask low high given then None else Some (OutOfRange given 1 (all_numbers low high))

-- seconds, minutes, hours, days, months and days of the week
abbrev pub mask_rules : List ℕ → List (Option Rule)
mask_rules masks =
    mask_rule 0 59 (slice_index masks 0) ∷ mask_rule 0 59 (slice_index masks 1)
    ∷ mask_rule 0 23 (slice_index masks 2) ∷ mask_rule 1 31 (slice_index masks 3)
    ∷ mask_rule 1 12 (slice_index masks 4) ∷ mask_rule 0 6 (slice_index masks 5) ∷ []

abbrev pub ranges_rule : FunctionSettings → Option Rule
ranges_rule (Queue queue batch threshold limit retry singleton) =
    numbers_rule batch threshold limit retry singleton
ranges_rule (Blob batch threshold limit retry singleton) = numbers_rule batch threshold limit retry singleton
ranges_rule (Timer masks startup monitor singleton) =
    first_broken (mask_rules masks ++ singleton_rule singleton ∷ [])

abbrev pub settings_rule : FunctionSettings → Option Rule
settings_rule settings = first_broken (queue_rule settings ∷ ranges_rule settings ∷ [])
