-- Settings that are equal, or have the same trigger.
use Rattle.std.specs.Prelude.{ℕ, ◌==◌, nat_eq, Bool, true, false, not, ◌&&◌, List, Option, Some, None}
use Rattle.std.specs.Bool.{beq}
use Rattle.std.specs.Cmp.Lexicographic.{pointwise}
use Rattle.std.specs.Str.{bytes_eq}
use Rattle.fh_event.specs.declared.settings.FunctionSettings.{FunctionSettings}
use Rattle.fh_event.specs.declared.settings.FunctionSettings.TheVariants.{Queue, Blob, Timer}
use Rattle.fh_dispatch.specs.declared.function.Function.{Function}

abbrev pub same_masks : List ℕ → List ℕ → Bool
same_masks ms masks = pointwise nat_eq ms masks

abbrev pub same_settings : FunctionSettings → FunctionSettings → Bool
same_settings (Queue q b t l r s) (Queue queue batch threshold limit retry singleton) =
    bytes_eq q queue && (b == batch) && (t == threshold) && (l == limit) && (r == retry) && (s == singleton)
same_settings (Blob b t l r s) (Blob batch threshold limit retry singleton) =
    (b == batch) && (t == threshold) && (l == limit) && (r == retry) && (s == singleton)
same_settings (Timer ms u w s) (Timer masks startup monitor singleton) =
    same_masks ms masks && beq u startup && beq w monitor && (s == singleton)
same_settings settings other = false

-- a function is there and has these settings
abbrev pub is_as : FunctionSettings → Option Function → Bool
is_as settings None = false
is_as settings (Some function) = same_settings function.settings settings

-- what starts the function's jobs: its kind, with the queue or the schedule
abbrev pub same_trigger : FunctionSettings → FunctionSettings → Bool
same_trigger (Queue q b t l r s) (Queue queue batch threshold limit retry singleton) = bytes_eq q queue
same_trigger (Blob b t l r s) (Blob batch threshold limit retry singleton) = true
same_trigger (Timer ms u w s) (Timer masks startup monitor singleton) = same_masks ms masks
same_trigger settings other = false

-- a function is there and has another trigger
abbrev pub has_other_trigger : FunctionSettings → Option Function → Bool
has_other_trigger settings None = false
has_other_trigger settings (Some function) = not (same_trigger function.settings settings)
