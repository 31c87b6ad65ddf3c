-- On what terms a function's jobs run, by its settings.
use Rattle.std.specs.Prelude.{ℕ, nat_le, nat_lt, if◌then◌else◌, List, ◌++◌, codes, Option, Some, None}
use Rattle.fh_base.specs.Names.{is_queue_name}
use Rattle.fh_base.specs.Poison.{poison_name}
use Rattle.fh_event.specs.declared.settings.FunctionSettings.{FunctionSettings}
use Rattle.fh_event.specs.declared.settings.FunctionSettings.TheVariants.{Queue, Blob, Timer}
use Rattle.fh_dispatch.specs.declared.function.Function.{Function}
use Rattle.fh_dispatch.specs.declared.terms.Terms.{Terms}
use Rattle.fh_dispatch.specs.Part.{WorkPart, function_of}

-- the poison queue of all blob functions
abbrev pub blob_poison : List ℕ
blob_poison = codes "webjobs-blobtrigger-poison"

abbrev pub poison_beside : List ℕ → Option (List ℕ)
poison_beside queue = if is_queue_name queue then poison_name queue else None

-- a timer has no messages
abbrev pub terms_of : FunctionSettings → Terms
terms_of (Queue queue batch threshold limit retry singleton) =
    record { limit = limit; retry = retry; singleton = singleton; poison = poison_beside queue }
terms_of (Blob batch threshold limit retry singleton) =
    record { limit = limit; retry = retry; singleton = singleton; poison = Some blob_poison }
terms_of (Timer masks startup monitor singleton) =
    record { limit = 0; retry = 0; singleton = singleton; poison = None }

abbrev pub terms_found : Option Function → Terms
terms_found None = record { limit = 0; retry = 0; singleton = 0; poison = None }
terms_found (Some function) = terms_of function.settings

-- the terms of the function of this name, by the settings in force
abbrev pub terms_in : WorkPart → List ℕ → Terms
terms_in part name = terms_found (function_of name part.functions)

-- where a message goes that was taken more often than the limit
abbrev pub poison_above : Terms → ℕ → Option (List ℕ)
poison_above terms count = if nat_lt terms.limit count then terms.poison else None

-- where a message goes that failed and was taken as often as the limit
abbrev pub poison_from : Terms → ℕ → Option (List ℕ)
poison_from terms count = if nat_le terms.limit count then terms.poison else None

-- the lease of a function of which one invocation runs at a time
abbrev pub lease_name : List ℕ → List ℕ
lease_name function = codes "singleton/" ++ function
