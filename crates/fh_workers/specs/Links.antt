-- What a link's asks leave of its requests and replies.
use Rattle.std.specs.Prelude.{◌≡◌, ℕ, ◌≤◌, ◌⊎◌, List, [], ◌∷◌, ◌++◌, Option, Some, None, Result, Ok, Err}
use Rattle.std.specs.Option.{option_map}
use Rattle.fh_base.specs.Faults.{Rose}
use Rattle.fh_workers.specs.declared.link.LinkFault.{LinkFault}
use Rattle.fh_workers.specs.declared.link.LinkFault.TheVariants.{Failed, NoMemory}

-- the requests, with one more behind them
abbrev pub with_request : List ℕ → Option (List (List ℕ)) → Option (List (List ℕ))
with_request request = option_map (λ earlier. earlier ++ request ∷ [])

-- each ask is recorded, also one that fails; want of memory alone may leave it out
abbrev pub Records : {T : Type 0} → List ℕ → Option (List (List ℕ)) → Option (List (List ℕ)) → Result T LinkFault → Type 0
Records request was now (Ok reply) = now ≡ with_request request was
Records request was now (Err Failed) = now ≡ with_request request was
Records request was now (Err NoMemory) = (now ≡ was) ⊎ (now ≡ with_request request was)

-- a count never falls; an ask fails only where it rose, and ends otherwise only where it didn't
abbrev pub AskHasCause : {T : Type 0} → ℕ → ℕ → Result T LinkFault → Type 0
AskHasCause before now (Ok reply) = now ≡ before
AskHasCause before now (Err Failed) = (before ≤ now) × Rose before now
AskHasCause before now (Err NoMemory) = now ≡ before

-- the replies to come once an ask failed: it takes the failure where one was to come, and no reply
abbrev pub after_failure : List (Option (List ℕ)) → List (Option (List ℕ))
after_failure [] = []
after_failure (None ∷ later) = later
after_failure (Some reply ∷ later) = Some reply ∷ later

-- an ask takes the reply that it gives; want of memory may have taken the next one
abbrev pub TakesReply : Option (List (Option (List ℕ))) → Option (List (Option (List ℕ))) → Result (List ℕ) LinkFault → Type 0
TakesReply was now (Ok reply) = was ≡ option_map (λ later. Some reply ∷ later) now
TakesReply was now (Err Failed) = now ≡ option_map after_failure was
TakesReply was now (Err NoMemory) = (now ≡ was) ⊎ ((next : Option (List ℕ)) × (was ≡ option_map (λ later. next ∷ later) now))
