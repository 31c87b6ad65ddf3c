-- The event in which a message was born.
use Rattle.std.proofs.Common.{◌≡◌, ℕ, ◌+◌, ◌≤◌, Bool, true, false, cond, List, [], ◌∷◌, ◌++◌, Some, None, refl, arith}
use Rattle.std.proofs.lemmas.Bool.Decides.{nat_tests}
use Rattle.std.proofs.lemmas.List.Sums.{sum_by-cons, sum_by_push}
use Rattle.std.proofs.lemmas.List.Recursion.{found_push_other}
use Rattle.fh_hub.specs.Replay.{Event}
use Rattle.fh_hub.specs.Signs.{bears}
use Rattle.fh_hub.specs.Laws.{births}
use Rattle.fh_hub.specs.Places.{birth_of}

births-cons : (n : ℕ) (e : Event) (events : List Event)
    → births n (e ∷ events) ≡ cond (bears n e.reply) 1 0 + births n events
births-cons n e events = sum_by-cons (λ (x : Event). cond (bears n x.reply) 1 0) e events

pub unborn : (n : ℕ) (events : List Event) → births n events ≡ 0 → birth_of n events ≡ None
unborn n [] none = refl
unborn n (e ∷ events) none = grind (arith, nat_tests, births-cons n e events, unborn n events)

first_push : (n : ℕ) (events : List Event) (e : Event) → birth_of n events ≡ None → bears n e.reply ≡ true
    → birth_of n (events ++ e ∷ []) ≡ Some e
first_push n [] e none is = rw is refl
first_push n (x ∷ events) e none is = grind (arith, nat_tests, first_push n events e)

-- the birth of a message that is born now
pub birth_now : (n : ℕ) (events : List Event) (e : Event) → births n events ≡ 0 → bears n e.reply ≡ true
    → birth_of n (events ++ e ∷ []) ≡ Some e
birth_now n events e none is = first_push n events e (unborn n events none) is

-- the birth of a message that was born before
pub birth_then : (n : ℕ) (events : List Event) (e : Event) → 1 ≤ births n events → births n (events ++ e ∷ []) ≤ 1
    → birth_of n (events ++ e ∷ []) ≡ birth_of n events
birth_then n events e some one = by_test (bears n e.reply) refl
  where
    by_test : (bearing : Bool) → bears n e.reply ≡ bearing → birth_of n (events ++ e ∷ []) ≡ birth_of n events
    by_test true is =
        let one_more : cond {A = ℕ} (bears n e.reply) 1 0 ≡ 1 = rw is refl in
        absurd (omega (arith, some, one, sum_by_push (λ (x : Event). cond (bears n x.reply) 1 0) events e))
    by_test false is = found_push_other (birth_of n) (λ (x : Event). bears n x.reply) Some None refl (λ x xs. refl)
        events e is
