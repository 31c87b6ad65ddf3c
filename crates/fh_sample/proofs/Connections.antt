-- Connections that were accepted one behind the other.
use Rattle.std.proofs.Common.{◌≡◌, ◌+◌, ◌<◌, ℕ, List, [], ◌∷◌, ◌++◌, length, map, Option, Some, None, Result, Ok, Err, refl, sym, ◌∙◌, ap, subst, arith}
use Rattle.std.specs.Result.{IsErrAnd}
use Rattle.std.proofs.lemmas.List.{append_assoc, length-append, map-append}
use Rattle.fh_workers.specs.Doors.{AddsConnection}
use Rattle.fh_sample.specs.declared.worker.RoundFault.{RoundFault}
use Rattle.fh_sample.specs.declared.worker.RoundFault.TheVariants.{DoorFault, NoMemory}
use Rattle.fh_sample.specs.Rounds.{Accepts, AcceptsUpTo, Connections, Makes, with_connections}

-- what an accept adds
pub accepts_one : (port : ℕ) (left : Option (List ℕ)) (was now : Connections) → AddsConnection port left was now
    → Accepts port 1 was now
accepts_one port left None now same = record { given = [] ∷ []; many = refl; are = same }
accepts_one port None (Some earlier) now never = absurd never
accepts_one port (Some bytes) (Some earlier) now added = record { given = bytes ∷ []; many = refl; are = added }

pub accepts_up_to_one : (port : ℕ) (left : Option (List ℕ)) (was now : Connections) → AddsConnection port left was now
    → AcceptsUpTo port 1 was now
accepts_up_to_one port left was now added = (1, omega arith, accepts_one port left was now added)

-- some, and then more
joined : (port : ℕ) (first later : List (List ℕ)) (was : Connections)
    → with_connections port later (with_connections port first was) ≡ with_connections port (first ++ later) was
joined port first later None = refl
joined port first later (Some earlier) =
    ap (λ all. Some all) (append_assoc earlier (map (λ bytes. (port, bytes)) first) (map (λ bytes. (port, bytes)) later)
    ∙ ap (λ more. earlier ++ more) (sym (map-append (λ (bytes : List ℕ). (port, bytes)) first later)))

pub accepts_more : (port n k : ℕ) (was mid now : Connections) → Accepts port n was mid → Accepts port k mid now
    → Accepts port (n + k) was now
accepts_more port n k was mid now first later = record {
  given = first.given ++ later.given;
  many = length-append first.given later.given ∙ ap (λ m. m + length later.given) first.many ∙ ap (λ m. n + m) later.many;
  are = later.are ∙ ap (λ all. with_connections port later.given all) first.are ∙ joined port first.given later.given was;
}

-- a round that isn't finished, behind some that are
unfinished_by : (port n rounds : ℕ) (was mid now : Connections) (fault : RoundFault) → n < rounds → Accepts port n was mid
    → Makes port 1 mid now (Err fault) → Makes port rounds was now (Err fault)
unfinished_by port n rounds was mid now DoorFault less first later =
    (n + later.0, omega (arith, less, later.1), accepts_more port n later.0 was mid now first later.2)
unfinished_by port n rounds was mid now NoMemory less first later =
    (n + later.0, omega (arith, less, later.1), accepts_more port n later.0 was mid now first later.2)

pub unfinished : (port here n rounds : ℕ) (was mid now : Connections) (result : Result (Unit {0}) RoundFault) (fault : RoundFault)
    → IsErrAnd result (λ given. given ≡ fault) → n < rounds → Accepts port n was mid → here ≡ port
    → Makes here 1 mid now (Err fault) → Makes port rounds was now result
unfinished port here n rounds was mid now (Ok done) fault never less first same later = absurd never
unfinished port here n rounds was mid now (Err given) fault is less first same later =
    rw is (unfinished_by port n rounds was mid now fault less first
    (subst (λ (p : ℕ). Makes p 1 mid now (Err fault)) same later))
