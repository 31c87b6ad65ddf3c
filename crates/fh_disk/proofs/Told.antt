-- What is told of a disk's bytes over calls, and what each image then has.
use Rattle.std.proofs.Common.{◌≡◌, ℕ, List, length, Option, Some, None, IfSome, refl, sym, subst}
use Rattle.std.specs.Option.{option_map}
use Rattle.fh_disk.specs.Disk.{written_at, Torn, TornTold, Follows, OnlyTold, StaysTold, Each}
use Rattle.fh_disk.specs.Torn.{torn_written}

-- bytes that are told stay told over no call, and over two
pub stays_as_told : (told : Option (List ℕ)) → StaysTold told told
stays_as_told None = refl
stays_as_told (Some file) = tt

pub stays_told : (told mid now : Option (List ℕ)) → StaysTold told mid → StaysTold mid now → StaysTold told now
stays_told None mid now first second = told_none mid now first second
  where
    told_none : (mid now : Option (List ℕ)) → mid ≡ None → StaysTold mid now → now ≡ None
    told_none None now first second = second
    told_none (Some file) now first second = absurd (cc first)
stays_told (Some file) None now first second = absurd first
stays_told (Some file) (Some mid) None first second = absurd second
stays_told (Some file) (Some mid) (Some now) first second = tt

-- what follows where the bytes are told
pub where_told : (told : Option (List ℕ)) (A B : Type 0) → IfSome told (λ _. A) → (A → B) → IfSome told (λ _. B)
where_told None A B a then = tt
where_told (Some file) A B a then = then a

pub where_both : (told now : Option (List ℕ)) (A B C : Type 0) → StaysTold told now → IfSome told (λ _. A)
    → IfSome now (λ _. B) → (A → B → C)
    → IfSome told (λ _. C)
where_both None now A B C stays a b then = tt
where_both (Some file) None A B C stays a b then = absurd stays
where_both (Some file) (Some new) A B C stays a b then = then a b

-- what follows from the images
pub where_each : (told : Option (List ℕ)) (images P : List ℕ → Type 0) (B : Type 0)
    → IfSome told (λ file. Each file images P)
    → (((c : List ℕ) → images c → P c) → B) → IfSome told (λ _. B)
where_each None images P B each then = tt
where_each (Some file) images P B each then = then each.after_crash

-- a write that passed is one that might have been torn
pub told_torn : (told now : Option (List ℕ)) (at : ℕ) (bytes : List ℕ) → now ≡ option_map (written_at at bytes) told
    → TornTold at (length bytes) told now
told_torn None now at bytes is = is
told_torn (Some file) now at bytes is = rw is (torn_written at bytes file)

pub torn_stays : (told now : Option (List ℕ)) (at n : ℕ) → TornTold at n told now → StaysTold told now
torn_stays None now at n torn = torn
torn_stays (Some file) None at n torn = absurd torn
torn_stays (Some file) (Some new) at n torn = tt

pub same_torn : (told mid now : Option (List ℕ)) (at n : ℕ) → TornTold at n told mid → now ≡ mid
    → TornTold at n told now
same_torn told mid now at n torn same = rw same torn

-- a write keeps what each of its torn outcomes keeps
pub torn_each : (told now : Option (List ℕ)) (images later P Q : List ℕ → Type 0) (at n : ℕ)
    → ((d c : List ℕ) → P d → Torn at n d c → Q c)
    → IfSome told (λ file. Each file images P) → TornTold at n told now → Follows (Torn at n) images later
    → IfSome now (λ file. Each file later Q)
torn_each None None images later P Q at n step each torn follows = tt
torn_each None (Some new) images later P Q at n step each torn follows = absurd (cc torn)
torn_each (Some file) None images later P Q at n step each torn follows = absurd torn
torn_each (Some file) (Some new) images later P Q at n step each torn follows = record {
  as_read = step file new each.as_read torn;
  after_crash = λ c left. let from = follows c left in step from.0 c (each.after_crash from.0 from.1) from.2;
}

-- a write that was synced leaves one image
pub only_each : (told now : Option (List ℕ)) (images later P Q : List ℕ → Type 0) (at : ℕ) (bytes : List ℕ)
    → ((file : List ℕ) → P file → Q (written_at at bytes file))
    → IfSome told (λ file. Each file images P) → now ≡ option_map (written_at at bytes) told → OnlyTold now later
    → IfSome now (λ file. Each file later Q)
only_each None now images later P Q at bytes step each is only = rw is tt
only_each (Some file) None images later P Q at bytes step each is only = tt
only_each (Some file) (Some new) images later P Q at bytes step each is only =
    let same : new ≡ written_at at bytes file = cc is in
    let here : Q new = subst Q (sym same) (step file each.as_read) in
    record { as_read = here; after_crash = λ c left. subst Q (sym (only c left)) here }
