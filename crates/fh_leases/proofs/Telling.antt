-- What one lease that is set, renewed or removed makes of its holders.
use Rattle.std.proofs.Common.{◌≡◌, ℕ, ◌≤◌, Bool, true, false, List, [], ◌∷◌, Option, Some, None, Ok, Err, Result, refl, sym, ap, ◌∙◌, subst, ◌⊎◌, inl, inr, arith}
use Rattle.std.specs.Prelude.{if◌then◌else◌, ◌&&◌, ◌||◌, ◌==◌, nat_lt, not, IfSome, fold}
use Rattle.std.specs.List.{list_any}
use Rattle.std.specs.Str.{bytes_eq}
use Rattle.std.proofs.lemmas.Bool.Decides.{nat_tests}
use Rattle.fh_base.specs.declared.rule.Rule.{Rule}
use Rattle.fh_base.specs.declared.rule.Rule.TheVariants.{LeaseHeld, LeaseMismatch}
use Rattle.fh_leases.specs.declared.lease.Lease.{Lease}
use Rattle.fh_leases.specs.declared.ask.HeldLease.{HeldLease}
use Rattle.fh_leases.specs.declared.act.Act.TheVariants.{Set}
use Rattle.fh_leases.specs.Part.{LeasePart, lease_of}
use Rattle.fh_leases.specs.Rules.{held_rule, owned_by, owned, led_by, all_owned}
use Rattle.fh_leases.specs.Acts.{with_lease, acted, by_acts}
use Rattle.fh_leases.specs.Outcome.{after, renewed, renewals, untils}
use Rattle.fh_leases.specs.Laws.{is_of, granted_in, own_end, KeepsUnlessOver}
use Rattle.fh_leases.proofs.Naming.{same_name, lease_of-set, lease_of-name}

-- who has it until then, where it is set
abbrev grant : Bool → Lease → ℕ → Option ℕ
grant named lease h = if named && (lease.holder == h) then Some lease.until else None

abbrev row_after : Bool → Lease → Option Lease → Option Lease
row_after named lease before = if named then Some lease else before

pub set_granted : (named : Bool) (lease : Lease) (before : Option Lease) (h end : ℕ) → grant named lease h ≡ Some end → own_end h (row_after named lease before) ≡ Some end
set_granted true lease before h end is = is
set_granted false lease before h end is = cc

pub set_others : (named : Bool) (lease : Lease) (before : Option Lease) (m h : ℕ) → (named ≡ true → (lease.holder == h) ≡ false → IfSome (own_end h before) (λ end. end ≤ m)) → grant named lease h ≡ None → KeepsUnlessOver m (own_end h before) (own_end h (row_after named lease before))
set_others false lease before m h over is = inl refl
set_others true lease before m h over is = by_holder (lease.holder == h) refl is
  where
    by_holder : (b : Bool) → (lease.holder == h) ≡ b → (if b then Some lease.until else None) ≡ None → KeepsUnlessOver m (own_end h before) (if b then Some lease.until else None)
    by_holder true same none = cc
    by_holder false other none = inr (refl, over refl other)

-- what another holder had is over where nobody holds the lease
pub over_by_rule : (m : ℕ) (before : Option Lease) (holder h : ℕ) → held_rule m before holder ≡ None → (holder == h) ≡ false → IfSome (own_end h before) (λ end. end ≤ m)
over_by_rule m None holder h fine other = tt
over_by_rule m (Some old) holder h fine other = by_holder (old.holder == h) refl
  where
    by_rule : (mine late : Bool) → (if not mine && late then Some (LeaseHeld old.holder old.until) else None) ≡ None → mine ≡ false → late ≡ false
    by_rule true late is apart = cc
    by_rule false true is apart = cc
    by_rule false false is apart = refl

    by_holder : (b : Bool) → (old.holder == h) ≡ b → IfSome (if b then Some old.until else None) (λ end. end ≤ m)
    by_holder false apart = tt
    by_holder true same =
        let mine : (old.holder == holder) ≡ false = grind (arith, nat_tests, same, other) in
        let late = by_rule (old.holder == holder) (nat_lt m old.until) fine mine in
        grind (arith, nat_tests, late)

-- nobody but the last holder had it
pub over_by_owner : (m : ℕ) (before : Lease) (holder h : ℕ) → before.holder ≡ holder → (holder == h) ≡ false → own_end h (Some before) ≡ None
over_by_owner m before holder h is other = by_holder (before.holder == h) refl
  where
    by_holder : (b : Bool) → (before.holder == h) ≡ b → (if b then Some before.until else None) ≡ None
    by_holder true same = absurd (grind (arith, nat_tests, same, other, is))
    by_holder false apart = refl

-- a lease that is owned is the one of the name, and this is its holder
pub record IsOwned (part : LeasePart) (name : List ℕ) (holder : ℕ) (lease : Lease) : Type 0 where
  pub stands : lease_of name part.leases ≡ Some lease
  pub owner : lease.holder ≡ holder
  pub called : lease.name ≡ name

pub is_owned : (part : LeasePart) (name : List ℕ) (holder : ℕ) (lease : Lease) → owned part name holder ≡ Ok lease → IsOwned part name holder lease
is_owned part name holder lease is = by_found (lease_of name part.leases) refl is
  where
    by_found : (found : Option Lease) → lease_of name part.leases ≡ found → owned_by found holder ≡ Ok lease → IsOwned part name holder lease
    by_found None at owns = cc
    by_found (Some old) at owns = by_test (old.holder == holder) refl owns
      where
        by_test : (b : Bool) → (old.holder == holder) ≡ b → (if b then Ok old else Err (LeaseMismatch old.holder)) ≡ Ok lease → IsOwned part name holder lease
        by_test true same took =
            let one : old ≡ lease = cc (took) in
            let stands : lease_of name part.leases ≡ Some lease = at ∙ ap (λ l. Some l) one in
            record { stands = stands; owner = ap (λ l. l.holder) (sym one) ∙ grind (arith, nat_tests, same); called = lease_of-name name part lease stands }
        by_test false apart took = cc

-- what renewals make of lease x, and what they grant to h of it
pub record Renews (part now : LeasePart) (m : ℕ) (x : List ℕ) (h : ℕ) (held : List HeldLease) (leases : List Lease) : Type 0 where
  pub lease : Lease
  pub named : list_any (λ one. bytes_eq one.name x) held ≡ true
  pub stands : lease_of x part.leases ≡ Some lease
  pub becomes : lease_of x (by_acts now (renewals m leases)).leases ≡ Some (renewed m lease)
  pub grants : granted_in x h held (untils m leases) ≡ (if lease.holder == h then Some (after m lease.seconds) else None)

pub record Skips (now : LeasePart) (m : ℕ) (x : List ℕ) (h : ℕ) (held : List HeldLease) (leases : List Lease) : Type 0 where
  pub named : list_any (λ one. bytes_eq one.name x) held ≡ false
  pub stays : lease_of x (by_acts now (renewals m leases)).leases ≡ lease_of x now.leases
  pub grants : granted_in x h held (untils m leases) ≡ None

module _ (part : LeasePart) (m : ℕ) (x : List ℕ) (h : ℕ) where
  abbrev pub Either : LeasePart → List HeldLease → List Lease → Type 0
  Either now held leases = Skips now m x h held leases ⊎ Renews part now m x h held leases

  set_lease : (now : LeasePart) (lease : Lease) → lease_of x (acted now (Set (renewed m lease))).leases ≡ (if bytes_eq lease.name x then Some (renewed m lease) else lease_of x now.leases)
  unfolding acted
  set_lease now lease = lease_of-set (renewed m lease) now x

  one_more : (now : LeasePart) (one : HeldLease) (held : List HeldLease) (lease : Lease) (leases : List Lease) → IsOwned part one.name one.holder lease → Either (acted now (Set (renewed m lease))) held leases → Either now (one ∷ held) (lease ∷ leases)
  one_more now one held lease leases owns rest = by_name (bytes_eq one.name x) refl rest
    where
      same_test : bytes_eq lease.name x ≡ bytes_eq one.name x
      same_test = ap (λ n. bytes_eq n x) owns.called

      by_name : (b : Bool) → bytes_eq one.name x ≡ b → Either (acted now (Set (renewed m lease))) held leases → Either now (one ∷ held) (lease ∷ leases)
      by_name false apart (inl skips) =
          inl (record {
            named = rw apart skips.named;
            stays = skips.stays ∙ set_lease now lease ∙ ap (λ b. if b then Some (renewed m lease) else lease_of x now.leases) (same_test ∙ apart);
            grants = rw apart skips.grants;
          })
      by_name false apart (inr renews) =
          inr (record { lease = renews.lease; named = rw apart renews.named; stands = renews.stands; becomes = renews.becomes; grants = rw apart renews.grants })
      by_name true same (inl skips) =
          inr (record {
            lease = lease;
            named = rw same refl;
            stands = ap (λ n. lease_of n part.leases) (sym (same_name one.name x same)) ∙ owns.stands;
            becomes = skips.stays ∙ set_lease now lease ∙ ap (λ b. if b then Some (renewed m lease) else lease_of x now.leases) (same_test ∙ same);
            grants = rw (same, skips.grants) (ap (λ n. if n == h then Some (after m lease.seconds) else None) (sym owns.owner));
          })
      by_name true same (inr renews) =
          let stands : lease_of x part.leases ≡ Some lease = ap (λ n. lease_of n part.leases) (sym (same_name one.name x same)) ∙ owns.stands in
          let one_lease : renews.lease ≡ lease = cc (renews.stands) in
          inr (record {
            lease = lease;
            named = rw same refl;
            stands = stands;
            becomes = renews.becomes ∙ ap (λ l. Some (renewed m l)) one_lease;
            grants = rw (same, renews.grants, one_lease, ← owns.owner) (twice (lease.holder == h));
          })
        where
          twice : (b : Bool) → (if b then Some (after m lease.seconds) else (if b then Some (after m lease.seconds) else None)) ≡ (if b then Some (after m lease.seconds) else None)
          twice true = refl
          twice false = refl

  pub renews_or_skips : (now : LeasePart) (held : List HeldLease) (leases : List Lease) → all_owned part held ≡ Ok leases → Either now held leases
  renews_or_skips now [] leases is = none leases is
    where
      none : (leases : List Lease) → all_owned part [] ≡ Ok leases → Either now [] leases
      none [] same = inl (record { named = refl; stays = refl; grants = refl })
      none (lease ∷ leases) same = cc
  renews_or_skips now (one ∷ held) leases is =
      by_first (owned part one.name one.holder) (all_owned part held) refl refl is (λ next rest all. renews_or_skips next held rest all)
    where
      by_first : (first : Result Lease Rule) (more : Result (List Lease) Rule) → owned part one.name one.holder ≡ first → all_owned part held ≡ more → led_by first more ≡ Ok leases → ((next : LeasePart) (rest : List Lease) → all_owned part held ≡ Ok rest → Either next held rest) → Either now (one ∷ held) leases
      by_first (Err rule) more owns all led next = cc
      by_first (Ok lease) (Err rule) owns all led next = cc
      by_first (Ok lease) (Ok rest) owns all led next =
          let same : lease ∷ rest ≡ leases = cc in
          subst (λ (ls : List Lease). Either now (one ∷ held) ls) same (one_more now one held lease rest (is_owned part one.name one.holder lease owns) (next (acted now (Set (renewed m lease))) rest all))
