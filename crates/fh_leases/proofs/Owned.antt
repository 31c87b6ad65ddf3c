-- Leases with their last holders, one by one.
use Rattle.std.proofs.Common.{◌≡◌, ℕ, zero, suc, ◌<◌, List, [], ◌∷◌, ◌++◌, length, take, Result, Ok, Err, refl, ap, ◌∙◌, slice_index_or, arith}
use Rattle.fh_base.specs.declared.rule.Rule.{Rule}
use Rattle.fh_leases.specs.declared.lease.Lease.{Lease}
use Rattle.fh_leases.specs.declared.ask.HeldLease.{HeldLease}
use Rattle.fh_leases.specs.Part.{LeasePart}
use Rattle.fh_leases.specs.Rules.{owned, led_by, all_owned}

led-refused : (first : Result Lease Rule) (front whole : Result (List Lease) Rule) (leases : List Lease) (rule : Rule) → led_by first front ≡ Ok leases → ((rest : List Lease) → front ≡ Ok rest → whole ≡ Err rule) → led_by first whole ≡ Err rule
led-refused (Err broken) front whole leases rule is next = cc
led-refused (Ok lease) (Err broken) whole leases rule is next = cc
led-refused (Ok lease) (Ok rest) whole leases rule is next = rw (next rest refl) refl

-- the first rule that refuses one refuses all
pub all_owned-refused : (part : LeasePart) (held : List HeldLease) (i : ℕ) (d : HeldLease) (rule : Rule) (leases : List Lease) → i < length held → all_owned part (take i held) ≡ Ok leases → owned part (slice_index_or held i d).name (slice_index_or held i d).holder ≡ Err rule → all_owned part held ≡ Err rule
all_owned-refused part [] i d rule leases within front refused = absurd (omega (arith, within))
all_owned-refused part (one ∷ held) zero d rule leases within front refused = rw refused refl
all_owned-refused part (one ∷ held) (suc i) d rule leases within front refused =
    led-refused (owned part one.name one.holder) (all_owned part (take i held)) (all_owned part held) leases rule front
    (λ rest is. all_owned-refused part held i d rule rest (omega (arith, within)) is refused)

with_last : Lease → Result (List Lease) Rule → Result (List Lease) Rule
with_last lease (Err rule) = Err rule
with_last lease (Ok leases) = Ok (leases ++ lease ∷ [])

led-push : (first : Result Lease Rule) (front whole : Result (List Lease) Rule) (leases : List Lease) (lease : Lease) → led_by first front ≡ Ok leases → ((rest : List Lease) → front ≡ Ok rest → whole ≡ Ok (rest ++ lease ∷ [])) → led_by first whole ≡ Ok (leases ++ lease ∷ [])
unfolding with_last
led-push (Err broken) front whole leases lease is next = cc
led-push (Ok one) (Err broken) whole leases lease is next = cc
led-push (Ok one) (Ok rest) whole leases lease is next = rw (next rest refl) (ap (with_last lease) is)

pub all_owned-push : (part : LeasePart) (held : List HeldLease) (new : HeldLease) (leases : List Lease) (lease : Lease) → all_owned part held ≡ Ok leases → owned part new.name new.holder ≡ Ok lease → all_owned part (held ++ new ∷ []) ≡ Ok (leases ++ lease ∷ [])
unfolding with_last
all_owned-push part [] new leases lease is last = rw last (ap (with_last lease) is)
all_owned-push part (one ∷ held) new leases lease is last =
    led-push (owned part one.name one.holder) (all_owned part held) (all_owned part (held ++ new ∷ [])) leases lease is
    (λ rest front. all_owned-push part held new rest lease front last)
