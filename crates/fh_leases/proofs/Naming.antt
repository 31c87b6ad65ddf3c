-- The lease of a name after a lease is set or removed.
use Rattle.std.proofs.Common.{◌≡◌, ℕ, Bool, true, false, List, Option, Some, None, refl, sym, ap, ◌∙◌, rules}
use Rattle.std.specs.Prelude.{if◌then◌else◌}
use Rattle.std.specs.Cmp.{IsTotalOrder}
use Rattle.std.specs.Cmp.Rules.{comparing}
use Rattle.std.specs.Cmp.Lexicographic.{slice_cmp}
use Rattle.std.specs.Ordering.{nat_cmp, is_eq}
use Rattle.std.specs.Str.{bytes_eq}
use Rattle.std.specs.declared.cmp.Ordering.{Ordering}
use Rattle.std.specs.declared.cmp.Ordering.TheVariants.{Less, Equal, Greater}
use Rattle.std.proofs.lemmas.Map.Text.{is_eq-slice_cmp}
use Rattle.std.proofs.lemmas.Slice.Eq.{bytes_eq-Decides}
use Rattle.fh_rows.proofs.Lawful.{find-passes, row_at-with_same, row_at-with_other, row_at-without_same, row_at-without_other}
use Rattle.fh_leases.specs.declared.lease.Lease.{Lease}
use Rattle.fh_leases.specs.Part.{LeasePart, by_name, lease_of}
use Rattle.fh_leases.specs.Acts.{with_lease, without_lease}

total : IsTotalOrder (λ (a b : Lease). by_name b.name a)
total = search (comparing, rules)

abbrev named : List ℕ → Lease
named name = record { name = name; holder = 0; seconds = 0; until = 0 }

equal : (o : Ordering) → is_eq o ≡ true → o ≡ Equal
equal Less is = cc
equal Equal is = refl
equal Greater is = cc

pub same_name : (a b : List ℕ) → bytes_eq a b ≡ true → a ≡ b
same_name a b is = (bytes_eq-Decides a b).0 is

pub lease_of-set : (lease : Lease) (part : LeasePart) (x : List ℕ) → lease_of x (with_lease lease part).leases ≡ (if bytes_eq lease.name x then Some lease else lease_of x part.leases)
lease_of-set lease part x = by_test (bytes_eq lease.name x) refl
  where
    by_test : (b : Bool) → bytes_eq lease.name x ≡ b → lease_of x (with_lease lease part).leases ≡ (if b then Some lease else lease_of x part.leases)
    by_test true is = row_at-with_same (λ (a b : Lease). by_name b.name a) total lease (named x) part.leases (equal (slice_cmp nat_cmp lease.name x) (is_eq-slice_cmp lease.name x ∙ is))
    by_test false is = row_at-with_other (λ (a b : Lease). by_name b.name a) total lease (named x) part.leases (is_eq-slice_cmp lease.name x ∙ is)

pub lease_of-removed : (name : List ℕ) (part : LeasePart) (x : List ℕ) → lease_of x (without_lease name part).leases ≡ (if bytes_eq name x then None else lease_of x part.leases)
lease_of-removed name part x = by_test (bytes_eq name x) refl
  where
    by_test : (b : Bool) → bytes_eq name x ≡ b → lease_of x (without_lease name part).leases ≡ (if b then None else lease_of x part.leases)
    by_test true is = row_at-without_same (λ (a b : Lease). by_name b.name a) total (named name) (named x) part.leases (equal (slice_cmp nat_cmp name x) (is_eq-slice_cmp name x ∙ is))
    by_test false is = row_at-without_other (λ (a b : Lease). by_name b.name a) total (named name) (named x) part.leases (is_eq-slice_cmp name x ∙ is)

-- the lease of a name has this name
pub lease_of-name : (name : List ℕ) (part : LeasePart) (lease : Lease) → lease_of name part.leases ≡ Some lease → lease.name ≡ name
lease_of-name name part lease is =
    same_name lease.name name (sym (is_eq-slice_cmp lease.name name) ∙ find-passes (λ row. is_eq (by_name name row)) part.leases lease is)
