-- The laws of a disk that keeps a record of its calls, or none.
use Rattle.std.specs.Prelude.{◌≡◌, ℕ, ◌≤◌, List, [], ◌∷◌, length, Option, Some, None, refl}
use Rattle.std.proofs.Common.{sym, subst, arith}
use Rattle.std.proofs.lemmas.List.{take_all}
use Rattle.fh_disk.specs.Disk.{written_at, Torn}
use Rattle.fh_disk.specs.declared.record.Call.{Call}
use Rattle.fh_disk.specs.declared.record.Call.TheVariants.{Write, Sync}
use Rattle.fh_disk.specs.Recorded.{Recorded, replayed, Leaves, LeavesAfter, told_by, left_by, moment_of, left_since_by}
use Rattle.fh_disk.specs.Torn.{torn_written}

-- what reads give is one of the images
pub leaves_replayed : (file : List ℕ) (images : List ℕ → Type 0) (calls : List Call) → images file
    → Leaves file images calls (replayed file calls)
leaves_replayed file images [] here = here
leaves_replayed file images (Write at bytes ∷ later) here =
    leaves_replayed (written_at at bytes file) (λ new. (old : List ℕ) × images old × Torn at (length bytes) old new)
    later (file, here, torn_written at bytes file)
leaves_replayed file images (Sync ∷ later) here = leaves_replayed file (λ new. new ≡ file) later refl

pub some_same : (xs ys : List ℕ) → Some xs ≡ Some ys → xs ≡ ys
some_same xs ys same = cc

pub reads_as_image_by : (r : Option Recorded) (file : List ℕ) → told_by r ≡ Some file → left_by r file
reads_as_image_by None file told = tt
reads_as_image_by (Some r) file told =
    subst (left_by (Some r)) (some_same (replayed r.first r.calls) file told)
    (subst (λ (calls : List Call). Leaves r.first (λ new. new ≡ r.first) calls (replayed r.first r.calls))
    (sym (take_all (length r.calls) r.calls (omega arith)))
    (leaves_replayed r.first (λ new. new ≡ r.first) r.calls refl))

pub counts_now_by : (r : Option Recorded) (t : ℕ) (c : List ℕ) → t ≤ moment_of r → left_by r c → left_since_by r t c
counts_now_by None t c earlier left = tt
counts_now_by (Some r) t c earlier left = (length r.calls, earlier, omega arith, left)

pub only_now_by : (r : Option Recorded) (c : List ℕ) → left_since_by r (moment_of r) c → left_by r c
only_now_by None c left = tt
only_now_by (Some r) c left =
    let now : left.0 ≡ length r.calls = omega (arith, left.1, left.2) in subst (λ (k : ℕ). LeavesAfter r k c) now left.3
