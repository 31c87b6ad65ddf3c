-- The ready jobs of a function, after one has come or all of a function have gone, and what keeps all in order.
use Rattle.std.proofs.Common.{◌≡◌, ℕ, zero, suc, ◌-◌, ◌<◌, ◌≤◌, Bool, true, false, List, [], ◌∷◌, ◌++◌, length, take, drop, filter, refl, inl, inr, ⊎_elim, arith}
use Rattle.std.specs.Prelude.{◌==◌, nat_le, nat_lt, not, if◌then◌else◌, insert}
use Rattle.std.specs.List.{All}
use Rattle.std.specs.List.Sorted.{IsPartitionPoint}
use Rattle.std.proofs.lemmas.Bool.{cases_lt}
use Rattle.std.proofs.lemmas.Bool.Decides.{nat_tests}
use Rattle.std.proofs.lemmas.List.{append-nil}
use Rattle.std.proofs.SliceLists.{hd}
use Rattle.std.proofs.lemmas.List.Elements.{All-filter, filter-append}
use Rattle.std.proofs.lemmas.List.Sorted.{IsNonDecreasingBy-insert}
use Rattle.fh_rows.proofs.Parts.{filter-first, filter-last, filter-within}
use Rattle.fh_dispatch.proofs.Filters.{filter-kept, filter-dropped}
use Rattle.fh_dispatch.specs.declared.ready.ReadyJob.{ReadyJob}
use Rattle.fh_dispatch.specs.Ready.{AreInOrder, jobs_of, with_job, without_jobs_of}

-- ---- the jobs of a function

module _ (f : ℕ) where
  abbrev is_of : ReadyJob → Bool
  is_of job = job.function == f

  jobs_of-parts : (job : ReadyJob) (ready : List ReadyJob)
      → jobs_of f (with_job job ready) ≡ jobs_of f (filter (λ other. nat_le other.function job.function) ready)
      ++ jobs_of f (job ∷ filter (λ other. nat_lt job.function other.function) ready)
  jobs_of-parts job ready = filter-append is_of (filter (λ other. nat_le other.function job.function) ready)
      (job ∷ filter (λ other. nat_lt job.function other.function) ready)

  pub jobs_of-with_own : (job : ReadyJob) (ready : List ReadyJob) → (job.function == f) ≡ true
      → jobs_of f (with_job job ready) ≡ jobs_of f ready ++ job ∷ []
  jobs_of-with_own job ready own =
      rw (
        jobs_of-parts job ready,
        own,
        filter-kept is_of (λ other. nat_le other.function job.function) (λ other is. grind
            (arith, nat_tests, own, is)) ready,
        filter-dropped is_of (λ other. nat_lt job.function other.function) (λ other is. grind
            (arith, nat_tests, own, is)) ready,
      )
      refl

  pub jobs_of-with_other : (job : ReadyJob) (ready : List ReadyJob) → (job.function == f) ≡ false
      → jobs_of f (with_job job ready) ≡ jobs_of f ready
  jobs_of-with_other job ready other = elim (cases_lt f job.function) [
    | inl before ↦ rw (
      jobs_of-parts job ready,
      other,
      filter-kept is_of (λ other. nat_le other.function job.function) (λ some is. grind
          (arith, nat_tests, before, is)) ready,
      filter-dropped is_of (λ other. nat_lt job.function other.function) (λ some is. grind
          (arith, nat_tests, before, is)) ready,
    ) (append-nil (jobs_of f ready))
    | inr after ↦ rw (
      jobs_of-parts job ready,
      other,
      filter-dropped is_of (λ other. nat_le other.function job.function) (λ some is. grind
          (arith, nat_tests, other, after, is)) ready,
      filter-kept is_of (λ other. nat_lt job.function other.function) (λ some is. grind
          (arith, nat_tests, other, after, is)) ready,
    ) refl
  ]

  pub jobs_of-without_own : (g : ℕ) (ready : List ReadyJob) → (g == f) ≡ true → jobs_of f (without_jobs_of g ready) ≡ []
  jobs_of-without_own g ready own =
      filter-dropped is_of (λ job. not (job.function == g)) (λ job is. grind (arith, nat_tests, own, is)) ready

  pub jobs_of-without_other : (g : ℕ) (ready : List ReadyJob) → (g == f) ≡ false
      → jobs_of f (without_jobs_of g ready) ≡ jobs_of f ready
  jobs_of-without_other g ready other =
      filter-kept is_of (λ job. not (job.function == g)) (λ job is. grind (arith, nat_tests, other, is)) ready

-- ---- order

pub ordered-cons : (job : ReadyJob) (jobs : List ReadyJob) → All (λ later. job.function ≤ later.function) jobs
    → AreInOrder jobs → AreInOrder (job ∷ jobs)
ordered-cons job jobs first up zero zero d le lt = omega arith
ordered-cons job jobs first up zero (suc j) d le lt = first j d (omega (arith, lt))
ordered-cons job jobs first up (suc i) zero d le lt = absurd (omega (arith, le))
ordered-cons job jobs first up (suc i) (suc j) d le lt = up i j d (omega (arith, le)) (omega (arith, lt))

pub ordered-first : (job : ReadyJob) (jobs : List ReadyJob) → AreInOrder (job ∷ jobs)
    → All (λ later. job.function ≤ later.function) jobs
ordered-first job jobs up k d lt = up 0 (suc k) d (omega arith) (omega (arith, lt))

pub ordered-rest : (job : ReadyJob) (jobs : List ReadyJob) → AreInOrder (job ∷ jobs) → AreInOrder jobs
ordered-rest job jobs up i j d le lt = up (suc i) (suc j) d (omega (arith, le)) (omega (arith, lt))

pub ordered-filter : (keeps : ReadyJob → Bool) (jobs : List ReadyJob) → AreInOrder jobs → AreInOrder (filter keeps jobs)
ordered-filter keeps [] up = up
ordered-filter keeps (job ∷ jobs) up = by_test (keeps job) (ordered-filter keeps jobs (ordered-rest job jobs up))
  where
    by_test : (b : Bool) → AreInOrder (filter keeps jobs)
        → AreInOrder (if b then job ∷ filter keeps jobs else filter keeps jobs)
    by_test true rest = ordered-cons job (filter keeps jobs) (All-filter keeps
        (λ later. job.function ≤ later.function) jobs (ordered-first job jobs up)) rest
    by_test false rest = rest

-- ---- where the jobs of a function stand

-- the first jobs are of functions below f, or up to f, and the others are not
abbrev pub EndsBefore : ℕ → List ReadyJob → ℕ → Type 0
EndsBefore f jobs place = IsPartitionPoint (λ job. job.function < f) (λ job. f ≤ job.function) jobs place

abbrev pub EndsAt : ℕ → List ReadyJob → ℕ → Type 0
EndsAt f jobs place = IsPartitionPoint (λ job. job.function ≤ f) (λ job. f < job.function) jobs place

-- where a test ends, what it tells ends
pub ends_from_test : (test : ReadyJob → Bool) (Before Behind : ReadyJob → Type 0) (jobs : List ReadyJob) (place : ℕ)
    → ((job : ReadyJob) → test job ≡ true → Before job) → ((job : ReadyJob) → test job ≡ false → Behind job)
    → IsPartitionPoint (λ job. test job ≡ true) (λ job. test job ≡ false) jobs place
    → IsPartitionPoint Before Behind jobs place
ends_from_test test Before Behind jobs place passes fails tests = (
  λ k d low high. passes _ (tests.0 k d low high),
  λ k d low high. fails _ (tests.1 k d low high),
)

module _ (f : ℕ) (jobs : List ReadyJob) (start end : ℕ) (before : EndsBefore f jobs start)
    (upto : EndsAt f jobs end) (within : start ≤ length jobs) (most : end ≤ length jobs) where
  pub begins_first : start ≤ end
  begins_first = ⊎_elim (λ late. absurd (here late)) (λ le. le) (cases_lt end start)
    where
      here : end < start → ⊥
      here late =
          let job = hd jobs (omega (arith, late, within)) in
          omega (arith, before.0 end job (omega arith) late, upto.1 end job (omega arith) (omega (arith, late, within)))

  pub jobs_of-part : jobs_of f jobs ≡ take (end - start) (drop start jobs)
  jobs_of-part =
      filter-within (λ (job : ReadyJob). job.function == f) jobs start end begins_first most
      (λ k d low high. let below = before.0 k d low high in grind (arith, nat_tests, below))
      (λ k d low high. let here = upto.0 k d (omega arith) high in
      let after = before.1 k d low (omega (arith, high, most)) in grind (arith, nat_tests, here, after))
      (λ k d low high. let above = upto.1 k d low high in grind (arith, nat_tests, above))

module _ (job : ReadyJob) (jobs : List ReadyJob) (place : ℕ) (upto : EndsAt job.function jobs place)
    (within : place ≤ length jobs) where
  pub insert-job : insert jobs place job ≡ with_job job jobs
  insert-job =
      let front = filter-first (λ (other : ReadyJob). nat_le other.function job.function) jobs place within
      (λ k d low high. let here = upto.0 k d low high in grind (arith, nat_tests, here))
      (λ k d low high. let above = upto.1 k d low high in grind (arith, nat_tests, above)) in
      let back = filter-last (λ (other : ReadyJob). nat_lt job.function other.function) jobs place within
      (λ k d low high. let here = upto.0 k d low high in grind (arith, nat_tests, here))
      (λ k d low high. let above = upto.1 k d low high in grind (arith, nat_tests, above)) in
      rw (front, back) refl

  pub insert-ordered : AreInOrder jobs → AreInOrder (insert jobs place job)
  insert-ordered up =
      IsNonDecreasingBy-insert (λ (other : ReadyJob). other.function) jobs place job up within
      (λ k d low. upto.0 k d (omega arith) low)
      (λ k d low high. omega (arith, upto.1 k d low high))
