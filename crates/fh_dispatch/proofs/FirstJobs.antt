-- The first job of a function, where all jobs stand in order of function number.
use Rattle.std.proofs.Common.{◌≡◌, ℕ, zero, suc, ◌<◌, ◌≤◌, Bool, true, false, List, [], ◌∷◌, length, refl, ap, sym, inl, inr, arith}
use Rattle.std.specs.Prelude.{◌==◌, if◌then◌else◌, slice_index_or}
use Rattle.std.specs.List.{remove, All, AllWithin}
use Rattle.std.proofs.lemmas.Bool.{cases_lt}
use Rattle.std.proofs.lemmas.Bool.Decides.{nat_tests}
use Rattle.fh_dispatch.specs.declared.ready.ReadyJob.{ReadyJob}
use Rattle.fh_dispatch.specs.Ready.{AreInOrder, without_first}
use Rattle.fh_dispatch.proofs.Jobs.{ordered-cons, ordered-first, ordered-rest}

slice_index_or-same : (xs : List ReadyJob) (k : ℕ) (e d : ReadyJob) → k < length xs
    → slice_index_or xs k e ≡ slice_index_or xs k d
slice_index_or-same [] k e d lt = absurd (omega (arith, lt))
slice_index_or-same (x ∷ xs) zero e d lt = refl
slice_index_or-same (x ∷ xs) (suc k) e d lt = slice_index_or-same xs k e d (omega (arith, lt))

module _ (f : ℕ) where
  -- behind the jobs of lower functions stands the first one of this function
  pub without_first-at : (jobs : List ReadyJob) (place : ℕ) (d : ReadyJob)
      → AllWithin (λ job. job.function < f) jobs 0 place → place < length jobs
      → (slice_index_or jobs place d).function ≡ f → remove jobs place ≡ without_first f jobs
  without_first-at [] place d below within own = absurd (omega (arith, within))
  without_first-at (job ∷ jobs) zero d below within own =
      let same : (job.function == f) ≡ true = grind (arith, nat_tests, own) in rw same refl
  without_first-at (job ∷ jobs) (suc place) d below within own =
      let first = below 0 d (omega arith) (omega arith) in
      let other : (job.function == f) ≡ false = grind (arith, nat_tests, first) in
      let rest = without_first-at jobs place d (λ k e low high. below (suc k) e (omega arith) (omega (arith, high)))
      (omega (arith, within)) own in
      rw other (ap (λ more. job ∷ more) rest)

  -- none of its own among them
  pub without_first-none : (jobs : List ReadyJob) → AllWithin (λ job. (job.function == f) ≡ false) jobs 0 (length jobs)
      → jobs ≡ without_first f jobs
  without_first-none [] none = refl
  without_first-none (job ∷ jobs) none =
      let first = none 0 job (omega arith) (omega arith) in
      rw first (ap (λ more. job ∷ more)
      (without_first-none jobs (λ k e low high. none (suc k) e (omega arith) (omega (arith, high)))))

  -- all are of lower functions
  pub without_first-lower : (jobs : List ReadyJob) (place : ℕ) → AllWithin (λ job. job.function < f) jobs 0 place
      → length jobs ≤ place → jobs ≡ without_first f jobs
  without_first-lower jobs place below all = without_first-none jobs (λ k e low high.
      let here = below k e low (omega (arith, high, all)) in grind (arith, nat_tests, here))

  -- where this function's first job would stand, one of a later function stands, and behind it no earlier one
  pub without_first-later : (jobs : List ReadyJob) (place : ℕ) (d : ReadyJob) → AreInOrder jobs
      → AllWithin (λ job. job.function < f) jobs 0 place → AllWithin (λ job. f ≤ job.function) jobs place (length jobs)
      → place < length jobs → ((slice_index_or jobs place d).function ≡ f → ⊥) → jobs ≡ without_first f jobs
  without_first-later jobs place d up below behind within other = without_first-none jobs none
    where
      later : (first here : ℕ) → (first ≡ f → ⊥) → f ≤ first → first ≤ here → (here == f) ≡ false
      later first here other least behind_it = elim (cases_lt f first) [
        | inl above ↦ grind (arith, nat_tests, above, behind_it)
        | inr upto ↦ absurd (other (omega (arith, least, upto)))
      ]

      none : AllWithin (λ job. (job.function == f) ≡ false) jobs 0 (length jobs)
      none k e low high = elim (cases_lt k place) [
        | inl before ↦ let here = below k e low before in grind (arith, nat_tests, here)
        | inr after ↦ let least = behind place d (omega arith) within in
            let first = up place k d after high in
            let same : slice_index_or jobs k e ≡ slice_index_or jobs k d = slice_index_or-same jobs k e d high in
            let there : (slice_index_or jobs k d).function ≡ (slice_index_or jobs k e).function =
            ap (λ (job : ReadyJob). job.function) (sym same) in
            later ((slice_index_or jobs place d).function) ((slice_index_or jobs k e).function) other least
            (omega (arith, first, there))
      ]

  pub All-without_first : (P : ReadyJob → Type 0) (jobs : List ReadyJob) → All P jobs → All P (without_first f jobs)
  All-without_first P [] all = all
  All-without_first P (job ∷ jobs) all = by_test (job.function == f) (All-without_first P jobs (λ k d lt. all (suc k) d
      (omega (arith, lt))))
    where
      by_test : (b : Bool) → All P (without_first f jobs)
          → All P (if b then jobs else job ∷ without_first f jobs)
      by_test true rest k d lt = all (suc k) d (omega (arith, lt))
      by_test false rest zero d lt = all 0 d (omega arith)
      by_test false rest (suc k) d lt = rest k d (omega (arith, lt))

pub ordered_without_first : (f : ℕ) (jobs : List ReadyJob) → AreInOrder jobs → AreInOrder (without_first f jobs)
ordered_without_first f [] up = up
ordered_without_first f (job ∷ jobs) up =
    by_test (job.function == f) (ordered_without_first f jobs (ordered-rest job jobs up))
  where
    by_test : (b : Bool) → AreInOrder (without_first f jobs)
        → AreInOrder (if b then jobs else job ∷ without_first f jobs)
    by_test true rest = ordered-rest job jobs up
    by_test false rest = ordered-cons job (without_first f jobs) (All-without_first f
        (λ later. job.function ≤ later.function) jobs (ordered-first job jobs up)) rest
