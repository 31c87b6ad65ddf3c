-- What becomes of the jobs in work of each function.
use Rattle.std.proofs.Common.{◌≡◌, inl, inr, ℕ, ◌+◌, ◌≤◌, Bool, true, false, List, [], ◌∷◌, length, filter, Some, refl, sym, ap, ◌∙◌, subst, arith, length-append}
use Rattle.std.specs.Prelude.{◌==◌, not, if◌then◌else◌}
use Rattle.std.specs.Ordering.{is_eq, is_ne}
use Rattle.std.proofs.lemmas.Bool.{eqb-true}
use Rattle.std.proofs.lemmas.Bool.Decides.{nat_tests}
use Rattle.std.proofs.lemmas.List.{length-map}
use Rattle.std.proofs.lemmas.List.Elements.{filter-append}
use Rattle.fh_dispatch.specs.declared.act.Act.{Act}
use Rattle.fh_dispatch.specs.declared.act.Act.TheVariants.{TakeFirst, AddRunning, EndRunning, RenewRunning}
use Rattle.fh_dispatch.specs.declared.ready.Job.{Job}
use Rattle.fh_dispatch.specs.declared.ready.Job.TheVariants.{Message, Timer}
use Rattle.fh_dispatch.specs.declared.ready.ReadyJob.{ReadyJob}
use Rattle.fh_dispatch.specs.declared.running.NewRun.{NewRun}
use Rattle.fh_dispatch.specs.declared.running.Running.{Running}
use Rattle.fh_dispatch.specs.Acts.{acted, by_acts, numbered}
use Rattle.fh_dispatch.specs.InWork.{in_work, runs_in}
use Rattle.fh_dispatch.specs.Invocations.{by_function, by_number, runs_of, with_run, with_renewal, without_run, without_runs_of, renewed, renewed_job}
use Rattle.fh_dispatch.specs.Part.{WorkPart}
use Rattle.fh_dispatch.specs.Ready.{jobs_of, first_job, is_run, without_first, without_jobs_of}
use Rattle.fh_dispatch.specs.Renewals.{Due, renewing_acts, receipt_after}
use Rattle.fh_dispatch.proofs.Filters.{filter-filter, filter-map}
use Rattle.fh_dispatch.proofs.Keys.{is_eq-nat_cmp}
use Rattle.fh_dispatch.proofs.Ruled.{IsBeginning}

-- ---- the first job of a function

pub first-own : (f : ℕ) (ready : List ReadyJob) (job : ReadyJob) → first_job f ready ≡ Some job
    → jobs_of f ready ≡ job ∷ jobs_of f (without_first f ready)
first-own f [] job is = cc
first-own f (x ∷ xs) job is = by_test (x.function == f) refl is (first-own f xs job)
  where
    by_test : (b : Bool) → (x.function == f) ≡ b → (if b then Some x else first_job f xs) ≡ Some job
        → (first_job f xs ≡ Some job → jobs_of f xs ≡ job ∷ jobs_of f (without_first f xs))
        → (if b then x ∷ jobs_of f xs else jobs_of f xs)
        ≡ job ∷ jobs_of f (if b then xs else x ∷ without_first f xs)
    by_test true same found rest = let is : x ≡ job = cc in ap (λ (y : ReadyJob). y ∷ jobs_of f xs) is
    by_test false other found rest = rw other (rest found)

pub first-other : (f g : ℕ) → (g == f) ≡ false → (ready : List ReadyJob)
    → jobs_of f (without_first g ready) ≡ jobs_of f ready
first-other f g other [] = refl
first-other f g other (x ∷ xs) = by_tests (x.function == g) (x.function == f) refl refl (first-other f g other xs)
  where
    by_tests : (b c : Bool) → (x.function == g) ≡ b → (x.function == f) ≡ c
        → jobs_of f (without_first g xs) ≡ jobs_of f xs → jobs_of f (if b then xs else x ∷ without_first g xs) ≡ (if c then x ∷ jobs_of f xs else jobs_of f xs)
    by_tests true true one two rest = absurd (grind (arith, nat_tests, other, one, two))
    by_tests true false one two rest = refl
    by_tests false true one two rest = rw two (ap (λ (js : List ReadyJob). x ∷ js) rest)
    by_tests false false one two rest = rw two rest

-- ---- filters

filter-less : {X : Type 0} (p keeps : X → Bool) (xs : List X) → length (filter p (filter keeps xs)) ≤ length (filter p xs)
filter-less p keeps [] = omega arith
filter-less p keeps (x ∷ xs) = by_tests (keeps x) (p x) refl (filter-less p keeps xs)
  where
    by_tests : (k b : Bool) → p x ≡ b → length (filter p (filter keeps xs)) ≤ length (filter p xs)
        → length (filter p (if k then x ∷ filter keeps xs else filter keeps xs))
        ≤ length (if b then x ∷ filter p xs else filter p xs)
    by_tests true true is rest = rw is (omega (arith, rest))
    by_tests true false is rest = rw is rest
    by_tests false true is rest = omega (arith, rest)
    by_tests false false is rest = rest

pub filter-all : {X : Type 0} (xs : List X) → filter (λ (x : X). true) xs ≡ xs
filter-all [] = refl
filter-all (x ∷ xs) = ap (λ more. x ∷ more) (filter-all xs)

filter-length : {X : Type 0} (p : X → Bool) (xs : List X) → length (filter p xs) ≤ length xs
filter-length p xs = subst (λ n. length (filter p xs) ≤ n) (ap length (filter-all xs))
    (by_list xs)
  where
    by_list : (ys : _) → length (filter p ys) ≤ length (filter (λ y. true) ys)
    by_list [] = omega arith
    by_list (y ∷ ys) = by_test (p y) (by_list ys)
      where
        by_test : (b : Bool) → length (filter p ys) ≤ length (filter (λ z. true) ys)
            → length (if b then y ∷ filter p ys else filter p ys) ≤ length (y ∷ filter (λ z. true) ys)
        by_test true rest = omega (arith, rest)
        by_test false rest = omega (arith, rest)

-- ---- jobs in work that pass a test

module _ (q : Job → Bool) where
  abbrev pub job_passes : ReadyJob → Bool
  job_passes job = q job.job

  abbrev pub run_passes : Running → Bool
  run_passes run = q run.job

  -- how many jobs of a function that pass are ready, and how many run
  abbrev pub ready_passing : ℕ → List ReadyJob → ℕ
  ready_passing f ready = length (filter job_passes (jobs_of f ready))

  abbrev pub running_passing : ℕ → List Running → ℕ
  running_passing f running = length (filter run_passes (runs_of f running))

  abbrev pub passing : ℕ → WorkPart → ℕ
  passing f part = ready_passing f part.ready + running_passing f part.running

  passing-first : (f : ℕ) (ready : List ReadyJob) (job : ReadyJob) → first_job f ready ≡ Some job
      → ready_passing f ready ≡ (if q job.job then 1 else 0) + ready_passing f (without_first f ready)
  passing-first f ready job is =
      ap (λ js. length (filter job_passes js)) (first-own f ready job is) ∙ by_test (q job.job)
    where
      rest : List ReadyJob
      rest = filter job_passes (jobs_of f (without_first f ready))

      by_test : (b : Bool) → length (if b then job ∷ rest else rest) ≡ (if b then 1 else 0) + length rest
      by_test true = omega arith
      by_test false = omega arith

  passing-begun : (f : ℕ) (run : Running) (running : List Running)
      → running_passing f (with_run run running)
      ≡ running_passing f running + (if run.function == f then (if q run.job then 1 else 0) else 0)
  passing-begun f run running =
      ap (λ rs. length (filter run_passes rs)) (filter-append (λ r. is_eq (by_function f r)) running (run ∷ []))
      ∙ ap length (filter-append run_passes (runs_of f running) (runs_of f (run ∷ [])))
      ∙ length-append (filter run_passes (runs_of f running)) (filter run_passes (runs_of f (run ∷ [])))
      ∙ ap (λ n. running_passing f running + n) last
    where
      last : length (filter run_passes (runs_of f (run ∷ [])))
          ≡ (if run.function == f then (if q run.job then 1 else 0) else 0)
      last = rw (is_eq-nat_cmp run.function f) (by_tests (run.function == f) (q run.job) refl)
        where
          by_tests : (b c : Bool) → q run.job ≡ c
              → length (filter run_passes (if b then run ∷ [] else [])) ≡ (if b then (if c then 1 else 0) else 0)
          by_tests true true is = rw is refl
          by_tests true false is = rw is refl
          by_tests false c is = refl

  -- of rows that are left there are no more
  passing-filtered : (f : ℕ) (keeps : Running → Bool) (running : List Running)
      → running_passing f (filter keeps running) ≤ running_passing f running
  passing-filtered f keeps running =
      let turned = ap (λ rs. length (filter run_passes rs)) (filter-filter (λ run. is_eq (by_function f run)) keeps running) in
      let fewer = filter-less run_passes keeps (runs_of f running) in
      omega (arith, turned, fewer)

  ready-filtered : (f : ℕ) (keeps : ReadyJob → Bool) (ready : List ReadyJob)
      → ready_passing f (filter keeps ready) ≤ ready_passing f ready
  ready-filtered f keeps ready =
      let turned = ap (λ js. length (filter job_passes js)) (filter-filter (λ job. job.function == f) keeps ready) in
      let fewer = filter-less job_passes keeps (jobs_of f ready) in
      omega (arith, turned, fewer)

  pub passing-set : (f g : ℕ) (drops : Bool) (part after : WorkPart)
      → after.ready ≡ (if drops then without_jobs_of g part.ready else part.ready)
      → after.running ≡ (if drops then without_runs_of g part.running else part.running)
      → passing f after ≤ passing f part
  passing-set f g true part after ready running =
      let jobs = ap (ready_passing f) ready in
      let runs = ap (running_passing f) running in
      let fewer = ready-filtered f (λ job. not (job.function == g)) part.ready in
      let less = passing-filtered f (λ run. is_ne (by_function g run)) part.running in
      omega (arith, jobs, runs, fewer, less)
  passing-set f g false part after ready running =
      let jobs = ap (ready_passing f) ready in
      let runs = ap (running_passing f) running in
      omega (arith, jobs, runs)

  -- a test that sees a run of a timer and a message apart, and no more
  abbrev pub SeesKinds : Type 0
  SeesKinds = (one other : Job) → is_run one ≡ is_run other → q one ≡ q other

  module _ (kinds : SeesKinds) where
    first-taken : (part : WorkPart) (g : ℕ) → by_acts part (TakeFirst g ∷ []) ≡ record part {
      ready = without_first g part.ready;
    }
    unfolding acted
    first-taken part g = refl

    first-started : (part : WorkPart) (g : ℕ) (run : NewRun) → by_acts part (TakeFirst g ∷ AddRunning run ∷ [])
        ≡ record part {
          ready = without_first g part.ready;
          running = with_run (numbered part.next_invocation run) part.running;
          next_invocation = part.next_invocation + 1;
        }
    unfolding acted
    first-started part g run = refl

    pub passing-beginning : (f g : ℕ) (part : WorkPart) (job : ReadyJob) (acts : List Act)
        → first_job g part.ready ≡ Some job → IsBeginning g job acts → passing f (by_acts part acts) ≤ passing f part
    passing-beginning f g part job acts first (inl is) =
        subst (λ (made : List Act). passing f (by_acts part made) ≤ passing f part) (sym is)
        (subst (λ (p : WorkPart). passing f p ≤ passing f part) (sym (first-taken part g)) (by_test (g == f) refl))
      where
        by_test : (b : Bool) → (g == f) ≡ b
            → ready_passing f (without_first g part.ready) + running_passing f part.running ≤ passing f part
        by_test true own =
            let same : ready_passing g part.ready ≡ (if q job.job then 1 else 0) + ready_passing g
            (without_first g part.ready) = passing-first g part.ready job first in
            subst (λ (h : ℕ). ready_passing h (without_first g part.ready) + running_passing h part.running
            ≤ passing h part) (eqb-true _ _ own) (omega (arith, same))
        by_test false other =
            let same = ap (λ js. length (filter job_passes js)) (first-other f g other part.ready) in
            omega (arith, same)
    passing-beginning f g part job acts first (inr so) =
        subst (λ (made : List Act). passing f (by_acts part made) ≤ passing f part) (sym so.acts_are)
        (subst (λ (p : WorkPart). passing f p ≤ passing f part) (sym (first-started part g so.run))
        (by_test (g == f) refl))
      where
        run : Running
        run = numbered part.next_invocation so.run

        kind : q run.job ≡ q job.job
        kind = kinds so.run.job job.job so.kind

        by_test : (b : Bool) → (g == f) ≡ b
            → ready_passing f (without_first g part.ready) + running_passing f (with_run run part.running)
            ≤ passing f part
        by_test true own =
            let before = passing-first g part.ready job first in
            let mine : (run.function == g) ≡ true = rw so.function (grind (arith, nat_tests)) in
            let after : running_passing g (with_run run part.running)
            ≡ running_passing g part.running + (if q job.job then 1 else 0) =
            passing-begun g run part.running
            ∙ ap (λ (b : Bool). running_passing g part.running + (if b then (if q run.job then 1 else 0) else 0)) mine
            ∙ ap (λ (b : Bool). running_passing g part.running + (if b then 1 else 0)) kind in
            subst (λ (h : ℕ). ready_passing h (without_first g part.ready) + running_passing h
            (with_run run part.running) ≤ passing h part) (eqb-true _ _ own) (omega (arith, before, after))
        by_test false other =
            let same = ap (λ js. length (filter job_passes js)) (first-other f g other part.ready) in
            let not_mine : (run.function == f) ≡ false = ap (λ h. h == f) so.function ∙ other in
            let after : running_passing f (with_run run part.running) ≡ running_passing f part.running + 0 =
            passing-begun f run part.running
            ∙ ap (λ (b : Bool). running_passing f part.running + (if b then (if q run.job then 1 else 0) else 0)) not_mine in
            omega (arith, same, after)

    run-ended : (part : WorkPart) (ended : ℕ) → by_acts part (EndRunning ended ∷ []) ≡ record part {
      running = without_run ended part.running;
    }
    unfolding acted
    run-ended part ended = refl

    pub passing-ended : (f ended : ℕ) (part : WorkPart)
        → passing f (by_acts part (EndRunning ended ∷ [])) ≤ passing f part
    passing-ended f ended part =
        subst (λ (p : WorkPart). passing f p ≤ passing f part) (sym (run-ended part ended))
        (let fewer = less part.running in omega (arith, fewer))
      where
        less : (running : List Running) → running_passing f (without_run ended running) ≤ running_passing f running
        less running = passing-filtered f (λ run. is_ne (by_number ended run)) running

    renewed-run : (invocation receipt due : ℕ) (running : List Running) (f : ℕ)
        → running_passing f (with_renewal invocation receipt due running) ≡ running_passing f running
    renewed-run invocation receipt due running f =
        ap (λ rs. length (filter run_passes rs))
        (filter-map (λ r. is_eq (by_function f r)) change (λ r. same_function r) running)
        ∙ ap length (filter-map run_passes change (λ r. same_kind r) (runs_of f running))
        ∙ length-map (filter run_passes (runs_of f running)) change
      where
        change : Running → Running
        change r = if is_eq (by_number invocation r) then renewed receipt due r else r

        by_job : (job : Job) → is_run (renewed_job receipt job) ≡ is_run job
        by_job (Message number old) = refl
        by_job (Timer run) = refl

        same_function : (r : Running) → is_eq (by_function f (change r)) ≡ is_eq (by_function f r)
        same_function r = by_test (is_eq (by_number invocation r))
          where
            by_test : (b : Bool) → is_eq (by_function f (if b then renewed receipt due r else r))
                ≡ is_eq (by_function f r)
            by_test true = refl
            by_test false = refl

        same_kind : (r : Running) → q (change r).job ≡ q r.job
        same_kind r = by_test (is_eq (by_number invocation r))
          where
            by_test : (b : Bool) → q (if b then renewed receipt due r else r).job ≡ q r.job
            by_test true = kinds (renewed_job receipt r.job) r.job (by_job r.job)
            by_test false = refl

    one-renewed : (part : WorkPart) (invocation receipt due : ℕ) → acted part (RenewRunning invocation receipt due)
        ≡ record part { running = with_renewal invocation receipt due part.running }
    unfolding acted
    one-renewed part invocation receipt due = refl

    pub passing-renewed : (f receipt m : ℕ) (dues : List Due) (part : WorkPart)
        → passing f (by_acts part (renewing_acts receipt m dues)) ≡ passing f part
    passing-renewed f receipt m [] part = refl
    passing-renewed f receipt m (due ∷ dues) part =
        passing-renewed f (receipt_after receipt due.due_row) m dues (acted part (RenewRunning due.run.invocation _ _))
        ∙ ap (passing f) (one-renewed part due.run.invocation _ _)
        ∙ ap (λ n. ready_passing f part.ready + n) (renewed-run due.run.invocation _ _ part.running f)

-- ---- all jobs, and runs of timers

pub all_passing : (f : ℕ) (part : WorkPart) → in_work f part ≡ passing (λ job. true) f part
all_passing f part = rw (filter-all (jobs_of f part.ready), filter-all (runs_of f part.running)) refl

pub runs_within : (f : ℕ) (part : WorkPart) → runs_in f part ≤ in_work f part
runs_within f part =
    let ready = filter-length (λ (job : ReadyJob). is_run job.job) (jobs_of f part.ready) in
    let running = filter-length (λ (run : Running). is_run run.job) (runs_of f part.running) in
    omega (arith, ready, running)
