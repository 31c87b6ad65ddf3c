use Rattle.std.proofs.Common.{◌<◌, ◌≤◌, arith, rules}
use Rattle.std.specs.Prelude.{nat_lt}
use Rattle.std.proofs.lemmas.Bool.Decides.{nat_tests}
use Rattle.std.proofs.lemmas.List.Sorted.{IsPartitionPoint-from_clause, IsPartitionedBy-ltb}
use Rattle.fh_dispatch.specs.declared.ready.ReadyJob.{ReadyJob}
use Rattle.fh_dispatch.proofs.Jobs.{ends_from_test}
use Rattle.fh_dispatch.proofs.ready.place_before.Goals as goal

pub returns-clause-place : goal.returns-clause-place
returns-clause-place c =
    let jobs = c.args.jobs.now in
    let f = c.args.function in
    ends_from_test (λ (job : ReadyJob). nat_lt job.function f) (λ (job : ReadyJob). job.function < f)
    (λ (job : ReadyJob). f ≤ job.function) jobs _
    (λ job is. grind (arith, nat_tests, is)) (λ job is. grind (arith, nat_tests, is))
    (IsPartitionPoint-from_clause (λ (job : ReadyJob). nat_lt job.function f)
    jobs _ c.partition_point.ensures.partitioned
    (IsPartitionedBy-ltb (λ (job : ReadyJob). job.function) jobs f c.requires) (λ a r f' called. search rules))
