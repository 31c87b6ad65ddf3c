use Rattle.std.proofs.Common.{◌≡◌, ◌≤◌, List, length, rules, subst}
use Rattle.std.specs.Prelude.{insert}
use Rattle.fh_dispatch.specs.declared.ready.ReadyJob.{ReadyJob}
use Rattle.fh_dispatch.proofs.Jobs.{EndsAt, insert-job, insert-ordered}
use Rattle.fh_dispatch.proofs.ready.put.Goals as goal

pub returns-clause-jobs : goal.returns-clause-jobs
returns-clause-jobs c =
    let place = c.place_behind-place.result in
    let added : c.insert-added.new.self.items ≡ insert c.args.jobs.now.items place c.args.job = search rules in
    let within = subst (λ (jobs : List ReadyJob). place ≤ length jobs)
    c.deref.ensures.value c.place_behind-place.ensures.within in
    let upto = subst (λ (jobs : List ReadyJob). EndsAt c.args.job.function jobs place)
    c.deref.ensures.value c.place_behind-place.ensures.place in
    rw added (insert-job c.args.job c.args.jobs.now.items place upto within)

pub returns-clause-ordered : goal.returns-clause-ordered
returns-clause-ordered c =
    let place = c.place_behind-place.result in
    let added : c.insert-added.new.self.items ≡ insert c.args.jobs.now.items place c.args.job = search rules in
    let within = subst (λ (jobs : List ReadyJob). place ≤ length jobs)
    c.deref.ensures.value c.place_behind-place.ensures.within in
    let upto = subst (λ (jobs : List ReadyJob). EndsAt c.args.job.function jobs place)
    c.deref.ensures.value c.place_behind-place.ensures.place in
    rw added (insert-ordered c.args.job c.args.jobs.now.items place upto within c.requires.ordered)
