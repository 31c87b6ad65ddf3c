use Rattle.std.proofs.Common.{◌≡◌, rules}
use Rattle.std.specs.Prelude.{◌==◌, not}
use Rattle.std.proofs.lemmas.Fn.{filter_same}
use Rattle.fh_dispatch.specs.declared.ready.ReadyJob.{ReadyJob}
use Rattle.fh_dispatch.specs.Ready.{without_jobs_of}
use Rattle.fh_dispatch.proofs.Jobs.{ordered-filter}
use Rattle.fh_dispatch.proofs.ready.take_out.Goals as goal

pub returns-clause-jobs : goal.returns-clause-jobs
returns-clause-jobs c = filter_same _ (λ (job : ReadyJob). not (job.function == c.args.function)) _
    (λ job b f' called. search rules) _ _ c.retain.ensures.filtered

pub returns-clause-ordered : goal.returns-clause-ordered
returns-clause-ordered c =
    let kept : c.retain.new.self.items ≡ without_jobs_of c.args.function c.args.jobs.now.items
    = filter_same _ (λ (job : ReadyJob). not (job.function == c.args.function)) _ (λ job b f' called. search rules)
    _ _ c.retain.ensures.filtered in
    rw kept (ordered-filter (λ (job : ReadyJob). not (job.function == c.args.function))
    c.args.jobs.now.items c.requires)
