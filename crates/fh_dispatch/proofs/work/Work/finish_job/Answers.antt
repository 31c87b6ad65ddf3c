use Rattle.std.proofs.Common.{◌≡◌, ap, ◌∙◌, sym}
use Rattle.fh_dispatch.specs.Terms.{terms_in}
use Rattle.fh_dispatch.proofs.work.Work.finish_job.Goals as goal

pub returns-in-Message : goal.returns-in-Message
returns-in-Message c =
    let part = c.args.self.now.part in
    let terms : c.terms_of-terms.result ≡ terms_in part c.args.run.now.name =
    c.terms_of-terms.ensures ∙ ap (terms_in part) c.as_str.ensures in
    rw c.in-Message.is (rw (sym terms) (rw (sym c.held_row-row.ensures) c.finish_row.ensures))
