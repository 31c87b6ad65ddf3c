use Rattle.std.proofs.Common.{◌≡◌, false, ap, sym, ◌∙◌}
use Rattle.fh_dispatch.specs.Part.{function_of}
use Rattle.fh_dispatch.specs.Settings.{is_as}
use Rattle.fh_dispatch.specs.Part.{number_or}
use Rattle.fh_dispatch.specs.Edits.{WorkState}
use Rattle.fh_dispatch.proofs.Configuring.{set_asks}
use Rattle.fh_dispatch.proofs.work.Work.plan_configure.Goals as goal

pub returns-clause-queues : goal.returns-clause-queues
returns-clause-queues c =
    let part = c.args.self.now.part in
    let loud : is_as c.args.settings.now (function_of c.args.name.now part.functions) ≡ false =
    ap (is_as c.args.settings.now) (sym c.function_of-found.ensures) ∙ sym c.is_as.ensures ∙ c.if-is_as.false in
    let next : c.self.inside.next_function ≡ part.next_function =
    ap (λ (w : WorkState). w.part.next_function) c.self.view_is in
    let numbered : c.number_or-number.result ≡ number_or part.next_function
    (function_of c.args.name.now part.functions) = c.number_or-number.ensures
    ∙ rw next (ap (number_or part.next_function) c.function_of-found.ensures) in
    rw (set_asks part c.args.name.now c.args.settings.now c.number_or-number.result loud numbered
    c.args.queues.now.part c.in_ok-queue.queue c.in_ok-queue.ensures.queue) c.in_ok-queues.ensures
