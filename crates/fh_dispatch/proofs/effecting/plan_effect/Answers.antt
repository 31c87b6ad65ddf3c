use Rattle.std.proofs.Common.{◌≡◌, Err, rules}
use Rattle.fh_event.specs.Judging.{Makes}
use Rattle.fh_dispatch.specs.declared.done.WorkDone.TheVariants.{Told}
use Rattle.fh_dispatch.specs.Effects.{effect_of}
use Rattle.fh_dispatch.specs.Rulings.{Acting, blobs_accept, leases_accept}
use Rattle.fh_dispatch.specs.Stores.{others_of}
use Rattle.fh_dispatch.proofs.Refusing.{refused}
use Rattle.fh_dispatch.proofs.effecting.plan_effect.Goals as goal

pub returns-in_err-leases-clause-work : goal.returns-in_err-leases-clause-work
returns-in_err-leases-clause-work c part =
    let others = others_of c.args.stores in
    let effect = effect_of c.args.effect in
    let own : Acting = Makes effect.acts (Told effect.told) in
    let with_leases : Acting = leases_accept others c.args.m effect.leases own in
    let with_blobs : Acting = blobs_accept others c.args.m effect.blobs with_leases in
    let fault : c.from_residual-in_err-leases.result ≡ Err c.in_err-leases.field-0.0 = search rules in
    rw (c.in_ok-queues.ensures.accepted with_blobs, c.in_ok-blobs.ensures.accepted with_leases, fault)
    (refused c.in_err-leases.field-0.0 with_leases (c.in_err-leases.ensures.refused own) part)
