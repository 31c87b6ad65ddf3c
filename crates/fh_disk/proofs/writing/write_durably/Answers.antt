use Rattle.std.proofs.Common.{ℕ, List, length}
use Rattle.fh_disk.specs.Disk.{Torn}
use Rattle.fh_disk.specs.Torn.{torn_same}
use Rattle.fh_disk.proofs.Told.{told_torn, same_torn}
use Rattle.fh_disk.proofs.Moments.{started, goes_on}
use Rattle.fh_disk.proofs.writing.write_durably.Goals as goal

pub returns-in_err-write_at-clause-time : goal.returns-in_err-write_at-clause-time
returns-in_err-write_at-clause-time g c =
    let old = c.args.disk.now in
    let size = length c.args.bytes.now in
    let P : List ℕ → Type 0 = λ f. (d : List ℕ) × g.J.Disk.may_leave old d × Torn c.args.at size d f in
    let before = started g.J.Disk.moment g.J.Disk.left_since old P
    (λ f left. (f, g.met.J.Disk.only_now old f left, torn_same c.args.at size f)) in
    goes_on g.J.Disk.moment g.J.Disk.left_since old old c.write_at.new.self P _ before c.write_at.ensures.time
    c.write_at.ensures.images

pub returns-clause-time : goal.returns-clause-time
returns-clause-time g c =
    let old = c.args.disk.now in
    let size = length c.args.bytes.now in
    let P : List ℕ → Type 0 = λ f. (d : List ℕ) × g.J.Disk.may_leave old d × Torn c.args.at size d f in
    let before = started g.J.Disk.moment g.J.Disk.left_since old P
    (λ f left. (f, g.met.J.Disk.only_now old f left, torn_same c.args.at size f)) in
    let written = goes_on g.J.Disk.moment g.J.Disk.left_since old old c.write_at.new.self P _ before
    c.write_at.ensures.time c.write_at.ensures.images in
    goes_on g.J.Disk.moment g.J.Disk.left_since old c.write_at.new.self c.sync.new.self P _ written c.sync.ensures.time
    (λ f left. c.write_at.ensures.images f (c.sync.ensures.images f left))

pub returns-clause-torn : goal.returns-clause-torn
returns-clause-torn g c =
    same_torn _ _ _ c.args.at (length c.args.bytes.now)
    (told_torn _ _ c.args.at c.args.bytes.now c.in_ok-write_at.ensures.written) c.sync.ensures.told
