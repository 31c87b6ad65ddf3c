use Rattle.std.proofs.Common.{inl, inr, ◌≡◌, ◌⊎◌, ◌+◌, ℕ, Bool, true, false, List, [], ◌∷◌, ◌++◌, Option, length, ◌∙◌, subst, arith}
use Rattle.fh_disk.proofs.Told.{stays_told, torn_stays}
use Rattle.fh_journal.specs.Keeping.{Keeps, IsBeforeOrAfter}
use Rattle.fh_journal.proofs.Kept.{keeps_closed, keeps_staged, keeps_doubt, keeps_opened, whole_keeps}
use Rattle.fh_journal.proofs.Since.{begun, one_more, stage_since, gate_since, closed_reads, gate_reads, on_err}
use Rattle.fh_journal.proofs.journal.Journal.append.Goals as goal

-- after an append that failed
abbrev Before : Option (List ℕ) → (List ℕ → Type 0) → Bool → List (List ℕ) → List ℕ → List ℕ → ℕ → Type 0
Before told images torn payloads failed payload gate =
    Keeps told images torn payloads failed gate ⊎ Keeps told images torn payloads payload gate

pub returns-in_err-mend-clause-any_moment : goal.returns-in_err-mend-clause-any_moment
returns-in_err-mend-clause-any_moment g c payloads failed keeps =
    begun g.J.Disk.moment g.J.Disk.left_since c.args.self.now.disk.now c.mend.new.self.disk.now _ c.args.self.now.torn
    payloads failed c.args.payload.now
    (c.mend.ensures.any_moment payloads failed keeps)

pub returns-in_err-write_durably-clause-not_added : goal.returns-in_err-write_durably-clause-not_added
returns-in_err-write_durably-clause-not_added g c =
    let not_added = λ (payloads : List (List ℕ)) (failed : List ℕ)
    (keeps : Keeps (g.J.Disk.told c.args.self.now.disk.now) (g.J.Disk.may_leave c.args.self.now.disk.now)
    c.args.self.now.torn payloads failed
    c.args.self.now.gate).
    let kept : Before (g.J.Disk.told c.write_durably.new.disk) (g.J.Disk.may_leave c.write_durably.new.disk)
    c.mend.new.self.torn payloads failed c.args.payload.now c.mend.new.self.gate =
    inl (whole_keeps _ _ c.mend.new.self.torn payloads failed c.mend.new.self.gate c.in_ok-mend.ensures.whole
    (keeps_closed _ _ _ _ payloads _ _ (c.in_ok-mend.ensures.mended payloads failed keeps)
    c.write_durably.ensures.torn c.write_durably.ensures.images)) in kept in
    on_err _ not_added

pub returns-in_err-write_durably-clause-any_moment : goal.returns-in_err-write_durably-clause-any_moment
returns-in_err-write_durably-clause-any_moment g c payloads failed keeps =
    let P = IsBeforeOrAfter c.args.self.now.torn payloads failed c.args.payload.now in
    let mended = begun g.J.Disk.moment g.J.Disk.left_since c.args.self.now.disk.now c.mend.new.self.disk.now _
    c.args.self.now.torn payloads failed
    c.args.payload.now (c.mend.ensures.any_moment payloads failed keeps) in
    let staging = stage_since g.J.Disk.moment g.J.Disk.left_since c.mend.new.self.disk.now c.write_durably.new.disk _ _
    payloads _ _
    c.write_durably.ensures.time (c.in_ok-mend.ensures.mended payloads failed keeps) in
    one_more g.J.Disk.moment g.J.Disk.left_since c.args.self.now.disk.now c.mend.new.self.disk.now
    c.write_durably.new.disk _ _ P _ c.mend.ensures.told mended
    staging (closed_reads c.args.self.now.torn payloads failed c.args.payload.now _)

pub returns-in_err-write_durably-2-clause-not_added : goal.returns-in_err-write_durably-2-clause-not_added
returns-in_err-write_durably-2-clause-not_added g c =
    let not_added = λ (payloads : List (List ℕ)) (failed : List ℕ)
    (keeps : Keeps (g.J.Disk.told c.args.self.now.disk.now) (g.J.Disk.may_leave c.args.self.now.disk.now)
    c.args.self.now.torn payloads failed
    c.args.self.now.gate).
    let staged = keeps_staged _ _ _ _ payloads _ c.args.payload.now _
    (c.deref.ensures.value ∙ c.put_frame.ensures.bytes) c.requires.short
    (c.in_ok-mend.ensures.mended payloads failed keeps)
    c.in_ok-write_durably.ensures.written c.in_ok-write_durably.ensures.durable in
    let kept : Before (g.J.Disk.told c.write_durably-2.new.disk) (g.J.Disk.may_leave c.write_durably-2.new.disk)
    true payloads failed c.args.payload.now c.mend.new.self.gate =
    inr (keeps_doubt _ _ _ _ payloads _ c.args.payload.now staged c.write_durably-2.ensures.torn
    c.write_durably-2.ensures.images) in kept in
    on_err _ not_added

pub returns-clause-added : goal.returns-clause-added
returns-clause-added g c payloads failed keeps =
    let staged = keeps_staged _ _ _ _ payloads _ c.args.payload.now _
    (c.deref.ensures.value ∙ c.put_frame.ensures.bytes) c.requires.short
    (c.in_ok-mend.ensures.mended payloads failed keeps)
    c.in_ok-write_durably.ensures.written c.in_ok-write_durably.ensures.durable in
    let place : c.mend.new.self.gate + 5 + length c.args.payload.now ≡ c.mend.new.self.gate + c.len.result =
    omega (arith, c.put_frame.ensures.size, c.len.ensures) in
    subst
    (λ (n : ℕ). Keeps (g.J.Disk.told c.write_durably-2.new.disk) (g.J.Disk.may_leave c.write_durably-2.new.disk) false
    (payloads ++ c.args.payload.now ∷ []) [] n)
    place
    (keeps_opened _ _ _ _ payloads _ c.args.payload.now staged c.in_ok-write_durably-2.ensures.written
    c.in_ok-write_durably-2.ensures.durable)

pub returns-in_err-write_durably-2-clause-any_moment : goal.returns-in_err-write_durably-2-clause-any_moment
returns-in_err-write_durably-2-clause-any_moment g c payloads failed keeps =
    let P = IsBeforeOrAfter c.args.self.now.torn payloads failed c.args.payload.now in
    let whole = c.in_ok-mend.ensures.mended payloads failed keeps in
    let mended = begun g.J.Disk.moment g.J.Disk.left_since c.args.self.now.disk.now c.mend.new.self.disk.now _
    c.args.self.now.torn payloads failed
    c.args.payload.now (c.mend.ensures.any_moment payloads failed keeps) in
    let staging = stage_since g.J.Disk.moment g.J.Disk.left_since c.mend.new.self.disk.now c.write_durably.new.disk _ _
    payloads _ _
    c.write_durably.ensures.time whole in
    let is_staged = one_more g.J.Disk.moment g.J.Disk.left_since c.args.self.now.disk.now c.mend.new.self.disk.now
    c.write_durably.new.disk _ _ P _
    c.mend.ensures.told mended staging (closed_reads c.args.self.now.torn payloads failed c.args.payload.now _) in
    let staged = keeps_staged _ _ _ _ payloads _ c.args.payload.now _
    (c.deref.ensures.value ∙ c.put_frame.ensures.bytes) c.requires.short
    whole c.in_ok-write_durably.ensures.written c.in_ok-write_durably.ensures.durable in
    let opening = gate_since g.J.Disk.moment g.J.Disk.left_since c.write_durably.new.disk c.write_durably-2.new.disk _
    _ payloads c.args.payload.now _
    c.write_durably-2.ensures.time staged in
    let told = stays_told _ _ _ c.mend.ensures.told (torn_stays _ _ _ _ c.write_durably.ensures.torn) in
    one_more g.J.Disk.moment g.J.Disk.left_since c.args.self.now.disk.now c.write_durably.new.disk
    c.write_durably-2.new.disk _ _ P _ told is_staged
    opening (gate_reads c.args.self.now.torn payloads failed c.args.payload.now _)

pub returns-clause-any_moment : goal.returns-clause-any_moment
returns-clause-any_moment g c payloads failed keeps =
    let P = IsBeforeOrAfter c.args.self.now.torn payloads failed c.args.payload.now in
    let whole = c.in_ok-mend.ensures.mended payloads failed keeps in
    let mended = begun g.J.Disk.moment g.J.Disk.left_since c.args.self.now.disk.now c.mend.new.self.disk.now _
    c.args.self.now.torn payloads failed
    c.args.payload.now (c.mend.ensures.any_moment payloads failed keeps) in
    let staging = stage_since g.J.Disk.moment g.J.Disk.left_since c.mend.new.self.disk.now c.write_durably.new.disk _ _
    payloads _ _
    c.write_durably.ensures.time whole in
    let is_staged = one_more g.J.Disk.moment g.J.Disk.left_since c.args.self.now.disk.now c.mend.new.self.disk.now
    c.write_durably.new.disk _ _ P _
    c.mend.ensures.told mended staging (closed_reads c.args.self.now.torn payloads failed c.args.payload.now _) in
    let staged = keeps_staged _ _ _ _ payloads _ c.args.payload.now _
    (c.deref.ensures.value ∙ c.put_frame.ensures.bytes) c.requires.short
    whole c.in_ok-write_durably.ensures.written c.in_ok-write_durably.ensures.durable in
    let opening = gate_since g.J.Disk.moment g.J.Disk.left_since c.write_durably.new.disk c.write_durably-2.new.disk _
    _ payloads c.args.payload.now _
    c.write_durably-2.ensures.time staged in
    let told = stays_told _ _ _ c.mend.ensures.told (torn_stays _ _ _ _ c.write_durably.ensures.torn) in
    one_more g.J.Disk.moment g.J.Disk.left_since c.args.self.now.disk.now c.write_durably.new.disk
    c.write_durably-2.new.disk _ _ P _ told is_staged
    opening (gate_reads c.args.self.now.torn payloads failed c.args.payload.now _)
