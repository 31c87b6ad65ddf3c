-- One more invocation of which a hold goes on.
use Rattle.std.proofs.Common.{◌≡◌, ℕ, List, [], ◌∷◌, ◌++◌, refl, ap, sym, ◌∙◌}
use Rattle.std.proofs.lemmas.List.{append-nil, append_assoc}
use Rattle.fh_dispatch.specs.declared.act.Act.{Act}
use Rattle.fh_dispatch.specs.declared.act.Act.TheVariants.{RenewRunning}
use Rattle.fh_dispatch.specs.Renewals.{Due, parts_of, told_from, receipt_for, receipt_after, due_next, renewing_acts}

-- the next receipt behind all of these
abbrev pub receipts_after : ℕ → List Due → ℕ
receipts_after receipt [] = receipt
receipts_after receipt (due ∷ dues) = receipts_after (receipt_after receipt due.due_row) dues

pub receipts_after_push : (receipt : ℕ) (dues : List Due) (due : Due)
    → receipts_after receipt (dues ++ due ∷ []) ≡ receipt_after (receipts_after receipt dues) due.due_row
receipts_after_push receipt [] due = refl
receipts_after_push receipt (first ∷ dues) due = receipts_after_push (receipt_after receipt first.due_row) dues due

pub told_from_push : (m receipt : ℕ) (dues : List Due) (due : Due)
    → told_from receipt m (dues ++ due ∷ [])
    ≡ told_from receipt m dues ++ parts_of (receipts_after receipt dues) m due
told_from_push m receipt [] due = append-nil (parts_of receipt m due)
told_from_push m receipt (first ∷ dues) due =
    ap (λ more. parts_of receipt m first ++ more) (told_from_push m (receipt_after receipt first.due_row) dues due)
    ∙ sym (append_assoc (parts_of receipt m first) (told_from (receipt_after receipt first.due_row) m dues)
    (parts_of (receipts_after (receipt_after receipt first.due_row) dues) m due))

abbrev pub act_of : ℕ → ℕ → Due → Act
act_of receipt m due =
    RenewRunning due.run.invocation (receipt_for receipt due.run.job due.due_row) (due_next m due)

pub renewing_acts_push : (m receipt : ℕ) (dues : List Due) (due : Due)
    → renewing_acts receipt m (dues ++ due ∷ [])
    ≡ renewing_acts receipt m dues ++ act_of (receipts_after receipt dues) m due ∷ []
renewing_acts_push m receipt [] due = refl
renewing_acts_push m receipt (first ∷ dues) due =
    ap (λ more. act_of receipt m first ∷ more)
    (renewing_acts_push m (receipt_after receipt first.due_row) dues due)
