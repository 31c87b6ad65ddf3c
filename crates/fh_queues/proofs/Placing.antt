-- A message has a place exactly where its number was given.
use Rattle.std.proofs.Common.{◌≡◌, ℕ, ◌≤◌, ◌<◌, Bool, true, false, not, Option, Some, None, is_some, refl, ◌∙◌, ap, arith}
use Rattle.std.specs.Prelude.{◌&&◌, nat_le, nat_lt, if◌then◌else◌}
use Rattle.std.proofs.lemmas.Bool.Decides.{nat_tests}
use Rattle.fh_event.specs.declared.reply.Place.TheVariants as place
use Rattle.fh_queues.specs.declared.row.Message.{Message}
use Rattle.fh_queues.specs.declared.done.Ending.{Ending}
use Rattle.fh_queues.specs.declared.done.Ending.TheVariants.{Deleted, Completed, Moved, Expired}
use Rattle.fh_queues.specs.Rows.{row_of, is_live}
use Rattle.fh_queues.specs.Part.{QueuePart, end_of}
use Rattle.fh_queues.specs.Seen.{Seen, Unborn, Stands, Ended, seen_by, seen}
use Rattle.fh_queues.specs.Places.{place_by}
use Rattle.fh_queues.specs.Whole.{IsWhole}
use Rattle.fh_queues.specs.Laws.{IsKnownByNumber}
use Rattle.fh_queues.proofs.Whole.{seen-new, seen-zero}

-- only what isn't born has no place
unknown_unborn : (m : ℕ) (s : Seen) → place_by m s ≡ place.Unknown → s ≡ Unborn
unknown_unborn m Unborn is = refl
unknown_unborn m (Stands row) is = absurd (by_tests (is_live m row) (row.held && nat_lt m row.visible_at) is)
  where
    by_tests : (alive held : Bool) → (if alive then (if held then place.Held row.queue row.visible_at else place.Waiting row.queue) else place.Expired) ≡ place.Unknown → ⊥
    by_tests true true is = cc
    by_tests true false is = cc
    by_tests false held is = cc
unknown_unborn m (Ended Deleted) is = absurd (cc)
unknown_unborn m (Ended (Completed invocation)) is = absurd (cc)
unknown_unborn m (Ended (Moved copy)) is = absurd (cc)
unknown_unborn m (Ended Expired) is = absurd (cc)

pub given_is_born : (part : QueuePart) → IsWhole part → (n : ℕ) → 1 ≤ n → n < part.next_number → seen n part ≡ Unborn → ⊥
given_is_born part h n low high is = by_both (row_of n part.rows) (end_of n part.ends) (h.placed n low high) is
  where
    by_both : (row : Option Message) (end : Option Ending) → is_some row ≡ not (is_some end) → seen_by row end ≡ Unborn → ⊥
    by_both None None placed is = cc
    by_both None (Some end) placed is = cc
    by_both (Some row) end placed is = cc

pub known : (part : QueuePart) → IsWhole part → IsKnownByNumber part
known part h n m = (
  λ is within. given_is_born part h n within.0 within.1 (unknown_unborn m (seen n part) is),
  λ outside. ap (place_by m) (by_tests (nat_le 1 n) (nat_lt n part.next_number) refl refl outside),
)
  where
    by_tests : (low high : Bool) → nat_le 1 n ≡ low → nat_lt n part.next_number ≡ high → ((1 ≤ n) × (n < part.next_number) → ⊥) → seen n part ≡ Unborn
    by_tests false high is_low is_high outside = zero_is (grind (arith, nat_tests))
      where
        zero_is : n ≡ 0 → seen n part ≡ Unborn
        zero_is none = ap (λ k. seen k part) none ∙ seen-zero part h
    by_tests true false is_low is_high outside = seen-new part h n (grind (arith, nat_tests))
    by_tests true true is_low is_high outside = absurd (outside (grind (arith, nat_tests), grind (arith, nat_tests)))
