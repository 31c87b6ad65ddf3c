-- A piece more of a file.
use Rattle.std.proofs.Common.{◌≡◌, ℕ, ◌+◌, ◌≤◌, List, [], ◌∷◌, ◌++◌, length, Option, Some, None, refl, sym, ◌∙◌, ap, subst, arith}
use Rattle.std.specs.Option.{option_map}
use Rattle.fh_disk.specs.Disk.{written_at, Torn, TornTold, Follows, NoNewImage}
use Rattle.fh_disk.specs.Images.{greatest_length, IsImage, IsUntouched}
use Rattle.fh_disk.specs.Moments.{Elapses}
use Rattle.fh_disk.specs.Pieces.{pieces_written, ranges, IsBetween, BetweenTold, OnlyWrites}
use Rattle.fh_disk.specs.declared.pieces.Piece.{Piece}
use Rattle.fh_disk.proofs.Images.{synced_image, torn_image}
use Rattle.fh_disk.proofs.Moments.{goes_on, started, widens}

pub pieces_written-push : (pieces : List Piece) (piece : Piece) (file : List ℕ)
    → pieces_written (pieces ++ piece ∷ []) file ≡ written_at piece.at piece.bytes (pieces_written pieces file)
pieces_written-push [] piece file = refl
pieces_written-push (first ∷ later) piece file = pieces_written-push later piece (written_at first.at first.bytes file)

pub ranges-append : (pieces more : List Piece) → ranges (pieces ++ more) ≡ ranges pieces ++ ranges more
ranges-append [] more = refl
ranges-append (first ∷ later) more = ap (λ rest. (first.at, length first.bytes) ∷ rest) (ranges-append later more)

-- a place that no range of two lists names
untouched_front : (writes more : List (ℕ × ℕ)) (i : ℕ) → IsUntouched (writes ++ more) i → IsUntouched writes i
untouched_front [] more i free = tt
untouched_front (write ∷ writes) more i free = (free.0, untouched_front writes more i free.1)

untouched_behind : (writes more : List (ℕ × ℕ)) (i : ℕ) → IsUntouched (writes ++ more) i → IsUntouched more i
untouched_behind [] more i free = free
untouched_behind (write ∷ writes) more i free = untouched_behind writes more i free.1

longer_front : (size : ℕ) (writes more : List (ℕ × ℕ))
    → greatest_length size writes ≤ greatest_length size (writes ++ more)
longer_front size [] [] = omega arith
longer_front size [] (write ∷ more) = omega (arith, longer_front size [] more)
longer_front size (write ∷ writes) more = omega (arith, longer_front size writes more)

longer_push : (size : ℕ) (writes : List (ℕ × ℕ)) (write : ℕ × ℕ)
    → write.0 + write.1 ≤ greatest_length size (writes ++ write ∷ [])
longer_push size [] write = omega arith
longer_push size (first ∷ writes) write = omega (arith, longer_push size writes write)

-- an image of some writes is one of more
image_of_more : (synced : List ℕ) (writes more : List (ℕ × ℕ)) (c : List ℕ) → IsImage synced writes c
    → IsImage synced (writes ++ more) c
image_of_more synced writes more c image = record {
  untouched = λ i within free. image.untouched i within (untouched_front writes more i free);
  no_shorter = image.no_shorter;
  no_longer = omega (arith, image.no_longer, longer_front (length synced) writes more);
}

-- what was torn last stands behind
image_push : (synced : List ℕ) (writes : List (ℕ × ℕ)) (at n : ℕ) (c : List ℕ) → IsImage synced ((at, n) ∷ writes) c
    → IsImage synced (writes ++ (at, n) ∷ []) c
image_push synced writes at n c image = record {
  untouched = λ i within free. image.untouched i within
      ((untouched_behind writes ((at, n) ∷ []) i free).0, untouched_front writes ((at, n) ∷ []) i free);
  no_shorter = image.no_shorter;
  no_longer = omega (
    arith,
    image.no_longer,
    longer_front (length synced) writes ((at, n) ∷ []),
    longer_push (length synced) writes (at, n),
  );
}

pub between_none : (file : List ℕ) → IsBetween [] file file
between_none file = synced_image file file refl

pub between_more : (pieces more : List Piece) (old c : List ℕ) → IsBetween pieces old c
    → IsBetween (pieces ++ more) old c
between_more pieces more old c between =
    subst (λ (writes : List (ℕ × ℕ)). IsImage old writes c) (sym (ranges-append pieces more))
    (image_of_more old (ranges pieces) (ranges more) c between)

-- one piece more, which is torn
pub between_push : (pieces : List Piece) (piece : Piece) (old mid new : List ℕ) → IsBetween pieces old mid
    → Torn piece.at (length piece.bytes) mid new
    → IsBetween (pieces ++ piece ∷ []) old new
between_push pieces piece old mid new between torn =
    subst (λ (writes : List (ℕ × ℕ)). IsImage old writes new) (sym (ranges-append pieces (piece ∷ [])))
    (image_push old (ranges pieces) piece.at (length piece.bytes) new
    (torn_image old (ranges pieces) piece.at (length piece.bytes) mid new between torn))

pub told_none : (told : Option (List ℕ)) → BetweenTold [] told told
told_none None = refl
told_none (Some file) = between_none file

pub told_push : (pieces : List Piece) (piece : Piece) (told mid now : Option (List ℕ)) → BetweenTold pieces told mid
    → TornTold piece.at (length piece.bytes) mid now → BetweenTold (pieces ++ piece ∷ []) told now
told_push pieces piece None None now between torn = torn
told_push pieces piece None (Some mid) now between torn = absurd (cc between)
told_push pieces piece (Some file) None now between torn = absurd between
told_push pieces piece (Some file) (Some mid) None between torn = absurd torn
told_push pieces piece (Some file) (Some mid) (Some new) between torn =
    between_push pieces piece file mid new between torn

pub told_more : (pieces more : List Piece) (told now : Option (List ℕ)) → BetweenTold pieces told now
    → BetweenTold (pieces ++ more) told now
told_more pieces more None now between = between
told_more pieces more (Some file) None between = absurd between
told_more pieces more (Some file) (Some new) between = between_more pieces more file new between

pub written_push : (pieces : List Piece) (piece : Piece) (told mid now : Option (List ℕ))
    → mid ≡ option_map (pieces_written pieces) told
    → now ≡ option_map (written_at piece.at piece.bytes) mid
    → now ≡ option_map (pieces_written (pieces ++ piece ∷ [])) told
written_push pieces piece None mid now so_far is = rw so_far at is
written_push pieces piece (Some file) mid now so_far is = rw so_far at is
    ∙ ap (λ (f : List ℕ). Some f) (sym (pieces_written-push pieces piece file))

module _ {D : Type 0} (told : D → Option (List ℕ)) (may_leave : D → List ℕ → Type 0) (moment : D → ℕ)
    (left_since : D → ℕ → List ℕ → Type 0) where
  -- before the first piece
  pub writes_none : (old : D) → ((c : List ℕ) → left_since old (moment old) c → may_leave old c)
      → OnlyWrites told may_leave moment left_since [] old old
  writes_none old here = record {
    bytes = told_none (told old);
    images = λ c left. (c, left, between_none c);
    since = started moment left_since old _ (λ c left. (c, here c left, between_none c));
  }

  pub writes_more : (pieces more : List Piece) (old new : D)
      → OnlyWrites told may_leave moment left_since pieces old new
      → OnlyWrites told may_leave moment left_since (pieces ++ more) old new
  writes_more pieces more old new so_far = record {
    bytes = told_more pieces more (told old) (told new) so_far.bytes;
    images = λ c left. let from = so_far.images c left in (from.0, from.1, between_more pieces more from.0 c from.2);
    since =
        widens moment left_since old new _ _ so_far.since
        (λ c from. (from.0, from.1, between_more pieces more from.0 c from.2));
  }

  -- one piece more, whole or torn
  pub writes_push : (pieces : List Piece) (piece : Piece) (old mid new : D)
      → OnlyWrites told may_leave moment left_since pieces old mid
      → TornTold piece.at (length piece.bytes) (told mid) (told new)
      → Follows (Torn piece.at (length piece.bytes)) (may_leave mid) (may_leave new)
      → Elapses (moment mid) (moment new) (left_since mid) (left_since new) (may_leave new)
      → OnlyWrites told may_leave moment left_since (pieces ++ piece ∷ []) old new
  writes_push pieces piece old mid new so_far torn follows time =
      let images : Follows (IsBetween (pieces ++ piece ∷ [])) (may_leave old) (may_leave new) =
      λ c left. let now = follows c left in let from = so_far.images now.0 now.1 in
      (from.0, from.1, between_push pieces piece from.0 now.0 c from.2 now.2) in
      record {
        bytes = told_push pieces piece (told old) (told mid) (told new) so_far.bytes torn;
        images = images;
        since =
            goes_on moment left_since old mid new _ (may_leave new)
            (writes_more pieces (piece ∷ []) old mid so_far).since time images;
      }

  -- a sync, or a call that only reads
  pub writes_still : (pieces : List Piece) (old mid new : D)
      → OnlyWrites told may_leave moment left_since pieces old mid → told new ≡ told mid
      → NoNewImage (may_leave mid) (may_leave new)
      → Elapses (moment mid) (moment new) (left_since mid) (left_since new) (may_leave new)
      → OnlyWrites told may_leave moment left_since pieces old new
  writes_still pieces old mid new so_far same no_new time = record {
    bytes = subst (BetweenTold pieces (told old)) (sym same) so_far.bytes;
    images = λ c left. so_far.images c (no_new c left);
    since = goes_on moment left_since old mid new _ (may_leave new) so_far.since time
        (λ c left. so_far.images c (no_new c left));
  }
