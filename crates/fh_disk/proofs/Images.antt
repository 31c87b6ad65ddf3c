-- The images by the record of calls are those of the writes that no sync has followed.
use Rattle.std.proofs.Common.{◌≡◌, ◌⊎◌, inl, inr, ⊎_elim, ℕ, zero, suc, ◌+◌, ◌<◌, ◌≤◌, min, List, [], ◌∷◌, ◌++◌, length, take, refl, sym, ◌∙◌, ap, arith, length-take}
use Rattle.std.specs.Prelude.{slice_get}
use Rattle.std.specs.Option.{unwrap_or}
use Rattle.std.proofs.lemmas.Bool.{cases_lt}
use Rattle.std.proofs.lemmas.Grind.{same_number_lists}
use Rattle.std.proofs.lemmas.Option.{unwrap_or-slice_get}
use Rattle.fh_disk.specs.Disk.{written_at, Torn}
use Rattle.fh_disk.specs.declared.record.Call.{Call}
use Rattle.fh_disk.specs.declared.record.Call.TheVariants.{Write, Sync}
use Rattle.fh_disk.specs.Images.{synced_by, unsynced_by, greatest_length, IsImage}
use Rattle.fh_disk.specs.Recorded.{replayed, Leaves}

-- an image torn once more
pub torn_image : (synced : List ℕ) (writes : List (ℕ × ℕ)) (at n : ℕ) (old new : List ℕ) → IsImage synced writes old
    → Torn at n old new → IsImage synced ((at, n) ∷ writes) new
torn_image synced writes at n old new image torn = record {
  untouched = λ i within free. ⊎_elim
      (λ below. torn.before i (omega (arith, image.no_shorter)) below ∙ image.untouched i within free.1)
      (λ past. torn.behind i (omega (arith, image.no_shorter)) past ∙ image.untouched i within free.1)
      free.0;
  no_shorter = omega (arith, image.no_shorter, torn.no_shorter);
  no_longer = omega (arith, image.no_longer, torn.no_longer);
}

pub synced_image : (file c : List ℕ) → c ≡ file → IsImage file [] c
synced_image file c is = record {
  untouched = λ i within free. ap (λ (l : List ℕ). slice_get l i) is;
  no_shorter = omega (arith, ap length is);
  no_longer = omega (arith, ap length is);
}

pub image_synced : (file c : List ℕ) → IsImage file [] c → c ≡ file
image_synced file c image =
    same_number_lists c file (omega (arith, image.no_shorter, image.no_longer))
    (λ k within. sym (unwrap_or-slice_get c k 0) ∙ ap (λ o. unwrap_or o 0)
    (image.untouched k (omega (arith, image.no_longer)) tt) ∙ unwrap_or-slice_get file k 0)

-- the new image with the synced bytes put back in the range of a write
put_back : ℕ → ℕ → List ℕ → List ℕ → List ℕ
put_back at n synced [] = []
put_back at n [] (y ∷ new) = y ∷ new
put_back zero zero (x ∷ synced) (y ∷ new) = y ∷ new
put_back zero (suc n) (x ∷ synced) (y ∷ new) = x ∷ put_back zero n synced new
put_back (suc at) n (x ∷ synced) (y ∷ new) = y ∷ put_back at n synced new

length-put_back : (at n : ℕ) (synced new : List ℕ) → length (put_back at n synced new) ≡ length new
unfolding put_back
length-put_back at n synced [] = refl
length-put_back at n [] (y ∷ new) = refl
length-put_back zero zero (x ∷ synced) (y ∷ new) = refl
length-put_back zero (suc n) (x ∷ synced) (y ∷ new) = ap suc (length-put_back zero n synced new)
length-put_back (suc at) n (x ∷ synced) (y ∷ new) = ap suc (length-put_back at n synced new)

put_back_outside : (at n : ℕ) (synced new : List ℕ) (i : ℕ) → (i < at) ⊎ (at + n ≤ i)
    → slice_get (put_back at n synced new) i ≡ slice_get new i
unfolding put_back
put_back_outside at n synced [] i free = refl
put_back_outside at n [] (y ∷ new) i free = refl
put_back_outside zero zero (x ∷ synced) (y ∷ new) i free = refl
put_back_outside zero (suc n) (x ∷ synced) (y ∷ new) zero free =
    absurd (⊎_elim (λ below. omega arith) (λ past. omega arith) free)
put_back_outside zero (suc n) (x ∷ synced) (y ∷ new) (suc i) free =
    put_back_outside zero n synced new i (⊎_elim (λ below. absurd (omega arith)) (λ past. inr (omega arith)) free)
put_back_outside (suc at) n (x ∷ synced) (y ∷ new) zero free = refl
put_back_outside (suc at) n (x ∷ synced) (y ∷ new) (suc i) free =
    put_back_outside at n synced new i (⊎_elim (λ below. inl (omega arith)) (λ past. inr (omega arith)) free)

put_back_inside : (at n : ℕ) (synced new : List ℕ) (i : ℕ) → at ≤ i → i < at + n → i < length synced → i < length new
    → slice_get (put_back at n synced new) i ≡ slice_get synced i
unfolding put_back
put_back_inside at n synced [] i from to in_synced in_new = absurd (omega arith)
put_back_inside at n [] (y ∷ new) i from to in_synced in_new = absurd (omega arith)
put_back_inside zero zero (x ∷ synced) (y ∷ new) i from to in_synced in_new = absurd (omega arith)
put_back_inside zero (suc n) (x ∷ synced) (y ∷ new) zero from to in_synced in_new = refl
put_back_inside zero (suc n) (x ∷ synced) (y ∷ new) (suc i) from to in_synced in_new =
    put_back_inside zero n synced new i (omega arith) (omega arith) (omega arith) (omega arith)
put_back_inside (suc at) n (x ∷ synced) (y ∷ new) zero from to in_synced in_new = absurd (omega arith)
put_back_inside (suc at) n (x ∷ synced) (y ∷ new) (suc i) from to in_synced in_new =
    put_back_inside at n synced new i (omega arith) (omega arith) (omega arith) (omega arith)

slice_get-take : (n : ℕ) (xs : List ℕ) (i : ℕ) → i < n → slice_get (take n xs) i ≡ slice_get xs i
slice_get-take zero xs i below = absurd (omega arith)
slice_get-take (suc n) [] i below = refl
slice_get-take (suc n) (x ∷ xs) zero below = refl
slice_get-take (suc n) (x ∷ xs) (suc i) below = slice_get-take n xs i (omega arith)

greatest_grows : (size : ℕ) (writes : List (ℕ × ℕ)) → size ≤ greatest_length size writes
greatest_grows size [] = omega arith
greatest_grows size (write ∷ writes) = omega (arith, greatest_grows size writes)

-- each image of one write more is an earlier one, torn by it
image_before : (synced : List ℕ) (writes : List (ℕ × ℕ)) (at n : ℕ) (new : List ℕ)
    → IsImage synced ((at, n) ∷ writes) new → (old : List ℕ) × IsImage synced writes old × Torn at n old new
image_before synced writes at n new image =
    let size = min (length new) (greatest_length (length synced) writes) in
    let old = take size (put_back at n synced new) in
    let long : length old ≡ size = omega (
      arith,
      length-take size (put_back at n synced new),
      length-put_back at n synced new,
    ) in
    let room : length synced ≤ size = omega (arith, image.no_shorter, greatest_grows (length synced) writes) in
    let outside : (i : ℕ) → i < size → (i < at) ⊎ (at + n ≤ i) → slice_get old i ≡ slice_get new i =
    λ i below free. slice_get-take size (put_back at n synced new) i below ∙ put_back_outside at n synced new i free in
    let inside : (i : ℕ) → i < length synced → at ≤ i → i < at + n → slice_get old i ≡ slice_get synced i =
    λ i within from to. slice_get-take size (put_back at n synced new) i (omega arith)
    ∙ put_back_inside at n synced new i from to within (omega arith) in (
      old,
      record {
        untouched = λ i within free. ⊎_elim
            (λ below. outside i (omega arith) (inl below) ∙ image.untouched i within (inl below, free))
            (λ from. ⊎_elim
            (λ to. inside i within from to)
            (λ past. outside i (omega arith) (inr past) ∙ image.untouched i within (inr past, free))
            (cases_lt i (at + n)))
            (cases_lt i at);
        no_shorter = omega arith;
        no_longer = omega arith;
      },
      record {
        before = λ i within below. sym (outside i (omega arith) (inl below));
        behind = λ i within past. sym (outside i (omega arith) (inr past));
        no_shorter = omega arith;
        no_longer = omega (arith, image.no_longer);
      },
    )

pub only_images : (file synced : List ℕ) (writes : List (ℕ × ℕ)) (images : List ℕ → Type 0)
    → ((c : List ℕ) → images c → IsImage synced writes c) → (calls : List Call) (c : List ℕ)
    → Leaves file images calls c → IsImage (synced_by synced file calls) (unsynced_by writes calls) c
only_images file synced writes images before [] c left = before c left
only_images file synced writes images before (Write at bytes ∷ later) c left =
    only_images (written_at at bytes file) synced ((at, length bytes) ∷ writes)
    (λ new. (old : List ℕ) × images old × Torn at (length bytes) old new)
    (λ new torn. torn_image synced writes at (length bytes) torn.0 new (before torn.0 torn.1) torn.2) later c left
only_images file synced writes images before (Sync ∷ later) c left =
    only_images file file [] (λ new. new ≡ file) (λ new is. synced_image file new is) later c left

pub all_images : (file synced : List ℕ) (writes : List (ℕ × ℕ)) (images : List ℕ → Type 0)
    → ((c : List ℕ) → IsImage synced writes c → images c) → (calls : List Call) (c : List ℕ)
    → IsImage (synced_by synced file calls) (unsynced_by writes calls) c → Leaves file images calls c
all_images file synced writes images before [] c image = before c image
all_images file synced writes images before (Write at bytes ∷ later) c image =
    all_images (written_at at bytes file) synced ((at, length bytes) ∷ writes)
    (λ new. (old : List ℕ) × images old × Torn at (length bytes) old new)
    (λ new torn. let from = image_before synced writes at (length bytes) new torn in
    (from.0, before from.0 from.1, from.2)) later c image
all_images file synced writes images before (Sync ∷ later) c image =
    all_images file file [] (λ new. new ≡ file) (λ new is. image_synced file new is) later c image

pub synced_by-push : (synced file : List ℕ) (calls : List Call) (call : Call)
    → synced_by synced file (calls ++ call ∷ []) ≡ synced_by (synced_by synced file calls) (replayed file calls)
    (call ∷ [])
synced_by-push synced file [] call = refl
synced_by-push synced file (Write at bytes ∷ later) call = synced_by-push synced (written_at at bytes file) later call
synced_by-push synced file (Sync ∷ later) call = synced_by-push file file later call
