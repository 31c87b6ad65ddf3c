-- A field that is read is the field that was written, and what was written is read again.
use Rattle.std.proofs.Common.{◌≡◌, ℕ, zero, suc, ◌^◌, ◌<◌, ◌≤◌, Bool, true, false, cond, ltb, List, [], ◌∷◌, ◌++◌, length, take, drop, Option, Some, None, Result, Ok, Err, refl, sym, ap, subst, ◌∙◌, append_assoc, arith, length-append, length-take}
use Rattle.std.specs.Prelude.{◌+◌, ◌%◌, ◌==◌, nat_lt, not, IfSome, ⊤}
use Rattle.std.specs.List.{flat_map, AllByRecursion}
use Rattle.std.specs.Str.{is_utf8}
use Rattle.std.specs.Int.{Width, w32, w64, byte_len, from_be_bytes, to_be_bytes}
use Rattle.std.proofs.lemmas.Bool.{ltb-true, ltb-false, le-ltb}
use Rattle.std.proofs.lemmas.List.{take_at, drop_at, take-append-drop}
use Rattle.std.proofs.lemmas.Nat.{be_bytes_4, be_bytes_8, from_be_bytes-to_be_bytes_4, from_be_bytes-to_be_bytes_8}
use Rattle.std.proofs.Math.Pow.{pow_mono}
use Rattle.std.proofs.lemmas.Str.{IsUtf8-from_is_utf8, is_utf8-from_IsUtf8}
use Rattle.fh_event.specs.declared.faults.EventFault.{EventFault}
use Rattle.fh_event.specs.declared.faults.EventFault.TheVariants.{ShortField, LongField, BadField}
use Rattle.fh_event.specs.Fields.{number_bytes, text_bytes, maybe_bytes, flag_byte, IsText}
use Rattle.fh_base.specs.Limits.{longest_payload}
use Rattle.fh_event.specs.Answers.{◌>>=◌}
use Rattle.fh_event.specs.Masks.{is_mask, schedule_ranges, are_masks}
use Rattle.fh_event.specs.Reading.{byte_at, number_at, mask_at, masks_at, text_of_length, text_at, flag_at, behind_flag, maybe_at}
use Rattle.fh_event.proofs.Steps.{bind_ok, passed, ended, both_are, ok_is, IsBytes, IsBytes-drop, IsBytes-take, IsBytes-rest, Takes, Takes-then, Takes-one}

-- ---- numbers

-- a width whose numbers and bytes are each other's
pub record IsWide (w : Width) (limit : ℕ) : Type 0 where
  pub size : (n : ℕ) → length (to_be_bytes w n) ≡ byte_len w
  pub back : (bytes : List ℕ) → length bytes ≡ byte_len w → IsBytes bytes → to_be_bytes w (from_be_bytes w bytes) ≡ bytes
  pub again : (n : ℕ) → n < limit → from_be_bytes w (to_be_bytes w n) ≡ n
  pub below : (bytes : List ℕ) → IsBytes bytes → from_be_bytes w bytes < limit

pub wide32 : IsWide w32 (2 ^ 32)
wide32 = record {
  size = λ n. refl;
  back = λ bytes long fits. be_bytes_4 bytes _ long fits refl;
  again = λ n lt. from_be_bytes-to_be_bytes_4 n lt;
  below = λ bytes fits. omega (arith, fits 0, fits 1, fits 2, fits 3);
}

pub wide64 : IsWide w64 (2 ^ 64)
wide64 = record {
  size = λ n. refl;
  back = λ bytes long fits. be_bytes_8 bytes _ long fits refl;
  again = λ n lt. from_be_bytes-to_be_bytes_8 n lt;
  below = λ bytes fits. omega (arith, fits 0, fits 1, fits 2, fits 3, fits 4, fits 5, fits 6, fits 7);
}

pub number_takes : (w : Width) (limit : ℕ) (wide : IsWide w limit) (field : ℕ) (bytes : List ℕ) (n : ℕ) (rest : List ℕ)
    → IsBytes bytes → number_at w field bytes ≡ Ok (n, rest) → Takes bytes (to_be_bytes w n) rest × (n < limit)
number_takes w limit wide field bytes n rest fits e =
    let g = passed (ltb (length bytes) (byte_len w)) (ShortField field) (Ok (from_be_bytes w (take (byte_len w) bytes), drop (byte_len w) bytes)) (n, rest) e in
    let read = ok_is (from_be_bytes w (take (byte_len w) bytes), drop (byte_len w) bytes) (n, rest) g.1 in
    let long : byte_len w ≤ length bytes = ltb-false _ _ g.0 in
    let n-is : from_be_bytes w (take (byte_len w) bytes) ≡ n = ap (λ (p : ℕ × List ℕ). p.0) read in
    let rest-is : drop (byte_len w) bytes ≡ rest = ap (λ (p : ℕ × List ℕ). p.1) read in
    let front : to_be_bytes w n ≡ take (byte_len w) bytes = rw (← n-is) (wide.back (take (byte_len w) bytes) (omega (arith, length-take (byte_len w) bytes)) (IsBytes-take (byte_len w) bytes fits)) in (
      record { parts = rw (front, ← rest-is) (sym (take-append-drop (byte_len w) bytes)); rest_fits = rw (← rest-is) (IsBytes-drop (byte_len w) bytes fits) },
      rw (← n-is) (wide.below (take (byte_len w) bytes) (IsBytes-take (byte_len w) bytes fits)),
    )

pub number_again : (w : Width) (limit : ℕ) (wide : IsWide w limit) (field n : ℕ) (rest : List ℕ)
    → n < limit → number_at w field (to_be_bytes w n ++ rest) ≡ Ok (n, rest)
number_again w limit wide field n rest lt =
    let size = wide.size n in
    let long : ltb (length (to_be_bytes w n ++ rest)) (byte_len w) ≡ false = le-ltb _ _ (omega (arith, length-append (to_be_bytes w n) rest)) in
    rw (long, take_at (to_be_bytes w n) rest (byte_len w) size, drop_at (to_be_bytes w n) rest (byte_len w) size, wide.again n lt) refl

-- ---- single bytes

pub byte_takes : (field : ℕ) (bytes : List ℕ) (x : ℕ × List ℕ) → IsBytes bytes → byte_at field bytes ≡ Ok x → Takes bytes (x.0 ∷ []) x.1
unfolding byte_at
byte_takes field [] x fits e = absurd cc
byte_takes field (b ∷ bytes) x fits e =
    subst (λ (y : ℕ × List ℕ). Takes (b ∷ bytes) (y.0 ∷ []) y.1) (ok_is (b, bytes) x e)
    (record { parts = refl; rest_fits = IsBytes-rest b bytes fits })

pub byte_again : (field b : ℕ) (rest : List ℕ) → byte_at field (b ∷ rest) ≡ Ok (b, rest)
unfolding byte_at
byte_again field b rest = refl

-- ---- texts

-- what a text of a length took
pub record TakesText (n : ℕ) (bytes text rest : List ℕ) : Type 0 where
  pub taken : Takes bytes text rest
  pub sized : length text ≡ n
  pub is_text : IsText text

length_takes : (field n : ℕ) (bytes : List ℕ) (x : List ℕ × List ℕ) → IsBytes bytes → text_of_length field n bytes ≡ Ok x
    → TakesText n bytes x.0 x.1
length_takes field n bytes x fits e =
    let a = passed (ltb longest_payload n) (LongField field) (cond (ltb (length bytes) n) (Err (ShortField field)) (cond (is_utf8 (take n bytes)) (Ok (take n bytes, drop n bytes)) (Err (BadField field)))) x e in
    let b = passed (ltb (length bytes) n) (ShortField field) (cond (is_utf8 (take n bytes)) (Ok (take n bytes, drop n bytes)) (Err (BadField field))) x a.1 in
    let c = ended (is_utf8 (take n bytes)) (BadField field) (take n bytes, drop n bytes) x b.1 in
    let few : n ≤ longest_payload = ltb-false _ _ a.0 in
    let long : n ≤ length bytes = ltb-false _ _ b.0 in
    let sized : length (take n bytes) ≡ n = omega (arith, length-take n bytes) in
    let whole : TakesText n bytes (take n bytes) (drop n bytes) = record {
      taken = record { parts = sym (take-append-drop n bytes); rest_fits = IsBytes-drop n bytes fits };
      sized = sized;
      is_text = record { utf8 = IsUtf8-from_is_utf8 _ c.0; short = omega arith };
    } in
    subst (λ (p : List ℕ × List ℕ). TakesText n bytes p.0 p.1) c.1 whole

pub text_takes : (field : ℕ) (bytes : List ℕ) (x : List ℕ × List ℕ) → IsBytes bytes → text_at field bytes ≡ Ok x
    → Takes bytes (text_bytes x.0) x.1 × IsText x.0
unfolding text_at text_bytes
text_takes field bytes x fits e =
    let b = bind_ok (number_at w32 field bytes) (λ n. text_of_length field n.0 n.1) x e in
    let n = b.0 in
    let t = number_takes w32 (2 ^ 32) wide32 field bytes n.0 n.1 fits b.1 in
    let s = length_takes field n.0 n.1 x t.0.rest_fits b.2 in
    let both = Takes-then bytes (to_be_bytes w32 n.0) n.1 x.0 x.1 t.0 s.taken in
    (subst (λ (k : ℕ). Takes bytes (to_be_bytes w32 k ++ x.0) x.1) (sym s.sized) both, s.is_text)

length_again : (field : ℕ) (text rest : List ℕ) → IsText text → text_of_length field (length text) (text ++ rest) ≡ Ok (text, rest)
length_again field text rest h =
    let short = h.short in
    let few : ltb longest_payload (length text) ≡ false = le-ltb _ _ short in
    let long : ltb (length (text ++ rest)) (length text) ≡ false = le-ltb _ _ (omega (arith, length-append text rest)) in
    let utf8 : is_utf8 text ≡ true = is_utf8-from_IsUtf8 text h.utf8 in
    rw (few, long, take_at text rest (length text) refl, drop_at text rest (length text) refl, utf8) refl

pub text_again : (field : ℕ) (text rest : List ℕ) → IsText text → text_at field (text_bytes text ++ rest) ≡ Ok (text, rest)
unfolding text_at text_bytes
text_again field text rest h =
    let short = h.short in
    rw (number_again w32 (2 ^ 32) wide32 field (length text) (text ++ rest) (omega arith)) (length_again field text rest h)

-- ---- readers

-- what the reader takes from the front is the bytes of a value that fits, and these are read again
pub record Reads {X : Type 0} (reader : List ℕ → Result (X × List ℕ) EventFault) (bytes_of : X → List ℕ) (Fits : X → Type 0) : Type 0 where
  pub takes : (bytes : List ℕ) (x : X × List ℕ) → IsBytes bytes → reader bytes ≡ Ok x → Takes bytes (bytes_of x.0) x.1 × Fits x.0
  pub again : (x : X) (rest : List ℕ) → Fits x → reader (bytes_of x ++ rest) ≡ Ok (x, rest)

pub numbers : (field : ℕ) → Reads (number_at w64 field) number_bytes (λ n. n < 2 ^ 64)
unfolding number_bytes
numbers field = record {
  takes = λ bytes x fits e. number_takes w64 (2 ^ 64) wide64 field bytes x.0 x.1 fits e;
  again = λ n rest h. number_again w64 (2 ^ 64) wide64 field n rest h;
}

pub texts : (field : ℕ) → Reads (text_at field) text_bytes IsText
texts field = record {
  takes = λ bytes x fits e. text_takes field bytes x fits e;
  again = λ text rest h. text_again field text rest h;
}

-- ---- masks

mask_takes : (low high field : ℕ) (bytes : List ℕ) (x : ℕ × List ℕ) → IsBytes bytes → mask_at low high field bytes ≡ Ok x
    → Takes bytes (number_bytes x.0) x.1 × (is_mask low high x.0 ≡ true)
unfolding mask_at
mask_takes low high field bytes x fits e =
    let b = bind_ok (number_at w64 field bytes) (λ n. cond (is_mask low high n.0) (Ok n) (Err (BadField field))) x e in
    let t = (numbers field).takes bytes b.0 fits b.1 in
    let g = ended (is_mask low high b.0.0) (BadField field) b.0 x b.2 in
    subst (λ (y : ℕ × List ℕ). Takes bytes (number_bytes y.0) y.1 × (is_mask low high y.0 ≡ true)) g.1 (t.0, g.0)

-- a mask of a field of numbers below 64 has eight bytes
mask_fits : (low high mask : ℕ) → high < 64 → is_mask low high mask ≡ true → mask < 2 ^ 64
unfolding is_mask
mask_fits low high mask few is =
    let below = ltb-true mask (2 ^ (high + 1)) (both_are (mask % 2 ^ low == 0) (nat_lt mask (2 ^ (high + 1))) (both_are (not (mask == 0)) _ is).1).1 in
    omega (arith, below, pow_mono {i = high + 1} {j = 64} (omega arith))

mask_again : (low high field mask : ℕ) (rest : List ℕ) → high < 64 → is_mask low high mask ≡ true
    → mask_at low high field (number_bytes mask ++ rest) ≡ Ok (mask, rest)
unfolding mask_at
mask_again low high field mask rest few is =
    rw ((numbers field).again mask rest (mask_fits low high mask few is), is) refl

masks_take : (ranges : List (ℕ × ℕ)) (field : ℕ) (bytes : List ℕ) (x : List ℕ × List ℕ) → IsBytes bytes → masks_at ranges field bytes ≡ Ok x
    → Takes bytes (flat_map number_bytes x.0) x.1 × (are_masks ranges x.0 ≡ true)
masks_take [] field bytes x fits e =
    subst (λ (y : List ℕ × List ℕ). Takes bytes (flat_map number_bytes y.0) y.1 × (are_masks [] y.0 ≡ true)) (ok_is ([], bytes) x e)
    (record { parts = refl; rest_fits = fits }, refl)
masks_take (range ∷ ranges) field bytes x fits e =
    let a = bind_ok (mask_at range.0 range.1 field bytes) (λ mask. masks_at ranges field mask.1 >>= λ masks. Ok (mask.0 ∷ masks.0, masks.1)) x e in
    let b = bind_ok (masks_at ranges field a.0.1) (λ masks. Ok (a.0.0 ∷ masks.0, masks.1)) x a.2 in
    let first = mask_takes range.0 range.1 field bytes a.0 fits a.1 in
    let others = masks_take ranges field a.0.1 b.0 first.0.rest_fits b.1 in
    subst (λ (y : List ℕ × List ℕ). Takes bytes (flat_map number_bytes y.0) y.1 × (are_masks (range ∷ ranges) y.0 ≡ true)) (ok_is (a.0.0 ∷ b.0.0, b.0.1) x b.2)
    (Takes-then bytes (number_bytes a.0.0) a.0.1 (flat_map number_bytes b.0.0) b.0.1 first.0 others.0, rw (first.1, others.1) refl)

masks_again : (ranges : List (ℕ × ℕ)) (field : ℕ) (masks rest : List ℕ) → AllByRecursion (λ range. range.1 < 64) ranges → are_masks ranges masks ≡ true
    → masks_at ranges field (flat_map number_bytes masks ++ rest) ≡ Ok (masks, rest)
masks_again [] field [] rest few are = refl
masks_again [] field (mask ∷ masks) rest few are = absurd cc
masks_again (range ∷ ranges) field [] rest few are = absurd cc
masks_again (range ∷ ranges) field (mask ∷ masks) rest few are =
    let both = both_are (is_mask range.0 range.1 mask) (are_masks ranges masks) are in
    rw (
      append_assoc (number_bytes mask) (flat_map number_bytes masks) rest,
      mask_again range.0 range.1 field mask (flat_map number_bytes masks ++ rest) few.0 both.0,
      masks_again ranges field masks rest few.1 both.1,
    )
    refl

pub mask_lists : (field : ℕ) → Reads (masks_at schedule_ranges field) (flat_map number_bytes) (λ masks. are_masks schedule_ranges masks ≡ true)
mask_lists field = record {
  takes = λ bytes x fits e. masks_take schedule_ranges field bytes x fits e;
  again = λ masks rest h. masks_again schedule_ranges field masks rest (omega arith, (omega arith, (omega arith, (omega arith, (omega arith, (omega arith, tt)))))) h;
}

-- ---- values behind a first byte

flag_takes : (field : ℕ) (bytes : List ℕ) (x : Bool × List ℕ) → IsBytes bytes → flag_at field bytes ≡ Ok x
    → Takes bytes (flag_byte x.0 ∷ []) x.1
unfolding flag_at
flag_takes field [] x fits e = absurd cc
flag_takes field (zero ∷ bytes) x fits e =
    subst (λ (y : Bool × List ℕ). Takes (0 ∷ bytes) (flag_byte y.0 ∷ []) y.1) (ok_is (false, bytes) x e)
    (record { parts = refl; rest_fits = IsBytes-rest 0 bytes fits })
flag_takes field (suc zero ∷ bytes) x fits e =
    subst (λ (y : Bool × List ℕ). Takes (1 ∷ bytes) (flag_byte y.0 ∷ []) y.1) (ok_is (true, bytes) x e)
    (record { parts = refl; rest_fits = IsBytes-rest 1 bytes fits })
flag_takes field (suc (suc b) ∷ bytes) x fits e = absurd cc

flag_again : (field : ℕ) (flag : Bool) (rest : List ℕ) → flag_at field (flag_byte flag ∷ rest) ≡ Ok (flag, rest)
unfolding flag_at
flag_again field false rest = refl
flag_again field true rest = refl

pub flags : (field : ℕ) → Reads (flag_at field) (λ b. flag_byte b ∷ []) (λ b. ⊤)
flags field = record {
  takes = λ bytes x fits e. (flag_takes field bytes x fits e, tt);
  again = λ b rest h. flag_again field b rest;
}

behind_takes : {X : Type 0} (reader : List ℕ → Result (X × List ℕ) EventFault) (bytes_of : X → List ℕ) (Fits : X → Type 0)
    → Reads reader bytes_of Fits → (flag : Bool) (bytes : List ℕ) (x : Option X × List ℕ) → IsBytes bytes
    → behind_flag reader flag bytes ≡ Ok x → Takes (flag_byte flag ∷ bytes) (maybe_bytes bytes_of x.0) x.1 × IfSome x.0 Fits
unfolding maybe_bytes
behind_takes {X} reader bytes_of Fits reads false bytes x fits e =
    subst (λ (y : Option X × List ℕ). Takes (0 ∷ bytes) (maybe_bytes bytes_of y.0) y.1 × IfSome y.0 Fits) (ok_is (None, bytes) x e)
    (record { parts = refl; rest_fits = fits }, tt)
behind_takes {X} reader bytes_of Fits reads true bytes x fits e =
    let b = bind_ok (reader bytes) (λ v. Ok (Some v.0, v.1)) x e in
    let t = reads.takes bytes b.0 fits b.1 in
    subst (λ (y : Option X × List ℕ). Takes (1 ∷ bytes) (maybe_bytes bytes_of y.0) y.1 × IfSome y.0 Fits) (ok_is (Some b.0.0, b.0.1) x b.2)
    (Takes-one 1 bytes (bytes_of b.0.0) b.0.1 t.0, t.1)

maybe_takes : {X : Type 0} (reader : List ℕ → Result (X × List ℕ) EventFault) (bytes_of : X → List ℕ) (Fits : X → Type 0)
    → Reads reader bytes_of Fits → (field : ℕ) (bytes : List ℕ) (x : Option X × List ℕ) → IsBytes bytes
    → maybe_at reader field bytes ≡ Ok x → Takes bytes (maybe_bytes bytes_of x.0) x.1 × IfSome x.0 Fits
unfolding maybe_at
maybe_takes reader bytes_of Fits reads field bytes x fits e =
    let b = bind_ok (flag_at field bytes) (λ flag. behind_flag reader flag.0 flag.1) x e in
    let flag = flag_takes field bytes b.0 fits b.1 in
    let t = behind_takes reader bytes_of Fits reads b.0.0 b.0.1 x flag.rest_fits b.2 in
    (record { parts = flag.parts ∙ t.0.parts; rest_fits = t.0.rest_fits }, t.1)

maybe_again : {X : Type 0} (reader : List ℕ → Result (X × List ℕ) EventFault) (bytes_of : X → List ℕ) (Fits : X → Type 0)
    → Reads reader bytes_of Fits → (field : ℕ) (o : Option X) (rest : List ℕ) → IfSome o Fits
    → maybe_at reader field (maybe_bytes bytes_of o ++ rest) ≡ Ok (o, rest)
unfolding maybe_at maybe_bytes
maybe_again reader bytes_of Fits reads field None rest h = rw (flag_again field false rest) refl
maybe_again reader bytes_of Fits reads field (Some x) rest h =
    rw (flag_again field true (bytes_of x ++ rest), reads.again x rest h) refl

pub maybe : {X : Type 0} (reader : List ℕ → Result (X × List ℕ) EventFault) (bytes_of : X → List ℕ) (Fits : X → Type 0)
    → Reads reader bytes_of Fits → (field : ℕ) → Reads (maybe_at reader field) (maybe_bytes bytes_of) (λ o. IfSome o Fits)
maybe reader bytes_of Fits reads field = record {
  takes = λ bytes x fits e. maybe_takes reader bytes_of Fits reads field bytes x fits e;
  again = λ o rest h. maybe_again reader bytes_of Fits reads field o rest h;
}
