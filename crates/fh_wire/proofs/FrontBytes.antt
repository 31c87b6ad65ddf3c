-- Heads that are found in the front stand in the bytes.
use Rattle.std.proofs.Common.{◌≡◌, ◌≤◌, ◌<◌, ℕ, refl, List, ◌++◌, length, length-take, take, drop, sym, ap, ◌∙◌, append_assoc, arith}
use Rattle.std.proofs.lemmas.List.{take-append-drop, drop_at, take_at, take-take, take_all}
use Rattle.httparse.specs.declared.spans.HeaderSpan.{HeaderSpan}
use Rattle.httparse.specs.Spans.{IsHeaderWithin}
use Rattle.fh_wire.specs.Messages.{front}

pub continued : (bytes head rest : List ℕ) (n : ℕ) → take n bytes ≡ head ++ rest
    → bytes ≡ head ++ drop (length head) bytes
continued bytes head rest n is =
    let whole : bytes ≡ head ++ (rest ++ drop n bytes) =
    sym (take-append-drop n bytes) ∙ ap (λ (t : List ℕ). t ++ drop n bytes) is
    ∙ append_assoc head rest (drop n bytes) in
    whole ∙ ap (λ (t : List ℕ). head ++ t) (sym (drop_at head (rest ++ drop n bytes) (length head) refl)
    ∙ ap (drop (length head)) (sym whole))

-- a head that ends in time stands in the front
pub front_begins : (bytes head rest : List ℕ) → bytes ≡ head ++ rest → length head ≤ 2097152
    → (tail : List ℕ) × (front bytes ≡ head ++ tail)
front_begins bytes head rest is within =
    let taken : take (length head) (front bytes) ≡ head =
    take-take (length head) 2097152 bytes within ∙ ap (take (length head)) is ∙ take_at head rest (length head) refl in (
      drop (length head) (front bytes),
      sym (take-append-drop (length head) (front bytes))
          ∙ ap (λ (t : List ℕ). t ++ drop (length head) (front bytes)) taken,
    )

pub front_few : (bytes : List ℕ) → length (front bytes) ≤ 2097152
front_few bytes = omega (arith, length-take 2097152 bytes)

-- the front of more bytes begins with the front of these
pub front_grows : (bytes more : List ℕ) → (tail : List ℕ) × (front (bytes ++ more) ≡ front bytes ++ tail)
front_grows bytes more =
    front_begins (bytes ++ more) (front bytes) (drop 2097152 bytes ++ more)
    (ap (λ (t : List ℕ). t ++ more) (sym (take-append-drop 2097152 bytes))
    ∙ append_assoc (front bytes) (drop 2097152 bytes) more)
    (front_few bytes)

-- and is the same where it is full
pub front_full : (bytes more : List ℕ) → 2097152 < length bytes → front (bytes ++ more) ≡ front bytes
front_full bytes more long =
    ap front (ap (λ (t : List ℕ). t ++ more) (sym (take-append-drop 2097152 bytes))
    ∙ append_assoc (front bytes) (drop 2097152 bytes) more)
    ∙ take_at (front bytes) (drop 2097152 bytes ++ more) 2097152 (omega (arith, long, length-take 2097152 bytes))

pub front_all : (bytes : List ℕ) → length bytes ≤ 2097152 → front bytes ≡ bytes
front_all bytes few = take_all 2097152 bytes few

pub fits_in : (n : ℕ) (text : List ℕ) → n ≤ length text → (h : HeaderSpan) → IsHeaderWithin n h
    → IsHeaderWithin (length text) h
fits_in n text fits h within = (
  (within.0.0, omega (arith, within.0.1, fits)),
  (within.1.0, omega (arith, within.1.1, fits)),
)
