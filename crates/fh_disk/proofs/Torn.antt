-- What a write that is cut short does to a file behind its front.
use Rattle.std.proofs.Common.{◌≡◌, ℕ, suc, ◌+◌, ◌<◌, List, [], ◌∷◌, ◌++◌, length, Some, refl, ◌∙◌, ap, subst, arith}
use Rattle.std.specs.List.{slice_get}
use Rattle.fh_disk.specs.Disk.{Torn}

same_each : (xs ys : List ℕ) → length xs ≡ length ys → ((i : ℕ) → i < length ys → slice_get xs i ≡ slice_get ys i)
    → xs ≡ ys
same_each [] [] long each = refl
same_each [] (y ∷ ys) long each = absurd (omega (arith, long))
same_each (x ∷ xs) [] long each = absurd (omega (arith, long))
same_each (x ∷ xs) (y ∷ ys) long each =
    let first : Some x ≡ Some y = each 0 (omega arith) in
    let rest : xs ≡ ys = same_each xs ys (omega (arith, long)) (λ i within. each (suc i) (omega arith)) in
    cc

-- a byte in front of the write stays
pub torn_tail : (at n x : ℕ) (old c : List ℕ) → Torn (suc at) n (x ∷ old) c
    → (d : List ℕ) × (c ≡ x ∷ d) × Torn at n old d
torn_tail at n x old [] torn = absurd (omega (arith, torn.no_shorter))
torn_tail at n x old (y ∷ d) torn =
    let same : Some y ≡ Some x = torn.before 0 (omega arith) (omega arith) in
    let here : y ∷ d ≡ x ∷ d = cc in (
      d,
      here,
      record {
        before = λ i within below. torn.before (suc i) (omega arith) (omega arith);
        behind = λ i within past. torn.behind (suc i) (omega arith) (omega arith);
        no_shorter = omega (arith, torn.no_shorter);
        no_longer = omega (arith, torn.no_longer);
      },
    )

-- and so does a whole front
pub torn_past : (front : List ℕ) (place at n : ℕ) (old c : List ℕ) → place ≡ length front + at
    → Torn place n (front ++ old) c
    → (d : List ℕ) × (c ≡ front ++ d) × Torn at n old d
torn_past [] place at n old c is torn = (c, refl, subst (λ (k : ℕ). Torn k n old c) (omega (arith, is)) torn)
torn_past (x ∷ front) place at n old c is torn =
    let moved : Torn (suc (length front + at)) n (x ∷ (front ++ old)) c =
    subst (λ (k : ℕ). Torn k n (x ∷ (front ++ old)) c) (omega (arith, is)) torn in
    let first = torn_tail (length front + at) n x (front ++ old) c moved in
    let rest = torn_past front (length front + at) at n old first.0 refl first.2 in
    (rest.0, first.1 ∙ ap (λ (l : List ℕ). x ∷ l) rest.1, rest.2)

-- a write of the first byte alone changes no other
pub torn_first : (x : ℕ) (old c : List ℕ) → Torn 0 1 (x ∷ old) c → (y : ℕ) × (c ≡ y ∷ old)
torn_first x old [] torn = absurd (omega (arith, torn.no_shorter))
torn_first x old (y ∷ d) torn =
    let long : length d ≡ length old = omega (arith, torn.no_shorter, torn.no_longer) in
    let rest : d ≡ old = same_each d old long (λ i within. torn.behind (suc i) (omega arith) (omega arith)) in
    (y, ap (λ (l : List ℕ). y ∷ l) rest)
