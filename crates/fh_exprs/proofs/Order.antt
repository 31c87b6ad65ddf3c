-- Lists of lengths in lexicographic order, and front parts of one text.
use Rattle.std.proofs.Common.{◌≡◌, ◌≢◌, ℕ, ◌≤◌, List, [], ◌∷◌, ◌++◌, length, ap, sym, ◌∙◌, refl, arith, inl, inr}
use Rattle.std.proofs.lemmas.Bool.{cases_order}
use Rattle.std.specs.Ordering.{nat_cmp, ordering_then}
use Rattle.std.specs.Cmp.{nat_cmp_is}
use Rattle.std.specs.Cmp.Lexicographic.{slice_cmp}
use Rattle.std.specs.declared.cmp.Ordering.TheVariants.{Less, Equal, Greater}

pub cmp_le : (x y : ℕ) (xs ys : List ℕ) → slice_cmp nat_cmp (x ∷ xs) (y ∷ ys) ≢ Greater → x ≤ y
cmp_le x y xs ys h = elim (cases_order x y) [
  | inl same ↦ omega arith
  | inr other ↦ (elim other [
    | inl less ↦ omega arith
    | inr greater ↦ absurd (h
        (ap (λ o. ordering_then o (slice_cmp nat_cmp xs ys)) (sym (nat_cmp_is x y Greater greater))))
  ])
]

pub cmp_rest : (x y : ℕ) (xs ys : List ℕ) → x ≡ y → slice_cmp nat_cmp (x ∷ xs) (y ∷ ys) ≢ Greater
    → slice_cmp nat_cmp xs ys ≢ Greater
cmp_rest x y xs ys e h g = h (ap (λ o. ordering_then o (slice_cmp nat_cmp xs ys)) (sym (nat_cmp_is x y Equal e)) ∙ g)

pub cmp_not_greater : (x y : ℕ) (xs ys : List ℕ) → x ≤ y → (x ≡ y → slice_cmp nat_cmp xs ys ≢ Greater)
    → slice_cmp nat_cmp (x ∷ xs) (y ∷ ys) ≢ Greater
cmp_not_greater x y xs ys le h g = elim (cases_order x y) [
  | inl same ↦ h same (ap (λ o. ordering_then o (slice_cmp nat_cmp xs ys)) (nat_cmp_is x y Equal same) ∙ g)
  | inr other ↦ (elim other [
    | inl less ↦ (let e : Less ≡ Greater = ap (λ o. ordering_then o (slice_cmp nat_cmp xs ys))
        (nat_cmp_is x y Less less) ∙ g in cc)
    | inr greater ↦ absurd (omega arith)
  ])
]

-- of two front parts of one text the longer one begins with the shorter one
pub front_part : (xs ys s t : List ℕ) → xs ++ s ≡ ys ++ t → length xs ≤ length ys → (z : List ℕ) × (ys ≡ xs ++ z)
front_part [] ys s t e le = (ys, refl)
front_part (x ∷ xs) [] s t e le = absurd (omega arith)
front_part (x ∷ xs) (y ∷ ys) s t e le =
    let head : x ≡ y = cc in
    let tail : xs ++ s ≡ ys ++ t = cc in
    let more = front_part xs ys s t tail (omega arith) in
    (more.0, ap (λ h. h ∷ ys) (sym head) ∙ ap (λ l. x ∷ l) more.1)
