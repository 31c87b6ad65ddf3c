-- Cutting a text at the first place of a byte.
use Rattle.std.proofs.Common.{inl, inr, ◌≡◌, ◌≢◌, ℕ, suc, ◌<◌, List, [], ◌∷◌, ◌++◌, length, get_or, false, eqb, ap, arith, refl, Option, Some, None}
use Rattle.std.specs.Prelude.{option_map}
use Rattle.std.proofs.lemmas.Bool.{eq-eqb}
use Rattle.std.proofs.lemmas.Bool.Decides.{eqb_tells}
use Rattle.fh_app.specs.Bindings.{cut_at}

eqb-from_ne : (a b : ℕ) → a ≢ b → eqb a b ≡ false
eqb-from_ne a b ne = elim (eqb_tells a b) [ inl t ↦ absurd (ne t.1) | inr f ↦ f.0 ]

pub cut_at-none : (c : ℕ) (bs : List ℕ) → ((i : ℕ) → i < length bs → get_or bs i 0 ≢ c) → cut_at c bs ≡ None
cut_at-none c [] absent = refl
cut_at-none c (b ∷ bs) absent =
    rw (eqb-from_ne b c (absent 0 (omega arith)), cut_at-none c bs (λ i less. absent (suc i) (omega arith))) refl

pub cut_at-some : (c : ℕ) (xs ys : List ℕ) → ((i : ℕ) → i < length xs → get_or xs i 0 ≢ c)
    → cut_at c (xs ++ (c ∷ ys)) ≡ Some (xs, ys)
cut_at-some c [] ys absent = rw (eq-eqb c c refl) refl
cut_at-some c (x ∷ xs) ys absent =
    rw (eqb-from_ne x c (absent 0 (omega arith)), cut_at-some c xs ys (λ i less. absent (suc i) (omega arith))) refl
