-- Lists of lists, step by step: what holds of each item, and what the items are joined to.
use Rattle.std.proofs.Common.{◌≡◌, ℕ, zero, suc, ◌+◌, ◌<◌, List, [], ◌∷◌, ◌++◌, length, get_or, take, sym, ap, subst, ◌∙◌, arith}
use Rattle.std.specs.List.{flat_map, AllByRecursion}
use Rattle.std.proofs.Math.Seq.{take-suc}
use Rattle.std.proofs.lemmas.Grind.{flat_map-append}
use Rattle.std.proofs.lemmas.List.{append-nil}

pub all_joined : {X : Type 0} (P : X → Type 0) (xs ys : List X) → AllByRecursion P xs → AllByRecursion P ys
    → AllByRecursion P (xs ++ ys)
all_joined P [] ys a b = b
all_joined P (x ∷ xs) ys a b = (a.0, all_joined P xs ys a.1 b)

pub all_first : {X : Type 0} (P : X → Type 0) (xs ys : List X) → AllByRecursion P (xs ++ ys) → AllByRecursion P xs
all_first P [] ys h = tt
all_first P (x ∷ xs) ys h = (h.0, all_first P xs ys h.1)

pub all_others : {X : Type 0} (P : X → Type 0) (xs ys : List X) → AllByRecursion P (xs ++ ys) → AllByRecursion P ys
all_others P [] ys h = h
all_others P (x ∷ xs) ys h = all_others P xs ys h.1

-- the pieces of one item more
pub pieces_step : {X Y : Type 0} (f : X → List Y) (xs : List X) (i : ℕ) (d : X) → i < length xs
    → flat_map f (take (i + 1) xs) ≡ flat_map f (take i xs) ++ f (get_or xs i d)
pieces_step {X} {Y} f xs i d lt =
    let next : i + 1 ≡ suc i = omega arith in
    ap (λ (n : ℕ). flat_map f (take n xs)) next ∙ ap (flat_map f) (take-suc xs i d lt)
    ∙ flat_map-append f (take i xs) (get_or xs i d ∷ [])
    ∙ ap (λ (t : List Y). flat_map f (take i xs) ++ t) (append-nil (f (get_or xs i d)))

-- and what these are joined to
pub joined_step : {X Y Z : Type 0} (f : X → List Y) (g : Y → List Z) (xs : List X) (i : ℕ) (d : X) → i < length xs
    → flat_map g (flat_map f (take (i + 1) xs)) ≡ flat_map g (flat_map f (take i xs)) ++ flat_map g (f (get_or xs i d))
joined_step f g xs i d lt =
    ap (flat_map g) (pieces_step f xs i d lt) ∙ flat_map-append g (flat_map f (take i xs)) (f (get_or xs i d))

pub all_step : {X Y : Type 0} (P : Y → Type 0) (f : X → List Y) (xs : List X) (i : ℕ) (d : X) → i < length xs
    → AllByRecursion P (flat_map f (take i xs)) → AllByRecursion P (f (get_or xs i d))
    → AllByRecursion P (flat_map f (take (i + 1) xs))
all_step {X} {Y} P f xs i d lt before now =
    subst (λ (ys : List Y). AllByRecursion P ys) (sym (pieces_step f xs i d lt))
    (all_joined P (flat_map f (take i xs)) (f (get_or xs i d)) before now)

-- what holds of all pieces holds of one
pub all_at : {X Y : Type 0} (P : Y → Type 0) (f : X → List Y) (xs : List X) (i : ℕ) (d : X) → i < length xs
    → AllByRecursion P (flat_map f xs) → AllByRecursion P (f (get_or xs i d))
all_at P f [] i d lt h = absurd (omega (arith, lt))
all_at P f (x ∷ xs) zero d lt h = all_first P (f x) (flat_map f xs) h
all_at P f (x ∷ xs) (suc i) d lt h = all_at P f xs i d (omega (arith, lt)) (all_others P (f x) (flat_map f xs) h)
