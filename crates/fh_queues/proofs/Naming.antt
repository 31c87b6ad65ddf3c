-- Names in order of bytes.
use Rattle.std.proofs.Common.{◌≡◌, ℕ, Bool, true, false, List, [], ◌∷◌, refl, sym, ◌∙◌, ap, arith}
use Rattle.std.specs.Cmp.Lexicographic.{slice_cmp, nat_list_cmp_total, texts_ties, bytes_decides}
use Rattle.std.specs.List.{list_all}
use Rattle.std.specs.Ordering.{nat_cmp, is_lt, is_eq, ordering_reverse}
use Rattle.std.specs.Str.{bytes_eq}
use Rattle.std.specs.declared.cmp.Ordering.{Ordering}
use Rattle.std.specs.declared.cmp.Ordering.TheVariants.{Less, Equal, Greater}
use Rattle.std.proofs.lemmas.Bool.Decides.{nat_tests}
use Rattle.fh_queues.specs.Order.{comes_before, are_in_order, with_name}

less : (o : Ordering) → is_lt o ≡ true → o ≡ Less
less Less is = refl
less Equal is = absurd (cc)
less Greater is = absurd (cc)

pub before-trans : (a b c : List ℕ) → comes_before a b ≡ true → comes_before b c ≡ true → comes_before a c ≡ true
before-trans a b c first second =
    ap is_lt (nat_list_cmp_total.trans a b c (less (slice_cmp nat_cmp a b) first) (less (slice_cmp nat_cmp b c) second))

-- what neither comes before nor is the same comes behind
pub before-other : (a b : List ℕ) → comes_before a b ≡ false → bytes_eq a b ≡ false → comes_before b a ≡ true
before-other a b isnt differ = by_order (slice_cmp nat_cmp a b) (slice_cmp nat_cmp b a) refl isnt (sym (texts_ties a b) ∙ differ) (nat_list_cmp_total.antisymm b a)
  where
    by_order : (o turned : Ordering) → slice_cmp nat_cmp a b ≡ o → is_lt o ≡ false → is_eq o ≡ false → turned ≡ ordering_reverse o → is_lt turned ≡ true
    by_order Less turned is one two rest = absurd (cc)
    by_order Equal turned is one two rest = absurd (cc)
    by_order Greater turned is one two rest = ap is_lt rest

before_all : (a b : List ℕ) (names : List (List ℕ)) → comes_before a b ≡ true → list_all (comes_before b) names ≡ true → list_all (comes_before a) names ≡ true
before_all a b [] first rest = refl
before_all a b (name ∷ names) first rest =
    let here : comes_before b name ≡ true = grind (arith, nat_tests) in
    let more : list_all (comes_before b) names ≡ true = grind (arith, nat_tests) in
    grind (arith, nat_tests, before-trans a b name first here, before_all a b names first more)

before-with_name : (a name : List ℕ) (names : List (List ℕ)) → comes_before a name ≡ true → list_all (comes_before a) names ≡ true → list_all (comes_before a) (with_name name names) ≡ true
before-with_name a name [] here rest = grind (arith, nat_tests)
before-with_name a name (first ∷ names) here rest = grind (arith, nat_tests, before-with_name a name names)

pub in_order-with_name : (name : List ℕ) (names : List (List ℕ)) → are_in_order names ≡ true → are_in_order (with_name name names) ≡ true
in_order-with_name name [] ordered = refl
in_order-with_name name (first ∷ names) ordered = by_tests (comes_before first name) (bytes_eq first name) refl refl (in_order-with_name name names rest)
  where
    below : list_all (comes_before first) names ≡ true
    below = grind (arith, nat_tests)

    rest : are_in_order names ≡ true
    rest = grind (arith, nat_tests)

    by_tests : (before same : Bool) → comes_before first name ≡ before → bytes_eq first name ≡ same → are_in_order (with_name name names) ≡ true → are_in_order (with_name name (first ∷ names)) ≡ true
    by_tests true same is its more = rw is (grind (arith, nat_tests, before-with_name first name names is below, more))
    by_tests false true is its more = rw (is, its) ordered
    by_tests false false is its more =
        let ahead : comes_before name first ≡ true = before-other first name is its in
        rw (is, its) (grind (arith, nat_tests, before_all name first names ahead below))

pub bytes_same : (a b : List ℕ) → bytes_eq a b ≡ true → a ≡ b
bytes_same a b is = (bytes_decides a b).0 is

pub bytes_self : (a : List ℕ) → bytes_eq a a ≡ true
bytes_self a = (bytes_decides a a).1 refl

-- of two names one comes before the other only where they differ
pub before-differs : (a b : List ℕ) → comes_before a b ≡ true → bytes_eq a b ≡ false
before-differs a b is = texts_ties a b ∙ ap is_eq (less (slice_cmp nat_cmp a b) is)

pub before-differs_back : (a b : List ℕ) → comes_before a b ≡ true → bytes_eq b a ≡ false
before-differs_back a b is = texts_ties b a ∙ ap is_eq (nat_list_cmp_total.antisymm b a ∙ ap ordering_reverse (less (slice_cmp nat_cmp a b) is))

-- a name comes not before itself
pub before-self : (a : List ℕ) → comes_before a a ≡ false
before-self a = by_test (comes_before a a) refl
  where
    by_test : (b : Bool) → comes_before a a ≡ b → b ≡ false
    by_test false is = refl
    by_test true is = sym (bytes_self a) ∙ before-differs a a is

-- of two names only one comes before the other
pub before-back : (a b : List ℕ) → comes_before a b ≡ true → comes_before b a ≡ false
before-back a b is = by_test (comes_before b a) refl
  where
    by_test : (t : Bool) → comes_before b a ≡ t → t ≡ false
    by_test false back = refl
    by_test true back = sym (before-trans a b a is back) ∙ before-self a

-- a name before all others is put in front
pub with_name-front : (name : List ℕ) (names : List (List ℕ)) → list_all (comes_before name) names ≡ true → with_name name names ≡ name ∷ names
with_name-front name [] all = refl
with_name-front name (first ∷ names) all =
    let ahead : comes_before name first ≡ true = grind (arith, nat_tests) in
    let differs : bytes_eq first name ≡ false = before-differs_back name first ahead in
    let isnt : comes_before first name ≡ false = by_test (comes_before first name) refl ahead in
    rw (isnt, differs) refl
  where
    by_test : (b : Bool) → comes_before first name ≡ b → comes_before name first ≡ true → b ≡ false
    by_test false is ahead = refl
    by_test true is ahead = sym (before-trans first name first is ahead) ∙ before-self first
