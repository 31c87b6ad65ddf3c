-- The row of a number, as rows change, and what is true of each row.
use Rattle.std.proofs.Common.{◌≡◌, ℕ, zero, suc, ◌≤◌, ◌<◌, Bool, true, false, List, [], ◌∷◌, ◌++◌, take, Option, Some, None, refl, sym, ◌∙◌, ap, subst, arith}
use Rattle.std.specs.Prelude.{◌==◌, nat_lt, if◌then◌else◌, filter, is_some, option_map}
use Rattle.std.specs.List.{list_all, list_any}
use Rattle.std.proofs.lemmas.Bool.Decides.{nat_tests}
use Rattle.fh_queues.specs.declared.row.Message.{Message}
use Rattle.fh_queues.specs.Rows.{is_live, with_change, row_of, live_row}
use Rattle.fh_queues.specs.Order.{are_rising}

pub row_of-number : (n : ℕ) (rows : List Message) (row : Message) → row_of n rows ≡ Some row → row.number ≡ n
row_of-number n [] row found = absurd (cc)
row_of-number n (r ∷ rows) row found = grind (arith, nat_tests, row_of-number n rows row)

pub all_row_of : (p : Message → Bool) (n : ℕ) (rows : List Message) (row : Message) → list_all p rows ≡ true
    → row_of n rows ≡ Some row → p row ≡ true
all_row_of p n [] row all found = absurd (cc)
all_row_of p n (r ∷ rows) row all found = grind (arith, nat_tests, all_row_of p n rows row)

-- rows that rise from a number on don't have it
pub row_of-above : (n low : ℕ) (rows : List Message) → n ≤ low → are_rising low rows ≡ true → row_of n rows ≡ None
row_of-above n low [] less rising = refl
row_of-above n low (row ∷ rows) less rising = grind (arith, nat_tests, row_of-above n row.number rows)

pub any-row_of : (n : ℕ) (rows : List Message) → list_any (λ row. row.number == n) rows ≡ is_some (row_of n rows)
any-row_of n [] = refl
any-row_of n (row ∷ rows) = grind (arith, nat_tests, any-row_of n rows)

-- a row that passes the test
abbrev pub keep_if : (Message → Bool) → Option Message → Option Message
keep_if p None = None
keep_if p (Some row) = if p row then Some row else None

pub row_of-filter : (n low : ℕ) (p : Message → Bool) (rows : List Message) → are_rising low rows ≡ true
    → row_of n (filter p rows) ≡ keep_if p (row_of n rows)
row_of-filter n low p [] rising = refl
row_of-filter n low p (row ∷ rows) rising =
    by_tests (row.number == n) (p row) refl refl (row_of-filter n row.number p rows later)
  where
    later : are_rising row.number rows ≡ true
    later = grind (arith, nat_tests)

    by_tests : (same passes : Bool) → (row.number == n) ≡ same → p row ≡ passes
        → row_of n (filter p rows) ≡ keep_if p (row_of n rows)
        → row_of n (filter p (row ∷ rows)) ≡ keep_if p (row_of n (row ∷ rows))
    by_tests true true is passing rest = grind (arith, nat_tests)
    by_tests true false is passing rest =
        let none : row_of n rows ≡ None = row_of-above n row.number rows (grind (arith, nat_tests)) later in
        let gone : row_of n (filter p rows) ≡ None = rest ∙ ap (keep_if p) none in
        grind (arith, nat_tests)
    by_tests false true is passing rest = grind (arith, nat_tests)
    by_tests false false is passing rest = grind (arith, nat_tests)

pub row_of-with_change : (n number : ℕ) (change : Message → Message)
    → ((row : Message) → (change row).number ≡ row.number) → (rows : List Message)
    → row_of n (with_change number change rows)
    ≡ (if n == number then option_map change (row_of n rows) else row_of n rows)
row_of-with_change n number change keeps [] = grind (arith, nat_tests)
row_of-with_change n number change keeps (row ∷ rows) =
    grind (arith, nat_tests, keeps row, row_of-with_change n number change keeps rows)

pub row_of-push : (n : ℕ) (rows : List Message) (new : Message) → row_of new.number rows ≡ None
    → row_of n (rows ++ new ∷ []) ≡ (if n == new.number then Some new else row_of n rows)
row_of-push n [] new none = grind (arith, nat_tests)
row_of-push n (row ∷ rows) new none = grind (arith, nat_tests, row_of-push n rows new)

pub list_all-filter : {X : Type 0} (p q : X → Bool) (xs : List X) → list_all p xs ≡ true
    → list_all p (filter q xs) ≡ true
list_all-filter p q [] all = refl
list_all-filter p q (x ∷ xs) all = grind (arith, nat_tests, list_all-filter p q xs)

pub list_all-take : {X : Type 0} (p : X → Bool) (n : ℕ) (xs : List X) → list_all p xs ≡ true
    → list_all p (take n xs) ≡ true
list_all-take p zero xs all = refl
list_all-take p (suc n) [] all = refl
list_all-take p (suc n) (x ∷ xs) all = grind (arith, nat_tests, list_all-take p n xs)

pub list_all-push : {X : Type 0} (p : X → Bool) (xs : List X) (x : X) → list_all p xs ≡ true → p x ≡ true
    → list_all p (xs ++ x ∷ []) ≡ true
list_all-push p [] x all here = grind (arith, nat_tests)
list_all-push p (y ∷ xs) x all here = grind (arith, nat_tests, list_all-push p xs x)

-- a weaker test passes too
pub list_all-weaker : {X : Type 0} (p q : X → Bool) → ((x : X) → p x ≡ true → q x ≡ true) → (xs : List X)
    → list_all p xs ≡ true → list_all q xs ≡ true
list_all-weaker p q weaker [] all = refl
list_all-weaker p q weaker (x ∷ xs) all = grind (arith, nat_tests, weaker x, list_all-weaker p q weaker xs)

pub list_all-with_change : (p : Message → Bool) (number : ℕ) (change : Message → Message) (rows : List Message)
    → ((row : Message) → p row ≡ true → p (change row) ≡ true) → list_all p rows ≡ true
    → list_all p (with_change number change rows) ≡ true
list_all-with_change p number change [] keeps all = refl
list_all-with_change p number change (row ∷ rows) keeps all =
    grind (arith, nat_tests, keeps row, list_all-with_change p number change rows keeps)

pub all_pass : (p : Message → Bool) (rows : List Message) → list_all p (filter p rows) ≡ true
all_pass p [] = refl
all_pass p (r ∷ rows) = grind (arith, nat_tests, all_pass p rows)

-- rows that rise from a number do so from a lower one
pub are_rising-lower : (low lower : ℕ) (rows : List Message) → lower ≤ low → are_rising low rows ≡ true
    → are_rising lower rows ≡ true
are_rising-lower low lower [] less rising = refl
are_rising-lower low lower (row ∷ rows) less rising = grind (arith, nat_tests)

pub are_rising-filter : (low : ℕ) (p : Message → Bool) (rows : List Message) → are_rising low rows ≡ true
    → are_rising low (filter p rows) ≡ true
are_rising-filter low p [] rising = refl
are_rising-filter low p (row ∷ rows) rising =
    grind (arith, nat_tests, are_rising-filter row.number p rows, are_rising-lower row.number low (filter p rows))

pub are_rising-take : (low n : ℕ) (rows : List Message) → are_rising low rows ≡ true
    → are_rising low (take n rows) ≡ true
are_rising-take low zero rows rising = refl
are_rising-take low (suc n) [] rising = refl
are_rising-take low (suc n) (row ∷ rows) rising = grind (arith, nat_tests, are_rising-take row.number n rows)

pub are_rising-push : (low : ℕ) (rows : List Message) (row : Message) → low < row.number
    → list_all (λ r. nat_lt r.number row.number) rows ≡ true → are_rising low rows ≡ true
    → are_rising low (rows ++ row ∷ []) ≡ true
are_rising-push low [] row above below rising = grind (arith, nat_tests)
are_rising-push low (r ∷ rows) row above below rising = grind (arith, nat_tests, are_rising-push r.number rows row)

-- a row that is changed keeps its number
pub are_rising-with_change : (low number : ℕ) (change : Message → Message)
    → ((row : Message) → (change row).number ≡ row.number) → (rows : List Message) → are_rising low rows ≡ true
    → are_rising low (with_change number change rows) ≡ true
are_rising-with_change low number change keeps [] rising = refl
are_rising-with_change low number change keeps (row ∷ rows) rising =
    grind (arith, nat_tests, keeps row, are_rising-with_change row.number number change keeps rows)

-- rows that rise, and of which each passes this, are numbered from 1 on
pub all_positive : (low : ℕ) (rows : List Message) → are_rising low rows ≡ true
    → list_all (λ row. nat_lt 0 row.number) rows ≡ true
all_positive low [] rising = refl
all_positive low (row ∷ rows) rising = grind (arith, nat_tests, all_positive row.number rows)

-- rows above a number have none of it that is live
live_row-above : (n m low : ℕ) (rows : List Message) → n ≤ low → are_rising low rows ≡ true → live_row n m rows ≡ None
live_row-above n m low [] less rising = refl
live_row-above n m low (row ∷ rows) less rising = grind (arith, nat_tests, live_row-above n m row.number rows)

pub live_row-is : (n m low : ℕ) (rows : List Message) → are_rising low rows ≡ true
    → live_row n m rows ≡ keep_if (is_live m) (row_of n rows)
live_row-is n m low [] rising = refl
live_row-is n m low (row ∷ rows) rising =
    by_tests (row.number == n) (is_live m row) refl refl (live_row-is n m row.number rows later)
  where
    later : are_rising row.number rows ≡ true
    later = grind (arith, nat_tests)

    by_tests : (same alive : Bool) → (row.number == n) ≡ same → is_live m row ≡ alive
        → live_row n m rows ≡ keep_if (is_live m) (row_of n rows)
        → live_row n m (row ∷ rows) ≡ keep_if (is_live m) (row_of n (row ∷ rows))
    by_tests true true is its more = grind (arith, nat_tests)
    by_tests true false is its more =
        let none : live_row n m rows ≡ None = live_row-above n m row.number rows (grind (arith, nat_tests)) later in
        grind (arith, nat_tests)
    by_tests false alive is its more = grind (arith, nat_tests)

-- a live row is the row of its number
pub live_row-found : (n m : ℕ) (rows : List Message) (row : Message) → are_rising 0 rows ≡ true
    → live_row n m rows ≡ Some row
    → (row_of n rows ≡ Some row) × (is_live m row ≡ true)
live_row-found n m rows row rising found = by_found (row_of n rows) (sym (live_row-is n m 0 rows rising) ∙ found)
  where
    by_found : (there : Option Message) → keep_if (is_live m) there ≡ Some row
        → (there ≡ Some row) × (is_live m row ≡ true)
    by_found None is = absurd (cc)
    by_found (Some r) is = by_test (is_live m r) refl is
      where
        by_test : (alive : Bool) → is_live m r ≡ alive → (if alive then Some r else None) ≡ Some row
            → (Some r ≡ Some row) × (is_live m row ≡ true)
        by_test true its is =
            let same : r ≡ row = cc in
            (is, subst (λ (x : Message). is_live m x ≡ true) same its)
        by_test false its is = absurd (cc)
