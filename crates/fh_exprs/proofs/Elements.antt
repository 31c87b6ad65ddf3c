-- What a text begins with, and how reading goes on behind it.
use Rattle.std.proofs.Common.{◌≤◌, ltb, length-drop, take-append-drop, ◌≡◌, ◌≢◌, ℕ, suc, ◌+◌, ◌-◌, ◌<◌, List, [], ◌∷◌, ◌++◌, length, get_or, take, drop, Bool, true, false, not, cond, eqb, zero, ◌||◌, ◌&&◌, ap, sym, ◌∙◌, refl, append_assoc, append-nil, length-append, subst, inl, inr, arith}
use Rattle.std.specs.Prelude.{Ok, Err, Some, None, unwrap_or}
use Rattle.std.specs.List.{list_all, prefix_len, position_or_len, position}
use Rattle.std.proofs.lemmas.Bool.{eq-eqb, eqb-true, ltb-false, false≢true}
use Rattle.std.proofs.lemmas.List.{nil_from_length, length-take-le}
use Rattle.std.proofs.lemmas.List.Sums.{prefix_len-le-length, prefix_len_stops}
use Rattle.std.proofs.lemmas.Bool.Decides.{eqb_tells}
use Rattle.fh_exprs.specs.declared.fault.ExprFault.TheVariants.{OpenBrace}
use Rattle.fh_exprs.specs.declared.form.Naming.{Naming}
use Rattle.fh_exprs.specs.Layout.{Layout}
use Rattle.fh_exprs.specs.Form.{outside, inside, read_on, with_plain, with_name, name_fault, unless, is_brace, open_brace, close_brace}
use Rattle.fh_exprs.specs.Steps.{BeginsWithFault}
use Rattle.fh_exprs.proofs.Cuts.{eqb-from_ne}

-- a text of which the reading stands at this place
pub at_place : (naming : Naming) (layout : Layout) (text : List ℕ) (m n : ℕ) → m ≡ n
    → read_on naming layout (outside m) text ≡ read_on naming layout (outside n) text
at_place naming layout text m n e = ap (λ k. read_on naming layout (outside k) text) e

-- a doubled brace
pub doubled_open : (naming : Naming) (layout : Layout) (at : ℕ) (rest : List ℕ)
    → read_on naming layout (outside at) (open_brace ∷ open_brace ∷ rest)
    ≡ read_on naming (with_plain (open_brace ∷ []) layout) (outside (at + 2)) rest
unfolding read_on
doubled_open naming layout at rest = refl

pub doubled_close : (naming : Naming) (layout : Layout) (at : ℕ) (rest : List ℕ)
    → read_on naming layout (outside at) (close_brace ∷ close_brace ∷ rest)
    ≡ read_on naming (with_plain (close_brace ∷ []) layout) (outside (at + 2)) rest
unfolding read_on
doubled_close naming layout at rest = refl

-- a closing brace with no other behind it
pub lone_close : (naming : Naming) (layout : Layout) (at : ℕ) (after : List ℕ)
    → ((rest : List ℕ) → after ≢ close_brace ∷ rest)
    → read_on naming layout (outside at) (close_brace ∷ after) ≡ Err (OpenBrace at)
unfolding read_on
lone_close naming layout at [] h = refl
lone_close naming layout at (b ∷ rest) h =
    rw (eqb-from_ne b close_brace (λ e. h rest (ap (λ x. x ∷ rest) e))) refl

-- whether no byte is a brace; whether none is a closing one
abbrev pub is_plain : ℕ → Bool
is_plain b = not (is_brace b)

abbrev pub is_open_or_plain : ℕ → Bool
is_open_or_plain b = not (eqb b close_brace)

plain_parts : (a b r : Bool) → (not (a || b) && r) ≡ true → (a ≡ false) × (b ≡ false) × (r ≡ true)
plain_parts true b r e = absurd (false≢true e)
plain_parts false true r e = absurd (false≢true e)
plain_parts false false r e = (refl, refl, e)

not_parts : (a r : Bool) → (not a && r) ≡ true → (a ≡ false) × (r ≡ true)
not_parts true r e = absurd (false≢true e)
not_parts false r e = (refl, e)

pub all_pass : (p : ℕ → Bool) (xs : List ℕ) → ((i : ℕ) → i < length xs → p (get_or xs i 0) ≡ true)
    → list_all p xs ≡ true
all_pass p [] h = refl
all_pass p (x ∷ xs) h = rw (h 0 (omega arith)) (all_pass p xs (λ i lt. h (suc i) (omega arith)))

take_prefix-cons : (p : ℕ → Bool) (x : ℕ) (xs : List ℕ) (v : Bool) → p x ≡ v
    → list_all p (take (prefix_len p xs) xs) ≡ true
    → list_all p (take (cond v (1 + prefix_len p xs) 0) (x ∷ xs)) ≡ true
take_prefix-cons p x xs true e h =
    let s : 1 + prefix_len p xs ≡ suc (prefix_len p xs) = omega arith in
    rw s (rw e h)
take_prefix-cons p x xs false e h = refl

pub take_prefix : (p : ℕ → Bool) (xs : List ℕ) → list_all p (take (prefix_len p xs) xs) ≡ true
take_prefix p [] = refl
take_prefix p (x ∷ xs) = take_prefix-cons p x xs (p x) refl (take_prefix p xs)

-- plain text is read as it is
pub plain_run : (naming : Naming) (layout : Layout) (at : ℕ) (plain rest : List ℕ) → list_all is_plain plain ≡ true
    → read_on naming layout (outside at) (plain ++ rest)
    ≡ read_on naming (with_plain plain layout) (outside (at + length plain)) rest
unfolding read_on
plain_run naming layout at [] rest h =
    ap (λ last. read_on naming (record { spots = layout.spots; last = last }) (outside at) rest)
    (sym (append-nil layout.last))
    ∙ at_place naming (with_plain [] layout) rest at (at + 0) (omega arith)
plain_run naming layout at (b ∷ plain) rest h =
    let parts = plain_parts (eqb b open_brace) (eqb b close_brace) (list_all is_plain plain) h in
    rw (parts.0, parts.1)
    (plain_run naming (with_plain (b ∷ []) layout) (at + 1) plain rest parts.2
    ∙ ap (λ last. read_on naming (record { spots = layout.spots; last = last }) (outside ((at + 1) + length plain))
    rest)
    (append_assoc layout.last (b ∷ []) plain)
    ∙ at_place naming (with_plain (b ∷ plain) layout) rest ((at + 1) + length plain) (at + suc (length plain))
    (omega arith))

-- a name goes on to its closing brace
name_run : (naming : Naming) (layout : Layout) (at n : ℕ) (name more rest : List ℕ) → list_all is_plain more ≡ true
    → read_on naming layout (inside at (n ∷ name)) (more ++ (close_brace ∷ rest))
    ≡ unless (name_fault naming layout at (n ∷ (name ++ more)))
    (read_on naming (with_name (n ∷ (name ++ more)) layout) (outside (at + (length (n ∷ (name ++ more)) + 2))) rest)
unfolding read_on
name_run naming layout at n name [] rest h =
    ap (λ whole. unless (name_fault naming layout at (n ∷ whole))
    (read_on naming (with_name (n ∷ whole) layout) (outside (at + (length (n ∷ whole) + 2))) rest))
    (sym (append-nil name))
name_run naming layout at n name (b ∷ more) rest h =
    let parts = plain_parts (eqb b open_brace) (eqb b close_brace) (list_all is_plain more) h in
    rw (parts.0, parts.1)
    (name_run naming layout at n (name ++ (b ∷ [])) more rest parts.2
    ∙ ap (λ whole. unless (name_fault naming layout at (n ∷ whole))
    (read_on naming (with_name (n ∷ whole) layout) (outside (at + (length (n ∷ whole) + 2))) rest))
    (append_assoc name (b ∷ []) more))

pub named : (naming : Naming) (layout : Layout) (at : ℕ) (name rest : List ℕ) → name ≢ []
    → list_all is_plain name ≡ true
    → read_on naming layout (outside at) (open_brace ∷ (name ++ (close_brace ∷ rest)))
    ≡ unless (name_fault naming layout at name)
    (read_on naming (with_name name layout) (outside (at + (length name + 2))) rest)
unfolding read_on
named naming layout at [] rest ne h = absurd (ne refl)
named naming layout at (n ∷ name) rest ne h =
    let parts = plain_parts (eqb n open_brace) (eqb n close_brace) (list_all is_plain name) h in
    rw (parts.0, parts.1) (name_run naming layout at n [] name rest parts.2)

-- a brace that no closing one follows
unclosed_run : (naming : Naming) (layout : Layout) (at n : ℕ) (name text : List ℕ)
    → list_all is_open_or_plain text ≡ true
    → read_on naming layout (inside at (n ∷ name)) text ≡ Err (OpenBrace at)
unfolding read_on
unclosed_run naming layout at n name [] h = refl
unclosed_run naming layout at n name (b ∷ text) h =
    let parts = not_parts (eqb b close_brace) (list_all is_open_or_plain text) h in
    elim (eqb_tells b open_brace) [
      | inl same ↦ rw same.0 refl
      | inr other ↦ rw (other.0, parts.0) (unclosed_run naming layout at n (name ++ (b ∷ [])) text parts.1)
    ]

pub unclosed : (text : List ℕ) → ((rest : List ℕ) → text ≢ open_brace ∷ rest)
    → list_all is_open_or_plain text ≡ true → BeginsWithFault (open_brace ∷ text)
unfolding read_on
unclosed [] single h naming layout at ne = refl
unclosed (b ∷ text) single h naming layout at ne =
    let parts = not_parts (eqb b close_brace) (list_all is_open_or_plain text) h in
    rw (eqb-from_ne b open_brace (λ e. single text (ap (λ x. x ∷ text) e)), parts.0)
    (unclosed_run naming layout at b [] text parts.1)

-- no name between the braces
pub nameless : (rest : List ℕ) → BeginsWithFault (open_brace ∷ (close_brace ∷ rest))
unfolding read_on
nameless rest naming layout at ne = refl

-- another opening brace before the closing one
open_run : (naming : Naming) (layout : Layout) (at n : ℕ) (name text rest : List ℕ) (k : ℕ)
    → list_all is_open_or_plain text ≡ true
    → k < length text → get_or text k 0 ≡ open_brace
    → read_on naming layout (inside at (n ∷ name)) (text ++ rest) ≡ Err (OpenBrace at)
unfolding read_on
open_run naming layout at n name [] rest k h lt e = absurd (omega arith)
open_run naming layout at n name (b ∷ text) rest zero h lt e = rw (eq-eqb b open_brace e) refl
open_run naming layout at n name (b ∷ text) rest (suc k) h lt e =
    let parts = not_parts (eqb b close_brace) (list_all is_open_or_plain text) h in
    elim (eqb_tells b open_brace) [
      | inl same ↦ rw same.0 refl
      | inr other ↦ rw (other.0, parts.0) (open_run naming layout at n (name ++ (b ∷ [])) text rest k parts.1
          (omega arith) e)
    ]

pub open_inside : (text rest : List ℕ) (k : ℕ) → ((more : List ℕ) → text ++ rest ≢ open_brace ∷ more)
    → list_all is_open_or_plain text ≡ true → k < length text → get_or text k 0 ≡ open_brace
    → BeginsWithFault (open_brace ∷ (text ++ rest))
unfolding read_on
open_inside [] rest k single h lt e naming layout at ne = absurd (omega arith)
open_inside (b ∷ text) rest zero single h lt e naming layout at ne =
    absurd (single (text ++ rest) (ap (λ x. x ∷ (text ++ rest)) e))
open_inside (b ∷ text) rest (suc k) single h lt e naming layout at ne =
    let parts = not_parts (eqb b close_brace) (list_all is_open_or_plain text) h in
    rw (eqb-from_ne b open_brace (λ same. single (text ++ rest) (ap (λ x. x ∷ (text ++ rest)) same)), parts.0)
    (open_run naming layout at b [] text rest k parts.1 (omega arith) e)

-- the same, of what the code found
abbrev pub Lacks : ℕ → List ℕ → Type 0
Lacks c text = (i : ℕ) → i < length text → get_or text i 0 ≢ c

pub no_close : (text : List ℕ) → Lacks close_brace text → list_all is_open_or_plain text ≡ true
no_close text h = all_pass is_open_or_plain text (λ i lt. rw (eqb-from_ne (get_or text i 0) close_brace (h i lt)) refl)

pub no_brace : (text : List ℕ) → Lacks close_brace text → Lacks open_brace text → list_all is_plain text ≡ true
no_brace text close open' =
    all_pass is_plain text (λ i lt. rw
    (eqb-from_ne (get_or text i 0) open_brace (open' i lt), eqb-from_ne (get_or text i 0) close_brace (close i lt))
    refl)

pub empty_name : (text name rest : List ℕ) → text ≡ name ++ (close_brace ∷ rest) → length name ≡ 0
    → BeginsWithFault (open_brace ∷ text)
empty_name text name rest e none =
    let is_nil : name ≡ [] = nil_from_length name none in
    let whole : text ≡ close_brace ∷ rest = e ∙ ap (λ n. n ++ (close_brace ∷ rest)) is_nil in
    subst (λ (t : List ℕ). BeginsWithFault (open_brace ∷ t)) (sym whole) (nameless rest)

pub open_in_name : (text name rest : List ℕ) (k : ℕ) → text ≡ name ++ (close_brace ∷ rest) → Lacks close_brace name
    → ((more : List ℕ) → text ≢ open_brace ∷ more) → k < length name → get_or name k 0 ≡ open_brace
    → BeginsWithFault (open_brace ∷ text)
open_in_name text name rest k e close single lt found =
    subst (λ (t : List ℕ). BeginsWithFault (open_brace ∷ t)) (sym e)
    (open_inside name (close_brace ∷ rest) k (λ more same. single more (e ∙ same)) (no_close name close) lt found)

pub named_at : (naming : Naming) (layout : Layout) (at : ℕ) (text name rest : List ℕ)
    → text ≡ name ++ (close_brace ∷ rest)
    → 0 < length name → Lacks close_brace name → Lacks open_brace name
    → read_on naming layout (outside at) (open_brace ∷ text)
    ≡ unless (name_fault naming layout at name)
    (read_on naming (with_name name layout) (outside (at + (suc (length text) - length rest))) rest)
named_at naming layout at text name rest e filled close open' =
    let long : length text ≡ length name + suc (length rest) = ap length e ∙ length-append name (close_brace ∷ rest) in
    let width : length name + 2 ≡ suc (length text) - length rest = omega arith in
    ap (λ t. read_on naming layout (outside at) (open_brace ∷ t)) e
    ∙ named naming layout at name rest (λ none. absurd (let z : length name ≡ 0 = ap length none in omega arith))
    (no_brace name close open')
    ∙ ap (λ k. unless (name_fault naming layout at name)
    (read_on naming (with_name name layout) (outside (at + k)) rest)) width

-- a doubled brace that the code found
pub doubled_open_at : (text after rest : List ℕ) → text ≡ open_brace ∷ after → after ≡ open_brace ∷ rest
    → (naming : Naming) (layout : Layout) (at : ℕ) → read_on naming layout (outside at) text
    ≡ read_on naming (with_plain (open_brace ∷ []) layout) (outside (at + (length text - length rest))) rest
doubled_open_at text after rest e f naming layout at =
    let whole : text ≡ open_brace ∷ (open_brace ∷ rest) = e ∙ ap (λ t. open_brace ∷ t) f in
    let long : length text ≡ suc (suc (length rest)) = ap length whole in
    ap (λ t. read_on naming layout (outside at) t) whole
    ∙ doubled_open naming layout at rest
    ∙ at_place naming (with_plain (open_brace ∷ []) layout) rest (at + 2) (at + (length text - length rest))
    (omega arith)

pub doubled_close_at : (text after rest : List ℕ) → text ≡ close_brace ∷ after → after ≡ close_brace ∷ rest
    → (naming : Naming) (layout : Layout) (at : ℕ) → read_on naming layout (outside at) text
    ≡ read_on naming (with_plain (close_brace ∷ []) layout) (outside (at + (length text - length rest))) rest
doubled_close_at text after rest e f naming layout at =
    let whole : text ≡ close_brace ∷ (close_brace ∷ rest) = e ∙ ap (λ t. close_brace ∷ t) f in
    let long : length text ≡ suc (suc (length rest)) = ap length whole in
    ap (λ t. read_on naming layout (outside at) t) whole
    ∙ doubled_close naming layout at rest
    ∙ at_place naming (with_plain (close_brace ∷ []) layout) rest (at + 2) (at + (length text - length rest))
    (omega arith)

pub lone_close_at : (text after : List ℕ) → text ≡ close_brace ∷ after → ((rest : List ℕ) → after ≢ close_brace ∷ rest)
    → BeginsWithFault text
lone_close_at text after e h naming layout at ne =
    ap (λ t. read_on naming layout (outside at) t) e ∙ lone_close naming layout at after h

-- plain text that the code found
pub plain_at : (text : List ℕ) (n : ℕ) → n ≡ position_or_len is_brace text
    → (naming : Naming) (layout : Layout) (at : ℕ) → read_on naming layout (outside at) text
    ≡ read_on naming (with_plain (take n text) layout) (outside (at + (length text - length (drop n text))))
    (drop n text)
plain_at text n e naming layout at =
    let within : n ≤ length text = subst (λ (k : ℕ). k ≤ length text) (sym e) (prefix_len-le-length is_plain text) in
    let long : length (take n text) ≡ n = length-take-le n text within in
    let left : length (drop n text) ≡ length text - n = length-drop n text in
    let plain : list_all is_plain (take n text) ≡ true =
    subst (λ (k : ℕ). list_all is_plain (take k text) ≡ true) (sym e) (take_prefix is_plain text) in
    ap (λ t. read_on naming layout (outside at) t) (sym (take-append-drop n text))
    ∙ plain_run naming layout at (take n text) (drop n text) plain
    ∙ at_place naming (with_plain (take n text) layout) (drop n text) (at + length (take n text))
    (at + (length text - length (drop n text))) (omega arith)

-- what stands behind the plain text is a brace
pub brace_at : (text : List ℕ) (n : ℕ) → n ≡ position_or_len is_brace text → n < length text → get_or text n 0 < 128
brace_at text n e lt = is_brace-lt (get_or text n 0) (not-true (is_brace (get_or text n 0))
    (subst (λ (k : ℕ). is_plain (get_or text k 0) ≡ false) (sym e)
    (prefix_len_stops is_plain text 0 (subst (λ (k : ℕ). k < length text) e lt))))
  where
    not-true : (b : Bool) → not b ≡ false → b ≡ true
    not-true true h = refl
    not-true false h = absurd (false≢true (sym h))

    is_brace-lt : (b : ℕ) → is_brace b ≡ true → b < 128
    is_brace-lt b h = elim (eqb_tells b open_brace) [
      | inl same ↦ omega arith
      | inr other ↦ (let close : eqb b close_brace ≡ true = rw other.0 at h in let e = eqb-true b close_brace close in
          omega arith)
    ]

-- some plain text comes first where no brace does
pub plain_first : (text : List ℕ) → ((rest : List ℕ) → text ≢ open_brace ∷ rest)
    → ((rest : List ℕ) → text ≢ close_brace ∷ rest)
    → text ≢ [] → 0 < position_or_len is_brace text
plain_first [] no_open no_close' ne = absurd (ne refl)
plain_first (b ∷ text) no_open no_close' ne =
    rw (
      eqb-from_ne b open_brace (λ e. no_open text (ap (λ x. x ∷ text) e)),
      eqb-from_ne b close_brace (λ e. no_close' text (ap (λ x. x ∷ text) e)),
    )
    (omega arith)

pub rest_shorter : (text : List ℕ) (n : ℕ) → 0 < n → text ≢ [] → length (drop n text) < length text
rest_shorter [] n pos ne = absurd (ne refl)
rest_shorter (b ∷ text) n pos ne = let left = length-drop n (b ∷ text) in omega arith

pub unwrap_or-position : (p : ℕ → Bool) (xs : List ℕ) → unwrap_or (position p xs) (length xs) ≡ position_or_len p xs
unwrap_or-position p xs = by_test (ltb (position_or_len p xs) (length xs)) refl
  where
    by_test : (v : Bool) → ltb (position_or_len p xs) (length xs) ≡ v
        → unwrap_or (cond v (Some (position_or_len p xs)) None) (length xs) ≡ position_or_len p xs
    by_test true e = refl
    by_test false e = let le = prefix_len-le-length (λ x. not (p x)) xs in let ge =
        ltb-false (position_or_len p xs) (length xs) e in omega arith

pub at_end : (naming : Naming) (layout : Layout) (at : ℕ) (rest : List ℕ) → length rest ≡ 0
    → read_on naming layout (outside at) rest ≡ Ok layout
unfolding read_on
at_end naming layout at [] e = refl
at_end naming layout at (b ∷ rest) e = absurd (omega arith)
