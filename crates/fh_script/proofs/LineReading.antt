-- What a line that was read leaves of a source.
use Rattle.std.proofs.Common.{if◌then◌else◌, ◌≡◌, ℕ, ◌+◌, ◌-◌, ◌≤◌, true, false, cond, List, [], ◌∷◌, ◌++◌, length, take, Option, Some, None, refl, ap, arith}
use Rattle.std.proofs.KnownBytes.{Consumes-trans}
use Rattle.std.specs.List.{list_all}
use Rattle.std.proofs.lemmas.Bool.{leb-true}
use Rattle.std.proofs.lemmas.Grind.{common_steps}
use Rattle.std.proofs.lemmas.Bool.Decides.{nat_tests, Decides-eqb}
use Rattle.std.proofs.lemmas.List.Sums.{sum_by-append}
use Rattle.std.proofs.lemmas.Slice.Eq.{ends_is}
use Rattle.fh_script.specs.Lines.{StartsLong, is_ended, is_line_feed, before_lines, line_feeds, line_length, lines}
use Rattle.fh_script.specs.Script.{Reads, is_short_line}

pub line_feeds-append : (a b : List ℕ) → line_feeds (a ++ b) ≡ line_feeds a + line_feeds b
line_feeds-append a b = sum_by-append (λ x. cond (is_line_feed x) 1 0) a b

-- the first of bytes without a line feed is none, and so are the others
plain_parts : (b : ℕ) (line : List ℕ) → line_feeds (b ∷ line) ≡ 0 → (is_line_feed b ≡ false) × (line_feeds line ≡ 0)
plain_parts b line plain =
    let apart = line_feeds-append (b ∷ []) line in
    let one : line_feeds (b ∷ []) ≡ 0 = omega (arith, apart, plain) in
    (grind (arith, nat_tests), omega (arith, apart, plain))

pub lines-ended : (line rest : List ℕ) → line_feeds line ≡ 0
    → lines (line ++ 10 ∷ rest) ≡ (line ++ 10 ∷ []) ∷ lines rest
lines-ended [] rest plain = refl
lines-ended (b ∷ line) rest plain =
    let parts = plain_parts b line plain in rw parts.0 (ap (before_lines b) (lines-ended line rest parts.1))

pub lines-last : (b : ℕ) (line : List ℕ) → line_feeds (b ∷ line) ≡ 0 → lines (b ∷ line) ≡ (b ∷ line) ∷ []
lines-last b [] plain = rw (plain_parts b [] plain).0 refl
lines-last b (d ∷ line) plain =
    let parts = plain_parts b (d ∷ line) plain in rw parts.0 (ap (before_lines b) (lines-last d line parts.1))

pub line_length-plain : (line rest : List ℕ) → line_feeds line ≡ 0
    → line_length (line ++ rest) ≡ length line + line_length rest
line_length-plain [] rest plain = omega arith
line_length-plain (b ∷ line) rest plain =
    let parts = plain_parts b line plain in rw parts.0 (omega (arith, line_length-plain line rest parts.1))

pub not_ended : (line : List ℕ) → line_feeds line ≡ 0 → is_ended line ≡ true → ⊥
not_ended line plain ended =
    let split = (ends_is Decides-eqb line (10 ∷ []) (is_ended line) refl).0 ended in
    omega (arith, plain, ap line_feeds split, line_feeds-append (take (length line - 1) line) (10 ∷ []))

abbrev first_of : List (List ℕ) → List ℕ
first_of [] = []
first_of (line ∷ more) = line

in_front : (b : ℕ) (l : List (List ℕ))
    → line_length (first_of (before_lines b l)) ≡ (if is_line_feed b then 0 else line_length (first_of l) + 1)
in_front b [] = refl
in_front b (line ∷ more) = refl

line_length-first_of : (bytes : List ℕ) → line_length (first_of (lines bytes)) ≡ line_length bytes
line_length-first_of [] = refl
line_length-first_of (b ∷ rest) = one_more (line_length-first_of rest)
  where
    one_more : line_length (first_of (lines rest)) ≡ line_length rest
        → line_length (first_of (lines (b ∷ rest))) ≡ line_length (b ∷ rest)
    one_more behind = grind (arith, nat_tests, in_front)

first_short : (done l : List (List ℕ)) → list_all is_short_line (done ++ l) ≡ true → line_length (first_of l) ≤ 140000
first_short done l short = grind (arith, common_steps, leb-true)

-- where no line is too long, the first that is left isn't either
pub not_long : (bytes : List ℕ) (left : Option (List ℕ)) (done : List (List ℕ))
    → list_all is_short_line (lines bytes) ≡ true → Reads (Some bytes) left done → StartsLong left → ⊥
not_long bytes None done short read long = read
not_long bytes (Some l) done short read long =
    omega (arith, long, line_length-first_of l, first_short done (lines l) (rw read at short))

-- what reading a line stands on
pub ruleset reading = (line_feeds-append, lines-ended, lines-last, line_length-plain, not_ended, Consumes-trans)
