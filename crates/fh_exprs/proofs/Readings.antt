-- The greatest reading, built from the right.
use Rattle.std.proofs.Common.{◌≡◌, ◌≢◌, ℕ, zero, suc, ◌+◌, ◌<◌, ◌≤◌, List, [], ◌∷◌, ◌++◌, length, get_or, map, take, drop, ◌-◌, ap, sym, ◌∙◌, refl, subst, arith, append_assoc, append-nil, length-append}
use Rattle.std.specs.Prelude.{reverse, Option, Some, None, MatchOption}
use Rattle.std.specs.List.{AllByRecursion}
use Rattle.std.specs.Str.{IsUtf8}
use Rattle.std.specs.Ordering.{nat_cmp}
use Rattle.std.specs.Cmp.Lexicographic.{slice_cmp}
use Rattle.std.specs.declared.cmp.Ordering.TheVariants.{Greater}
use Rattle.std.proofs.lemmas.List.{append_cancel_right, reverse-append, take_at, drop_more}
use Rattle.std.proofs.lemmas.Str.{IsUtf8-append, IsUtf8-take, IsCharBoundary-at_seam}
use Rattle.fh_exprs.specs.Layout.{Spot, layout_of}
use Rattle.fh_exprs.specs.Matching.{spelled, IsFilledText, IsReading, IsGreatestReading, ReadsAs}
use Rattle.fh_exprs.specs.Tails.{IsTail, IsGreatestTail, EndsAs, IsLastCut, HasNoCut}
use Rattle.fh_exprs.proofs.Order.{cmp_le, cmp_rest, cmp_not_greater, front_part}

-- nothing is read yet
pub nothing_read : (name : List ℕ) → IsGreatestTail [] name name []
nothing_read name = record {
  reads = record { one_each = refl; characters = tt; whole = sym (append-nil name) };
  greatest = only;
}
  where
    only : (other : List ℕ) (others : List (List ℕ)) → IsTail [] name other others
        → slice_cmp nat_cmp (length other ∷ map length others) (length name ∷ []) ≢ Greater
    only other [] tail =
        let same : length other ≡ length name = ap length (sym (tail.whole ∙ append-nil other)) in
        cmp_not_greater (length other) (length name) [] [] (omega arith)
        (λ e g. absurd (let h : slice_cmp nat_cmp [] [] ≡ Greater = g in cc))
    only other (t ∷ ts) tail = absurd (let h = tail.one_each in omega arith)

-- a text for one more spot, and what is left before it, leave this before the spots behind it
pub tail_behind : (spot : Spot) (spots : List Spot) (name other text : List ℕ) (texts : List (List ℕ))
    → IsTail (spot ∷ spots) name other (text ∷ texts) → IsTail spots name (other ++ (spot.0 ++ text)) texts
tail_behind spot spots name other text texts tail = record {
  one_each = (let h = tail.one_each in omega arith);
  characters = tail.characters.1;
  whole = tail.whole ∙ (ap (λ t. other ++ t) (sym (append_assoc spot.0 text (spelled spots [] texts)))
      ∙ sym (append_assoc other (spot.0 ++ text) (spelled spots [] texts)));
}

-- the plain texts are texts, and so is what a tail leaves of a text
abbrev pub ArePlain : List Spot → Type 0
ArePlain spots = AllByRecursion (λ (spot : Spot). IsUtf8 spot.0) spots

spelled_utf8 : (spots : List Spot) (texts : List (List ℕ)) → ArePlain spots → AllByRecursion IsFilledText texts
    → IsUtf8 (spelled spots [] texts)
spelled_utf8 [] texts plain filled = ([], (refl, refl))
spelled_utf8 (spot ∷ spots) [] plain filled = IsUtf8-append spot.0 (spelled spots [] []) plain.0
    (spelled_utf8 spots [] plain.1 tt)
spelled_utf8 (spot ∷ spots) (text ∷ texts) plain filled =
    IsUtf8-append spot.0 (text ++ spelled spots [] texts) plain.0
    (IsUtf8-append text (spelled spots [] texts) filled.0.utf8 (spelled_utf8 spots texts plain.1 filled.1))

left_utf8 : (spots : List Spot) (name other : List ℕ) (texts : List (List ℕ)) → IsUtf8 name → ArePlain spots
    → IsTail spots name other texts → IsUtf8 other
left_utf8 spots name other texts utf8 plain tail =
    subst IsUtf8 (ap (take (length other)) tail.whole ∙ take_at other (spelled spots [] texts) (length other) refl)
    (IsUtf8-take name (length other) utf8
    (IsCharBoundary-at_seam name other (spelled spots [] texts) tail.whole
    (spelled_utf8 spots texts plain tail.characters)))

-- what is left before the spots has a place of the spot's plain text with the text behind it
place_of : (spot : Spot) (spots : List Spot) (name rest other text : List ℕ) (texts found : List (List ℕ))
    → IsGreatestTail spots name rest found → IsTail (spot ∷ spots) name other (text ∷ texts)
    → (z : List ℕ) × (rest ≡ other ++ (spot.0 ++ (text ++ z)))
place_of spot spots name rest other text texts found best tail =
    let behind = tail_behind spot spots name other text texts tail in
    let le = cmp_le (length (other ++ (spot.0 ++ text))) (length rest) (map length texts) (map length found)
    (best.greatest (other ++ (spot.0 ++ text)) texts behind) in
    let part = front_part (other ++ (spot.0 ++ text)) rest (spelled spots [] texts) (spelled spots [] found)
    (sym behind.whole ∙ best.reads.whole) le in (
      part.0,
      part.1 ∙ append_assoc other (spot.0 ++ text) part.0
          ∙ ap (λ t. other ++ t) (append_assoc spot.0 text part.0),
    )

filled_by : (text z : List ℕ) → IsFilledText text → text ++ z ≢ []
filled_by [] z filled none = filled.filled refl
filled_by (x ∷ text) z filled none = absurd (let h : length (x ∷ (text ++ z)) ≡ 0 = ap length none in omega arith)

pub one_more : (spot : Spot) (spots : List Spot) (name rest front behind : List ℕ) (found : List (List ℕ))
    → IsUtf8 name → ArePlain (spot ∷ spots)
    → IsGreatestTail spots name rest found → IsLastCut rest spot.0 front behind
    → IsGreatestTail (spot ∷ spots) name front (behind ∷ found)
one_more spot spots name rest front behind found utf8 plain best cut = record {
  reads = record {
    one_each = (let h = best.reads.one_each in omega arith);
    characters = (cut.filled, best.reads.characters);
    whole = best.reads.whole ∙ ap (λ t. t ++ spelled spots [] found) cut.whole
        ∙ append_assoc front (spot.0 ++ behind) (spelled spots [] found)
        ∙ ap (λ t. front ++ t) (append_assoc spot.0 behind (spelled spots [] found));
  };
  greatest = greatest;
}
  where
    greatest : (other : List ℕ) (others : List (List ℕ)) → IsTail (spot ∷ spots) name other others
        → slice_cmp nat_cmp (length other ∷ map length others) (length front ∷ length behind ∷ map length found)
        ≢ Greater
    greatest other [] tail = absurd (let h = tail.one_each in omega arith)
    greatest other (text ∷ texts) tail =
        let place = place_of spot spots name rest other text texts found best tail in
        let back = cut.last other (text ++ place.0)
        (left_utf8 (spot ∷ spots) name other (text ∷ texts) utf8 plain tail)
        (filled_by text place.0 tail.characters.0) place.1 in
        let known = best.greatest (other ++ (spot.0 ++ text)) texts (tail_behind spot spots name other text texts tail)
        in
        let le = cmp_le (length (other ++ (spot.0 ++ text))) (length rest) (map length texts) (map length found)
        known in
        let a = length-append other (spot.0 ++ text) in
        let b = length-append spot.0 text in
        let whole : length rest ≡ length front + (length spot.0 + length behind) =
        ap length cut.whole ∙ length-append front (spot.0 ++ behind)
        ∙ ap (λ n. length front + n) (length-append spot.0 behind) in
        cmp_not_greater (length other) (length front) (length text ∷ map length texts)
        (length behind ∷ map length found) back
        (λ same. cmp_not_greater (length text) (length behind) (map length texts) (map length found) (omega arith)
        (λ alike. cmp_rest (length (other ++ (spot.0 ++ text))) (length rest) (map length texts) (map length found)
        (omega arith) known))

pub none_more : (spot : Spot) (spots : List Spot) (name rest : List ℕ) (found : List (List ℕ)) → IsUtf8 name
    → ArePlain (spot ∷ spots)
    → IsGreatestTail spots name rest found → HasNoCut rest spot.0
    → (other : List ℕ) (others : List (List ℕ)) → IsTail (spot ∷ spots) name other others → ⊥
none_more spot spots name rest found utf8 plain best none other [] tail = absurd (let h = tail.one_each in omega arith)
none_more spot spots name rest found utf8 plain best none other (text ∷ texts) tail =
    let place = place_of spot spots name rest other text texts found best tail in
    none other (text ++ place.0) (left_utf8 (spot ∷ spots) name other (text ∷ texts) utf8 plain tail)
    (filled_by text place.0 tail.characters.0) place.1

-- no tail of the places behind some of them, no tail of them all
pub tail_dropped : (k : ℕ) (spots : List Spot) (name other : List ℕ) (others : List (List ℕ))
    → IsTail spots name other others
    → (rest : List ℕ) × (texts : List (List ℕ)) × IsTail (drop k spots) name rest texts
tail_dropped zero spots name other others tail = (other, others, tail)
tail_dropped (suc k) [] name other others tail = (other, others, tail)
tail_dropped (suc k) (spot ∷ spots) name other [] tail = absurd (let h = tail.one_each in omega arith)
tail_dropped (suc k) (spot ∷ spots) name other (text ∷ texts) tail =
    tail_dropped k spots name (other ++ (spot.0 ++ text)) texts (tail_behind spot spots name other text texts tail)

-- the loop's step
pub spot_at : (spots : List Spot) (left : ℕ) (spot : Spot) → 0 < left → left ≤ length spots
    → spot ≡ get_or spots (left - 1) spot
    → drop (left - 1) spots ≡ spot ∷ drop left spots
spot_at spots left spot pos within is =
    let back : (left - 1) + 1 ≡ left = omega arith in
    drop_more spots (left - 1) spot (omega arith) ∙ ap (λ s. s ∷ drop ((left - 1) + 1) spots) (sym is)
    ∙ ap (λ k. spot ∷ drop k spots) back

pub ends_more : (spot : Spot) (spots : List Spot) (name rest front text : List ℕ) (pairs : List (List ℕ × List ℕ))
    → IsUtf8 name
    → ArePlain (spot ∷ spots) → EndsAs spots name rest pairs → IsLastCut rest spot.0 front text
    → EndsAs (spot ∷ spots) name front (pairs ++ (spot.1, text) ∷ [])
ends_more spot spots name rest front text pairs utf8 plain ends cut =
    let back : reverse (pairs ++ (spot.1, text) ∷ []) ≡ (spot.1, text) ∷ reverse pairs =
    reverse-append pairs ((spot.1, text) ∷ []) in
    record {
      names = ap (map (λ p. p.0)) back ∙ ap (λ ns. spot.1 ∷ ns) ends.names;
      texts = subst (λ (ps : List (List ℕ × List ℕ)). IsGreatestTail (spot ∷ spots) name front (map (λ p. p.1) ps))
          (sym back)
          (one_more spot spots name rest front text (map (λ p. p.1) (reverse pairs)) utf8 plain ends.texts cut);
    }

-- a reading by the first spot and the others is one by the others
pub reading_behind : (first : Spot) (others : List Spot) (name text : List ℕ) (texts : List (List ℕ))
    → IsReading (layout_of (first ∷ others) []) name (text ∷ texts) → IsTail others name (first.0 ++ text) texts
reading_behind first others name text texts reading =
    tail_behind first others name [] text texts
    (record { one_each = reading.one_each; characters = reading.characters; whole = reading.whole })

pub whole_reading : (first : Spot) (others : List Spot) (name rest text : List ℕ) (found : List (List ℕ))
    → IsGreatestTail others name rest found → rest ≡ first.0 ++ text → IsFilledText text
    → IsGreatestReading (layout_of (first ∷ others) []) name (text ∷ found)
whole_reading first others name rest text found best e filled = record {
  reads = record {
    one_each = (let h = best.reads.one_each in omega arith);
    characters = (filled, best.reads.characters);
    whole = best.reads.whole ∙ ap (λ t. t ++ spelled others [] found) e
        ∙ append_assoc first.0 text (spelled others [] found);
  };
  greatest = greatest;
}
  where
    greatest : (texts : List (List ℕ)) → IsReading (layout_of (first ∷ others) []) name texts
        → slice_cmp nat_cmp (map length texts) (length text ∷ map length found) ≢ Greater
    greatest [] reading = absurd (let h = reading.one_each in omega arith)
    greatest (t ∷ ts) reading =
        let known = best.greatest (first.0 ++ t) ts (reading_behind first others name t ts reading) in
        let le = cmp_le (length (first.0 ++ t)) (length rest) (map length ts) (map length found) known in
        let a = length-append first.0 t in
        let b : length rest ≡ length first.0 + length text = ap length e ∙ length-append first.0 text in
        cmp_not_greater (length t) (length text) (map length ts) (map length found) (omega arith)
        (λ same. cmp_rest (length (first.0 ++ t)) (length rest) (map length ts) (map length found) (omega arith) known)

-- a reading's first text follows the first plain text in what is left
pub first_text : (first : Spot) (others : List Spot) (name rest : List ℕ) (found texts : List (List ℕ))
    → IsGreatestTail others name rest found → IsReading (layout_of (first ∷ others) []) name texts
    → (more : List ℕ) × (more ≢ []) × (rest ≡ first.0 ++ more)
first_text first others name rest found [] best reading = absurd (let h = reading.one_each in omega arith)
first_text first others name rest found (text ∷ texts) best reading =
    let place = place_of first others name rest [] text texts found best
    (record { one_each = reading.one_each; characters = reading.characters; whole = reading.whole }) in
    (text ++ place.0, filled_by text place.0 reading.characters.0, place.1)

pub no_tail_no_reading : (first : Spot) (others : List Spot) (name : List ℕ) (texts : List (List ℕ))
    → ((rest : List ℕ) (found : List (List ℕ)) → IsTail others name rest found → ⊥)
    → IsReading (layout_of (first ∷ others) []) name texts → ⊥
no_tail_no_reading first others name [] none reading = absurd (let h = reading.one_each in omega arith)
no_tail_no_reading first others name (text ∷ texts) none reading =
    none (first.0 ++ text) texts (reading_behind first others name text texts reading)

pub front_reads : (first : Spot) (others : List Spot) (name rest text : List ℕ) (pairs : List (List ℕ × List ℕ))
    → EndsAs others name rest pairs
    → rest ≡ first.0 ++ text → IsFilledText text → ReadsAs (layout_of (first ∷ others) []) name
    (reverse (pairs ++ (first.1, text) ∷ []))
front_reads first others name rest text pairs ends e filled =
    let back : reverse (pairs ++ (first.1, text) ∷ []) ≡ (first.1, text) ∷ reverse pairs =
    reverse-append pairs ((first.1, text) ∷ []) in
    record {
      names = ap (map (λ p. p.0)) back ∙ ap (λ ns. first.1 ∷ ns) ends.names;
      texts = subst (λ (ps : List (List ℕ × List ℕ)). IsGreatestReading (layout_of (first ∷ others) []) name
          (map (λ p. p.1) ps)) (sym back)
          (whole_reading first others name rest text (map (λ p. p.1) (reverse pairs)) ends.texts e filled);
    }

-- the plain text at the end
pub spelled_last : (spots : List Spot) (last : List ℕ) (texts : List (List ℕ))
    → spelled spots last texts ≡ spelled spots [] texts ++ last
spelled_last [] last texts = refl
spelled_last (spot ∷ spots) last [] = ap (λ t. spot.0 ++ t) (spelled_last spots last [])
    ∙ sym (append_assoc spot.0 (spelled spots [] []) last)
spelled_last (spot ∷ spots) last (text ∷ texts) =
    ap (λ t. spot.0 ++ (text ++ t)) (spelled_last spots last texts)
    ∙ ap (λ t. spot.0 ++ t) (sym (append_assoc text (spelled spots [] texts) last))
    ∙ sym (append_assoc spot.0 (text ++ spelled spots [] texts) last)

pub without_last : (spots : List Spot) (last front name : List ℕ) (texts : List (List ℕ)) → name ≡ front ++ last
    → IsReading (layout_of spots last) name texts → IsReading (layout_of spots []) front texts
without_last spots last front name texts e reading = record {
  one_each = reading.one_each;
  characters = reading.characters;
  whole = append_cancel_right front (spelled spots [] texts) last
      (sym e ∙ reading.whole ∙ spelled_last spots last texts);
}

pub with_last : (spots : List Spot) (last front name : List ℕ) (texts : List (List ℕ)) → name ≡ front ++ last
    → IsReading (layout_of spots []) front texts → IsReading (layout_of spots last) name texts
with_last spots last front name texts e reading = record {
  one_each = reading.one_each;
  characters = reading.characters;
  whole = e ∙ ap (λ t. t ++ last) reading.whole ∙ sym (spelled_last spots last texts);
}

pub reads_with_last : (spots : List Spot) (last front name : List ℕ) (pairs : List (List ℕ × List ℕ))
    → name ≡ front ++ last
    → ReadsAs (layout_of spots []) front pairs → ReadsAs (layout_of spots last) name pairs
reads_with_last spots last front name pairs e reads = record {
  names = reads.names;
  texts = record {
    reads = with_last spots last front name (map (λ p. p.1) pairs) e reads.texts.reads;
    greatest = λ others reading. reads.texts.greatest others (without_last spots last front name others e reading);
  };
}

pub answer_with_last : {V : Type 0} (items : V → List (List ℕ × List ℕ)) (spots : List Spot) (last front name : List ℕ)
    → name ≡ front ++ last
    → (found : Option V)
    → MatchOption found ((texts : List (List ℕ)) → IsReading (layout_of spots []) front texts → ⊥)
    (λ v. ReadsAs (layout_of spots []) front (items v))
    → MatchOption found ((texts : List (List ℕ)) → IsReading (layout_of spots last) name texts → ⊥)
    (λ v. ReadsAs (layout_of spots last) name (items v))
answer_with_last items spots last front name e None none =
    λ texts reading. none texts (without_last spots last front name texts e reading)
answer_with_last items spots last front name e (Some v) reads = reads_with_last spots last front name (items v) e reads

pub other_end : (spots : List Spot) (last name : List ℕ) → ((front : List ℕ) → name ≢ front ++ last)
    → (texts : List (List ℕ)) → IsReading (layout_of spots last) name texts → ⊥
other_end spots last name none texts reading = none (spelled spots [] texts)
    (reading.whole ∙ spelled_last spots last texts)
