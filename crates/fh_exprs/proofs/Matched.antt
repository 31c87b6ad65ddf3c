-- The texts that `matched` gives are the greatest reading, which is the only one.
use Rattle.std.proofs.Common.{◌≡◌, ◌≢◌, ℕ, zero, suc, ◌<◌, ◌≤◌, List, [], ◌∷◌, ◌++◌, length, map, take, drop, Bool, true, false, cond, Option, Some, None, option_map, refl, sym, ap, subst, ◌∙◌, arith, inl, inr, take-append-drop, length-append, MatchOption}
use Rattle.std.specs.Option.{option_or, option_and_then}
use Rattle.std.specs.Ordering.{nat_cmp}
use Rattle.std.specs.declared.cmp.Ordering.TheVariants.{Greater}
use Rattle.std.specs.Cmp.Lexicographic.{slice_cmp}
use Rattle.std.specs.Str.{is_utf8, bytes_eq}
use Rattle.std.proofs.lemmas.Bool.{cases_lt}
use Rattle.std.proofs.lemmas.List.{append_cancel_left, take_at, drop_at, length-take-le, length-map}
use Rattle.std.proofs.lemmas.Slice.Eq.{bytes_eq-Decides}
use Rattle.std.proofs.lemmas.Str.{IsUtf8-from_is_utf8, is_utf8-from_IsUtf8}
use Rattle.fh_exprs.specs.Layout.{Spot, Layout, layout_of}
use Rattle.fh_exprs.specs.Matching.{behind, onto, longest, matched_by, matched, spelled, IsReading, ReadsAs}
use Rattle.fh_exprs.proofs.Order.{cmp_le, cmp_rest, cmp_not_greater}

abbrev Pairs : Type 0
Pairs = List (List ℕ × List ℕ)

-- what stands behind a plain text
behind_told : (b : Bool) (rest : List ℕ) (r : Option (List ℕ)) → cond b (Some rest) None ≡ r → (text : List ℕ)
    → r ≡ Some text → (b ≡ true) × (rest ≡ text)
behind_told true rest r e text is = (refl, (let same : Some rest ≡ Some text = e ∙ is in cc))
behind_told false rest r e text is = absurd (let same : None ≡ Some text = e ∙ is in cc)

behind-some : (plain text rest : List ℕ) → behind plain text ≡ Some rest → text ≡ plain ++ rest
behind-some plain text rest h =
    let told = behind_told (bytes_eq (take (length plain) text) plain) (drop (length plain) text) (behind plain text)
    refl rest h in
    let front : take (length plain) text ≡ plain = (bytes_eq-Decides (take (length plain) text) plain).0 told.0 in
    sym (take-append-drop (length plain) text) ∙ ap (λ f. f ++ drop (length plain) text) front
    ∙ ap (λ r. plain ++ r) told.1

behind-append : (plain rest : List ℕ) → behind plain (plain ++ rest) ≡ Some rest
behind-append plain rest =
    let front : take (length plain) (plain ++ rest) ≡ plain = take_at plain rest (length plain) refl in
    let test : bytes_eq (take (length plain) (plain ++ rest)) plain ≡ true =
    (bytes_eq-Decides (take (length plain) (plain ++ rest)) plain).1 front in
    ap (λ b. cond b (Some (drop (length plain) (plain ++ rest))) None) test
    ∙ ap Some (drop_at plain rest (length plain) refl)

-- the longest text that lets the rest match
record Longest (name : List ℕ) (rest : List ℕ → Option Pairs) (text : List ℕ) (n : ℕ) (pairs : Pairs) : Type 0 where
  size : ℕ
  more : Pairs
  filled : 0 < size
  within : size ≤ n
  utf8 : is_utf8 (take size text) ≡ true
  matches : rest (drop size text) ≡ Some more
  are : pairs ≡ (name, take size text) ∷ more
  longer : (k : ℕ) → size < k → k ≤ n → is_utf8 (take k text) ≡ true → rest (drop k text) ≡ None

abbrev IsLongest : List ℕ → (List ℕ → Option Pairs) → List ℕ → ℕ → Option Pairs → Type 0
IsLongest name rest text n None = (k : ℕ) → 0 < k → k ≤ n → is_utf8 (take k text) ≡ true → rest (drop k text) ≡ None
IsLongest name rest text n (Some pairs) = Longest name rest text n pairs

-- one byte more, where that text has no match behind it
one_longer : (name : List ℕ) (rest : List ℕ → Option Pairs) (text : List ℕ) (n : ℕ) (r : Option Pairs)
    → (is_utf8 (take (suc n) text) ≡ true → rest (drop (suc n) text) ≡ None) → IsLongest name rest text n r
    → IsLongest name rest text (suc n) r
one_longer name rest text n None last h = λ k filled within utf8.
    elim (cases_lt n k) [
      | inl above ↦ let same : suc n ≡ k = omega arith in
          subst (λ (j : ℕ). is_utf8 (take j text) ≡ true → rest (drop j text) ≡ None) same last utf8
      | inr le ↦ h k filled le utf8
    ]
one_longer name rest text n (Some pairs) last h = record {
  size = h.size;
  more = h.more;
  filled = h.filled;
  within = (let le = h.within in omega arith);
  utf8 = h.utf8;
  matches = h.matches;
  are = h.are;
  longer = λ k above within utf8.
      elim (cases_lt n k) [
        | inl top ↦ let same : suc n ≡ k = omega arith in
            subst (λ (j : ℕ). is_utf8 (take j text) ≡ true → rest (drop j text) ≡ None) same last utf8
        | inr le ↦ h.longer k above le utf8
      ];
}

longest-step : (name : List ℕ) (rest : List ℕ → Option Pairs) (text : List ℕ) (n : ℕ) (b : Bool)
    (r later : Option Pairs)
    → is_utf8 (take (suc n) text) ≡ b → rest (drop (suc n) text) ≡ r → IsLongest name rest text n later
    → IsLongest name rest text (suc n) (option_or (cond b (onto (name, take (suc n) text) r) None) later)
longest-step name rest text n true None later is_text is h = one_longer name rest text n later (λ utf8. is) h
longest-step name rest text n true (Some more) later is_text is h = record {
  size = suc n;
  more = more;
  filled = omega arith;
  within = omega arith;
  utf8 = is_text;
  matches = is;
  are = refl;
  longer = λ k above within utf8. absurd (omega arith);
}
longest-step name rest text n false r later is_text is h =
    one_longer name rest text n later (λ utf8. absurd (let never : true ≡ false = sym utf8 ∙ is_text in cc)) h

longest-is : (name : List ℕ) (rest : List ℕ → Option Pairs) (text : List ℕ) (n : ℕ)
    → IsLongest name rest text n (longest name rest text n)
unfolding longest
longest-is name rest text zero = λ k filled within utf8. absurd (omega arith)
longest-is name rest text (suc n) =
    longest-step name rest text n (is_utf8 (take (suc n) text)) (rest (drop (suc n) text)) (longest name rest text n)
    refl refl
    (longest-is name rest text n)

-- a reading's first text, seen in what stands behind the first plain text
record FirstText (spots : List Spot) (last text first : List ℕ) (others : List (List ℕ)) : Type 0 where
  filled : 0 < length first
  within : length first ≤ length text
  front : take (length first) text ≡ first
  utf8 : is_utf8 (take (length first) text) ≡ true
  reads : IsReading (layout_of spots last) (drop (length first) text) others

first_text : (spot : Spot) (spots : List Spot) (last name text first : List ℕ) (others : List (List ℕ))
    → name ≡ spot.0 ++ text
    → IsReading (layout_of (spot ∷ spots) last) name (first ∷ others) → FirstText spots last text first others
first_text spot spots last name text first others cut reading =
    let whole : text ≡ first ++ spelled spots last others =
    append_cancel_left spot.0 text (first ++ spelled spots last others) (sym cut ∙ reading.whole) in
    let front : take (length first) text ≡ first = ap (take (length first)) whole
    ∙ take_at first (spelled spots last others) (length first) refl in
    let left : drop (length first) text ≡ spelled spots last others = ap (drop (length first)) whole
    ∙ drop_at first (spelled spots last others) (length first) refl in
    record {
      filled = not_empty first reading.characters.0.filled;
      within = (let long = ap length whole ∙ length-append first (spelled spots last others) in omega arith);
      front = front;
      utf8 = ap is_utf8 front ∙ is_utf8-from_IsUtf8 first reading.characters.0.utf8;
      reads = record {
        one_each = (let same = reading.one_each in omega arith);
        characters =
            reading.characters.1;
        whole = left;
      };
    }
  where
    not_empty : (text : List ℕ) → text ≢ [] → 0 < length text
    not_empty [] ne = absurd (ne refl)
    not_empty (b ∷ bs) ne = omega arith

-- what `matched_by` gives is the greatest reading, and none where there is no reading
abbrev IsMatched : List Spot → List ℕ → List ℕ → Option Pairs → Type 0
IsMatched spots last name None = (texts : List (List ℕ)) → IsReading (layout_of spots last) name texts → ⊥
IsMatched spots last name (Some pairs) = ReadsAs (layout_of spots last) name pairs

plain_matched : (last name : List ℕ) (b : Bool) → bytes_eq name last ≡ b
    → IsMatched [] last name (cond b (Some []) None)
plain_matched last name true is = record {
  names = refl;
  texts = record {
    reads = record { one_each = refl; characters = tt; whole = (bytes_eq-Decides name last).0 is };
    greatest = only;
  };
}
  where
    only : (others : List (List ℕ)) → IsReading (layout_of [] last) name others
        → slice_cmp nat_cmp (map length others) [] ≢ Greater
    only [] reading g = absurd (let h : slice_cmp nat_cmp [] [] ≡ Greater = g in cc)
    only (t ∷ ts) reading g = absurd (let h = reading.one_each in omega arith)
plain_matched last name false is = λ texts reading.
    absurd (let yes' = (bytes_eq-Decides name last).1 reading.whole in let never : true ≡ false = sym yes' ∙ is in cc)

none_behind : (spot : Spot) (spots : List Spot) (last name : List ℕ) → behind spot.0 name ≡ None
    → (texts : List (List ℕ)) → IsReading (layout_of (spot ∷ spots) last) name texts → ⊥
none_behind spot spots last name none [] reading = absurd (let h = reading.one_each in omega arith)
none_behind spot spots last name none (first ∷ others) reading =
    let here = behind-append spot.0 (first ++ spelled spots last others) in
    let same : behind spot.0 name ≡ Some (first ++ spelled spots last others) = ap (behind spot.0) reading.whole
    ∙ here in
    let never : None ≡ Some (first ++ spelled spots last others) = sym none ∙ same in
    cc

-- the texts of the spots behind, by induction
abbrev AreMatched : List Spot → List ℕ → Type 0
AreMatched spots last = (name : List ℕ) → IsMatched spots last name (matched_by spots last name)

told_none : (spots : List Spot) (last name : List ℕ) (r : Option Pairs) → IsMatched spots last name r → r ≡ None
    → (texts : List (List ℕ)) → IsReading (layout_of spots last) name texts → ⊥
told_none spots last name None h e = h
told_none spots last name (Some pairs) h e = absurd cc

told_some : (spots : List Spot) (last name : List ℕ) (r : Option Pairs) (pairs : Pairs) → IsMatched spots last name r
    → r ≡ Some pairs
    → ReadsAs (layout_of spots last) name pairs
told_some spots last name None pairs h e = absurd cc
told_some spots last name (Some found) pairs h e =
    (let same : found ≡ pairs = cc in subst (λ (p : Pairs). ReadsAs (layout_of spots last) name p) same h)

no_text : (spot : Spot) (spots : List Spot) (last name text : List ℕ) → AreMatched spots last → name ≡ spot.0 ++ text
    → IsLongest spot.1 (matched_by spots last) text (length text) None
    → (texts : List (List ℕ)) → IsReading (layout_of (spot ∷ spots) last) name texts → ⊥
no_text spot spots last name text behind_it cut none [] reading = absurd (let h = reading.one_each in omega arith)
no_text spot spots last name text behind_it cut none (first ∷ others) reading =
    let at = first_text spot spots last name text first others cut reading in
    let left = drop (length first) text in
    told_none spots last left (matched_by spots last left) (behind_it left)
    (none (length first) at.filled at.within at.utf8) others at.reads

none_greater : (spot : Spot) (spots : List Spot) (last name text : List ℕ) (pairs : Pairs) → AreMatched spots last
    → name ≡ spot.0 ++ text
    → (h : Longest spot.1 (matched_by spots last) text (length text) pairs)
    → (others : List (List ℕ)) → IsReading (layout_of (spot ∷ spots) last) name others
    → slice_cmp nat_cmp (map length others) (length (take h.size text) ∷ map length (map (λ p. p.1) h.more)) ≢ Greater
none_greater spot spots last name text pairs behind_it cut h [] reading =
    absurd (let e = reading.one_each in omega arith)
none_greater spot spots last name text pairs behind_it cut h (first ∷ others) reading =
    let left = drop h.size text in
    let more = told_some spots last left (matched_by spots last left) h.more (behind_it left) h.matches in
    let size : length (take h.size text) ≡ h.size = length-take-le h.size text h.within in
    let at = first_text spot spots last name text first others cut reading in
    let here = drop (length first) text in
    let le : length first ≤ h.size = elim (cases_lt h.size (length first)) [
      | inl above ↦ absurd (told_none spots last here (matched_by spots last here) (behind_it here)
          (h.longer (length first) above at.within at.utf8) others at.reads)
      | inr below ↦ below
    ] in
    cmp_not_greater (length first) (length (take h.size text)) (map length others) (map length (map (λ p. p.1) h.more))
    (omega arith)
    (λ same. more.texts.greatest others
    (subst (λ (k : ℕ). IsReading (layout_of spots last) (drop k text) others) (same ∙ size) at.reads))

some_text : (spot : Spot) (spots : List Spot) (last name text : List ℕ) (pairs : Pairs) → AreMatched spots last
    → name ≡ spot.0 ++ text
    → Longest spot.1 (matched_by spots last) text (length text) pairs
    → ReadsAs (layout_of (spot ∷ spots) last) name pairs
some_text spot spots last name text pairs behind_it cut h =
    let left = drop h.size text in
    let first = take h.size text in
    let more = told_some spots last left (matched_by spots last left) h.more (behind_it left) h.matches in
    let size : length first ≡ h.size = length-take-le h.size text h.within in
    let whole : name ≡ spot.0 ++ (first ++ spelled spots last (map (λ p. p.1) h.more)) =
    cut ∙ ap (λ t. spot.0 ++ t) (sym (take-append-drop h.size text) ∙ ap (λ t. first ++ t) more.texts.reads.whole) in
    let filled : first ≢ [] = λ none. absurd
    (let zero_long : length first ≡ 0 = ap length none in let positive = h.filled in omega arith) in
    let reads : IsReading (layout_of (spot ∷ spots) last) name (first ∷ map (λ p. p.1) h.more) = record {
      one_each = (let same = more.texts.reads.one_each in omega arith);
      characters = (record { utf8 = IsUtf8-from_is_utf8 first h.utf8; filled = filled }, more.texts.reads.characters);
      whole = whole;
    } in
    let found : ReadsAs (layout_of (spot ∷ spots) last) name ((spot.1, first) ∷ h.more) = record {
      names = ap (λ ns. spot.1 ∷ ns) more.names;
      texts = record {
        reads = reads;
        greatest =
            λ others reading. none_greater spot spots last name text pairs behind_it cut h others reading;
      };
    } in
    subst (λ (p : Pairs). ReadsAs (layout_of (spot ∷ spots) last) name p) (sym h.are) found

by_longest : (spot : Spot) (spots : List Spot) (last name text : List ℕ) (r : Option Pairs) → AreMatched spots last
    → name ≡ spot.0 ++ text
    → IsLongest spot.1 (matched_by spots last) text (length text) r → IsMatched (spot ∷ spots) last name r
by_longest spot spots last name text None behind_it cut h = no_text spot spots last name text behind_it cut h
by_longest spot spots last name text (Some pairs) behind_it cut h =
    some_text spot spots last name text pairs behind_it cut h

by_behind : (spot : Spot) (spots : List Spot) (last name : List ℕ) (r : Option (List ℕ)) → AreMatched spots last
    → behind spot.0 name ≡ r
    → IsMatched (spot ∷ spots) last name (option_and_then
    (λ text. longest spot.1 (matched_by spots last) text (length text)) r)
by_behind spot spots last name None behind_it is = none_behind spot spots last name is
by_behind spot spots last name (Some text) behind_it is =
    by_longest spot spots last name text (longest spot.1 (matched_by spots last) text (length text)) behind_it
    (behind-some spot.0 name text is) (longest-is spot.1 (matched_by spots last) text (length text))

matched_by-is : (spots : List Spot) (last : List ℕ) → AreMatched spots last
unfolding matched_by
matched_by-is [] last name = plain_matched last name (bytes_eq name last) refl
matched_by-is (spot ∷ spots) last name = by_behind spot spots last name (behind spot.0 name) (matched_by-is spots last)
    refl

-- there is one greatest reading at most
same_lengths : (xs ys : List ℕ) → length xs ≡ length ys → slice_cmp nat_cmp xs ys ≢ Greater
    → slice_cmp nat_cmp ys xs ≢ Greater → xs ≡ ys
same_lengths [] [] e h k = refl
same_lengths [] (y ∷ ys) e h k = absurd (omega arith)
same_lengths (x ∷ xs) [] e h k = absurd (omega arith)
same_lengths (x ∷ xs) (y ∷ ys) e h k =
    let up = cmp_le x y xs ys h in
    let down = cmp_le y x ys xs k in
    let head : x ≡ y = omega arith in
    let tail = same_lengths xs ys (omega arith) (cmp_rest x y xs ys head h) (cmp_rest y x ys xs (sym head) k) in
    ap (λ z. z ∷ xs) head ∙ ap (λ zs. y ∷ zs) tail

same_texts : (spots : List Spot) (last : List ℕ) (a b : List (List ℕ)) → length a ≡ length spots
    → length b ≡ length spots
    → map length a ≡ map length b → spelled spots last a ≡ spelled spots last b → a ≡ b
same_texts [] last [] [] one two sizes e = refl
same_texts [] last [] (u ∷ b) one two sizes e = absurd (omega arith)
same_texts [] last (t ∷ a) b one two sizes e = absurd (omega arith)
same_texts (spot ∷ spots) last [] b one two sizes e = absurd (omega arith)
same_texts (spot ∷ spots) last (t ∷ a) [] one two sizes e = absurd (omega arith)
same_texts (spot ∷ spots) last (t ∷ a) (u ∷ b) one two sizes e =
    let size : length t ≡ length u = cc in
    let rest_sizes : map length a ≡ map length b = cc in
    let behind_plain : t ++ spelled spots last a ≡ u ++ spelled spots last b = append_cancel_left spot.0 _ _ e in
    let head : t ≡ u = sym (take_at t (spelled spots last a) (length t) refl) ∙ ap (take (length t)) behind_plain
    ∙ take_at u (spelled spots last b) (length t) (sym size) in
    let tail : spelled spots last a ≡ spelled spots last b =
    sym (drop_at t (spelled spots last a) (length t) refl) ∙ ap (drop (length t)) behind_plain
    ∙ drop_at u (spelled spots last b) (length t) (sym size) in
    ap (λ x. x ∷ a) head ∙ ap (λ xs. u ∷ xs) (same_texts spots last a b (omega arith) (omega arith) rest_sizes tail)

same_pairs : (a b : Pairs) → map (λ p. p.0) a ≡ map (λ p. p.0) b → map (λ p. p.1) a ≡ map (λ p. p.1) b → a ≡ b
same_pairs [] [] names texts = refl
same_pairs [] (q ∷ b) names texts = absurd cc
same_pairs (p ∷ a) [] names texts = absurd cc
same_pairs (p ∷ a) (q ∷ b) names texts =
    let name : p.0 ≡ q.0 = cc in
    let text : p.1 ≡ q.1 = cc in
    let more_names : map (λ p. p.0) a ≡ map (λ p. p.0) b = cc in
    let more_texts : map (λ p. p.1) a ≡ map (λ p. p.1) b = cc in
    ap (λ n. (n, p.1) ∷ a) name ∙ ap (λ t. (q.0, t) ∷ a) text ∙ ap (λ r. q ∷ r) (same_pairs a b more_names more_texts)

one_reading : (layout : Layout) (name : List ℕ) (a b : Pairs) → ReadsAs layout name a → ReadsAs layout name b → a ≡ b
one_reading layout name a b h k =
    let ta = map (λ p. p.1) a in
    let tb = map (λ p. p.1) b in
    let long : length (map length ta) ≡ length (map length tb) =
    length-map ta length ∙ h.texts.reads.one_each ∙ sym k.texts.reads.one_each ∙ sym (length-map tb length) in
    let sizes : map length ta ≡ map length tb =
    same_lengths (map length ta) (map length tb) long (k.texts.greatest ta h.texts.reads)
    (h.texts.greatest tb k.texts.reads) in
    let texts : ta ≡ tb = same_texts layout.spots layout.last ta tb h.texts.reads.one_each k.texts.reads.one_each sizes
    (sym h.texts.reads.whole ∙ k.texts.reads.whole) in
    same_pairs a b (h.names ∙ sym k.names) texts

-- an answer that is the greatest reading, or none where there is none, is what `matched` gives
same_answer : {V : Type 0} (items : V → Pairs) (layout : Layout) (name : List ℕ) (found : Option V) (r : Option Pairs)
    → MatchOption found ((texts : List (List ℕ)) → IsReading layout name texts → ⊥) (λ v. ReadsAs layout name (items v))
    → IsMatched layout.spots layout.last name r → option_map items found ≡ r
same_answer items layout name None None h k = refl
same_answer items layout name None (Some pairs) h k = absurd (h (map (λ p. p.1) pairs) k.texts.reads)
same_answer items layout name (Some v) None h k = absurd (k (map (λ p. p.1) (items v)) h.texts.reads)
same_answer items layout name (Some v) (Some pairs) h k = ap Some (one_reading layout name (items v) pairs h k)

pub answer-matched : {V : Type 0} (items : V → Pairs) (layout : Layout) (name : List ℕ) (found : Option V)
    → MatchOption found ((texts : List (List ℕ)) → IsReading layout name texts → ⊥) (λ v. ReadsAs layout name (items v))
    → option_map items found ≡ matched layout name
answer-matched items layout name found h =
    same_answer items layout name found (matched layout name) h (matched_by-is layout.spots layout.last name)
