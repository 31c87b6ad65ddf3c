-- The last place of a plain text that leaves a character behind it.
use Rattle.std.proofs.Common.{◌≡◌, ◌≢◌, ℕ, ◌+◌, ◌<◌, ◌≤◌, List, [], ◌∷◌, ◌++◌, length, take, drop, ap, sym, ◌∙◌, refl, subst, arith, append_assoc, append-nil, length-append, take-append-drop, inl, inr}
use Rattle.std.proofs.lemmas.Bool.{cases_lt}
use Rattle.std.specs.Str.{IsUtf8, IsCharBoundary}
use Rattle.std.specs.Str.Pattern.{LacksTextAt, HasTextAt}
use Rattle.std.proofs.Math.Utf8.{encode, encodes}
use Rattle.std.proofs.lemmas.List.{take_at, drop_at, length-take-le, nil_from_length}
use Rattle.std.proofs.lemmas.Str.{encodes-append, encodes_same, IsUtf8-append, IsUtf8-drop, IsCharBoundary-from_take, length-encode, len_utf8_bounds}
use Rattle.fh_exprs.specs.Tails.{IsLastCut, HasNoCut}

-- the text's last character is taken off: what else leaves something off leaves at least that
init_part : (xs : List ℕ) (m : ℕ) (ms ys : List ℕ) (c : ℕ) → xs ++ (m ∷ ms) ≡ ys ++ (c ∷ [])
    → (zs : List ℕ) × (ys ≡ xs ++ zs)
init_part [] m ms ys c e = (ys, refl)
init_part (x ∷ xs) m ms [] c e =
    absurd (let long : length (xs ++ (m ∷ ms)) ≡ 0 = (let tail : xs ++ (m ∷ ms) ≡ [] = cc in ap length tail) in
    let split = length-append xs (m ∷ ms) in omega arith)
init_part (x ∷ xs) m ms (y ∷ ys) c e =
    let head : x ≡ y = cc in
    let tail : xs ++ (m ∷ ms) ≡ ys ++ (c ∷ []) = cc in
    let more = init_part xs m ms ys c tail in
    (more.0, ap (λ h. h ∷ ys) (sym head) ∙ ap (λ l. x ∷ l) more.1)

by_chars : (x more shorter cx cm cs : List ℕ) (c : ℕ) → encodes cx ≡ x → encodes cm ≡ more → encodes cs ≡ shorter
    → more ≢ []
    → x ++ more ≡ shorter ++ encode c → (z : List ℕ) × (shorter ≡ x ++ z)
by_chars x more shorter cx [] cs c ex em es ne e = absurd (ne (sym em))
by_chars x more shorter cx (m ∷ ms) cs c ex em es ne e =
    let left : encodes (cx ++ (m ∷ ms)) ≡ x ++ more = encodes-append cx (m ∷ ms) ∙ ap (λ t. t ++ encodes (m ∷ ms)) ex
    ∙ ap (λ t. x ++ t) em in
    let right : encodes (cs ++ (c ∷ [])) ≡ shorter ++ encode c =
    encodes-append cs (c ∷ []) ∙ ap (λ t. t ++ encodes (c ∷ [])) es ∙ ap (λ t. shorter ++ t) (append-nil (encode c)) in
    let part = init_part cx m ms cs c (encodes_same (cx ++ (m ∷ ms)) (cs ++ (c ∷ [])) (left ∙ e ∙ sym right)) in
    (encodes part.0, sym es ∙ ap encodes part.1 ∙ encodes-append cx part.0 ∙ ap (λ t. t ++ encodes part.0) ex)

pub rest_utf8 : (text x more : List ℕ) → IsUtf8 text → IsUtf8 x → text ≡ x ++ more → IsUtf8 more
rest_utf8 text x more whole front e =
    let long : length text ≡ length x + length more = ap length e ∙ length-append x more in
    let cut : take (length x) text ≡ x = ap (take (length x)) e ∙ take_at x more (length x) refl in
    let left : drop (length x) text ≡ more = ap (drop (length x)) e ∙ drop_at x more (length x) refl in
    subst IsUtf8 left (IsUtf8-drop text (length x) whole
    (IsCharBoundary-from_take text (length x) whole (omega arith) (subst IsUtf8 (sym cut) front)))

inside_shorter : (text shorter x more : List ℕ) (c : ℕ) → IsUtf8 text → IsUtf8 shorter → IsUtf8 x
    → text ≡ shorter ++ encode c
    → text ≡ x ++ more → more ≢ [] → (z : List ℕ) × (shorter ≡ x ++ z)
inside_shorter text shorter x more c whole front part e f ne =
    let behind = rest_utf8 text x more whole part f in
    by_chars x more shorter part.0 behind.0 front.0 c part.1.1 behind.1.1 front.1.1 ne (sym f ∙ e)

-- a place of `before` in the text is one in the shorter text
place_in_shorter : (text shorter before other more : List ℕ) (c : ℕ) → IsUtf8 text → IsUtf8 shorter → IsUtf8 before
    → IsUtf8 other
    → text ≡ shorter ++ encode c → more ≢ [] → text ≡ other ++ (before ++ more)
    → (length other ≤ length shorter) × ((z : List ℕ) × (drop (length other) shorter ≡ before ++ z))
place_in_shorter text shorter before other more c whole front plain part e ne f =
    let inside = inside_shorter text shorter (other ++ before) more c whole front
    (IsUtf8-append other before part plain) e
    (f ∙ sym (append_assoc other before more)) ne in
    let split : shorter ≡ other ++ (before ++ inside.0) = inside.1 ∙ append_assoc other before inside.0 in
    let long : length shorter ≡ length other + length (before ++ inside.0) = ap length split
    ∙ length-append other (before ++ inside.0) in
    (omega arith, (inside.0, ap (drop (length other)) split ∙ drop_at other (before ++ inside.0) (length other) refl))

pub no_cut_of_empty : (text before : List ℕ) → length text ≡ 0 → HasNoCut text before
no_cut_of_empty text before none other more utf8 ne e =
    let long : length text ≡ length other + (length before + length more) =
    ap length e ∙ length-append other (before ++ more) ∙ ap (λ n. length other + n) (length-append before more) in
    let zero_left : length more ≡ 0 = omega arith in
    ne (nil_from_length more zero_left)

pub no_cut : (text shorter before : List ℕ) (c : ℕ) → IsUtf8 text → IsUtf8 shorter → IsUtf8 before
    → text ≡ shorter ++ encode c
    → ((i : ℕ) → i ≤ length shorter → LacksTextAt before shorter i) → HasNoCut text before
no_cut text shorter before c whole front plain e lacks other more utf8 ne f =
    let place = place_in_shorter text shorter before other more c whole front plain utf8 e ne f in
    lacks (length other) place.0 place.1.0 place.1.1

-- the place is one that a text of characters has
pub within_text : (shorter before : List ℕ) (i j : ℕ) → i ≤ length shorter → IsCharBoundary shorter j
    → HasTextAt before shorter i j
    → i + length before ≤ length shorter
within_text shorter before i j le last at = let e = at.ends in let l = last.0 in omega arith

-- what the search in the shorter text found, seen in the text
pub found_whole : (text shorter before front : List ℕ) (c i j : ℕ) → text ≡ shorter ++ encode c → front ≡ take i shorter
    → HasTextAt before shorter i j → text ≡ front ++ (before ++ (drop j shorter ++ encode c))
found_whole text shorter before front c i j e f at =
    e ∙ ap (λ s. s ++ encode c) (sym (take-append-drop i shorter) ∙ ap (λ t. t ++ drop i shorter) (sym f)
    ∙ ap (λ t. front ++ t) at.split)
    ∙ append_assoc front (before ++ drop j shorter) (encode c)
    ∙ ap (λ t. front ++ t) (append_assoc before (drop j shorter) (encode c))

pub found_behind : (text shorter before front : List ℕ) (c i j : ℕ) → text ≡ shorter ++ encode c
    → front ≡ take i shorter
    → HasTextAt before shorter i j → drop (length front + length before) text ≡ drop j shorter ++ encode c
found_behind text shorter before front c i j e f at =
    let more = drop j shorter ++ encode c in
    ap (drop (length front + length before))
    (found_whole text shorter before front c i j e f at ∙ sym (append_assoc front before more))
    ∙ drop_at (front ++ before) more (length front + length before) (length-append front before)

pub found_boundary : (text shorter before front : List ℕ) (c i j : ℕ) → IsUtf8 text → IsUtf8 front → IsUtf8 before
    → text ≡ shorter ++ encode c → front ≡ take i shorter → HasTextAt before shorter i j
    → IsCharBoundary text (length front + length before)
found_boundary text shorter before front c i j whole utf8 plain e f at =
    let more = drop j shorter ++ encode c in
    let split : text ≡ (front ++ before) ++ more = found_whole text shorter before front c i j e f at
    ∙ sym (append_assoc front before more) in
    let long : length text ≡ (length front + length before) + length more =
    ap length split ∙ length-append (front ++ before) more ∙ ap (λ n. n + length more) (length-append front before) in
    let cut : take (length front + length before) text ≡ front ++ before =
    ap (take (length front + length before)) split ∙ take_at (front ++ before) more (length front + length before)
    (length-append front before) in
    IsCharBoundary-from_take text (length front + length before) whole (omega arith)
    (subst IsUtf8 (sym cut) (IsUtf8-append front before utf8 plain))

pub last_cut : (text shorter before front : List ℕ) (c i j : ℕ) → IsUtf8 text → IsUtf8 shorter → IsUtf8 before
    → IsUtf8 front
    → text ≡ shorter ++ encode c → front ≡ take i shorter → i ≤ length shorter → HasTextAt before shorter i j
    → ((k : ℕ) → i < k → k ≤ length shorter → LacksTextAt before shorter k)
    → IsLastCut text before front (drop (length front + length before) text)
last_cut text shorter before front c i j whole short plain utf8 e f within at lacks =
    let more = drop j shorter ++ encode c in
    let split = found_whole text shorter before front c i j e f at in
    let behind = found_behind text shorter before front c i j e f at in
    let width = len_utf8_bounds c in
    let filled : more ≢ [] = λ none. absurd (let z : length more ≡ 0 = ap length none in
    let l = length-append (drop j shorter) (encode c) in let k = length-encode c in omega arith) in
    let here : length front ≡ i = ap length f ∙ length-take-le i shorter within in
    record {
      whole = split ∙ ap (λ t. front ++ (before ++ t)) (sym behind);
      filled = record {
        utf8 = rest_utf8 text (front ++ before) (drop (length front + length before) text) whole
            (IsUtf8-append front before utf8 plain)
            (split ∙ ap (λ t. front ++ (before ++ t)) (sym behind)
            ∙ sym (append_assoc front before (drop (length front + length before) text)));
        filled = λ none. filled (sym behind ∙ none);
      };
      last = λ other rest other_utf8 ne g.
          (let place = place_in_shorter text shorter before other rest c whole short plain other_utf8 e ne g in
          elim (cases_lt i (length other)) [
            | inl beyond ↦ absurd (lacks (length other) beyond place.0 place.1.0 place.1.1)
            | inr le ↦ omega arith
          ]);
    }
