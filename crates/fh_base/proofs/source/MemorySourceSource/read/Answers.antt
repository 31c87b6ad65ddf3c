-- What a read gives is the front of what was left, and the rest of it is left.
use Rattle.std.proofs.Common.{◌≡◌, ℕ, ◌+◌, ◌<◌, ◌≤◌, List, [], ◌++◌, length, take, drop, min, sym, ◌∙◌, ap, arith, length-append, length-drop, length-take}
use Rattle.std.proofs.lemmas.List.{drop-drop, take-append-drop, take_at, drop_all}
use Rattle.fh_base.proofs.source.MemorySourceSource.read.Goals as goal

splits : (left buf front : List ℕ) (size : ℕ) → size ≤ length left → front ≡ take size left
    → left ≡ take size (front ++ drop size buf) ++ drop size left
splits left buf front size fits given =
    let long : length front ≡ size = rw given (omega (arith, length-take size left)) in
    rw (take_at front (drop size buf) size long, given) (sym (take-append-drop size left))

ends : (left buf front : List ℕ) (size : ℕ) → size ≡ min (length buf) (length left) → front ≡ take size left
    → size ≡ 0 → 0 < length (front ++ drop size buf) → drop size left ≡ []
ends left buf front size least given none room =
    let long : length front ≡ size = rw given (omega (arith, length-take size left)) in
    drop_all size left (omega (arith, length-append front (drop size buf), length-drop size buf))

gives : (xs all left buf front : List ℕ) (place size : ℕ) → all ≡ xs → left ≡ drop place all
    → size ≡ min (length buf) (length left) → front ≡ take size left
    → (drop place xs ≡ take size (front ++ drop size buf) ++ drop (place + size) xs)
    × (size ≡ 0 → 0 < length (front ++ drop size buf) → drop (place + size) xs ≡ [])
gives xs all left buf front place size same from least given =
    let left_is : left ≡ drop place xs = from ∙ ap (drop place) same in
    let after : drop size left ≡ drop (place + size) xs = ap (drop size) left_is ∙ drop-drop size place xs in
    rw (← left_is, ← after)
    (splits left buf front size (omega arith) given, ends left buf front size least given)

pub returns-clause-bytes : goal.returns-clause-bytes
returns-clause-bytes c =
    gives _ _ _ _ _ _ _ c.deref.ensures.value c.split_at.ensures.back c.min-size.ensures c.copy_from_slice.ensures.after
