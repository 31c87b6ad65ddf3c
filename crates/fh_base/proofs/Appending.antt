-- Bytes that are appended to known ones in turn.
use Rattle.std.proofs.Common.{ℕ, ◌+◌, List, ◌++◌, take, drop, Option, Some, None, ◌∙◌, ap, append_assoc, take-add}
use Rattle.std.specs.Io.KnownBytes.{Appends}

pub appends-append : (was mid now : Option (List ℕ)) (first second : List ℕ) → Appends was mid first
    → Appends mid now second → Appends was now (first ++ second)
appends-append None mid now first second one two = tt
appends-append (Some a) None now first second one two = absurd one
appends-append (Some a) (Some b) None first second one two = absurd two
appends-append (Some a) (Some b) (Some c) first second one two =
    two ∙ ap (λ (l : List ℕ). l ++ second) one ∙ append_assoc a first second

pub appends_more : (was mid now : Option (List ℕ)) (bytes : List ℕ) (place n : ℕ)
    → Appends was mid (take place bytes) → Appends mid now (take n (drop place bytes))
    → Appends was now (take (place + n) bytes)
appends_more was mid now bytes place n one two =
    rw (take-add place n bytes) (appends-append was mid now (take place bytes) (take n (drop place bytes)) one two)
