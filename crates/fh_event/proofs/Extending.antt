-- A list that grows at its end, step by step.
use Rattle.std.proofs.Common.{◌≡◌, ℕ, List, [], ◌∷◌, ◌++◌, length, take, Result, Ok, Err, OnErr, refl, sym, ap, ◌∙◌, append_assoc}
use Rattle.std.proofs.lemmas.List.{append-nil, take_at}
use Rattle.fh_event.specs.Entries.{Extends}

pub same : (old new : List ℕ) → new ≡ old → Extends old new
same old new e = record { more = []; longer = e ∙ sym (append-nil old) }

pub one_more : (old more new : List ℕ) → new ≡ old ++ more → Extends old new
one_more old more new e = record { more = more; longer = e }

pub on_and_on : (a b c : List ℕ) → Extends a b → Extends b c → Extends a c
on_and_on a b c first then = record {
  more = first.more ++ then.more;
  longer = then.longer ∙ ap (λ (x : List ℕ). x ++ then.more) first.longer ∙ append_assoc a first.more then.more;
}

pub whatever : {T E : Type 0} (r : Result T E) (P : Type 0) → P → OnErr r P
whatever (Ok x) P p = tt
whatever (Err e) P p = p

pub taken_back : (old new : List ℕ) → Extends old new → take (length old) new ≡ old
taken_back old new h = ap (take (length old)) h.longer ∙ take_at old h.more (length old) refl

pub ruleset extending = (same, one_more, on_and_on, append_assoc)
