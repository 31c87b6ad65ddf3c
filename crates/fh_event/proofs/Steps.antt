-- Steps of a reading that did not fail, and what a reader took from the front.
use Rattle.std.proofs.Common.{◌≡◌, ℕ, suc, ◌+◌, ◌<◌, Bool, true, false, cond, List, ◌∷◌, ◌++◌, get_or, take, drop, Result, Ok, Err, refl, sym, ap, ◌∙◌, append_assoc, arith, inl, inr}
use Rattle.std.specs.Prelude.{◌&&◌}
use Rattle.std.proofs.lemmas.Bool.{cases_lt}
use Rattle.std.proofs.lemmas.List.{length-take, get_or-drop, get_or-take, get_or_past}
use Rattle.fh_event.specs.declared.faults.EventFault.{EventFault}
use Rattle.fh_event.specs.Answers.{◌>>=◌}

-- the value of a step that did not fail
pub bind_ok : {A B : Type 0} (r : Result A EventFault) (f : A → Result B EventFault) (y : B) → (r >>= f) ≡ Ok y
    → (x : A) × (r ≡ Ok x) × (f x ≡ Ok y)
bind_ok (Ok x) f y e = (x, refl, e)
bind_ok (Err d) f y e = absurd cc

-- a test that did not fail
pub passed : {A : Type 0} (b : Bool) (d : EventFault) (r : Result A EventFault) (y : A) → cond b (Err d) r ≡ Ok y
    → (b ≡ false) × (r ≡ Ok y)
passed true d r y e = absurd cc
passed false d r y e = (refl, e)

-- a last test that did not fail
pub ended : {A : Type 0} (b : Bool) (d : EventFault) (x y : A) → cond b (Ok x) (Err d) ≡ Ok y → (b ≡ true) × (x ≡ y)
ended true d x y e = (refl, cc)
ended false d x y e = absurd cc

pub both_are : (a b : Bool) → (a && b) ≡ true → (a ≡ true) × (b ≡ true)
both_are true b is = (refl, is)
both_are false b is = absurd cc

abbrev done : {A : Type 0} → A → Result A EventFault
done x = Ok x

pub ok_is : {A : Type 0} (x y : A) → done x ≡ done y → x ≡ y
ok_is x y e = cc

abbrev pub IsBytes : List ℕ → Type 0
IsBytes bytes = (i : ℕ) → get_or bytes i 0 < 256

pub IsBytes-drop : (n : ℕ) (bytes : List ℕ) → IsBytes bytes → IsBytes (drop n bytes)
IsBytes-drop n bytes h i = rw get_or-drop (h (n + i))

pub IsBytes-take : (n : ℕ) (bytes : List ℕ) → IsBytes bytes → IsBytes (take n bytes)
IsBytes-take n bytes h i =
    elim (cases_lt i n) [
      | inl lt ↦ rw (get_or-take n bytes i 0 lt) (h i)
      | inr le ↦ rw (get_or_past (take n bytes) i 0 (omega (arith, length-take n bytes))) (omega arith)
    ]

pub IsBytes-rest : (b : ℕ) (bytes : List ℕ) → IsBytes (b ∷ bytes) → IsBytes bytes
IsBytes-rest b bytes h i = h (suc i)

-- what a reader took from the front
pub record Takes (bytes text rest : List ℕ) : Type 0 where
  pub parts : bytes ≡ text ++ rest
  pub rest_fits : IsBytes rest

pub Takes-then : (a x b y c : List ℕ) → Takes a x b → Takes b y c → Takes a (x ++ y) c
Takes-then a x b y c p q = record {
  parts = p.parts ∙ ap (λ (t : List ℕ). x ++ t) q.parts ∙ sym (append_assoc x y c);
  rest_fits = q.rest_fits;
}

pub Takes-one : (b : ℕ) (bytes text rest : List ℕ) → Takes bytes text rest → Takes (b ∷ bytes) (b ∷ text) rest
Takes-one b bytes text rest p = record {
  parts = ap (λ (t : List ℕ). b ∷ t) p.parts;
  rest_fits = p.rest_fits;
}
