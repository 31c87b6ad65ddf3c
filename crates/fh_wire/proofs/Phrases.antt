-- The phrase of a status.
use Rattle.std.proofs.Common.{◌≡◌, ◌≤◌, ◌<◌, ◌&&◌, nat_le, nat_lt, true, ℕ, List, [], Option, Some, None, Bor, option_map, refl, ap, ◌∙◌, arith}
use Rattle.std.specs.Prelude.{unwrap_or}
use Rattle.std.proofs.lemmas.Bool.Decides.{nat_tests}
use Rattle.http.specs.StatusCode.{reason_phrase}
use Rattle.fh_wire.specs.Written.{phrase_of}

text_of : (phrase : Option (Bor (List ℕ))) (other : Bor (List ℕ)) → other.now ≡ []
    → (unwrap_or phrase other).now ≡ unwrap_or (option_map (λ s. s.now) phrase) []
text_of None other is = is
text_of (Some phrase) other is = refl

pub phrase_is : (status code : ℕ) (phrase : Option (Bor (List ℕ))) (other given : Bor (List ℕ))
    → (100 ≤ status) × (status < 1000) → code ≡ status
    → option_map (λ s. s.now) phrase ≡ reason_phrase code → given ≡ unwrap_or phrase other → other.now ≡ []
    → given.now ≡ phrase_of status
phrase_is status code phrase other given within same is got none =
    let tested : (nat_le 100 status && nat_lt status 1000) ≡ true = grind (arith, nat_tests) in
    ap (λ (s : Bor (List ℕ)). s.now) got ∙ text_of phrase other none
    ∙ ap (λ (p : Option (List ℕ)). unwrap_or p []) (is ∙ ap reason_phrase same) ∙ rw tested refl
