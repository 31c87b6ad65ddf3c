-- The set of escaped bytes is that of the definition, so that the two ways of escaping agree.
use Rattle.std.proofs.Common.{◌≡◌, ℕ, ◌<◌, Bool, true, cond, List, [], ◌∷◌, ◌++◌, refl, ap, ◌∙◌}
use Rattle.std.specs.List.{flat_map}
use Rattle.std.proofs.lemmas.Bool.{agree_below, agree_below_at}
use Rattle.percent_encoding.specs.Percent.{percent_encode, percent_encode_byte, encode_byte}
use Rattle.percent_encoding.specs.AsciiSet.{should_percent_encode}
use Rattle.fh_event.specs.declared.lines.TheConstants.{ESCAPED}
use Rattle.fh_event.specs.Lines.{is_escaped, escaped_byte}
use Rattle.fh_event.proofs.Steps.{IsBytes, IsBytes-rest}

same_set : agree_below (should_percent_encode ESCAPED) is_escaped 256 ≡ true
unfolding should_percent_encode
same_set = refl

same_byte : (b : ℕ) → b < 256 → encode_byte ESCAPED b ≡ escaped_byte b
same_byte b lt = ap (λ (t : Bool). cond t (percent_encode_byte b) (b ∷ [])) (agree_below_at (should_percent_encode ESCAPED) is_escaped 256 b same_set lt)

same_text : (bytes : List ℕ) → IsBytes bytes → flat_map (encode_byte ESCAPED) bytes ≡ flat_map escaped_byte bytes
same_text [] fits = refl
same_text (b ∷ bytes) fits =
    ap (λ (t : List ℕ). t ++ flat_map (encode_byte ESCAPED) bytes) (same_byte b (fits 0))
    ∙ ap (λ (t : List ℕ). escaped_byte b ++ t) (same_text bytes (IsBytes-rest b bytes fits))

pub escapes : (bytes : List ℕ) → IsBytes bytes → percent_encode ESCAPED bytes ≡ flat_map escaped_byte bytes
unfolding percent_encode
escapes bytes fits = same_text bytes fits
