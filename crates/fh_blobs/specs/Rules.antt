-- The rules that refuse what is asked of the blobs.
use Rattle.std.specs.Prelude.{ℕ, nat_lt, if◌then◌else◌, List, [], ◌∷◌, length, Option, Some, None}
use Rattle.fh_base.specs.declared.rule.Rule.{Rule}
use Rattle.fh_base.specs.declared.rule.Rule.TheVariants.{TooLarge}
use Rattle.fh_blobs.specs.declared.ask.NewBlob.{NewBlob}

-- a text has at most 1,048,576 bytes
abbrev pub text_rule : List ℕ → Option Rule
text_rule text = if nat_lt 1048576 (length text) then Some (TooLarge (length text) 1048576) else None

abbrev pub first_of : Option Rule → Option Rule → Option Rule
first_of None rule = rule
first_of (Some rule) other = Some rule

-- the first text that is longer
abbrev pub texts_rule : List NewBlob → Option Rule
texts_rule [] = None
texts_rule (blob ∷ blobs) = first_of (text_rule blob.text) (texts_rule blobs)
