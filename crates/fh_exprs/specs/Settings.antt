-- App settings in a text, written between percent signs.
use Rattle.std.specs.Prelude.{ℕ, ◌==◌, List, [], ◌∷◌, ◌++◌, Result, Ok}
use Rattle.std.specs.List.{slice_split}
use Rattle.std.specs.Option.{ok_or}
use Rattle.fh_exprs.specs.declared.fault.ExprFault.{ExprFault}
use Rattle.fh_exprs.specs.declared.fault.ExprFault.TheVariants.{NoSetting}
use Rattle.fh_exprs.specs.Pairs.{text_at}
use Rattle.fh_exprs.specs.Answers.{joined}

abbrev pub percent : ℕ
percent = 37

-- what a name between two percent signs stands for: nothing between them is the two signs themselves
abbrev pub replacement : List (List ℕ × List ℕ) → List ℕ → Result (List ℕ) ExprFault
replacement settings [] = Ok (percent ∷ percent ∷ [])
replacement settings (b ∷ bs) = ok_or (text_at (b ∷ bs) settings) (NoSetting (b ∷ bs))

-- of the pieces that a text's percent signs cut it into, the first, third and so on stand outside of
-- the signs; a last piece with one sign alone before it keeps that sign
abbrev pub pieced : List (List ℕ × List ℕ) → List (List ℕ) → Result (List ℕ) ExprFault
pieced settings [] = Ok []
pieced settings (text ∷ []) = Ok text
pieced settings (text ∷ name ∷ []) = Ok (text ++ percent ∷ name)
pieced settings (text ∷ name ∷ next ∷ pieces) =
    joined (λ value rest. text ++ (value ++ rest)) (replacement settings name) (pieced settings (next ∷ pieces))

-- the text with its settings replaced, once; or the first name that is no setting's
unfoldable pub replaced : List (List ℕ × List ℕ) → List ℕ → Result (List ℕ) ExprFault
replaced settings text = pieced settings (slice_split (λ b. b == percent) text)
