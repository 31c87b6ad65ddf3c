-- What a text begins with, as the readers take it apart. Only private functions cite this.
use Rattle.std.specs.Prelude.{◌≡◌, ◌≢◌, ℕ, ◌+◌, ◌-◌, List, [], ◌++◌, length, Result, Ok, Err}
use Rattle.fh_exprs.specs.declared.fault.ExprFault.{ExprFault}
use Rattle.fh_exprs.specs.declared.fault.ExprFault.TheVariants.{OpenBrace}
use Rattle.fh_exprs.specs.declared.form.Naming.{Naming}
use Rattle.fh_exprs.specs.declared.form.Element.{Element}
use Rattle.fh_exprs.specs.declared.form.Element.TheVariants.{Plain, Name}
use Rattle.fh_exprs.specs.Answers.{joined, IsFaultOf}
use Rattle.fh_exprs.specs.Form.{outside, read_on, with_plain, with_name, name_fault, unless}
use Rattle.fh_exprs.specs.Layout.{Layout}
use Rattle.fh_exprs.specs.Settings.{replaced, replacement}

-- a text that begins with this element reads as the element and what the rest reads as
abbrev pub BeginsWith : List ℕ → Element → List ℕ → Type 0
BeginsWith text (Plain plain) rest = (naming : Naming) (layout : Layout) (at : ℕ)
    → read_on naming layout (outside at) text
    ≡ read_on naming (with_plain plain.now layout) (outside (at + (length text - length rest))) rest
BeginsWith text (Name name) rest = (naming : Naming) (layout : Layout) (at : ℕ)
    → read_on naming layout (outside at) text
    ≡ unless (name_fault naming layout at name.now)
    (read_on naming (with_name name.now layout) (outside (at + (length text - length rest))) rest)

-- a text that begins with a brace of another use has its first fault there
abbrev pub BeginsWithFault : List ℕ → Type 0
BeginsWithFault text = (naming : Naming) (layout : Layout) (at : ℕ) → text ≢ []
    → read_on naming layout (outside at) text ≡ Err (OpenBrace at)

-- such a text stays as it is
abbrev pub IsWithoutSettings : List ℕ → Type 0
IsWithoutSettings text = (settings : List (List ℕ × List ℕ)) → replaced settings text ≡ Ok text

-- the text's first two percent signs have this between them
abbrev pub BeginsWithSetting : List ℕ → List ℕ → List ℕ → List ℕ → Type 0
BeginsWithSetting text before name rest = (settings : List (List ℕ × List ℕ))
    → replaced settings text ≡ joined (λ value more. before ++ (value ++ more)) (replacement settings name)
    (replaced settings rest)

-- on success, what was changed is now what is given
abbrev pub Leaves : {U T : Type 0} → Result U ExprFault → T → Result T ExprFault → Type 0
Leaves (Ok _) now given = given ≡ Ok now
Leaves (Err e) now given = IsFaultOf e given
