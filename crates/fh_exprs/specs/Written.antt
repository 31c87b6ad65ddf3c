-- How plain texts and names are written.
use Rattle.std.specs.Prelude.{◌≡◌, ◌≢◌, ℕ, true, not, List, [], ◌∷◌, ◌++◌, if◌then◌else◌}
use Rattle.std.specs.List.{AllByRecursion, list_all}
use Rattle.fh_exprs.specs.Layout.{Spot, Layout}
use Rattle.fh_exprs.specs.Form.{open_brace, close_brace, is_brace}

-- plain text, with each brace twice
abbrev pub doubled : List ℕ → List ℕ
doubled [] = []
doubled (b ∷ text) = if is_brace b then b ∷ (b ∷ doubled text) else b ∷ doubled text

abbrev pub written_spots : List Spot → List ℕ → List ℕ
written_spots [] last = doubled last
written_spots (spot ∷ spots) last = doubled spot.0
    ++ (open_brace ∷ (spot.1 ++ (close_brace ∷ written_spots spots last)))

-- the plain texts and, between braces, the names
abbrev pub written : Layout → List ℕ
written layout = written_spots layout.spots layout.last

-- one or more characters other than braces
pub record IsName (name : List ℕ) : Type 0 where
  pub filled : name ≢ []
  pub plain : list_all (λ b. not (is_brace b)) name ≡ true

abbrev pub HasNames : Layout → Type 0
HasNames layout = AllByRecursion (λ (spot : Spot). IsName spot.1) layout.spots
