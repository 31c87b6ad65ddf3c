-- The names that a pattern has already. Only private functions cite this.
use Rattle.std.specs.Prelude.{◌≡◌, ℕ, Bool, List}
use Rattle.std.specs.List.{list_any}
use Rattle.std.specs.Str.{bytes_eq}
use Rattle.fh_exprs.specs.declared.form.Naming.{Naming}
use Rattle.fh_exprs.specs.declared.form.Naming.TheVariants.{Distinct}
use Rattle.fh_exprs.specs.declared.taken.Taken.{Taken}
use Rattle.fh_exprs.specs.Layout.{Spot}

-- the name is one of those
abbrev pub has_name : Taken → List ℕ → Bool
has_name taken name = list_any (λ own. bytes_eq name own.now) taken.names.keys

-- some spot has the name
abbrev pub spots_have : List Spot → List ℕ → Bool
spots_have spots name = list_any (λ spot. bytes_eq spot.1 name) spots

-- where names have to differ, they are those of the spots
abbrev pub KnowsNames : Naming → Taken → List Spot → Type 0
KnowsNames naming taken spots = naming ≡ Distinct → (name : List ℕ) → has_name taken name ≡ spots_have spots name
