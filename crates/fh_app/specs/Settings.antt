-- local.settings.json: the app's settings.
use Rattle.std.specs.Prelude.{ℕ, ◌++◌, List, [], ◌∷◌, codes, Option, Some, None, Result, Ok, Err}
use Rattle.std.specs.Option.{ok_or}
use Rattle.serde_json.specs.Data.{Data, Members, no_members, member}
use Rattle.serde_json.specs.Find.{get, as_str, as_object}
use Rattle.fh_app.specs.declared.fault.AppFault.{AppFault}
use Rattle.fh_app.specs.declared.fault.AppFault.TheVariants.{BadValue}
use Rattle.fh_app.specs.Answers.{after}

abbrev pub settings_file : List ℕ
settings_file = codes "local.settings.json"

-- names and texts, in order of the names' bytes, behind those before them
abbrev pub pairs_behind : List (List ℕ × List ℕ) → Members → Result (List (List ℕ × List ℕ)) AppFault
pairs_behind done no_members = Ok done
pairs_behind done (member name value members) =
    after (ok_or (as_str value) (BadValue settings_file (codes "Values." ++ name))) (λ text.
    pairs_behind (done ++ (name, text) ∷ []) members)

abbrev pub values_row : Option Data → Result (List (List ℕ × List ℕ)) AppFault
values_row None = Ok []
values_row (Some value) =
    after (ok_or (as_object value) (BadValue settings_file (codes "Values"))) (λ members. pairs_behind [] members)

-- `Values` is an object of texts, or isn't there
unfoldable pub settings_of : Data → Result (List (List ℕ × List ℕ)) AppFault
settings_of root = values_row (get (codes "Values") root)
