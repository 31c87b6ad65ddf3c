-- A row of a table of members.
use Rattle.std.specs.Prelude.{ℕ, ◌==◌, ◌++◌, Bool, true, false, List, [], ◌∷◌, length, codes, Option, Some, None, Result, Ok, Err, ⊤}
use Rattle.std.specs.Fmt.{decimal}
use Rattle.std.specs.List.{slice_split}
use Rattle.std.specs.Option.{ok_or}
use Rattle.serde_json.specs.Data.{Data, Items, no_items, item}
use Rattle.serde_json.specs.Find.{as_array, as_str}
use Rattle.fh_exprs.specs.Json.{member_at, dot}
use Rattle.fh_app.specs.declared.fault.AppFault.{AppFault}
use Rattle.fh_app.specs.declared.fault.AppFault.TheVariants.{Missing, BadValue}
use Rattle.fh_app.specs.Answers.{after}

-- the member at a path with dots; a value on the way that is no object has no member
unfoldable pub at : List ℕ → Data → Option Data
at path root = member_at (slice_split (λ b. b == dot) path) root

-- the member's value where it is there and of its kind, and the default where it isn't there
unfoldable pub row : {T : Type 0} → (Data → Option T) → Option T → List ℕ → List ℕ → Option Data → Result T AppFault
row kind default file member None = ok_or default (Missing file member)
row kind default file member (Some value) = ok_or (kind value) (BadValue file member)

-- an item of a list is its place, counted from 0
abbrev pub item_of : List ℕ → ℕ → List ℕ
item_of member place = member ++ (codes "." ++ decimal place)

-- the texts of a list behind those before them
abbrev pub texts_behind : List ℕ → List ℕ → List (List ℕ) → Items → Result (List (List ℕ)) AppFault
texts_behind file member done no_items = Ok done
texts_behind file member done (item value values) =
    after (ok_or (as_str value) (BadValue file (item_of member (length done)))) (λ text.
    texts_behind file member (done ++ text ∷ []) values)

-- a list of texts, and none where it isn't there
unfoldable pub texts_row : List ℕ → List ℕ → Option Data → Result (List (List ℕ)) AppFault
texts_row file member None = Ok []
texts_row file member (Some value) =
    after (ok_or (as_array value) (BadValue file member)) (λ items. texts_behind file member [] items)

-- whether the value of a member passes its test: the member has to be there
abbrev pub needed : List ℕ → List ℕ → Option Bool → Result ⊤ AppFault
needed file member None = Err (Missing file member)
needed file member (Some false) = Err (BadValue file member)
needed file member (Some true) = Ok tt

-- the member may be missing
abbrev pub allowed : List ℕ → List ℕ → Option Bool → Result ⊤ AppFault
allowed file member None = Ok tt
allowed file member (Some false) = Err (BadValue file member)
allowed file member (Some true) = Ok tt

-- the items as a list
abbrev pub list_of : Items → List Data
list_of no_items = []
list_of (item value values) = value ∷ list_of values
