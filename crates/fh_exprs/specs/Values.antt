-- What the names of a template stand for.
use Rattle.std.specs.Prelude.{ℕ, ◌==◌, List, [], ◌∷◌, ◌++◌, Option, Some, None, Result, Ok, Err}
use Rattle.std.specs.List.{slice_split}
use Rattle.std.specs.Option.{ok_or}
use Rattle.serde_json.specs.Data.{Data}
use Rattle.serde_json.specs.View.{view}
use Rattle.serde_json.specs.declared.value.Value.{Value}
use Rattle.fh_exprs.specs.declared.fault.ExprFault.{ExprFault}
use Rattle.fh_exprs.specs.declared.fault.ExprFault.TheVariants.{NoValue, NotText}
use Rattle.fh_exprs.specs.declared.values.Values.{Values}
use Rattle.fh_exprs.specs.Answers.{joined}
use Rattle.fh_exprs.specs.Json.{dot, member_at, json_text}
use Rattle.fh_exprs.specs.Layout.{Spot, Layout}
use Rattle.fh_exprs.specs.Pairs.{text_at}

abbrev pub in_message : List ℕ → Option Value → Option Data
in_message name None = None
in_message name (Some message) = member_at (slice_split (λ b. b == dot) name) (view message)

abbrev pub found_text : List ℕ → Option Data → Result (List ℕ) ExprFault
found_text name None = Err (NoValue name)
found_text name (Some value) = ok_or (json_text value) (NotText name)

abbrev pub known_or_found : List ℕ → Option (List ℕ) → Option Value → Result (List ℕ) ExprFault
known_or_found name (Some text) message = Ok text
known_or_found name None message = found_text name (in_message name message)

-- what a name stands for: a known value hides a member of the message
unfoldable pub value_of : Values → List ℕ → Result (List ℕ) ExprFault
value_of values name = known_or_found name (text_at name values.known) values.message

-- the plain texts and the values of the names, one behind the other; or the first fault from the left
abbrev pub filled : Values → List Spot → List ℕ → Result (List ℕ) ExprFault
filled values [] last = Ok last
filled values (spot ∷ spots) last =
    joined (λ value rest. spot.0 ++ (value ++ rest)) (value_of values spot.1) (filled values spots last)

abbrev pub resolved : Values → Layout → Result (List ℕ) ExprFault
resolved values layout = filled values layout.spots layout.last
