-- function.json: its table, and the functions of an app in order.
use Rattle.std.specs.Prelude.{ℕ, ◌++◌, Bool, List, [], ◌∷◌, map, codes, Option, Some, None, option_map, Result, Ok, Err, ⊤, if◌then◌else◌}
use Rattle.std.specs.Char.{to_ascii_lowercase}
use Rattle.std.specs.List.{list_any}
use Rattle.std.specs.Option.{ok_or}
use Rattle.std.specs.Str.{bytes_eq, is_utf8}
use Rattle.serde_json.specs.Data.{Data, object, no_members}
use Rattle.serde_json.specs.Find.{get, as_array}
use Rattle.serde_json.specs.Read.{read}
use Rattle.fh_base.specs.PlainNames.{is_plain_name}
use Rattle.fh_app.specs.declared.fault.AppFault.{AppFault}
use Rattle.fh_app.specs.declared.fault.AppFault.TheVariants.{NotJson, Missing, BadValue, TriggerCount, BadFunctionName, SameName}
use Rattle.fh_app.specs.declared.function.Function.{Function}
use Rattle.fh_app.specs.declared.function.Bindings.{Bindings}
use Rattle.fh_app.specs.Answers.{after}
use Rattle.fh_app.specs.Kinds.{truth}
use Rattle.fh_app.specs.Rows.{row, at, list_of}
use Rattle.fh_app.specs.Bindings.{Pairs, table, first_trigger, outputs_behind}

-- the value that the bytes of a file are, where they are UTF-8 and JSON
unfoldable pub json_of : List ℕ → Option Data
json_of bytes = if is_utf8 bytes then read bytes else None

abbrev pub json_row : List ℕ → List ℕ → Result Data AppFault
json_row file bytes = ok_or (json_of bytes) (NotJson file)

-- a file that isn't there is an object without members
abbrev pub file_row : List ℕ → Option (List ℕ) → Result Data AppFault
file_row file None = Ok (object no_members)
file_row file (Some bytes) = json_row file bytes

-- the file of the function with this name
abbrev pub function_file : List ℕ → List ℕ
function_file name = name ++ codes "/function.json"

-- the names are equal, capitals and small letters alike
abbrev pub is_same_name : List ℕ → List ℕ → Bool
is_same_name one other = bytes_eq (map to_ascii_lowercase one) (map to_ascii_lowercase other)

-- a plain name that no function before has
abbrev pub name_row : List Function → List ℕ → Result ⊤ AppFault
name_row before name =
    if is_plain_name name then
    (if list_any (λ (f : Function). is_same_name f.name name) before then Err (SameName name) else Ok tt)
    else Err (BadFunctionName name)

abbrev pub list_row : List ℕ → Option Data → Result (List Data) AppFault
list_row file None = Err (Missing file (codes "bindings"))
list_row file (Some value) = ok_or (option_map list_of (as_array value)) (BadValue file (codes "bindings"))

-- the bindings pass their table, and are these
unfoldable pub bindings_of : Pairs → List ℕ → List Data → Result Bindings AppFault
bindings_of settings file bindings =
    after (table settings file bindings) (λ _.
    after (ok_or (first_trigger settings bindings) (TriggerCount file 0)) (λ trigger.
    Ok (record { trigger = trigger; outputs = outputs_behind settings [] bindings })))

abbrev pub bindings_row : Pairs → List ℕ → Data → Result Bindings AppFault
bindings_row settings file root =
    after (list_row file (get (codes "bindings") root)) (λ bindings. bindings_of settings file bindings)

-- the function that the value of its file is
unfoldable pub function_in : Pairs → List ℕ → List ℕ → Data → Result Function AppFault
function_in settings file name root =
    after (row truth (Some Bool.false) file (codes "disabled") (at (codes "disabled") root)) (λ disabled.
    after (row truth (Some Bool.false) file (codes "singleton") (at (codes "singleton") root)) (λ singleton.
    after (bindings_row settings file root) (λ parts.
    Ok (record {
      name = name;
      disabled = disabled;
      singleton = singleton;
      trigger = parts.trigger;
      outputs = parts.outputs;
    }))))

-- the function of this name and file, behind those before it
unfoldable pub function_of : Pairs → List Function → List ℕ → List ℕ → Result Function AppFault
function_of settings before name bytes =
    after (json_row (function_file name) bytes) (λ root.
    after (name_row before name) (λ _.
    function_in settings (function_file name) name root))

-- the functions of these files in order, behind those before them
abbrev pub functions_behind : Pairs → List Function → List (List ℕ × List ℕ) → Result (List Function) AppFault
functions_behind settings done [] = Ok done
functions_behind settings done (file ∷ files) =
    after (function_of settings done file.0 file.1) (λ f. functions_behind settings (done ++ f ∷ []) files)
