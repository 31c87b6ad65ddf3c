-- function.json: the table of its bindings. Each row is tested for all bindings in order before the next row.
use Rattle.std.specs.Prelude.{ℕ, ◌+◌, ◌==◌, ◌++◌, ◌&&◌, ◌||◌, not, Bool, true, false, List, [], ◌∷◌, take, codes, count_by, Option, Some, None, option_and_then, option_map, unwrap_or, is_some, option_to_list, Result, Ok, Err, ⊤, if◌then◌else◌}
use Rattle.std.specs.Fmt.{decimal}
use Rattle.std.specs.List.{list_any}
use Rattle.std.specs.Option.{ok_or, option_or}
use Rattle.std.specs.Result.{result_ok}
use Rattle.std.specs.Str.{bytes_eq}
use Rattle.serde_json.specs.Data.{Data}
use Rattle.serde_json.specs.Find.{get, as_str, as_bool, as_object}
use Rattle.fh_base.specs.PlainNames.{is_plain_name}
use Rattle.fh_base.specs.Names.{is_queue_name}
use Rattle.fh_exprs.specs.Layout.{Layout}
use Rattle.fh_exprs.specs.Form.{reading_of, reading}
use Rattle.fh_exprs.specs.Settings.{replaced}
use Rattle.fh_exprs.specs.declared.form.Naming.TheVariants.{Free, Distinct}
use Rattle.fh_ncrontab.specs.declared.schedule.Schedule.{Schedule}
use Rattle.fh_ncrontab.specs.Texts.{schedule_of}
use Rattle.fh_app.specs.declared.fault.AppFault.{AppFault}
use Rattle.fh_app.specs.declared.fault.AppFault.TheVariants.{BadValue, TriggerCount}
use Rattle.fh_app.specs.declared.bindings.BindingType.{BindingType}
use Rattle.fh_app.specs.declared.bindings.BindingType.TheVariants as types
use Rattle.fh_app.specs.declared.bindings.Column.{Column}
use Rattle.fh_app.specs.declared.bindings.Column.TheVariants as columns
use Rattle.fh_app.specs.declared.function.Trigger.{Trigger}
use Rattle.fh_app.specs.declared.function.Trigger.TheVariants as triggers
use Rattle.fh_app.specs.declared.function.OutBinding.{OutBinding}
use Rattle.fh_app.specs.declared.function.OutBinding.TheVariants as outputs
use Rattle.fh_app.specs.Answers.{after}
use Rattle.fh_app.specs.Kinds.{only, is_text}
use Rattle.fh_app.specs.Rows.{needed, allowed}

-- ---- types

unfoldable pub type_named : List ℕ → Option BindingType
type_named word =
    if bytes_eq word (codes "queueTrigger") then Some types.QueueTrigger
    else (if bytes_eq word (codes "blobTrigger") then Some types.BlobTrigger
    else (if bytes_eq word (codes "timerTrigger") then Some types.TimerTrigger
    else (if bytes_eq word (codes "queue") then Some types.Queue
    else (if bytes_eq word (codes "blob") then Some types.Blob else None))))

abbrev pub type_in : Data → Option BindingType
type_in value = option_and_then type_named (as_str value)

-- the type of a binding, where it has one
abbrev pub type_of : Data → Option BindingType
type_of binding = option_and_then type_in (get (codes "type") binding)

abbrev pub is_trigger_type : BindingType → Bool
is_trigger_type types.QueueTrigger = true
is_trigger_type types.BlobTrigger = true
is_trigger_type types.TimerTrigger = true
is_trigger_type types.Queue = false
is_trigger_type types.Blob = false

abbrev pub is_trigger : Data → Bool
is_trigger binding = unwrap_or (option_map is_trigger_type (type_of binding)) false

-- ---- names

-- the text of a member, and an empty one where it has none
abbrev pub text_in : List ℕ → Data → List ℕ
text_in member binding = unwrap_or (option_and_then as_str (get member binding)) []

abbrev pub has_name : List ℕ → Data → Bool
has_name name binding = unwrap_or (option_map (bytes_eq name) (option_and_then as_str (get (codes "name") binding)))
    false

-- a plain name, or `$return` for an output, that no binding before has
abbrev pub may_be_named : Bool → List Data → List ℕ → Bool
may_be_named trigger before name =
    (is_plain_name name || (not trigger && bytes_eq name (codes "$return"))) && not (list_any (has_name name) before)

-- the value is such a text
abbrev pub may_name : Bool → List Data → Data → Bool
may_name trigger before value = unwrap_or (option_map (may_be_named trigger before) (as_str value)) false

-- ---- what the texts stand for

abbrev pub Pairs : Type 0
Pairs = List (List ℕ × List ℕ)

-- the text with its settings replaced
abbrev pub replaced_text : Pairs → Data → Option (List ℕ)
replaced_text settings value = option_and_then (λ text. result_ok (replaced settings text)) (as_str value)

abbrev pub queue_in : Pairs → Data → Option (List ℕ)
queue_in settings value = only is_queue_name (replaced_text settings value)

abbrev pub template_in : Pairs → Data → Option Layout
template_in settings value = option_and_then (λ text. result_ok (reading_of Free (replaced settings text)))
    (as_str value)

-- what stands before the first such byte, and behind it
abbrev pub cut_at : ℕ → List ℕ → Option (List ℕ × List ℕ)
cut_at c [] = None
cut_at c (b ∷ text) = if b == c then Some ([], text) else option_map (λ cut. (b ∷ cut.0, cut.1)) (cut_at c text)

-- a container's name and a pattern
abbrev pub blobs_named : List ℕ → List ℕ → Option (List ℕ × Layout)
blobs_named container pattern =
    if is_queue_name container then option_map (λ layout. (container, layout)) (result_ok (reading Distinct pattern))
    else None

-- the container, and behind the first slash the pattern
abbrev pub blobs_in : Pairs → Data → Option (List ℕ × Layout)
blobs_in settings value = option_and_then (λ text. option_and_then (λ cut. blobs_named cut.0 cut.1) (cut_at 47 text))
    (replaced_text settings value)

abbrev pub schedule_in : Data → Option Schedule
schedule_in value = option_and_then (λ text. result_ok (schedule_of text)) (as_str value)

-- ---- rows

abbrev pub label : ℕ → List ℕ → List ℕ
label place name = codes "bindings." ++ (decimal place ++ (codes "." ++ name))

-- a binding is an object
abbrev pub object_row : List ℕ → ℕ → Data → Result ⊤ AppFault
object_row file place binding =
    if is_some (as_object binding) then Ok tt else Err (BadValue file (codes "bindings." ++ decimal place))

abbrev pub type_row : List ℕ → ℕ → Data → Result ⊤ AppFault
type_row file place binding = needed file (label place (codes "type"))
    (option_map (λ value. is_some (type_in value)) (get (codes "type") binding))

abbrev pub direction_of : Bool → List ℕ
direction_of true = codes "in"
direction_of false = codes "out"

abbrev pub direction_row : List ℕ → ℕ → Data → Result ⊤ AppFault
direction_row file place binding = needed file (label place (codes "direction"))
    (option_map (is_text (direction_of (is_trigger binding))) (get (codes "direction") binding))

abbrev pub name_row : List ℕ → List Data → ℕ → Data → Result ⊤ AppFault
name_row file bindings place binding = needed file (label place (codes "name"))
    (option_map (may_name (is_trigger binding) (take place bindings)) (get (codes "name") binding))

-- queue triggers and outputs to queues have this row
abbrev pub queue_row : Pairs → List ℕ → ℕ → Data → Option BindingType → Result ⊤ AppFault
queue_row settings file place binding (Some types.QueueTrigger) = needed file (label place (codes "queueName"))
    (option_map (λ value. is_some (queue_in settings value)) (get (codes "queueName") binding))
queue_row settings file place binding (Some types.Queue) = needed file (label place (codes "queueName"))
    (option_map (λ value. is_some (template_in settings value)) (get (codes "queueName") binding))
queue_row settings file place binding (Some types.BlobTrigger) = Ok tt
queue_row settings file place binding (Some types.TimerTrigger) = Ok tt
queue_row settings file place binding (Some types.Blob) = Ok tt
queue_row settings file place binding None = Ok tt

-- blob triggers and outputs to blobs have this row
abbrev pub path_row : Pairs → List ℕ → ℕ → Data → Option BindingType → Result ⊤ AppFault
path_row settings file place binding (Some types.BlobTrigger) = needed file (label place (codes "path"))
    (option_map (λ value. is_some (blobs_in settings value)) (get (codes "path") binding))
path_row settings file place binding (Some types.Blob) = needed file (label place (codes "path"))
    (option_map (λ value. is_some (template_in settings value)) (get (codes "path") binding))
path_row settings file place binding (Some types.QueueTrigger) = Ok tt
path_row settings file place binding (Some types.TimerTrigger) = Ok tt
path_row settings file place binding (Some types.Queue) = Ok tt
path_row settings file place binding None = Ok tt

abbrev pub is_truth : Data → Bool
is_truth value = is_some (as_bool value)

-- timer triggers have these rows
abbrev pub timer_rows : List ℕ → ℕ → Data → Result ⊤ AppFault
timer_rows file place binding =
    after (needed file (label place (codes "schedule"))
    (option_map (λ value. is_some (schedule_in value)) (get (codes "schedule") binding))) (λ _.
    after (allowed file (label place (codes "runOnStartup"))
    (option_map is_truth (get (codes "runOnStartup") binding))) (λ _.
    allowed file (label place (codes "useMonitor")) (option_map is_truth (get (codes "useMonitor") binding))))

abbrev pub timer_row : List ℕ → ℕ → Data → Option BindingType → Result ⊤ AppFault
timer_row file place binding (Some types.TimerTrigger) = timer_rows file place binding
timer_row file place binding (Some types.QueueTrigger) = Ok tt
timer_row file place binding (Some types.BlobTrigger) = Ok tt
timer_row file place binding (Some types.Queue) = Ok tt
timer_row file place binding (Some types.Blob) = Ok tt
timer_row file place binding None = Ok tt

-- a row's test of the binding at this place
unfoldable pub row_of : Column → Pairs → List ℕ → List Data → ℕ → Data → Result ⊤ AppFault
row_of columns.Object settings file bindings place binding = object_row file place binding
row_of columns.Type settings file bindings place binding = type_row file place binding
row_of columns.Direction settings file bindings place binding = direction_row file place binding
row_of columns.Name settings file bindings place binding = name_row file bindings place binding
row_of columns.Queue settings file bindings place binding = queue_row settings file place binding (type_of binding)
row_of columns.Path settings file bindings place binding = path_row settings file place binding (type_of binding)
row_of columns.Timer settings file bindings place binding = timer_row file place binding (type_of binding)

-- the bindings from this place on pass the row
abbrev pub pass_from : (ℕ → Data → Result ⊤ AppFault) → ℕ → List Data → Result ⊤ AppFault
pass_from test place [] = Ok tt
pass_from test place (binding ∷ bindings) = after (test place binding) (λ _. pass_from test (place + 1) bindings)

-- a row for all bindings
abbrev pub column : Column → Pairs → List ℕ → List Data → Result ⊤ AppFault
column row settings file bindings = pass_from (row_of row settings file bindings) 0 bindings

-- exactly one binding is a trigger
abbrev pub one_trigger : List ℕ → List Data → Result ⊤ AppFault
one_trigger file bindings = if count_by is_trigger bindings == 1 then Ok tt
    else Err (TriggerCount file (count_by is_trigger bindings))

-- all rows in order
unfoldable pub table : Pairs → List ℕ → List Data → Result ⊤ AppFault
table settings file bindings =
    after (column columns.Object settings file bindings) (λ _.
    after (column columns.Type settings file bindings) (λ _.
    after (one_trigger file bindings) (λ _.
    after (column columns.Direction settings file bindings) (λ _.
    after (column columns.Name settings file bindings) (λ _.
    after (column columns.Queue settings file bindings) (λ _.
    after (column columns.Path settings file bindings) (λ _.
    column columns.Timer settings file bindings)))))))

-- ---- what bindings that pass are

abbrev pub truth_in : List ℕ → Bool → Data → Bool
truth_in member default binding = unwrap_or (option_and_then as_bool (get member binding)) default

abbrev pub queue_trigger : Pairs → Data → Option Trigger
queue_trigger settings binding = option_map (triggers.Queue (text_in (codes "name") binding))
    (option_and_then (queue_in settings) (get (codes "queueName") binding))

abbrev pub blob_trigger : Pairs → Data → Option Trigger
blob_trigger settings binding =
    option_map (λ blobs. triggers.Blob (text_in (codes "name") binding) blobs.0 blobs.1)
    (option_and_then (blobs_in settings) (get (codes "path") binding))

abbrev pub timer_trigger : Data → Option Trigger
timer_trigger binding = option_map (λ schedule. triggers.Timer (text_in (codes "name") binding) schedule
    (truth_in (codes "runOnStartup") false binding) (truth_in (codes "useMonitor") true binding))
    (option_and_then schedule_in (get (codes "schedule") binding))

abbrev pub trigger_by : Pairs → Data → Option BindingType → Option Trigger
trigger_by settings binding (Some types.QueueTrigger) = queue_trigger settings binding
trigger_by settings binding (Some types.BlobTrigger) = blob_trigger settings binding
trigger_by settings binding (Some types.TimerTrigger) = timer_trigger binding
trigger_by settings binding (Some types.Queue) = None
trigger_by settings binding (Some types.Blob) = None
trigger_by settings binding None = None

abbrev pub queue_output : Pairs → Data → Option OutBinding
queue_output settings binding = option_map (outputs.Queue (text_in (codes "name") binding))
    (option_and_then (template_in settings) (get (codes "queueName") binding))

abbrev pub blob_output : Pairs → Data → Option OutBinding
blob_output settings binding = option_map (outputs.Blob (text_in (codes "name") binding))
    (option_and_then (template_in settings) (get (codes "path") binding))

abbrev pub output_by : Pairs → Data → Option BindingType → Option OutBinding
output_by settings binding (Some types.Queue) = queue_output settings binding
output_by settings binding (Some types.Blob) = blob_output settings binding
output_by settings binding (Some types.QueueTrigger) = None
output_by settings binding (Some types.BlobTrigger) = None
output_by settings binding (Some types.TimerTrigger) = None
output_by settings binding None = None

unfoldable pub trigger_in : Pairs → Data → Option Trigger
trigger_in settings binding = trigger_by settings binding (type_of binding)

unfoldable pub output_in : Pairs → Data → Option OutBinding
output_in settings binding = output_by settings binding (type_of binding)

-- the first trigger among the bindings
abbrev pub first_trigger : Pairs → List Data → Option Trigger
first_trigger settings [] = None
first_trigger settings (binding ∷ bindings) = option_or (trigger_in settings binding) (first_trigger settings bindings)

-- the outputs in order of the bindings, behind those before them
abbrev pub outputs_behind : Pairs → List OutBinding → List Data → List OutBinding
outputs_behind settings done [] = done
outputs_behind settings done (binding ∷ bindings) =
    outputs_behind settings (done ++ option_to_list (output_in settings binding)) bindings
