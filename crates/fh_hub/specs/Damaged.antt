-- How a command ends whose journal isn't mounted: its status, and its last line.
use Rattle.std.specs.Prelude.{◌≡◌, ◌⊎◌, ℕ, List, [], ◌++◌, codes}
use Rattle.std.specs.Fmt.{decimal}
use Rattle.fh_base.specs.Ends.{plain_code, plain_line}
use Rattle.fh_base.specs.declared.ends.PlainEnd.TheVariants as plain
use Rattle.fh_event.specs.declared.faults.EventFault.{EventFault}
use Rattle.fh_event.specs.declared.faults.EventFault.TheVariants as events
use Rattle.fh_journal.specs.declared.faults.FrameRule.{FrameRule}
use Rattle.fh_journal.specs.declared.faults.FrameRule.TheVariants.{Cut, Length}
use Rattle.fh_hub.specs.declared.faults.HubRule.{HubRule}
use Rattle.fh_hub.specs.declared.faults.HubRule.TheVariants.{Frame, Event, Refused}
use Rattle.fh_hub.specs.declared.faults.HubFault.{HubFault}
use Rattle.fh_hub.specs.declared.faults.HubFault.TheVariants.{BadHeader, BadFrame, DiskFault, NoMemory}

abbrev pub frame_name : FrameRule → List ℕ
frame_name Cut = codes "Cut"
frame_name (Length given) = codes "Length"

-- a payload is never refused for want of memory
abbrev pub event_name : EventFault → List ℕ
event_name (events.BadKind kind) = codes "Kind"
event_name (events.ShortField field) = codes "Short"
event_name (events.LongField field) = codes "Long"
event_name (events.BadField field) = codes "Field"
event_name (events.Trailing left) = codes "Trailing"
event_name events.NoMemory = codes "NoMemory"

-- what is wrong with a frame, in one word
abbrev pub rule_name : HubRule → List ℕ
rule_name (Frame rule) = frame_name rule
rule_name (Event fault) = event_name fault
rule_name Refused = codes "Refused"

-- the place of the frame's gate, and what is wrong with it
abbrev pub damaged_line : ℕ → HubRule → List ℕ
damaged_line at rule = codes "damaged " ++ (decimal at ++ (codes " " ++ (rule_name rule ++ codes "\n")))

-- the last line, where it is the same for each fault of the kind
abbrev pub fixed_line : HubFault → List ℕ
fixed_line BadHeader = codes "damaged 0 BadHeader\n"
fixed_line (BadFrame at rule) = []
fixed_line DiskFault = plain_line plain.DiskFault
fixed_line NoMemory = plain_line plain.NoMemory

abbrev pub unmounted_line : HubFault → List ℕ
unmounted_line BadHeader = fixed_line BadHeader
unmounted_line (BadFrame at rule) = damaged_line at rule
unmounted_line DiskFault = fixed_line DiskFault
unmounted_line NoMemory = fixed_line NoMemory

abbrev pub unmounted_code : HubFault → ℕ
unmounted_code BadHeader = 4
unmounted_code (BadFrame at rule) = 4
unmounted_code DiskFault = plain_code plain.DiskFault
unmounted_code NoMemory = plain_code plain.NoMemory

-- the fault is told, or, where it is a frame's, want of memory in its place
abbrev pub Tells : HubFault → HubFault → Type 0
Tells BadHeader told = told ≡ BadHeader
Tells (BadFrame at rule) told = (told ≡ BadFrame at rule) ⊎ (told ≡ NoMemory)
Tells DiskFault told = told ≡ DiskFault
Tells NoMemory told = told ≡ NoMemory
