-- What a hub's step answers, and what it does to the journal.
use Rattle.std.specs.Prelude.{◌≡◌, ◌⊎◌, ⊤, ℕ, Bool, true, false, List, [], ◌∷◌, ◌++◌, Option, IfSome, Result, Ok, Err}
use Rattle.fh_base.specs.Faults.{Rose}
use Rattle.fh_base.specs.declared.rule.Rule.{Rule}
use Rattle.fh_event.specs.declared.faults.StepFault.{StepFault}
use Rattle.fh_event.specs.declared.faults.StepFault.TheVariants.{Rule as OfRule, NoMemory, DiskFault}
use Rattle.fh_event.specs.declared.reply.Reply.{Reply}
use Rattle.fh_journal.specs.Journal.{IsJournalOf}
use Rattle.fh_journal.specs.Keeping.{Keeps}
use Rattle.fh_hub.specs.World.{Stepped, Refused, Read, Quieted, Recorded}
use Rattle.fh_disk.specs.Disk.{OnlyTold}
use Rattle.fh_disk.specs.Moments.{LeavesOnly}
use Rattle.fh_disk.specs.declared.disk.Disk.{Ghosts}
use Rattle.fh_hub.specs.declared.hub.Hub.{Hub}
use Rattle.fh_hub.specs.Replay.{Entry, bytes_of, payloads_of}

-- the machine's answer: a reply or a rule
abbrev pub answer : Stepped → Result Reply Rule
answer (Refused rule) = Err rule
answer (Read reply) = Ok reply
answer (Quieted reply) = Ok reply
answer (Recorded new reply) = Ok reply

abbrev pub is_recorded : Stepped → Bool
is_recorded (Refused rule) = false
is_recorded (Read reply) = false
is_recorded (Quieted reply) = false
is_recorded (Recorded new reply) = true

-- The result is the machine's answer, or want of memory, or a fault of the disk, whose count then rose in a step that
-- would have been recorded.
abbrev pub Answers : Result Reply StepFault → Stepped → ℕ → ℕ → Type 0
Answers (Ok reply) stepped before now = answer stepped ≡ Ok reply
Answers (Err (OfRule rule)) stepped before now = stepped ≡ Refused rule
Answers (Err NoMemory) stepped before now = ⊤
Answers (Err DiskFault) stepped before now = (is_recorded stepped ≡ true) × Rose before now

-- no rule refuses what was planned
abbrev pub HasStepCause : ℕ → ℕ → StepFault → Type 0
HasStepCause before now (OfRule rule) = ⊥
HasStepCause before now NoMemory = ⊤
HasStepCause before now DiskFault = Rose before now

-- the file stands for this history
abbrev pub StandsForHistory : List Entry → List ℕ → Type 0
StandsForHistory history file = IsJournalOf file (payloads_of history)

-- where the bytes are told, they and each image stand for this history, or where the journal is torn also for the one
-- that has the failed entry behind it
abbrev pub KeepsHistory : Option (List ℕ) → (List ℕ → Type 0) → Bool → List Entry → Entry → ℕ → Type 0
KeepsHistory told images torn history failed gate = Keeps told images torn (payloads_of history) (bytes_of failed) gate

-- what a crash during a step may be read as: the history from before, the one with the step's entries, or, where the
-- journal was torn, the one with the entry that had failed
abbrev pub MayStandFor : Bool → List Entry → Entry → List Entry → List ℕ → Type 0
MayStandFor torn history failed entries file =
    StandsForHistory history file ⊎ StandsForHistory (history ++ entries) file
    ⊎ ((torn ≡ true) × StandsForHistory (history ++ failed ∷ []) file)

-- where its disk tells, a hub keeps its history, and where it is torn perhaps this failed entry behind it
abbrev pub KeepsIn : {D : Type 0} {J : Ghosts D} → Hub D J → Entry → Type 0
KeepsIn {D} {J} hub failed =
    KeepsHistory (J.told hub.journal.disk.now) (J.may_leave hub.journal.disk.now)
    hub.journal.torn hub.state.history failed hub.journal.gate

-- where its disk tells, a crash leaves what reads give and nothing else
abbrev pub IsDurable : {D : Type 0} {J : Ghosts D} → Hub D J → Type 0
IsDurable {D} {J} hub = OnlyTold (J.told hub.journal.disk.now) (J.may_leave hub.journal.disk.now)

-- where its disk tells, a crash at any moment since the old one leaves a file that has P
abbrev pub LeavesSince : {D : Type 0} {J : Ghosts D} → Hub D J → Hub D J → (List ℕ → Type 0) → Type 0
LeavesSince {D} {J} old new P =
    IfSome (J.told old.journal.disk.now) (λ _. LeavesOnly J.moment J.left_since old.journal.disk.now
    new.journal.disk.now P)

-- where a disk tells, each file that a crash since the old one may leave is an image from then, or has P
abbrev pub NewImagesHave : {D : Type 0} → Ghosts D → D → D → (List ℕ → Type 0) → Type 0
NewImagesHave J old new P =
    IfSome (J.told old) (λ _. LeavesOnly J.moment J.left_since old new (λ c. J.may_leave old c ⊎ P c))

-- how often a call on its disk has failed
abbrev pub faults_of : {D : Type 0} {J : Ghosts D} → Hub D J → ℕ
faults_of {D} {J} hub = J.disk_faults hub.journal.disk.now
