-- How an invocation ends.
use Rattle.std.specs.Prelude.{ℕ, List, [], ◌∷◌, Option, Some, None}
use Rattle.fh_base.specs.Limits.{seconds_of_week}
use Rattle.fh_base.specs.Rules.{rule_number}
use Rattle.fh_base.specs.declared.rule.Rule.{Rule}
use Rattle.fh_base.specs.declared.rule.Rule.TheVariants.{NoSuchInvocation}
use Rattle.fh_event.specs.declared.outcome.Outcome.{Outcome}
use Rattle.fh_event.specs.declared.outcome.Outcome.TheVariants.{Failed, Done}
use Rattle.fh_event.specs.declared.outcome.Output.{Output}
use Rattle.fh_event.specs.declared.reply.Reply.{Reply}
use Rattle.fh_event.specs.declared.reply.Reply.TheVariants as replies
use Rattle.fh_queues.specs.declared.held.HeldMessage.{HeldMessage}
use Rattle.fh_queues.specs.declared.row.Message.{Message as Row}
use Rattle.fh_queues.specs.Asks as queues
use Rattle.fh_queues.specs.Outcome.{after}
use Rattle.fh_blobs.specs.Asks as blobs
use Rattle.fh_leases.specs.declared.lease.Lease.{Lease}
use Rattle.fh_leases.specs.Asks as leases
use Rattle.fh_dispatch.specs.declared.act.Act.TheVariants.{EndRunning}
use Rattle.fh_dispatch.specs.declared.ready.Job.{Job}
use Rattle.fh_dispatch.specs.declared.ready.Job.TheVariants.{Message, Timer}
use Rattle.fh_dispatch.specs.declared.running.Running.{Running}
use Rattle.fh_dispatch.specs.declared.terms.Terms.{Terms}
use Rattle.fh_dispatch.specs.Part.{WorkPart, Others}
use Rattle.fh_dispatch.specs.Invocations.{run_of}
use Rattle.fh_dispatch.specs.Terms.{terms_in, poison_from, lease_name}
use Rattle.fh_dispatch.specs.Holds.{held_row, lease_held}
use Rattle.fh_dispatch.specs.Outputs.{outcome_rule, outputs_rule, blobs_of}
use Rattle.fh_dispatch.specs.Rules.{range_rule}
use Rattle.fh_dispatch.specs.Rulings.{Ruling, Refused, Changed}

-- a lease goes whose last holder the invocation is
abbrev pub freeing : Running → Option Lease → Option leases.Ask
freeing run None = None
freeing run (Some lease) = Some (leases.Release (lease_name run.name) run.invocation)

-- the invocation ends, and so does its lease
abbrev pub ending : Others → Running → Option queues.Ask → Option blobs.Ask → Reply → Ruling
ending others run of_queues of_blobs told = Changed (record {
  queues = of_queues;
  blobs = of_blobs;
  leases = freeing run (lease_held others.leases run.name run.invocation);
  acts = EndRunning run.invocation ∷ [];
  told = told;
})

-- the outputs are stored, and the message is removed
abbrev pub storing : Others → Running → Option HeldMessage → List Output → Ruling
storing others run message outputs =
    ending others run (Some (queues.Complete run.invocation message outputs))
    (Some (blobs.PutAll (blobs_of outputs))) replies.JobDone

-- the rule that a success breaks, or that it is none
pub data Verdict : Type 0 where
  Succeeded : List Output → Verdict
  Broken : Option ℕ → Verdict

abbrev pub unless_broken : Option Rule → List Output → Verdict
unless_broken None outputs = Succeeded outputs
unless_broken (Some rule) outputs = Broken (Some (rule_number rule))

-- a success stores its outputs where they keep the rules
abbrev pub verdict_of : Others → ℕ → Option HeldMessage → Outcome → Verdict
verdict_of others m message (Done outputs) =
    unless_broken (outputs_rule others.queues m message outputs) outputs
verdict_of others m message (Failed cause) = Broken None

abbrev pub unless_refused : Option Rule → Ruling → Ruling
unless_refused None ruling = ruling
unless_refused (Some rule) ruling = Refused rule

-- a message that failed too often is moved
abbrev pub moving : Others → Running → HeldMessage → Option ℕ → List ℕ → Ruling
moving others run message broken queue =
    ending others run (Some (queues.Poison message queue)) None
    (replies.JobPoisoned others.queues.next_number broken)

-- another one is released, unless its delay is more than a week, which the queues refuse too
abbrev pub releasing : Others → ℕ → ℕ → Running → HeldMessage → Option ℕ → Ruling
releasing others m retry run message broken =
    unless_refused (range_rule retry 0 seconds_of_week)
    (ending others run (Some (queues.Release message retry)) None (replies.JobReleased (after m retry) broken))

abbrev pub failing_to : Others → ℕ → Terms → Running → HeldMessage → Option ℕ → Option (List ℕ) → Ruling
failing_to others m terms run message broken (Some queue) = moving others run message broken queue
failing_to others m terms run message broken None = releasing others m terms.retry run message broken

abbrev pub held_as : Row → HeldMessage
held_as row = record { number = row.number; receipt = row.receipt }

abbrev pub finishing_by : Others → ℕ → Terms → Running → Row → Verdict → Ruling
finishing_by others m terms run row (Succeeded outputs) = storing others run (Some (held_as row)) outputs
finishing_by others m terms run row (Broken broken) =
    failing_to others m terms run (held_as row) broken (poison_from terms row.count)

-- a message that isn't held for the invocation any more is lost
abbrev pub finishing_row : Others → ℕ → Terms → Running → Outcome → Option Row → Ruling
finishing_row others m terms run outcome None = ending others run None None replies.JobLost
finishing_row others m terms run outcome (Some row) =
    finishing_by others m terms run row (verdict_of others m (Some (held_as row)) outcome)

abbrev pub finishing_timer : Others → Running → Verdict → Ruling
finishing_timer others run (Succeeded outputs) = storing others run None outputs
finishing_timer others run (Broken broken) = ending others run None None (replies.JobFailed broken)

abbrev pub finishing_job : WorkPart → Others → ℕ → Running → Outcome → Job → Ruling
finishing_job part others m run outcome (Message number receipt) =
    finishing_row others m (terms_in part run.name) run outcome (held_row others.queues number receipt m)
finishing_job part others m run outcome (Timer timer) =
    finishing_timer others run (verdict_of others m None outcome)

abbrev pub finishing_run : WorkPart → Others → ℕ → Outcome → Option Running → Ruling
finishing_run part others m outcome None = Refused NoSuchInvocation
finishing_run part others m outcome (Some run) = finishing_job part others m run outcome run.job

-- the invocation of this number comes to this outcome
unfoldable pub finish_of : WorkPart → Others → ℕ → Outcome → ℕ → Ruling
finish_of part others invocation outcome m =
    unless_refused (outcome_rule outcome)
    (finishing_run part others m outcome (run_of invocation part.running))
