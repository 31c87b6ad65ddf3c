-- No other response than that to a fault of the disk has status 503.
use Rattle.std.proofs.Common.{◌≡◌, ℕ, ◌==◌, Bool, true, false, List, Option, Some, None, Result, Ok, Err, refl, sym, ◌∙◌, ap}
use Rattle.fh_base.specs.declared.rule.Rule.{Rule}
use Rattle.fh_base.specs.declared.rule.Rule.TheVariants.{MomentTooLate}
use Rattle.fh_event.specs.declared.faults.StepFault.{StepFault}
use Rattle.fh_event.specs.declared.faults.StepFault.TheVariants as step
use Rattle.fh_event.specs.declared.reply.Reply.{Reply}
use Rattle.fh_event.specs.declared.reply.Reply.TheVariants.{Made}
use Rattle.fh_wire.specs.declared.fault.WireFault.{WireFault}
use Rattle.fh_wire.specs.declared.fault.WireFault.TheVariants.{BadHead}
use Rattle.fh_front.specs.declared.fault.FrontFault.{FrontFault}
use Rattle.fh_front.specs.declared.fault.FrontFault.TheVariants.{NoRoute}
use Rattle.fh_front.specs.Responses.{reply_status, rule_status, response_of, front_response, wire_response}
use Rattle.fh_runner.specs.Connections.{Course, Unread, Refused, Stopped, Turned, FailsAtTheDisk, response_in}

abbrev is_unavailable : Option (ℕ × List ℕ) → Bool
is_unavailable None = false
is_unavailable (Some response) = response.0 == 503

apart : false ≡ true → ⊥
apart same = absurd (cc)

of_reply : (reply : Reply) → (reply_status reply == 503) ≡ false
unfolding reply_status
of_reply Made = refl
of_reply other = refl

of_rule : (rule : Rule) → (rule_status rule == 503) ≡ false
of_rule MomentTooLate = refl
of_rule other = refl

of_front : (fault : FrontFault) → is_unavailable (Some (front_response fault)) ≡ false
of_front NoRoute = refl
of_front other = refl

of_wire : (fault : WireFault) → is_unavailable (wire_response fault) ≡ false
of_wire BadHead = refl
of_wire other = refl

of_answer : (answer : Result Reply StepFault) → is_unavailable (Some (response_of answer)) ≡ true
    → answer ≡ Err step.DiskFault
of_answer (Ok reply) same = absurd (apart (sym (of_reply reply) ∙ same))
of_answer (Err (step.Rule rule)) same = absurd (apart (sym (of_rule rule) ∙ same))
of_answer (Err step.NoMemory) same = absurd (apart same)
of_answer (Err step.DiskFault) same = refl

of_course : (course : Course) → is_unavailable (response_in course) ≡ true → FailsAtTheDisk course
of_course (Unread fault) same = apart (sym (of_wire fault) ∙ same)
of_course (Refused request fault) same = apart (sym (of_front fault) ∙ same)
of_course (Stopped request) same = apart same
of_course (Turned request turn) same = of_answer turn.answer same

pub comes_of_the_disk : (course : Course) (body : List ℕ) → response_in course ≡ Some (503, body) → FailsAtTheDisk course
comes_of_the_disk course body same = of_course course (ap is_unavailable same)
