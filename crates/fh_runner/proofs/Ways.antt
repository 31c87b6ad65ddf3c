-- The four ways of a connection.
use Rattle.std.proofs.Common.{◌≡◌, ℕ, Bool, List, [], Option, Some, Result, Ok, Err, refl, sym, ◌∙◌, ap}
use Rattle.fh_event.specs.declared.command.Command.{Command}
use Rattle.fh_wire.specs.declared.fault.WireFault.{WireFault}
use Rattle.fh_wire.specs.declared.request.HttpIn.{HttpIn}
use Rattle.fh_wire.specs.Causes.{HasWriteCause}
use Rattle.fh_wire.specs.Written.{response_text, WritesResponse}
use Rattle.fh_front.specs.declared.commands.FrontAsk.{FrontAsk}
use Rattle.fh_front.specs.declared.commands.FrontAsk.TheVariants as ask
use Rattle.fh_front.specs.declared.fault.FrontFault.{FrontFault}
use Rattle.fh_front.specs.Answers.{Answers as Gives}
use Rattle.fh_front.specs.Commands.{command_of}
use Rattle.fh_front.specs.Responses.{front_response, wire_response}
use Rattle.fh_hub.specs.Turns.{Turn}
use Rattle.fh_runner.specs.declared.front_end.FrontEnd.{FrontEnd}
use Rattle.fh_runner.specs.declared.front_end.FrontEnd.TheVariants.{Stop, Fault}
use Rattle.fh_runner.specs.Connections.{Unread, Refused, Stopped, Turned, stop_response, end_of}
use Rattle.fh_runner.specs.Serving.{Way, way, Reads, Writes, Answers, AnswersRequest, Turns, Serves}

-- a response is a pair
pub as_pair : (was now : Way) (status : ℕ) (body items : List ℕ) (response : ℕ × List ℕ) (sent : Result (Unit {0}) WireFault)
    → (status, items) ≡ response → body ≡ items → WritesResponse was.bytes now.bytes sent (response_text status body)
    → HasWriteCause was.faults now.faults was.sure now.sure sent → Writes was now (Some response) sent
as_pair was now status body items response sent pair same writes cause =
    record { bytes = rw (← pair, ← same) writes; cause = cause }

-- a write leaves what a read would give
pub left_stays : {T : Type 0} (beside : T → Option (List ℕ) × ℕ × ℕ × Bool) (left : T → Option (List ℕ)) (most faults : T → ℕ) (sure : T → Bool)
    → ((x : T) → beside x ≡ (left x, most x, faults x, sure x)) → (old new : T) → beside new ≡ beside old
    → way (left new) (faults new) (sure new) ≡ way (left old) (faults old) (sure old)
left_stays beside left most faults sure keeps old new same =
    ap (λ (s : Option (List ℕ) × ℕ × ℕ × Bool). way s.0 s.2 s.3) (sym (keeps new) ∙ same ∙ keeps old)

-- a read leaves what was written
pub written_stays : {T : Type 0} (beside : T → Option (List ℕ) × ℕ × Bool) (written : T → Option (List ℕ)) (faults : T → ℕ) (sure : T → Bool)
    → ((x : T) → beside x ≡ (written x, faults x, sure x)) → (old new : T) → beside new ≡ beside old
    → way (written new) (faults new) (sure new) ≡ way (written old) (faults old) (sure old)
written_stays beside written faults sure keeps old new same =
    ap (λ (s : Option (List ℕ) × ℕ × Bool). way s.0 s.1 s.2) (sym (keeps new) ∙ same ∙ keeps old)

module _ {C : Type 0} (made : C → List Turn → C → Type 0) (faults : C → ℕ) where
  pub turned : (old new : C) (was written : Way) (request : HttpIn) (asked : FrontAsk) (command : Command) (now : ℕ) (ends : FrontEnd)
      → command_of request ≡ Ok asked → asked ≡ ask.Ask command → Turns made faults old new was written command now ends
      → AnswersRequest made faults old new was written request now ends
  turned old new was written request asked command now ends asks is turns = record {
    course = Turned request turns.turn;
    sent = turns.sent;
    is = refl;
    goes = (asks ∙ ap (λ (a : FrontAsk). Ok a) (is ∙ ap (λ (c : Command). ask.Ask c) (sym turns.command_is)), turns.moment_is);
    answers = record { makes = turns.makes; counts = (turns.count, turns.cause); writes = turns.writes };
    end_is = turns.end_is;
  }

  module _ (stays : (x : C) → made x [] x) (old : C) where
    pub stopped : (was written : Way) (request : HttpIn) (asked : FrontAsk) (now : ℕ) (sent : Result (Unit {0}) WireFault)
        → command_of request ≡ Ok asked → asked ≡ ask.Stop → Writes was written (Some stop_response) sent
        → AnswersRequest made faults old old was written request now Stop
    stopped was written request asked now sent asks is writes = record {
      course = Stopped request;
      sent = sent;
      is = refl;
      goes = asks ∙ ap (λ (a : FrontAsk). Ok a) is;
      answers = record { makes = stays old; counts = refl; writes = writes };
      end_is = refl;
    }

    pub refused : (was written : Way) (request : HttpIn) (now : ℕ) (fault : FrontFault) (sent : Result (Unit {0}) WireFault)
        (ends : FrontEnd) → Gives {T = FrontAsk} (Err fault) (command_of request)
        → Writes was written (Some (front_response fault)) sent → ends ≡ end_of sent
        → AnswersRequest made faults old old was written request now ends
    refused was written request now fault sent ends gives writes end_is = record {
      course = Refused request fault;
      sent = sent;
      is = refl;
      goes = gives;
      answers = record { makes = stays old; counts = refl; writes = writes };
      end_is = end_is;
    }

    pub unread : (was_left mid_left left was_written mid_written written : Way) (now : ℕ) (fault : WireFault)
        (sent : Result (Unit {0}) WireFault) → left ≡ mid_left → mid_written ≡ was_written
        → Reads was_left mid_left (Err fault) → Writes mid_written written (wire_response fault) sent
        → Serves made faults old old was_left left was_written written now (Fault fault)
    unread was_left mid_left left was_written mid_written written now fault sent same_left same_written reads writes = record {
      course = Unread fault;
      sent = sent;
      reads = rw same_left reads;
      goes = tt;
      answers = record { makes = stays old; counts = refl; writes = rw (← same_written) writes };
      end_is = refl;
    }

  pub serves : (old new : C) (was_left mid_left left was_written mid_written written : Way) (request : HttpIn) (now : ℕ) (ends : FrontEnd)
      → left ≡ mid_left → mid_written ≡ was_written → Reads was_left mid_left (Ok request)
      → AnswersRequest made faults old new mid_written written request now ends
      → Serves made faults old new was_left left was_written written now ends
  serves old new was_left mid_left left was_written mid_written written request now ends same_left same_written reads answered = record {
    course = answered.course;
    sent = answered.sent;
    reads = rw (same_left, answered.is) reads;
    goes = answered.goes;
    answers = rw (← same_written) answered.answers;
    end_is = answered.end_is;
  }
