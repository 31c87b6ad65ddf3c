-- One connection, read and answered.
use Rattle.std.proofs.Common.{◌≡◌, ℕ, Bool, List, Option, Result, Ok, Err, refl, sym, subst, ◌∙◌, ap}
use Rattle.fh_wire.specs.declared.fault.WireFault.{WireFault}
use Rattle.fh_wire.specs.declared.request.HttpIn.{HttpIn}
use Rattle.fh_wire.specs.Causes.{HasWriteCause}
use Rattle.fh_wire.specs.Written.{response_text, WritesResponse}
use Rattle.fh_sample.specs.Turns.{AnswersSample, Reads, Way, WritesSample, sample_body, way}

pub writes_sample : (was now : Way) (body : List ℕ) (sent : Result (Unit {0}) WireFault) → body ≡ sample_body
    → WritesResponse was.bytes now.bytes sent (response_text 200 body)
    → HasWriteCause was.faults now.faults was.sure now.sure sent → WritesSample was now sent
writes_sample was now body sent same writes cause = record {
  bytes = subst (λ (b : List ℕ). WritesResponse was.bytes now.bytes sent (response_text 200 b)) same writes;
  cause = cause;
}

-- a write leaves what a read would give
pub left_stays : {T : Type 0} (beside : T → Option (List ℕ) × ℕ × ℕ × Bool) (left : T → Option (List ℕ)) (most faults : T → ℕ) (sure : T → Bool)
    → ((x : T) → beside x ≡ (left x, most x, faults x, sure x)) → (old new : T) → beside new ≡ beside old
    → way (left new) (faults new) (sure new) ≡ way (left old) (faults old) (sure old)
left_stays beside left most faults sure keeps old new same =
    ap (λ (s : Option (List ℕ) × ℕ × ℕ × Bool). way s.0 s.2 s.3) (sym (keeps new) ∙ same ∙ keeps old)

-- a read leaves what was written
pub written_stays : {T : Type 0} (beside : T → Option (List ℕ) × ℕ × Bool) (written : T → Option (List ℕ)) (faults : T → ℕ) (sure : T → Bool)
    → ((x : T) → beside x ≡ (written x, faults x, sure x)) → (old new : T) → beside new ≡ beside old
    → way (written new) (faults new) (sure new) ≡ way (written old) (faults old) (sure old)
written_stays beside written faults sure keeps old new same =
    ap (λ (s : Option (List ℕ) × ℕ × Bool). way s.0 s.1 s.2) (sym (keeps new) ∙ same ∙ keeps old)

pub answered : (was_left mid_left left was_written mid_written written : Way) (request : HttpIn)
    (result : Result (Unit {0}) WireFault) → left ≡ mid_left → mid_written ≡ was_written
    → Reads was_left mid_left (Ok request) → WritesSample mid_written written result
    → AnswersSample was_left left was_written written result
answered was_left mid_left left was_written mid_written written request result same_left same_written reads writes = record {
  reading = Ok request;
  reads = rw same_left reads;
  responds = rw (← same_written) writes;
}

pub unanswered : (was_left left was_written written : Way) (fault : WireFault) → written ≡ was_written
    → Reads was_left left (Err fault) → AnswersSample was_left left was_written written (Err fault)
unanswered was_left left was_written written fault same reads = record {
  reading = Err fault;
  reads = reads;
  responds = (refl, same);
}
