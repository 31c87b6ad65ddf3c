-- How far the counters are from their ends.
use Rattle.std.proofs.Common.{◌≡◌, ℕ, ◌+◌, ◌*◌, ◌≤◌, Bool, true, false, Some, None, refl, sym, subst, arith}
use Rattle.std.specs.Prelude.{nat_lt, if◌then◌else◌}
use Rattle.std.proofs.Math.Nat.{add-mul}
use Rattle.std.proofs.lemmas.Nat.{mul-le}
use Rattle.std.proofs.lemmas.Bool.Decides.{nat_tests}
use Rattle.fh_journal.specs.Journal.{gate_behind, full_at, most_bytes}
use Rattle.fh_event.specs.declared.command.Command.{Command}
use Rattle.fh_event.specs.declared.command.Command.TheVariants.{PutBlob, Note, Arm, Tick}
use Rattle.fh_blobs.specs.Asks as blob_asks
use Rattle.fh_blobs.specs.Laws.{new_versions}
use Rattle.fh_blobs.proofs.Lawful.{moves_versions}
use Rattle.fh_hub.specs.Asked.{blob_ask_in, asks_in}
use Rattle.fh_dispatch.proofs.Lawful.{moves_numbers}
use Rattle.fh_hub.specs.Stores.{Parts, Asks, Done, others_of, asked_queues, asked_blobs}
use Rattle.fh_hub.specs.StoreEdits.{HasNumbers, IsOutcome, parts_of}
use Rattle.fh_hub.proofs.Outcomes.{all_make}
use Rattle.fh_event.specs.Judging.{Makes}
use Rattle.fh_dispatch.specs.Outcome as work_outcome
use Rattle.fh_hub.proofs.Plain.{is_plain, plain_asked}
use Rattle.fh_hub.proofs.Steps.{asks_as_told, asked_of_queues, asked_of_blobs}
use Rattle.fh_hub.specs.State.{HubState, IsBounded}

-- a gate that has gone on by a frame leaves room for as many receipts as one ask gives
pub receipts_within : (gate size receipt after : ℕ) → 6 ≤ gate → receipt ≤ gate * gate → after ≤ receipt + 32
    → after ≤ gate_behind gate size * gate_behind gate size
receipts_within gate size receipt after begins was more =
    let wide = mul-le (gate + 5) (gate + 5) (gate + 5 + size) (gate + 5 + size) (omega arith) (omega arith) in
    let parts = add-mul gate 5 (gate + 5) in
    let square = mul-le gate gate gate (gate + 5) (omega arith) (omega arith) in
    omega (arith, wide, parts, square, was, more, begins)

pub has_numbers : (s : HubState) → IsBounded s → HasNumbers (parts_of s.stores)
has_numbers s bounded =
    let square = mul-le s.gate s.gate most_bytes most_bytes bounded.within bounded.within in
    record {
      queues = (omega (arith, bounded.number, bounded.within), omega (arith, bounded.receipt, square));
      blobs = omega (arith, bounded.version, bounded.within);
      work = (
        omega (arith, bounded.function, bounded.within),
        omega (arith, bounded.invocation, bounded.within),
        omega (arith, bounded.session, bounded.within),
      );
    }

-- no command takes more than one version
few_versions : (parts : Parts) (command : Command) (m : ℕ) → new_versions (blob_ask_in parts command) ≤ 1
few_versions parts (PutBlob container blob text) m = omega arith
few_versions parts (Note function container blob) m = omega arith
few_versions parts (Arm function) m = omega arith
few_versions parts (Tick function) m = omega arith
few_versions parts command m = omega arith

-- a version more stays within a gate that has gone on
pub versions_within : (parts after : Parts) (done : Done) (gate size : ℕ) → IsOutcome parts after done
    → parts.blobs.next_version ≤ gate
    → after.blobs.next_version ≤ gate_behind gate size
versions_within parts after done gate size is within =
    let told = asks_as_told parts is.command is.moment is.asks is.asked in
    let did = (all_make parts is.asks is.moment after done is.is).blobs in
    let asked = asked_blobs parts is.asks is.moment in
    let moves = moves_versions parts.blobs asked is.moment after.blobs done.blobs did in
    let few : new_versions asked ≤ 1 = subst (λ (a : Asks). new_versions (asked_blobs parts a is.moment) ≤ 1) (sym told)
    (subst (λ (a : blob_asks.Ask). new_versions a ≤ 1) (sym (asked_of_blobs parts is.command is.moment))
    (few_versions parts is.command is.moment)) in
    omega (arith, moves, few, within)

-- what was asked of the queues is plain
pub plain_outcome : (parts after : Parts) (done : Done) (is : IsOutcome parts after done)
    → is_plain (asked_queues parts is.asks is.moment) ≡ true
plain_outcome parts after done is =
    let told = asks_as_told parts is.command is.moment is.asks is.asked in
    let did = (all_make parts is.asks is.moment after done is.is).work in
    let made = subst (λ (a : Asks). work_outcome.outcome parts.work (others_of parts) a.work is.moment
    ≡ Makes after.work done.work) told did in
    subst (λ (a : Asks). is_plain (asked_queues parts a is.moment) ≡ true) (sym told)
    (plain_asked parts is.command (asked_queues parts (asks_in parts is.command is.moment) is.moment)
    (asked_of_queues parts is.command is.moment after.work done.work made))

-- a function, an invocation and a session more stay within it
pub record WorksWithin (after : Parts) (gate size : ℕ) : Type 0 where
  pub functions : after.work.next_function ≤ gate_behind gate size
  pub invocations : after.work.next_invocation ≤ gate_behind gate size
  pub sessions : after.work.session ≤ gate_behind gate size

pub works_within : (parts after : Parts) (done : Done) (gate size : ℕ) → IsOutcome parts after done
    → parts.work.next_function ≤ gate
    → parts.work.next_invocation ≤ gate
    → parts.work.session ≤ gate → WorksWithin after gate size
works_within parts after done gate size is functions invocations sessions =
    let moves = moves_numbers parts.work (others_of parts) is.asks.work is.moment after.work done.work
    (all_make parts is.asks is.moment after done is.is).work in
    record {
      functions = omega (arith, moves.0, functions);
      invocations = omega (arith, moves.1, invocations);
      sessions = omega (arith, moves.2, sessions);
    }

-- the gate stands behind the header
pub begins : (s : HubState) → IsBounded s → 6 ≤ s.gate
begins s bounded = omega (arith, bounded.place)

-- where the journal has room the gate behind the entry is within its bytes
pub goes_within : (gate size : ℕ) → full_at gate size ≡ None → gate_behind gate size ≤ most_bytes
goes_within gate size room = by_test (nat_lt most_bytes (gate + 6 + size)) refl room
  where
    by_test : (full : Bool) → nat_lt most_bytes (gate + 6 + size) ≡ full → (if full then Some gate else None) ≡ None
        → gate_behind gate size ≤ most_bytes
    by_test true test is = absurd (cc)
    by_test false test is = grind (arith, nat_tests, test)
