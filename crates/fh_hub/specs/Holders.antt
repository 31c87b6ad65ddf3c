-- Who holds a lease, by the events of a trace and a moment.
use Rattle.std.specs.Prelude.{◌≡◌, ℕ, Bool, true, false, ◌↔◌, if◌then◌else◌, List, fold, Option, Some, None}
use Rattle.fh_event.specs.declared.command.Command.{Command}
use Rattle.fh_event.specs.declared.command.Command.TheVariants.{Acquire, RenewLease, ReleaseLease}
use Rattle.fh_event.specs.declared.reply.Reply.{Reply}
use Rattle.fh_event.specs.declared.reply.Reply.TheVariants.{Acquired, Renewed}
use Rattle.fh_leases.specs.Laws.{is_of}
use Rattle.fh_leases.specs.Part.{holder_at}
use Rattle.fh_hub.specs.Replay.{Entry, Event, trace, replay}
use Rattle.fh_hub.specs.Places.{ends_after}

-- until when lease x is granted to holder h, where it is
abbrev pub granted_by : List ℕ → ℕ → Command → Reply → Option ℕ
granted_by x h (Acquire lease holder seconds) (Acquired until) = if is_of lease holder x h then Some until else None
granted_by x h (RenewLease lease holder) (Renewed until) = if is_of lease holder x h then Some until else None
granted_by x h command reply = None

-- lease x is taken from holder h
abbrev pub is_taken_by : List ℕ → ℕ → Command → Bool
is_taken_by x h (ReleaseLease lease holder) = is_of lease holder x h
is_taken_by x h command = false

-- the second, where there is one
abbrev pub newer : Option ℕ → Option ℕ → Option ℕ
newer old None = old
newer old (Some end) = Some end

abbrev pub unless_taken : Bool → Option ℕ → Option ℕ
unless_taken true grant = None
unless_taken false grant = grant

-- the end of the last grant of lease x to holder h, where nothing behind it took the lease away
abbrev pub last_grant : List ℕ → ℕ → List Event → Option ℕ
last_grant x h events =
    fold (λ grant e. unless_taken (is_taken_by x h e.command) (newer grant (granted_by x h e.command e.reply)))
    None events

-- h holds lease x at t
abbrev pub holds : List ℕ → ℕ → List Event → ℕ → Bool
holds x h events t = ends_after t (last_grant x h events)

-- two that hold the lease are one, and the leases tell the holder and the end of the last grant
pub record IsHeldByOne (history : List Entry) (x : List ℕ) (t : ℕ) : Type 0 where
  pub one :
      (h k : ℕ) → holds x h (trace history) t ≡ true → holds x k (trace history) t ≡ true → h ≡ k
  pub told :
      (h end : ℕ)
      → (holder_at (replay history).parts.leases x t ≡ Some (h, end))
      ↔ ((holds x h (trace history) t ≡ true) × (last_grant x h (trace history) ≡ Some end))
