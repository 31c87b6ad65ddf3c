-- Which calls on an object in memory are to fail.
use Rattle.std.specs.Prelude.{ℕ, ◌+◌, ◌-◌, ◌^◌, ◌==◌, max, min, nat_lt, Bool, false, if◌then◌else◌, length}
use Rattle.std.specs.List.{list_any}
use Rattle.fh_base.specs.declared.fault_plan.Failing.{Failing}
use Rattle.fh_base.specs.declared.fault_plan.Failing.TheVariants.{Listed, After}
use Rattle.fh_base.specs.declared.fault_plan.FaultPlan.{FaultPlan}

-- the call of this number, counted from 1, is to fail
abbrev pub is_to_fail : Failing → ℕ → Bool
is_to_fail (Listed calls) call = list_any (λ k. k == call) calls.items
is_to_fail (After passed) call = nat_lt passed call

abbrev pub names_none : Failing → Bool
names_none (Listed calls) = length calls.items == 0
names_none (After passed) = false

-- no call is to fail
abbrev pub never_fails : FaultPlan → Bool
never_fails plan = names_none plan.failing

-- one more, up to the end of the type
abbrev pub raised : ℕ → ℕ
raised count = max count (min (count + 1) (2 ^ 64 - 1))

-- the next call is to fail
abbrev pub fails_next : FaultPlan → Bool
fails_next plan = is_to_fail plan.failing (raised plan.calls)

-- the plan once the next call was counted
abbrev pub counted : FaultPlan → FaultPlan
counted plan = record plan {
  calls = raised plan.calls;
  faults = if fails_next plan then raised plan.faults else plan.faults;
}

-- the plan after a call that failed or not
abbrev pub called : Bool → FaultPlan → FaultPlan
called failed plan = record plan {
  calls = raised plan.calls;
  faults = if failed then raised plan.faults else plan.faults;
}
