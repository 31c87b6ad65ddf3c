-- Counts of faults, by which an answer "failed" has its cause.
use Rattle.std.specs.Prelude.{◌≡◌, ℕ, ◌+◌, ◌-◌, ◌^◌, ◌≤◌, min, Bool, true, Result, IsOk, IsErr}
use Rattle.fh_base.specs.declared.faults.Failed.{Failed}

-- the count rose, or it stands at the end of its type
abbrev pub Rose : ℕ → ℕ → Type 0
Rose before now = min (before + 1) (2 ^ 64 - 1) ≤ now

-- a count never falls; a call fails only where it rose, and passes only where it didn't
pub record HasCause {T : Type 0} (before now : ℕ) (result : Result T Failed) : Type 0 where
  pub later : before ≤ now
  pub failed : IsErr result → Rose before now
  pub passed : IsOk result → now ≡ before

-- where an object tells that no call on it fails, none does, and it goes on telling so
pub record KeepsSure {T : Type 0} (was is : Bool) (result : Result T Failed) : Type 0 where
  pub passes : was ≡ true → IsOk result
  pub stays : was ≡ true → is ≡ true
