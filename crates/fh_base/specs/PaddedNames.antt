-- A name as an array with zeros behind it, of a width that no name passes.
use Rattle.std.specs.Prelude.{◌≡◌, ℕ, ◌-◌, ◌≤◌, List, length, take, drop, ◌++◌, replicate, Bool, true}
use Rattle.std.proofs.Common.{arith, length-take}
use Rattle.std.proofs.lemmas.List.{take-append-drop}

abbrev pub padding : ℕ → List ℕ → List ℕ
padding width text = text ++ replicate (width - length text) 0

-- the first bytes of the array are a name, and zeros stand behind them
pub record IsPadded (width : ℕ) (is_name : List ℕ → Bool) (bytes : List ℕ) (size : ℕ) : Type 0 where
  pub short : size ≤ width
  pub sized : length bytes ≡ width
  pub name : is_name (take size bytes) ≡ true
  pub zeros : drop size bytes ≡ replicate (width - size) 0

pub length-name : (width size : ℕ) (bytes : List ℕ) → size ≤ width → length bytes ≡ width
    → length (take size bytes) ≡ size
length-name width size bytes short sized = omega (arith, length-take size bytes)

pub padding-name : (width size : ℕ) (bytes : List ℕ) → size ≤ width → length bytes ≡ width
    → drop size bytes ≡ replicate (width - size) 0 → padding width (take size bytes) ≡ bytes
padding-name width size bytes short sized zeros =
    rw (length-name width size bytes short sized, ← zeros) (take-append-drop size bytes)
