-- The words of the sample worker's command.
use Rattle.std.specs.Prelude.{ℕ, nat_le, ◌&&◌, Bool, if◌then◌else◌, List, [], ◌∷◌, codes, string_bytes, Option, Some, None}
use Rattle.std.specs.Str.{bytes_eq}
use Rattle.std.specs.declared.string.String.{String}
use Rattle.std.specs.declared.alloc.Global.{Global}
use Rattle.fh_base.specs.Numbers.{number_of}
use Rattle.fh_sample.specs.declared.words.Trial.{Trial}

abbrev pub is_port : ℕ → Bool
is_port number = nat_le 1024 number && nat_le number 65519

-- so many rounds at this port
abbrev pub trial_at : Option ℕ → Option ℕ → Option Trial
trial_at (Some port) (Some rounds) = if is_port port then Some (record { port = port; rounds = rounds }) else None
trial_at _ _ = None

-- `sample-worker <port> <rounds>`
abbrev pub trial_of : List (String Global) → Option Trial
trial_of (verb ∷ port ∷ rounds ∷ []) =
    if bytes_eq (string_bytes verb) (codes "sample-worker")
    then trial_at (number_of (string_bytes port)) (number_of (string_bytes rounds))
    else None
trial_of _ = None
