-- How many of the bytes behind a head are its body.
use Rattle.std.specs.Prelude.{ℕ, ◌+◌, nat_lt, if◌then◌else◌, List, length, take, unwrap_or, Result, Ok, Err}
use Rattle.fh_base.specs.Limits.{longest_message}
use Rattle.fh_wire.specs.declared.fault.WireFault.{WireFault}
use Rattle.fh_wire.specs.declared.fault.WireFault.TheVariants.{TooLong, Cut}
use Rattle.fh_wire.specs.declared.fields.Framing.{Framing}
use Rattle.fh_wire.specs.Fields.{stated}

-- the rest is read only where this was
infixl 10 ◌>>=◌
abbrev pub ◌>>=◌ : {A B : Type 0} → Result A WireFault → (A → Result B WireFault) → Result B WireFault
(Ok x) >>= f = f x
(Err fault) >>= f = Err fault

-- the bytes, of which there are so many, end before the head does
abbrev pub unfinished : ℕ → WireFault
unfinished got = if nat_lt longest_message got then TooLong else Cut got 0

-- a body of so many bytes has room behind a head of this length
abbrev pub fitting : ℕ → ℕ → Result ℕ WireFault
fitting head needed = if nat_lt longest_message (head + needed) then Err TooLong else Ok needed

-- how many bytes are needed behind a request's head: those that are stated, or none
abbrev pub request_needs : Framing → ℕ → Result ℕ WireFault
request_needs fields head = stated fields >>= λ given. fitting head (unwrap_or given 0)

-- how many are needed behind a response's head: those that are stated, or all that came
abbrev pub response_needs : Framing → ℕ → ℕ → Result ℕ WireFault
response_needs fields head got =
    stated fields >>= λ given.
    if nat_lt longest_message (head + got) then Err TooLong else fitting head (unwrap_or given got)

-- the body: so many of the bytes behind a head
abbrev pub body_of : ℕ → List ℕ → Result (List ℕ) WireFault
body_of needed rest =
    if nat_lt (length rest) needed then Err (Cut (length rest) needed) else Ok (take needed rest)
