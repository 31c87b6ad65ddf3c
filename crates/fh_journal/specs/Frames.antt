-- The frames of a journal as values, with the place of each.
use Rattle.std.specs.Prelude.{ℕ, List, [], ◌∷◌, length, map}
use Rattle.fh_journal.specs.Journal.{gate_behind}
use Rattle.fh_journal.specs.declared.frames.Frame.{Frame}

abbrev pub payloads_of : List Frame → List (List ℕ)
payloads_of frames = map (λ frame. frame.payload) frames

-- a frame for each payload, of which the first has its gate at this place and each next one follows
abbrev pub frames_from : ℕ → List (List ℕ) → List Frame
frames_from at [] = []
frames_from at (payload ∷ payloads) = record { at = at; payload = payload } ∷ frames_from
    (gate_behind at (length payload)) payloads
