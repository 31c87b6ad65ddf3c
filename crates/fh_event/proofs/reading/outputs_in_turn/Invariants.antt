use Rattle.std.proofs.Common.{◌≡◌, ◌-◌}
use Rattle.fh_event.specs.Reading.{outputs_in_turn}
use Rattle.fh_event.proofs.Turns.{behind}
use Rattle.fh_event.proofs.reading.outputs_in_turn.Given as goal

-- what was read, with what is still to be read
abbrev pub invariant-loop-turn : goal.invariant-loop-turn
invariant-loop-turn l =
    behind l.outputs.items (outputs_in_turn 2 (l.count - l.turn) l.rest) ≡ outputs_in_turn 2 l.fn.count l.fn.bytes
