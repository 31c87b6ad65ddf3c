use Rattle.std.proofs.Common.{◌≡◌, ◌≤◌, option_copied}
use Rattle.fh_ncrontab.specs.Pieces.{words_left, length_left}
use Rattle.fh_ncrontab.proofs.text.first_word.Given as goal

abbrev pub invariant-loop-rest : goal.invariant-loop-rest
invariant-loop-rest l =
    (words_left (option_copied l.fn.text) ≡ words_left (option_copied l.rest))
    × (length_left (option_copied l.rest) ≤ length_left (option_copied l.fn.text))

abbrev pub decreases-loop-rest : goal.decreases-loop-rest
decreases-loop-rest l = length_left (option_copied l.rest)
