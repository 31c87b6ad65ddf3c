use Rattle.std.proofs.Common.{◌≡◌, ◌+◌, ◌≤◌, length, option_copied}
use Rattle.fh_ncrontab.specs.Texts.{words}
use Rattle.fh_ncrontab.specs.Pieces.{words_left, length_left}
use Rattle.fh_ncrontab.proofs.text.count_words.Given as goal

abbrev pub invariant-loop-after : goal.invariant-loop-after
invariant-loop-after l =
    (l.count + length (words_left (option_copied l.rest)) ≡ length (words l.text))
    × (l.count + length_left (option_copied l.rest) ≤ length l.text + 1)

abbrev pub decreases-loop-after : goal.decreases-loop-after
decreases-loop-after l = length_left (option_copied l.rest)
