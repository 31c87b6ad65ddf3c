use Rattle.std.proofs.Common.{◌≡◌, ◌<◌, length, [], slice_index_or, option_copied}
use Rattle.fh_ncrontab.specs.Texts.{words}
use Rattle.fh_ncrontab.specs.Pieces.{words_left, length_left}
use Rattle.fh_ncrontab.proofs.text.word.Given as goal

abbrev pub invariant-loop-word : goal.invariant-loop-word
invariant-loop-word l =
    (l.before < length (words_left (option_copied l.rest)))
    × (slice_index_or (words_left (option_copied l.rest)) l.before [] ≡ slice_index_or (words l.text) l.fn.index [])

abbrev pub decreases-loop-word : goal.decreases-loop-word
decreases-loop-word l = length_left (option_copied l.rest)
