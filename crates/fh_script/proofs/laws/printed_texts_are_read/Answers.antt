use Rattle.std.proofs.Common.{arith}
use Rattle.std.proofs.lemmas.List.Elements.{All-from_get_or}
use Rattle.percent_encoding.proofs.PercentLemmas.{IsByte}
use Rattle.fh_script.proofs.Printing.{one_word, read_again}
use Rattle.fh_script.proofs.laws.printed_texts_are_read.Goals as goal

pub returns-clause-word : goal.returns-clause-word
returns-clause-word c = one_word c.args.text.now

pub returns-clause-text : goal.returns-clause-text
returns-clause-text c =
    read_again c.args.text.now
    (All-from_get_or IsByte c.args.text.now 0 (λ i within. omega (arith, c.type_inv.text i))) c.utf8.text
