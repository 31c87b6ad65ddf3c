use Rattle.fh_journal.proofs.Readings.{stands_once, journal_once, broken_journal, breaks_once, foreign_journal, foreign_breaks}
use Rattle.fh_journal.proofs.laws.files_have_one_reading.Goals as goal

pub returns : goal.returns
returns c = record {
  stands = stands_once;
  journal = journal_once;
  broken = broken_journal;
  breaks = breaks_once;
  foreign = foreign_journal;
  headed = foreign_breaks;
}
