use Rattle.fh_journal.proofs.journal.Journal.mount.Goals as goal

pub returns-in-Ok-clause-same_journal : goal.returns-in-Ok-clause-same_journal
returns-in-Ok-clause-same_journal g c payloads = rw c.over.ensures.disk (c.prepare.ensures.same_journal payloads)
