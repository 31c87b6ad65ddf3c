use Rattle.fh_event.proofs.Extending.{on_and_on, whatever}
use Rattle.fh_event.proofs.writing.put_settings_fields.Goals as goal

-- the last of the numbers stands behind more than a search joins
pub returns-in_err-put_number-in-Queue-5-clause-err :
    goal.returns-in_err-put_number-in-Queue-5-clause-err
returns-in_err-put_number-in-Queue-5-clause-err c =
    let first = on_and_on _ _ _ c.put_text.ensures.grows c.put_number.ensures.grows in
    let second = on_and_on _ _ _ c.put_number-in-Queue.ensures.grows c.put_number-in-Queue-2.ensures.grows in
    let third = on_and_on _ _ _ c.put_number-in-Queue-3.ensures.grows c.put_number-in-Queue-4.ensures.grows in
    whatever _ _ (on_and_on _ _ _ first (on_and_on _ _ _ second third))
