-- The text that was put together is a name, and reading it gives it back.
use Rattle.std.proofs.Common.{◌∙◌, sym}
use Rattle.fh_base.specs.Poison.{poison_ending}
use Rattle.fh_base.proofs.PoisonNames.{put_in, answers}
use Rattle.fh_base.proofs.poison.poison_of.Goals as goal

pub returns : goal.returns
returns c =
    rw (← c.as_bytes-name.ensures.text)
    (answers c.as_bytes-name.result.now _ c.of_bytes.result c.if-name-gt-MOST.false
    (sym c.ends_with.ensures.value ∙ c.if-ends_with.false)
    c.as_bytes-name.ensures.name
    (put_in c.as_bytes-name.result.now poison_ending _ c.put_at.new.text c.put_at-2.new.text c.put_at.ensures
    c.put_at-2.ensures)
    c.of_bytes.ensures)
