use Rattle.std.proofs.Common.{◌∙◌, sym, refl}
use Rattle.fh_invoke.proofs.outcome.measured.Goals as goal

pub returns-then-fits : goal.returns-then-fits
returns-then-fits c = rw (sym c.fits.ensures ∙ c.if-fits.true) (c.take_outcome.ensures _ _ refl)
