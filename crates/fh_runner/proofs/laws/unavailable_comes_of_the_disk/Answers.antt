use Rattle.fh_runner.proofs.Unavailable.{comes_of_the_disk}
use Rattle.fh_runner.proofs.laws.unavailable_comes_of_the_disk.Goals as goal

pub returns : goal.returns
returns c = comes_of_the_disk
