use Rattle.fh_hub.proofs.Histories.{one_history, broken_history, broken_once}
use Rattle.fh_hub.proofs.laws.files_have_one_history.Goals as goal

pub returns-clause-one : goal.returns-clause-one
returns-clause-one c = one_history

pub returns-clause-broken : goal.returns-clause-broken
returns-clause-broken c = λ file at rule long breaks history. broken_history file at rule history long breaks

pub returns-clause-first : goal.returns-clause-first
returns-clause-first c = broken_once
