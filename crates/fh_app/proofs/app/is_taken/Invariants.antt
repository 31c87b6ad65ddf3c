use Rattle.std.proofs.Common.{◌≡◌, drop}
use Rattle.std.specs.List.{list_any}
use Rattle.fh_app.specs.declared.function.Function.{Function}
use Rattle.fh_app.specs.Functions.{is_same_name}
use Rattle.fh_app.proofs.app.is_taken.Given as goal

abbrev pub invariant-loop-function : goal.invariant-loop-function
invariant-loop-function l = list_any (λ (f : Function). is_same_name f.name l.name) l.before
    ≡ list_any (λ (f : Function). is_same_name f.name l.name) (drop l.function-index l.before)
