use Rattle.std.proofs.Common.{◌≡◌, ◌∙◌, Bool, true, false, cond, ◌||◌, refl}
use Rattle.std.specs.Str.{bytes_eq}
use Rattle.fh_exprs.specs.Names.{has_name}
use Rattle.fh_exprs.proofs.taken.Taken.add.Goals as goal

or_last : (b x : Bool) → cond b true x ≡ (x || b)
or_last true true = refl
or_last true false = refl
or_last false true = refl
or_last false false = refl

pub returns-clause-names : goal.returns-clause-names
returns-clause-names c q =
    c.in_ok-is_new.ensures.updates.0 (record { ref_ptr = (0, 0); now = q })
    ∙ or_last (bytes_eq c.args.name.now q) (has_name c.args.self.now q)
