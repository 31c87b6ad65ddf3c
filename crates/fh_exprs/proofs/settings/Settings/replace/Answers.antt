use Rattle.std.proofs.Common.{rules, ◌∙◌, ap, ◌++◌, string_bytes}
use Rattle.std.specs.Prelude.{Ok}
use Rattle.std.proofs.lemmas.Result.{err_from_is_err_and}
use Rattle.fh_exprs.specs.Answers.{joined, mapped}
use Rattle.fh_exprs.specs.Settings.{replaced, replacement}
use Rattle.fh_exprs.proofs.Faults.{fault_passes}
use Rattle.fh_exprs.proofs.Replacing.{mapped-joined}
use Rattle.fh_exprs.proofs.settings.Settings.replace.Goals as goal

pub returns-in_err-value : goal.returns-in_err-value
returns-in_err-value c =
    let p = err_from_is_err_and c.from_residual.result c.from_residual.ensures.1 in
    let settings = c.args.self.now.pairs in
    let next = c.in-Some.ensures.reads settings in
    rw (p.1, p.2)
    (fault_passes c.in_err-value.field-0.0 (replacement settings c.in-Some.name.now) (replaced settings c.args.text.now)
    (λ fault is. c.loop-before.invariant.reads
    ∙ ap (mapped (λ t. string_bytes c.loop-before.done ++ t))
    (next ∙ ap (λ r. joined (λ v more. c.in-Some.before.now ++ (v ++ more)) r (replaced settings c.in-Some.tail.now))
    is))
    c.in_err-value.ensures)

pub loop-before-preserved : goal.loop-before-preserved
loop-before-preserved c =
    let settings = c.args.self.now.pairs in
    let next = c.in-Some.ensures.reads settings in
    let step = c.loop-before.invariant.reads
    ∙ ap (mapped (λ t. string_bytes c.loop-before.done ++ t))
    (next ∙ ap (λ r. joined (λ v more. c.in-Some.before.now ++ (v ++ more)) r (replaced settings c.in-Some.tail.now))
    c.in_ok-value.ensures) in
    let grown = mapped-joined (string_bytes c.loop-before.done) c.in-Some.before.now c.in_ok-value.value.now
    (replaced settings c.args.text.now) (replaced settings c.in-Some.tail.now) step in
    record {
      utf8 = search rules;
      reads = grown ∙ ap (λ d. mapped (λ t. d ++ t) (replaced settings c.in-Some.tail.now)) (search rules);
    }

pub returns : goal.returns
returns c =
    c.loop-before.invariant.reads
    ∙ ap (mapped (λ t. string_bytes c.loop-before.done ++ t)) (c.in_default.ensures.reads c.args.self.now.pairs)
    ∙ ap Ok (search rules)
