use Rattle.std.proofs.Common.{◌≡◌, false, ap, sym, ◌∙◌, arith, length}
use Rattle.fh_wire.specs.declared.scan.Scan.{Scan}
use Rattle.fh_wire.specs.Scan.{head_lines, is_wide}
use Rattle.fh_wire.proofs.Fronts.{request_refused, request_not_refused, ascii_target, few_fields}
use Rattle.fh_wire.proofs.front.find_request.Goals as goal

pub returns-in-Ok-Complete : goal.returns-in-Ok-Complete
returns-in-Ok-Complete c =
    let found = (rw c.in-Ok-Complete.field-0-is at c.in-Ok-Complete.ensures.complete) in
    let within = (rw c.in-Ok-Complete.field-0-is at c.in-Ok-Complete.ensures.within) in
    let narrow : is_wide c.args.front.now ≡ false = ap (λ (s : Scan). s.wide) (sym c.requires.scanned)
    ∙ c.if-scan.false in
    let sized : length c.parse_request.new.headers ≡ 64 =
    omega (arith, c.requires.room, c.parse_request.auto.headers) in (
      found.0,
      found.1,
      (
        few_fields c.args.front.now c.parse_request.new.headers _ found.0.fields found.1.fields sized,
        ascii_target c.args.front.now found.0 _ found.1.reads narrow,
      ),
      within,
    )

pub returns-in-Ok-Partial : goal.returns-in-Ok-Partial
returns-in-Ok-Partial c =
    let may = (rw c.in-Ok-Partial.field-0-is at c.in-Ok-Partial.ensures.unfinished) in
    let none = (rw c.in-Ok-Partial.field-0-is at c.in-Ok-Partial.ensures.partial) in
    let narrow : is_wide c.args.front.now ≡ false = ap (λ (s : Scan). s.wide) (sym c.requires.scanned)
    ∙ c.if-scan.false in
    let lines : c.args.scan.lines ≡ head_lines c.args.front.now = ap (λ (s : Scan). s.lines) c.requires.scanned in
    (request_not_refused c.args.front.now (omega (arith, lines, c.if-scan-gt-MOST_LINES.false)) narrow may, none)

pub returns-in-Err : goal.returns-in-Err
returns-in-Err c = request_refused c.args.front.now _ c.in-Err.field-0 c.requires.room c.in-Err.ensures.invalid
    c.in-Err.ensures.too_many
