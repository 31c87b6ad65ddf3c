use Rattle.std.proofs.Common.{◌≡◌, ◌∙◌, sym, ap, subst, List, [], ◌∷◌, ◌++◌, map}
use Rattle.std.specs.Prelude.{reverse}
use Rattle.fh_exprs.specs.Layout.{Spot, layout_of}
use Rattle.fh_exprs.specs.Matching.{IsReading}
use Rattle.fh_exprs.proofs.Readings.{no_tail_no_reading, first_text, front_reads}
use Rattle.fh_exprs.proofs.matching.read_front.Goals as goal

pub returns-in_default-2 : goal.returns-in_default-2
returns-in_default-2 c texts reading =
    let none = rw c.in_default-2.is at c.in_ok-rest.ensures in
    no_tail_no_reading c.in-Some.first.now c.in-Some.others.now c.args.name.now texts none
    (subst (λ (ps : List Spot). IsReading (layout_of ps []) c.args.name.now texts) c.in-Some.ensures.cases.0 reading)

pub returns-in_default-text_behind : goal.returns-in_default-text_behind
returns-in_default-text_behind c texts reading =
    let ends = rw c.in-Some-2.is at c.in_ok-rest.ensures in
    let first = first_text c.in-Some.first.now c.in-Some.others.now c.args.name.now c.in-Some-2.rest.now
    (map (λ p. p.1) (reverse c.read_later.new.pairs.items)) texts ends.texts
    (subst (λ (ps : List Spot). IsReading (layout_of ps []) c.args.name.now texts) c.in-Some.ensures.cases.0 reading) in
    c.in_default-text_behind.ensures first.0 first.1 (first.2 ∙ ap (λ b. b ++ first.0) (sym c.as_str.ensures))

pub returns : goal.returns
returns c =
    let ends = rw c.in-Some-2.is at c.in_ok-rest.ensures in
    let behind = c.in-Some-text_behind.ensures in
    let pairs = c.read_later.new.pairs.items in
    let first = c.in-Some.first.now in
    let text = c.in-Some-text_behind.text.now in
    let items : c.reverse.new.self.items ≡ reverse (pairs ++ (first.1, text) ∷ []) =
    c.reverse.ensures.items ∙ ap reverse (c.in_ok-push.ensures.items
    ∙ ap (λ p. pairs ++ p ∷ []) c.in_ok-pair_of.ensures) in
    let reads = front_reads first c.in-Some.others.now c.args.name.now c.in-Some-2.rest.now text pairs ends
    (behind.0 ∙ ap (λ b. b ++ text) c.as_str.ensures) behind.1 in
    rw (items, c.in-Some.ensures.cases.0) reads
