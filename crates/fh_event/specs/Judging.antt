-- What a store makes of an ask.
use Rattle.std.specs.Prelude.{nat_le, if◌then◌else◌, Option, None, Some}
use Rattle.fh_base.specs.declared.rule.Rule.{Rule}
use Rattle.fh_base.specs.Rules.{rule_number}

-- a rule refuses the ask, or it is accepted and changes nothing, or it makes another part
pub data Judged (Part Done : Type 0) : Type 0 where
  Refuses : Rule → Judged Part Done
  Quiets : Done → Judged Part Done
  Makes : Part → Done → Judged Part Done

-- refused where a rule is broken
abbrev pub unless_refused : {Part Done : Type 0} → Option Rule → Judged Part Done → Judged Part Done
unless_refused None judged = judged
unless_refused (Some rule) judged = Refuses rule

-- rules are told in order of their numbers
abbrev pub first_rule : Rule → Rule → Rule
first_rule rule other = if nat_le (rule_number rule) (rule_number other) then rule else other

-- what two stores come to together: refused by the first rule, quiet where one is, and else both change
abbrev pub both : {Part Other Done More : Type 0} → Judged Part Done → Judged Other More → Judged (Part × Other) (Done × More)
both (Refuses rule) (Refuses other) = Refuses (first_rule rule other)
both (Refuses rule) (Quiets more) = Refuses rule
both (Refuses rule) (Makes other more) = Refuses rule
both (Quiets done) (Refuses rule) = Refuses rule
both (Quiets done) (Quiets more) = Quiets (done, more)
both (Quiets done) (Makes other more) = Quiets (done, more)
both (Makes part done) (Refuses rule) = Refuses rule
both (Makes part done) (Quiets more) = Quiets (done, more)
both (Makes part done) (Makes other more) = Makes (part, other) (done, more)
