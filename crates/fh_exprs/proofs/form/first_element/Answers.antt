use Rattle.std.proofs.Common.{◌<◌, ◌≤◌, lit<, Some, None, length, arith, subst, sym, ℕ}
use Rattle.std.proofs.lemmas.Str.Pattern.{strip_prefix_char}
use Rattle.std.proofs.lemmas.List.Sums.{prefix_len-le-length}
use Rattle.fh_exprs.specs.Form.{open_brace, close_brace}
use Rattle.fh_exprs.proofs.Elements.{doubled_open_at, doubled_close_at, lone_close_at, plain_at, plain_first, rest_shorter, brace_at, is_plain}
use Rattle.fh_exprs.proofs.form.first_element.Goals as goal

pub first_name-requires : goal.first_name-requires
first_name-requires c = strip_prefix_char open_brace c.in-Some.after.now None c.in-None.ensures.cases (lit< tt)

pub returns-in-Some-strip_prefix-clause-some : goal.returns-in-Some-strip_prefix-clause-some
returns-in-Some-strip_prefix-clause-some c =
    let first = strip_prefix_char open_brace c.args.text.now (Some c.in-Some.after) c.in-Some.ensures.cases (lit< tt) in
    let second = strip_prefix_char open_brace c.in-Some.after.now (Some c.in-Some-strip_prefix.rest)
    c.in-Some-strip_prefix.ensures.cases (lit< tt) in
    doubled_open_at c.args.text.now c.in-Some.after.now c.in-Some-strip_prefix.rest.now first second

pub returns-in_err-rest-clause-none : goal.returns-in_err-rest-clause-none
returns-in_err-rest-clause-none c =
    let first = strip_prefix_char close_brace c.args.text.now (Some c.in-Some-strip_prefix-2.after)
    c.in-Some-strip_prefix-2.ensures.cases (lit< tt) in
    let second = strip_prefix_char close_brace c.in-Some-strip_prefix-2.after.now None c.in_err-rest.ensures.cases
    (lit< tt) in
    rw c.from_residual.ensures (lone_close_at c.args.text.now c.in-Some-strip_prefix-2.after.now first second)

pub returns-in-Some-strip_prefix-2-clause-some : goal.returns-in-Some-strip_prefix-2-clause-some
returns-in-Some-strip_prefix-2-clause-some c =
    let first = strip_prefix_char close_brace c.args.text.now (Some c.in-Some-strip_prefix-2.after)
    c.in-Some-strip_prefix-2.ensures.cases (lit< tt) in
    let second = strip_prefix_char close_brace c.in-Some-strip_prefix-2.after.now (Some c.in_ok-rest.rest)
    c.in_ok-rest.ensures.cases (lit< tt) in
    doubled_close_at c.args.text.now c.in-Some-strip_prefix-2.after.now c.in_ok-rest.rest.now first second

pub split_at-requires : goal.split_at-requires
split_at-requires c = (
  let le : c.plain_length.result ≤ length c.args.text.now =
      subst (λ (k : ℕ). k ≤ length c.args.text.now) (sym c.plain_length.ensures)
      (prefix_len-le-length is_plain c.args.text.now) in le,
  λ lt high. absurd (let low = brace_at c.args.text.now c.plain_length.result c.plain_length.ensures lt in omega arith),
)

pub returns-clause-some : goal.returns-clause-some
returns-clause-some c naming layout at =
    rw (c.split_at.ensures.front, c.split_at.ensures.back)
    (plain_at c.args.text.now c.plain_length.result c.plain_length.ensures naming layout at)

pub returns-clause-shorter : goal.returns-clause-shorter
returns-clause-shorter c ne =
    let no_open = strip_prefix_char open_brace c.args.text.now None c.in_default.ensures.cases (lit< tt) in
    let no_close = strip_prefix_char close_brace c.args.text.now None c.in_default-strip_prefix.ensures.cases (lit< tt)
    in
    let pos : 0 < c.plain_length.result = subst (λ (k : ℕ). 0 < k) (sym c.plain_length.ensures)
    (plain_first c.args.text.now no_open no_close ne) in
    rw c.split_at.ensures.back (rest_shorter c.args.text.now c.plain_length.result pos ne)
