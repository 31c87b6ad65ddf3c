use Rattle.std.proofs.Common.{◌≡◌, ◌∙◌, ◌≤◌, ◌<◌, ℕ, [], refl, true, ap, sym, subst, inl, inr, arith, rules, length, length-take}
use Rattle.std.specs.Io.KnownBytes.{Consumes, IsAtEnd}
use Rattle.std.specs.List.{fold}
use Rattle.std.specs.Prelude.{◌⊎◌}
use Rattle.httparse.specs.Grammar.{HasNoRequest}
use Rattle.fh_wire.specs.declared.scan.Scan.{Scan}
use Rattle.fh_wire.specs.Messages.{front}
use Rattle.fh_wire.specs.Scan.{fresh, stepped}
use Rattle.fh_wire.proofs.FrontBytes.{front_all}
use Rattle.fh_wire.proofs.Refusing.{headless}
use Rattle.fh_wire.proofs.Sources.{consumes-none, consumes-append, not_last_few, unfinished_passes, passes-join, lacks_refused, lacks_open, last_cases, scanned_front, ends_late}
use Rattle.fh_wire.proofs.head.read_head.Goals as goal

pub split_at-requires : goal.split_at-requires
split_at-requires g c =
    omega (
      arith,
      ap length c.front_of-front.ensures,
      length-take 2097152 c.as_slice.result.now,
      ap length c.as_slice.ensures.value,
      c.in-Ok.ensures.size,
      c.len-before.ensures,
      c.pieces.invariant.few,
    )

pub find_request-requires-clause-scanned : goal.find_request-requires-clause-scanned
find_request-requires-clause-scanned g c =
    let came = c.in-Ok.ensures.brings in
    let before : c.len-before.result ≡ length c.pieces.bytes.items = search rules in
    scanned_front c.pieces.bytes.items came.piece c.read_piece.new.bytes.items c.front_of-front.result.now
    c.split_at.result.1.now
    c.len-before.result c.pieces.scan c.onward-scan.result came.behind c.pieces.invariant.few
    (c.front_of-front.ensures ∙ ap front c.as_slice.ensures.value)
    before c.split_at.ensures.back c.pieces.invariant.scanned c.onward-scan.ensures.seen

pub returns-in-Whole-clause-taken : goal.returns-in-Whole-clause-taken
returns-in-Whole-clause-taken g c =
    let came = c.in-Ok.ensures.brings in
    consumes-append _ _ _ c.pieces.bytes.items came.piece c.read_piece.new.bytes.items came.behind
    c.pieces.invariant.read came.consumed

pub returns-in-Whole-clause-cause : goal.returns-in-Whole-clause-cause
returns-in-Whole-clause-cause g c = passes-join _ _ _ _ _ _ c.pieces.invariant.passed c.in-Ok.ensures.cause

pub returns-in-Refused-clause-lacks : goal.returns-in-Refused-clause-lacks
returns-in-Refused-clause-lacks g c =
    let came = c.in-Ok.ensures.brings in
    let bytes = c.read_piece.new.bytes.items in
    let read = consumes-append _ _ _ c.pieces.bytes.items came.piece bytes came.behind c.pieces.invariant.read
    came.consumed in
    inr (lacks_refused _ _ bytes read (rw (c.front_of-front.ensures, c.as_slice.ensures.value) at c.in-Refused.ensures))

pub returns-in-Refused-clause-cause : goal.returns-in-Refused-clause-cause
returns-in-Refused-clause-cause g c = passes-join _ _ _ _ _ _ c.pieces.invariant.passed c.in-Ok.ensures.cause

pub pieces-init : goal.pieces-init
pieces-init g c = record {
  read = subst (Consumes (g.S.Source.left c.args.source.now) (g.S.Source.left c.args.source.now))
      (sym c.requires.empty) (consumes-none (g.S.Source.left c.args.source.now));
  few = omega (arith, ap (length {A = ℕ}) c.requires.empty);
  scanned = ap (fold stepped fresh) (sym c.requires.empty);
  lines = omega arith;
  headless = subst HasNoRequest (sym c.requires.empty) (headless [] (λ ended. absurd cc));
  passed = record { count = refl; sure = λ was. was };
  beside = refl;
  most = omega arith;
}

pub pieces-preserved-then-len-next_look : goal.pieces-preserved-then-len-next_look
pieces-preserved-then-len-next_look g c =
    let came = c.in-Ok.ensures.brings in
    let bytes = c.read_piece.new.bytes.items in
    let got : c.len.result ≡ length bytes = search rules in
    let few : length bytes ≤ 2097152 = omega
    (arith, got, not_last_few c.in-Ok.came c.len.result (sym c.is_last-is_last.ensures ∙ c.if-not-is_last.true)) in
    let before : c.len-before.result ≡ length c.pieces.bytes.items = search rules in
    let found : c.front_of-front.result.now ≡ front bytes = c.front_of-front.ensures
    ∙ ap front c.as_slice.ensures.value in
    let scanned : c.onward-scan.result ≡ fold stepped fresh bytes =
    scanned_front c.pieces.bytes.items came.piece bytes c.front_of-front.result.now c.split_at.result.1.now
    c.len-before.result c.pieces.scan c.onward-scan.result
    came.behind c.pieces.invariant.few found before c.split_at.ensures.back c.pieces.invariant.scanned
    c.onward-scan.ensures.seen
    ∙ ap (fold stepped fresh) (found ∙ front_all bytes few) in
    record {
      read = consumes-append _ _ _ c.pieces.bytes.items came.piece bytes came.behind c.pieces.invariant.read
          came.consumed;
      few = few;
      scanned = scanned;
      lines = omega (
        arith,
        c.onward-scan.ensures.lines,
        c.split_at.ensures.back_len,
        ap (length {A = ℕ}) (found ∙ front_all bytes few),
        before,
        c.pieces.invariant.lines,
      );
      headless = headless bytes (λ ended. let over : c.is_over.result ≡ true =
          c.is_over.ensures (ap (λ (s : Scan). s.place) scanned ∙ ended) in absurd cc);
      passed = passes-join _ _ _ _ _ _ c.pieces.invariant.passed c.in-Ok.ensures.cause;
      beside = c.read_piece.ensures.beside ∙ c.pieces.invariant.beside;
      most = omega (arith, c.in-Ok.ensures.later, c.pieces.invariant.most);
    }

pub pieces-preserved : goal.pieces-preserved
pieces-preserved g c =
    let came = c.in-Ok.ensures.brings in
    let bytes = c.read_piece.new.bytes.items in
    let got : c.len.result ≡ length bytes = search rules in
    let few : length bytes ≤ 2097152 = omega
    (arith, got, not_last_few c.in-Ok.came c.len.result (sym c.is_last-is_last.ensures ∙ c.if-is_last.false)) in
    let before : c.len-before.result ≡ length c.pieces.bytes.items = search rules in
    let found : c.front_of-front.result.now ≡ front bytes = c.front_of-front.ensures
    ∙ ap front c.as_slice.ensures.value in
    let scanned : c.onward-scan.result ≡ fold stepped fresh bytes =
    scanned_front c.pieces.bytes.items came.piece bytes c.front_of-front.result.now c.split_at.result.1.now
    c.len-before.result c.pieces.scan c.onward-scan.result
    came.behind c.pieces.invariant.few found before c.split_at.ensures.back c.pieces.invariant.scanned
    c.onward-scan.ensures.seen
    ∙ ap (fold stepped fresh) (found ∙ front_all bytes few) in
    record {
      read = consumes-append _ _ _ c.pieces.bytes.items came.piece bytes came.behind c.pieces.invariant.read
          came.consumed;
      few = few;
      scanned = scanned;
      lines = omega (
        arith,
        c.onward-scan.ensures.lines,
        c.split_at.ensures.back_len,
        ap (length {A = ℕ}) (found ∙ front_all bytes few),
        before,
        c.pieces.invariant.lines,
      );
      headless = subst HasNoRequest (found ∙ front_all bytes few) c.in-Open.ensures.1;
      passed = passes-join _ _ _ _ _ _ c.pieces.invariant.passed c.in-Ok.ensures.cause;
      beside = c.read_piece.ensures.beside ∙ c.pieces.invariant.beside;
      most = omega (arith, c.in-Ok.ensures.later, c.pieces.invariant.most);
    }

pub returns-in-Whole-clause-few : goal.returns-in-Whole-clause-few
returns-in-Whole-clause-few g c =
    let came = c.in-Ok.ensures.brings in
    let bytes = c.read_piece.new.bytes.items in
    let found : c.front_of-front.result.now ≡ front bytes = c.front_of-front.ensures
    ∙ ap front c.as_slice.ensures.value in
    let whole = c.in-Whole.ensures in
    let late = ends_late c.pieces.bytes.items came.piece bytes whole.0 _ came.behind c.pieces.invariant.few
    c.pieces.invariant.headless (rw found at whole.1.reads) in
    omega (arith, late, whole.1.len, c.in-Ok.ensures.size, c.in-Ok.ensures.few, c.pieces.auto.piece)

pub returns-then-is_last-clause-lacks : goal.returns-then-is_last-clause-lacks
returns-then-is_last-clause-lacks g c =
    let came = c.in-Ok.ensures.brings in
    let bytes = c.read_piece.new.bytes.items in
    let got : c.len.result ≡ length bytes = search rules in
    let read = consumes-append _ _ _ c.pieces.bytes.items came.piece bytes came.behind c.pieces.invariant.read
    came.consumed in
    let ends : (IsAtEnd (g.S.Source.left c.read_piece.new.source)) ⊎ (2097152 < length bytes) =
    elim (last_cases c.in-Ok.came c.len.result (sym c.is_last-is_last.ensures ∙ c.if-is_last.true)) [
      | inl none ↦ inl (c.in-Ok.ensures.last none)
      | inr long ↦ inr (omega (arith, long, got))
    ] in
    let last : c.len-then-is_last.result ≡ length bytes = search rules in
    inr (lacks_open _ _ bytes _ read (rw (c.front_of-front.ensures, c.as_slice.ensures.value) at c.in-Open.ensures)
    ends (rw last at c.unfinished.ensures))

pub returns-then-is_last-clause-cause : goal.returns-then-is_last-clause-cause
returns-then-is_last-clause-cause g c =
    unfinished_passes _ _ _ _ c.len-then-is_last.result _ c.unfinished.ensures
    (passes-join _ _ _ _ _ _ c.pieces.invariant.passed c.in-Ok.ensures.cause)
