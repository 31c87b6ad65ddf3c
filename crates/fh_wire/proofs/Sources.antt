-- What the bytes that have come say of all the bytes of a source.
use Rattle.std.proofs.Common.{◌≡◌, ℕ, ◌+◌, ◌-◌, ◌<◌, ◌≤◌, ◌==◌, nat_lt, Bool, true, false, ◌||◌, if◌then◌else◌, List, [], ◌++◌, length, take, drop, Option, Some, None, Result, Ok, Err, refl, sym, ap, ◌∙◌, subst, arith, append_assoc, append-nil, length-append, inl, inr}
use Rattle.std.specs.Prelude.{◌⊎◌, unwrap_or}
use Rattle.fh_base.specs.Faults.{Rose}
use Rattle.std.specs.List.{fold}
use Rattle.std.specs.Io.KnownBytes.{Consumes, IsAtEnd}
use Rattle.std.proofs.lemmas.Bool.{cases_lt}
use Rattle.std.proofs.lemmas.Bool.Decides.{nat_tests}
use Rattle.std.proofs.lemmas.List.{take_at, drop_at, take-append-le, take-append-drop}
use Rattle.std.proofs.lemmas.List.Sums.{fold-append}
use Rattle.httparse.specs.Grammar.{RequestHead, print_request, ReadsRequest, HasNoRequest}
use Rattle.fh_wire.specs.declared.fault.WireFault.{WireFault}
use Rattle.fh_wire.specs.declared.fault.WireFault.TheVariants.{BadHead, BadLength, TooLong, Cut, Chunked, Coded, ReadFault, WriteFault, NoMemory}
use Rattle.fh_wire.specs.declared.fields.Framing.{Framing}
use Rattle.fh_wire.specs.declared.scan.Scan.{Scan}
use Rattle.fh_wire.specs.Causes.{Passes, IsReadCause, HasReadCause}
use Rattle.fh_wire.specs.Scan.{fresh, stepped}
use Rattle.fh_wire.specs.Fronts.{IsRefusedRequest, IsOpenRequest}
use Rattle.fh_wire.specs.Messages.{front}
use Rattle.fh_wire.specs.Messages.RequestIs.{refused, unended}
use Rattle.fh_wire.specs.Reading.{known, Brings, ReadsBy, ReadsRequestFrom}
use Rattle.fh_wire.specs.Sizes.{◌>>=◌, unfinished, fitting, request_needs, body_of}
use Rattle.fh_wire.proofs.FrontBytes.{front_grows, front_full, front_begins}
use Rattle.fh_wire.proofs.Refusing.{refused_onward}

pub consumes-none : (left : Option (List ℕ)) → Consumes left left []
consumes-none None = tt
consumes-none (Some bytes) = refl

pub consumes-append : (was mid now : Option (List ℕ)) (first second both : List ℕ) → both ≡ first ++ second
    → Consumes was mid first → Consumes mid now second → Consumes was now both
consumes-append None mid now first second both is one two = tt
consumes-append (Some a) None now first second both is one two = absurd one
consumes-append (Some a) (Some b) None first second both is one two = absurd two
consumes-append (Some a) (Some b) (Some d) first second both is one two =
    one ∙ ap (λ (l : List ℕ). first ++ l) two ∙ sym (append_assoc first second d) ∙ ap (λ (l : List ℕ). l ++ d) (sym is)

pub passes-join : (a b c : ℕ) (u v w : Bool) → Passes a b u v → Passes b c v w → Passes a c u w
passes-join a b c u v w one two = record {
  count = two.count ∙ one.count;
  sure = λ was. two.sure (one.sure was);
}

none_known : (now : Option (List ℕ)) → IsAtEnd now → known now ≡ []
none_known None end = refl
none_known (Some bytes) end = end

all_known : (bytes : List ℕ) (now : Option (List ℕ)) → IsAtEnd now → bytes ++ known now ≡ bytes
all_known bytes now end = ap (λ (t : List ℕ). bytes ++ t) (none_known now end) ∙ append-nil bytes

pub lacks_refused : (was now : Option (List ℕ)) (bytes : List ℕ) → Consumes was now bytes
    → IsRefusedRequest (front bytes) → ReadsRequestFrom was now (Err BadHead)
lacks_refused was now bytes read is =
    let grows = front_grows bytes (known now) in
    record {
      taken = bytes;
      consumed = read;
      is = refused (subst IsRefusedRequest (sym grows.1) (refused_onward (front bytes) grows.0 is)) refl;
      few = λ h rest reads. tt;
    }

long_unfinished : (n m : ℕ) → 2097152 < n → n ≤ m → unfinished n ≡ unfinished m
long_unfinished n m long more = grind (arith, nat_tests)

pub lacks_open : (was now : Option (List ℕ)) (bytes : List ℕ) (fault : WireFault) → Consumes was now bytes
    → IsOpenRequest (front bytes) → (IsAtEnd now) ⊎ (2097152 < length bytes) → fault ≡ unfinished (length bytes)
    → ReadsRequestFrom was now (Err fault)
lacks_open was now bytes fault read is (inl end) fails =
    let all = all_known bytes now end in
    record {
      taken = bytes;
      consumed = read;
      is = unended (subst IsOpenRequest (ap front (sym all)) is)
          (ap (λ (f : WireFault). Err f) (fails ∙ ap (λ (t : List ℕ). unfinished (length t)) (sym all)));
      few = λ h rest reads. tt;
    }
lacks_open was now bytes fault read is (inr long) fails =
    let size : length bytes ≤ length (bytes ++ known now) = omega (arith, length-append bytes (known now)) in
    record {
      taken = bytes;
      consumed = read;
      is = unended (subst IsOpenRequest (sym (front_full bytes (known now) long)) is)
          (ap (λ (f : WireFault). Err f) (fails ∙ long_unfinished (length bytes) (length (bytes ++ known now))
          long size));
      few = λ h rest reads. tt;
    }

pub last_cases : (came got : ℕ) → (came == 0 || nat_lt 2097152 got) ≡ true → (came ≡ 0) ⊎ (2097152 < got)
last_cases came got is =
    elim (cases_lt 2097152 got) [ inl long ↦ inr long | inr few ↦ inl (grind (arith, nat_tests)) ]

-- the scan of the front goes on from the scan of the old bytes
pub scanned_front : (old piece bytes found back : List ℕ) (n : ℕ) (s t : Scan) → bytes ≡ old ++ piece
    → length old ≤ 2097152 → found ≡ front bytes → n ≡ length old → back ≡ drop n found
    → s ≡ fold stepped fresh old → t ≡ fold stepped s back → t ≡ fold stepped fresh found
scanned_front old piece bytes found back n s t is few at_front counted behind first second =
    let begins = front_begins bytes old piece is few in
    let whole : found ≡ old ++ begins.0 = at_front ∙ begins.1 in
    let rest : back ≡ begins.0 = behind ∙ ap (drop n) whole ∙ drop_at old begins.0 n (sym counted) in
    second ∙ ap (λ (r : Scan). fold stepped r back) first ∙ ap (fold stepped (fold stepped fresh old)) rest
    ∙ sym (fold-append stepped fresh old begins.0) ∙ ap (fold stepped fresh) (sym whole)

-- the head ends with the last piece
pub ends_late : (old piece bytes : List ℕ) (h : RequestHead) (rest : List ℕ) → bytes ≡ old ++ piece
    → length old ≤ 2097152 → HasNoRequest old → ReadsRequest (front bytes) h rest
    → length old < length (print_request h)
ends_late old piece bytes h rest is few none reads =
    elim (cases_lt (length old) (length (print_request h))) [
      | inl late ↦ late
      | inr early ↦
          let begins = front_begins bytes old piece is few in
          let printed : take (length (print_request h)) old ≡ print_request h =
          sym (take-append-le (length (print_request h)) old begins.0 early)
          ∙ ap (take (length (print_request h))) (sym begins.1 ∙ reads.1)
          ∙ take_at (print_request h) rest (length (print_request h)) refl in
          absurd (none h (drop (length (print_request h)) old) (
            reads.0,
            sym (take-append-drop (length (print_request h)) old)
                ∙ ap (λ (t : List ℕ). t ++ drop (length (print_request h)) old) printed,
          ))
    ]

pub cut_short : (was now : Option (List ℕ)) (begun body : List ℕ) (got needed : ℕ) → Brings was now begun body
    → IsAtEnd now → got ≡ length body → length body < needed
    → ReadsBy was now (Err (Cut got needed)) (λ rest. body_of needed (begun ++ rest)) (λ all. length all - length begun)
cut_short was now begun body got needed came end counted short =
    let all : begun ++ (came.piece ++ known now) ≡ body =
    ap (λ (t : List ℕ). begun ++ t) (all_known came.piece now end) ∙ sym came.behind in
    let fails : Err (Cut got needed) ≡ body_of needed body = rw counted (grind (arith, nat_tests)) in
    record {
      taken = came.piece;
      consumed = came.consumed;
      is = fails ∙ ap (body_of needed) (sym all);
      few = tt;
    }

pub filled : (was now : Option (List ℕ)) (begun body : List ℕ) (needed : ℕ) → Brings was now begun body
    → length body ≡ needed
    → ReadsBy was now (Ok body) (λ rest. body_of needed (begun ++ rest)) (λ all. length all - length begun)
filled was now begun body needed came full =
    let all : begun ++ (came.piece ++ known now) ≡ body ++ known now =
    sym (append_assoc begun came.piece (known now)) ∙ ap (λ (t : List ℕ). t ++ known now) (sym came.behind) in
    record {
      taken = came.piece;
      consumed = came.consumed;
      is = takes_whole body (known now) needed full ∙ ap (body_of needed) (sym all);
      few = omega (arith, ap length came.behind, length-append begun came.piece);
    }
  where
    takes_whole : (front rest : List ℕ) (n : ℕ) → length front ≡ n → Ok front ≡ body_of n (front ++ rest)
    takes_whole front rest n sized =
        let size : (nat_lt (length (front ++ rest)) n) ≡ false = grind (arith, nat_tests, length-append front rest) in
        rw size (ap (λ (t : List ℕ). Ok t) (sym (take_at front rest n sized)))

pub brings-join : (was mid now : Option (List ℕ)) (first old new : List ℕ) → Brings was mid first old
    → Brings mid now old new → Brings was now first new
brings-join was mid now first old new one two = record {
  piece = one.piece ++ two.piece;
  behind = two.behind ∙ ap (λ (t : List ℕ). t ++ two.piece) one.behind ∙ append_assoc first one.piece two.piece;
  consumed = consumes-append was mid now one.piece two.piece (one.piece ++ two.piece) refl one.consumed two.consumed;
}

pub not_last_few : (came got : ℕ) → (came == 0 || nat_lt 2097152 got) ≡ false → got ≤ 2097152
not_last_few came got is = grind (arith, nat_tests)

-- bytes that end too soon are no failed read
pub unfinished_passes : (a b : ℕ) (u v : Bool) (n : ℕ) (fault : WireFault) → fault ≡ unfinished n → Passes a b u v
    → IsReadCause a b u v fault
unfinished_passes a b u v n fault is passed =
    subst (IsReadCause a b u v) (sym is) (by_test (nat_lt 2097152 n))
  where
    by_test : (t : Bool) → IsReadCause a b u v (if t then TooLong else Cut n 0)
    by_test true = passed
    by_test false = passed

-- a body that has come with the head
pub begun_whole : (was : Option (List ℕ)) (begun body : List ℕ) (needed : ℕ) → body ≡ take needed begun
    → needed ≤ length begun
    → ReadsBy was was (Ok body) (λ rest. body_of needed (begun ++ rest)) (λ all. length all - length begun)
begun_whole was begun body needed is fits =
    let size : (nat_lt (length (begun ++ ([] ++ known was))) needed) ≡ false =
    grind (arith, nat_tests, length-append begun ([] ++ known was)) in
    record {
      taken = [];
      consumed = consumes-none was;
      is = rw size (ap (λ (t : List ℕ). Ok t) (is ∙ sym (take-append-le needed begun ([] ++ known was) fits)));
      few = omega arith;
    }

-- what the fields say is no failed read
pub needs_pass : (a b : ℕ) (u v : Bool) (f : Framing) (n : ℕ) (e : WireFault) → Err e ≡ request_needs f n
    → Passes a b u v
    → IsReadCause a b u v e
needs_pass a b u v f n ReadFault is passed = absurd (no_read f.wide f.chunked f.coded f.unread f.length is)
  where
    no_room : (t : Bool) (m : ℕ) → ◌≡◌ {A = Result ℕ WireFault} (Err ReadFault) (if t then Err TooLong else Ok m) → ⊥
    no_room true m bad = cc
    no_room false m bad = cc

    no_read : (w x y z : Bool) (given : Option ℕ)
        → Err ReadFault ≡ ((if w then Err BadHead else if x then Err Chunked else if y then Err Coded else if z then
        Err BadLength else Ok given) >>= λ got. fitting n (unwrap_or got 0)) → ⊥
    no_read true x y z given bad = cc
    no_read false true y z given bad = cc
    no_read false false true z given bad = cc
    no_read false false false true given bad = cc
    no_read false false false false given bad = no_room (nat_lt 2097152 (n + unwrap_or given 0)) (unwrap_or given 0) bad
needs_pass a b u v f n BadHead is passed = passed
needs_pass a b u v f n BadLength is passed = passed
needs_pass a b u v f n TooLong is passed = passed
needs_pass a b u v f n (Cut got needed) is passed = passed
needs_pass a b u v f n Chunked is passed = passed
needs_pass a b u v f n Coded is passed = passed
needs_pass a b u v f n WriteFault is passed = passed
needs_pass a b u v f n NoMemory is passed = passed

pub cause-join : {A : Type 0} (a b c : ℕ) (u v w : Bool) (r : Result A WireFault) → Passes a b u v
    → HasReadCause b c v w r
    → HasReadCause a c u w r
cause-join a b c u v w (Ok x) one two = passes-join a b c u v w one two
cause-join a b c u v w (Err e) one two = by_fault e two
  where
    by_fault : (f : WireFault) → IsReadCause b c v w f → IsReadCause a c u w f
    by_fault ReadFault failed = record {
      count = subst (λ (n : ℕ). Rose n c) one.count failed.count;
      unsure = λ was. failed.unsure (one.sure was);
    }
    by_fault BadHead passed = passes-join a b c u v w one passed
    by_fault BadLength passed = passes-join a b c u v w one passed
    by_fault TooLong passed = passes-join a b c u v w one passed
    by_fault (Cut got needed) passed = passes-join a b c u v w one passed
    by_fault Chunked passed = passes-join a b c u v w one passed
    by_fault Coded passed = passes-join a b c u v w one passed
    by_fault WriteFault passed = passes-join a b c u v w one passed
    by_fault NoMemory passed = passes-join a b c u v w one passed
