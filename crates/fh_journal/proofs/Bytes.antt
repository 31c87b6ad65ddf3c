-- What the writes of an append and of a mend do to the bytes of a journal.
use Rattle.std.proofs.Common.{◌≡◌, ◌≢◌, inl, inr, ℕ, ◌+◌, ◌-◌, Bool, true, false, List, [], ◌∷◌, ◌++◌, length, take, drop, refl, sym, ◌∙◌, ap, subst, arith, append_assoc, length-append, w32}
use Rattle.std.specs.List.{flat_map, All}
use Rattle.std.specs.Int.{to_be_bytes}
use Rattle.std.proofs.lemmas.Bool.{cases_eq}
use Rattle.std.proofs.lemmas.Grind.{flat_map-append}
use Rattle.std.proofs.lemmas.List.{append-nil, take_at, drop_at, drop-drop}
use Rattle.std.proofs.lemmas.List.Elements.{All-append, All-replicate}
use Rattle.fh_disk.specs.Disk.{written_at, Torn}
use Rattle.fh_journal.specs.Journal.{header, frame, opened, IsShort, Stands, InDoubt, IsOf, MayReadAs}
use Rattle.fh_disk.proofs.Torn.{torn_tail, torn_past, torn_first}

-- a write that begins inside the file
pub written_inside : (front back bytes : List ℕ) (at : ℕ) → length front ≡ at
    → written_at at bytes (front ++ back) ≡ front ++ (bytes ++ drop (length bytes) back)
written_inside front back bytes at long =
    let kept : take at (front ++ back) ≡ front = take_at front back at long in
    let none : at - length (front ++ back) ≡ 0 = omega (arith, length-append front back) in
    let behind : drop (at + length bytes) (front ++ back) ≡ drop (length bytes) back =
    sym (drop-drop (length bytes) at (front ++ back)) ∙ ap (drop (length bytes)) (drop_at front back at long) in
    rw (kept, none, behind, append-nil front) (append_assoc front bytes (drop (length bytes) back))

push : (first : List ℕ) (payloads : List (List ℕ)) (payload : List ℕ)
    → first ++ flat_map frame (payloads ++ payload ∷ []) ≡ (first ++ flat_map frame payloads) ++ frame payload
push first payloads payload =
    ap (λ (l : List ℕ). first ++ l)
    (flat_map-append frame payloads (payload ∷ []) ∙ ap (λ (l : List ℕ). flat_map frame payloads ++ l)
    (append-nil (frame payload)))
    ∙ sym (append_assoc first (flat_map frame payloads) (frame payload))

pub opened-push : (payloads : List (List ℕ)) (payload : List ℕ)
    → opened (payloads ++ payload ∷ []) ≡ opened payloads ++ frame payload
opened-push payloads payload = push header payloads payload

-- the two writes of an append
pub staged : (payloads : List (List ℕ)) (payload bytes file : List ℕ) (gate : ℕ)
    → bytes ≡ to_be_bytes w32 (length payload) ++ payload ++ 0 ∷ [] → IsShort payload
    → Stands file payloads gate → InDoubt (written_at (gate + 1) bytes file) payloads payload gate
staged payloads payload bytes file gate is short stands =
    let front = opened payloads in
    let size = to_be_bytes w32 (length payload) in
    let rest = drop (length bytes) stands.rest in
    record {
      either = stands.closed;
      closed = 0;
      rest = rest;
      shut = λ none. omega (arith, none);
      place = stands.place;
      whole =
          ap (written_at (gate + 1) bytes) (stands.whole ∙ sym (append_assoc front (stands.closed ∷ []) stands.rest))
          ∙ written_inside (front ++ stands.closed ∷ []) stands.rest bytes (gate + 1)
          (omega (arith, stands.place, length-append front (stands.closed ∷ [])))
          ∙ append_assoc front (stands.closed ∷ []) (bytes ++ rest)
          ∙ ap (λ (l : List ℕ). front ++ stands.closed ∷ (l ++ rest)) is
          ∙ ap (λ (l : List ℕ). front ++ stands.closed ∷ l) (append_assoc (size ++ payload) (0 ∷ []) rest);
      short = stands.short;
      failed_short = short;
    }

gated : (payloads : List (List ℕ)) (failed file : List ℕ) (gate value : ℕ) (doubt : InDoubt file payloads failed gate)
    → written_at gate (value ∷ []) file
    ≡ opened payloads ++ value ∷ (to_be_bytes w32 (length failed) ++ failed ++ doubt.closed ∷ doubt.rest)
gated payloads failed file gate value doubt =
    let back = to_be_bytes w32 (length failed) ++ failed ++ doubt.closed ∷ doubt.rest in
    ap (written_at gate (value ∷ [])) doubt.whole ∙ written_inside (opened payloads) (doubt.either ∷ back) (value ∷ [])
    gate (sym doubt.place)

-- a whole frame behind an open gate counts
opens : (payloads : List (List ℕ)) (failed file : List ℕ) (gate closed : ℕ) (rest : List ℕ) → closed ≢ 1
    → gate ≡ length (opened payloads)
    → All IsShort payloads → IsShort failed
    → file ≡ opened payloads ++ 1 ∷ (to_be_bytes w32 (length failed) ++ failed ++ closed ∷ rest)
    → Stands file (payloads ++ failed ∷ []) (gate + 5 + length failed)
opens payloads failed file gate closed rest shut place short failed_short is =
    let size = to_be_bytes w32 (length failed) in
    record {
      closed = closed;
      rest = rest;
      shut = shut;
      place = omega (
        arith,
        place,
        ap length (opened-push payloads failed),
        length-append (opened payloads) (frame failed),
        length-append size failed,
      );
      whole =
          is
          ∙ sym (append_assoc (opened payloads) (frame failed) (closed ∷ rest))
          ∙ ap (λ (l : List ℕ). l ++ closed ∷ rest) (sym (opened-push payloads failed));
      short = All-append IsShort payloads (failed ∷ []) short (All-replicate IsShort 1 failed failed_short);
    }

pub opens_gate : (payloads : List (List ℕ)) (failed file : List ℕ) (gate : ℕ) → InDoubt file payloads failed gate
    → Stands (written_at gate (1 ∷ []) file) (payloads ++ failed ∷ []) (gate + 5 + length failed)
opens_gate payloads failed file gate doubt =
    opens payloads failed _ gate doubt.closed doubt.rest doubt.shut doubt.place doubt.short doubt.failed_short
    (gated payloads failed file gate 1 doubt)

pub closes_gate : (payloads : List (List ℕ)) (failed file : List ℕ) (gate : ℕ) → InDoubt file payloads failed gate
    → Stands (written_at gate (0 ∷ []) file) payloads gate
closes_gate payloads failed file gate doubt = record {
  closed = 0;
  rest = to_be_bytes w32 (length failed) ++ failed ++ doubt.closed ∷ doubt.rest;
  shut = λ none. omega (arith, none);
  place = doubt.place;
  whole = gated payloads failed file gate 0 doubt;
  short = doubt.short;
}

put_behind : (front c back other : List ℕ) → c ≡ front ++ back → back ≡ other → c ≡ front ++ other
put_behind front c back other is same = is ∙ ap (λ (l : List ℕ). front ++ l) same

-- a write behind the gate leaves it closed, also where it is cut short
pub stays_closed : (payloads : List (List ℕ)) (gate n : ℕ) (old c : List ℕ) → Stands old payloads gate
    → Torn (gate + 1) n old c → Stands c payloads gate
stays_closed payloads gate n old c stands torn =
    let past = torn_past (opened payloads) (gate + 1) 1 n (stands.closed ∷ stands.rest) c (omega (arith, stands.place))
    (subst (λ (l : List ℕ). Torn (gate + 1) n l c) stands.whole torn) in
    let behind = torn_tail 0 n stands.closed stands.rest past.0 past.2 in
    record {
      closed = stands.closed;
      rest = behind.0;
      shut = stands.shut;
      place = stands.place;
      whole = put_behind (opened payloads) c past.0 (stands.closed ∷ behind.0) past.1 behind.1;
      short = stands.short;
    }

-- a write of the gate leaves it open or not
pub stays_in_doubt : (payloads : List (List ℕ)) (failed : List ℕ) (gate : ℕ) (old c : List ℕ)
    → InDoubt old payloads failed gate
    → Torn gate 1 old c → InDoubt c payloads failed gate
stays_in_doubt payloads failed gate old c doubt torn =
    let back = to_be_bytes w32 (length failed) ++ failed ++ doubt.closed ∷ doubt.rest in
    let past = torn_past (opened payloads) gate 0 1 (doubt.either ∷ back) c (omega (arith, doubt.place))
    (subst (λ (l : List ℕ). Torn gate 1 l c) doubt.whole torn) in
    let first = torn_first doubt.either back past.0 past.2 in
    record {
      either = first.0;
      closed = doubt.closed;
      rest = doubt.rest;
      shut = doubt.shut;
      place = doubt.place;
      whole = put_behind (opened payloads) c past.0 (first.0 ∷ back) past.1 first.1;
      short = doubt.short;
      failed_short = doubt.failed_short;
    }

-- a file in doubt is read with the frame or without it
pub doubt_reads : (payloads : List (List ℕ)) (failed : List ℕ) (gate : ℕ) (file : List ℕ)
    → InDoubt file payloads failed gate
    → MayReadAs true payloads failed file
doubt_reads payloads failed gate file doubt = elim (cases_eq doubt.either 1) [
  | inl is_open ↦ inr (
    refl,
    inr (
      gate + 5 + length failed,
      opens payloads failed file gate doubt.closed doubt.rest doubt.shut doubt.place doubt.short doubt.failed_short
          (doubt.whole ∙ at_gate is_open),
    ),
  )
  | inr shut ↦ inl (inr (
    gate,
    record {
      closed = doubt.either;
      rest = to_be_bytes w32 (length failed) ++ failed ++ doubt.closed ∷ doubt.rest;
      shut = shut;
      place = doubt.place;
      whole = doubt.whole;
      short = doubt.short;
    },
  ))
]
  where
    at_gate : doubt.either ≡ 1 → opened payloads ++ doubt.either ∷
        (to_be_bytes w32 (length failed) ++ failed ++ doubt.closed ∷ doubt.rest)
        ≡ opened payloads ++ 1 ∷ (to_be_bytes w32 (length failed) ++ failed ++ doubt.closed ∷ doubt.rest)
    at_gate is = ap (λ (n : ℕ). opened payloads ++ n ∷
        (to_be_bytes w32 (length failed) ++ failed ++ doubt.closed ∷ doubt.rest)) is

pub reads : (torn : Bool) (payloads : List (List ℕ)) (failed : List ℕ) (gate : ℕ) (file : List ℕ)
    → IsOf torn payloads failed gate file
    → MayReadAs torn payloads failed file
reads false payloads failed gate file stands = inl (inr (gate, stands))
reads true payloads failed gate file doubt = doubt_reads payloads failed gate file doubt
