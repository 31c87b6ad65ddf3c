-- A file has one reading.
use Rattle.std.proofs.Common.{◌≡◌, ◌⊎◌, inl, inr, ℕ, ◌<◌, ◌≤◌, List, [], ◌∷◌, ◌++◌, length, take, drop, refl, sym, ◌∙◌, ap, subst, arith, append_assoc, length-append, w32}
use Rattle.std.specs.List.{flat_map, All}
use Rattle.std.specs.Int.{to_be_bytes, from_be_bytes}
use Rattle.std.proofs.lemmas.List.{take_at, drop_at}
use Rattle.std.proofs.lemmas.List.Elements.{All-head, All-tail}
use Rattle.std.proofs.lemmas.Nat.{from_be_bytes-to_be_bytes_4}
use Rattle.fh_journal.specs.Journal.{header, frame, opened, IsShort, Stands, IsJournalOf}
use Rattle.fh_journal.specs.Mounting.{Breaks, BreaksAt, IsForeign, length_field}
use Rattle.fh_journal.specs.declared.faults.FrameRule.{FrameRule}
use Rattle.fh_journal.specs.declared.faults.FrameRule.TheVariants.{Cut, Length}
use Rattle.fh_journal.proofs.Making.{short_journal}

same_parts : (a b x y : List ℕ) → length a ≡ length b → a ++ x ≡ b ++ y → (a ≡ b) × (x ≡ y)
same_parts a b x y long same = (
  sym (take_at a x (length a) refl) ∙ ap (take (length a)) same ∙ take_at b y (length a) (sym long),
  sym (drop_at a x (length a) refl) ∙ ap (drop (length a)) same ∙ drop_at b y (length a) (sym long),
)

field_of_size : (n : ℕ) (rest : List ℕ) → n ≤ 16777216 → length_field (to_be_bytes w32 n ++ rest) ≡ n
field_of_size n rest short = from_be_bytes-to_be_bytes_4 n (omega (arith, short))

-- frames that begin alike have one payload, and the rest is the same
same_frame : (p q x y : List ℕ) → IsShort p → IsShort q
    → to_be_bytes w32 (length p) ++ (p ++ x) ≡ to_be_bytes w32 (length q) ++ (q ++ y)
    → (p ≡ q) × (x ≡ y)
same_frame p q x y short_p short_q same =
    let parts = same_parts (to_be_bytes w32 (length p)) (to_be_bytes w32 (length q)) (p ++ x) (q ++ y) refl same in
    let long : length p ≡ length q =
    sym (from_be_bytes-to_be_bytes_4 (length p) (omega (arith, short_p))) ∙ ap (from_be_bytes w32) parts.0
    ∙ from_be_bytes-to_be_bytes_4 (length q) (omega (arith, short_q)) in
    same_parts p q x y long parts.1

-- behind an open gate stands a whole frame, and bytes behind it
pub record IsWhole (behind : List ℕ) : Type 0 where
  pub payload : List ℕ
  pub rest : List ℕ
  pub is : behind ≡ to_be_bytes w32 (length payload) ++ (payload ++ rest)
  pub short : IsShort payload
  pub some : 1 ≤ length rest

-- such a frame breaks no rule
not_broken : (behind : List ℕ) (rule : FrameRule) → IsWhole behind → Breaks rule behind → ⊥
not_broken behind (Length given) whole breaks =
    let field : length_field behind ≡ length whole.payload = ap length_field whole.is
    ∙ field_of_size (length whole.payload) (whole.payload ++ whole.rest) whole.short in
    omega (arith, field, breaks.1, breaks.2, whole.short)
not_broken behind Cut whole (inl short) =
    let size = to_be_bytes w32 (length whole.payload) in
    omega (arith, short, ap length whole.is, length-append size (whole.payload ++ whole.rest))
not_broken behind Cut whole (inr breaks) =
    let size = to_be_bytes w32 (length whole.payload) in
    let field : length_field behind ≡ length whole.payload = ap length_field whole.is
    ∙ field_of_size (length whole.payload) (whole.payload ++ whole.rest) whole.short in
    omega (
      arith,
      field,
      breaks.1,
      whole.some,
      ap length whole.is,
      length-append size (whole.payload ++ whole.rest),
      length-append whole.payload whole.rest,
    )

-- one rule is broken
broken_once : (behind : List ℕ) (rule other : FrameRule) → Breaks rule behind → Breaks other behind → rule ≡ other
broken_once behind (Length given) (Length second) a b = ap Length (a.1 ∙ sym b.1)
broken_once behind (Length given) Cut a (inl b) = absurd (omega (arith, a.0, b))
broken_once behind (Length given) Cut a (inr b) = absurd (omega (arith, a.1, a.2, b.0))
broken_once behind Cut (Length given) (inl a) b = absurd (omega (arith, b.0, a))
broken_once behind Cut (Length given) (inr a) b = absurd (omega (arith, b.1, b.2, a.0))
broken_once behind Cut Cut a b = refl

-- Two walks over the same bytes end at the same gate, or one of them ends at an open gate with a whole frame behind it.
pub record EndsAlike (ps qs : List (List ℕ)) (g h : ℕ) (r s : List ℕ) : Type 0 where
  pub payloads : ps ≡ qs
  pub gate : g ≡ h
  pub rest : r ≡ s

abbrev pub Walks : List (List ℕ) → List (List ℕ) → ℕ → ℕ → List ℕ → List ℕ → Type 0
Walks ps qs g h r s = EndsAlike ps qs g h r s ⊎ (((g ≡ 1) × IsWhole r) ⊎ ((h ≡ 1) × IsWhole s))

abbrev frames : List (List ℕ) → List ℕ
frames payloads = flat_map frame payloads

-- the bytes behind the gate of a first frame
behind_first : (p : List ℕ) (ps : List (List ℕ)) (x : List ℕ)
    → frames (p ∷ ps) ++ x ≡ 1 ∷ (to_be_bytes w32 (length p) ++ (p ++ (frames ps ++ x)))
behind_first p ps x =
    append_assoc (frame p) (frames ps) x ∙ append_assoc (1 ∷ to_be_bytes w32 (length p)) p (frames ps ++ x)

ends_before : (q : List ℕ) (qs : List (List ℕ)) (g h : ℕ) (r s : List ℕ) → IsShort q → g ∷ r ≡ frames (q ∷ qs) ++ h ∷ s
    → (g ≡ 1) × IsWhole r
ends_before q qs g h r s short same =
    let parts : g ∷ r ≡ 1 ∷ (to_be_bytes w32 (length q) ++ (q ++ (frames qs ++ h ∷ s))) = same
    ∙ behind_first q qs (h ∷ s) in (
      cc,
      record {
        payload = q;
        rest = frames qs ++ h ∷ s;
        is = cc;
        short = short;
        some = omega (arith, length-append (frames qs) (h ∷ s));
      },
    )

walks_more : (ps qs : List (List ℕ)) (p q : List ℕ) (g h : ℕ) (r s : List ℕ) → p ≡ q → Walks ps qs g h r s
    → Walks (p ∷ ps) (q ∷ qs) g h r s
walks_more ps qs p q g h r s same (inl alike) = inl
    (record { payloads = let payloads = alike.payloads in cc; gate = alike.gate; rest = alike.rest })
walks_more ps qs p q g h r s same (inr others) = inr others

walks : (ps qs : List (List ℕ)) (g h : ℕ) (r s : List ℕ) → All IsShort ps → All IsShort qs
    → frames ps ++ g ∷ r ≡ frames qs ++ h ∷ s → Walks ps qs g h r s
walks [] [] g h r s short_p short_q same = inl (record { payloads = refl; gate = cc; rest = cc })
walks [] (q ∷ qs) g h r s short_p short_q same = inr
    (inl (ends_before q qs g h r s (All-head IsShort q qs short_q) same))
walks (p ∷ ps) [] g h r s short_p short_q same = inr
    (inr (ends_before p ps h g s r (All-head IsShort p ps short_p) (sym same)))
walks (p ∷ ps) (q ∷ qs) g h r s short_p short_q same =
    let x = frames ps ++ g ∷ r in
    let y = frames qs ++ h ∷ s in
    let begun : 1 ∷ (to_be_bytes w32 (length p) ++ (p ++ x)) ≡ 1 ∷ (to_be_bytes w32 (length q) ++ (q ++ y)) =
    sym (behind_first p ps (g ∷ r)) ∙ same ∙ behind_first q qs (h ∷ s) in
    let parts = same_frame p q x y (All-head IsShort p ps short_p) (All-head IsShort q qs short_q) (cc begun) in
    walks_more ps qs p q g h r s parts.0 (walks ps qs g h r s (All-tail IsShort p ps short_p)
    (All-tail IsShort q qs short_q) parts.1)

-- the same of whole files
file_walks : (file : List ℕ) (ps qs : List (List ℕ)) (g h : ℕ) (r s : List ℕ) → All IsShort ps → All IsShort qs
    → file ≡ opened ps ++ g ∷ r → file ≡ opened qs ++ h ∷ s → Walks ps qs g h r s
file_walks file ps qs g h r s short_p short_q first second =
    let same : header ++ (frames ps ++ g ∷ r) ≡ header ++ (frames qs ++ h ∷ s) =
    sym (append_assoc header (frames ps) (g ∷ r)) ∙ sym first ∙ second ∙ append_assoc header (frames qs) (h ∷ s) in
    walks ps qs g h r s short_p short_q (same_parts header header (frames ps ++ g ∷ r) (frames qs ++ h ∷ s) refl same).1

pub stands_once : (file : List ℕ) (payloads others : List (List ℕ)) (gate place : ℕ) → Stands file payloads gate
    → Stands file others place
    → (payloads ≡ others) × (gate ≡ place)
stands_once file payloads others gate place a b =
    ends payloads others gate place a b
    (file_walks file payloads others a.closed b.closed a.rest b.rest a.short b.short a.whole b.whole)
  where
    ends : (payloads others : List (List ℕ)) (gate place : ℕ) (a : Stands file payloads gate)
        (b : Stands file others place)
        → Walks payloads others a.closed b.closed a.rest b.rest → (payloads ≡ others) × (gate ≡ place)
    ends payloads others gate place a b (inl alike) =
        (alike.payloads, a.place ∙ ap (λ (l : List (List ℕ)). length (opened l)) alike.payloads ∙ sym b.place)
    ends payloads others gate place a b (inr (inl open_gate)) = absurd (a.shut open_gate.0)
    ends payloads others gate place a b (inr (inr open_gate)) = absurd (b.shut open_gate.0)

pub not_both : (file : List ℕ) (at : ℕ) (rule : FrameRule) (payloads : List (List ℕ)) (gate : ℕ)
    → BreaksAt file at rule → Stands file payloads gate → ⊥
not_both file at rule payloads gate a b =
    ends a b (file_walks file a.payloads payloads 1 b.closed a.behind b.rest a.short b.short a.whole b.whole)
  where
    ends : (a : BreaksAt file at rule) (b : Stands file payloads gate)
        → Walks a.payloads payloads 1 b.closed a.behind b.rest → ⊥
    ends a b (inl alike) = b.shut (sym alike.gate)
    ends a b (inr (inl whole)) = not_broken a.behind rule whole.1 a.breaks
    ends a b (inr (inr open_gate)) = b.shut open_gate.0

pub breaks_once : (file : List ℕ) (at place : ℕ) (rule other : FrameRule) → BreaksAt file at rule
    → BreaksAt file place other → (at ≡ place) × (rule ≡ other)
breaks_once file at place rule other a b =
    ends a b (file_walks file a.payloads b.payloads 1 1 a.behind b.behind a.short b.short a.whole b.whole)
  where
    ends : (a : BreaksAt file at rule) (b : BreaksAt file place other)
        → Walks a.payloads b.payloads 1 1 a.behind b.behind → (at ≡ place) × (rule ≡ other)
    ends a b (inl alike) = (
      a.place ∙ ap (λ (l : List (List ℕ)). length (opened l)) alike.payloads ∙ sym b.place,
      broken_once b.behind rule other (subst (Breaks rule) alike.rest a.breaks) b.breaks,
    )
    ends a b (inr (inl whole)) = absurd (not_broken a.behind rule whole.1 a.breaks)
    ends a b (inr (inr whole)) = absurd (not_broken b.behind other whole.1 b.breaks)

pub journal_once : (file : List ℕ) (payloads others : List (List ℕ)) → IsJournalOf file payloads
    → IsJournalOf file others → payloads ≡ others
journal_once file payloads others (inl a) b = a.1 ∙ sym (short_journal file others a.0 b)
journal_once file payloads others (inr a) (inl b) = short_journal file payloads b.0 (inr a) ∙ sym b.1
journal_once file payloads others (inr a) (inr b) = (stands_once file payloads others a.0 b.0 a.1 b.1).0

pub broken_journal : (file : List ℕ) (at : ℕ) (rule : FrameRule) (payloads : List (List ℕ)) → 7 < length file
    → BreaksAt file at rule
    → IsJournalOf file payloads → ⊥
broken_journal file at rule payloads long breaks (inl small) = omega (arith, long, small.0)
broken_journal file at rule payloads long breaks (inr stands) = not_both file at rule payloads stands.0 breaks stands.1

begins_with_header : (file : List ℕ) (payloads : List (List ℕ)) (rest : List ℕ) → file ≡ opened payloads ++ rest
    → take 6 file ≡ header
begins_with_header file payloads rest is = ap (take 6) is

pub foreign_journal : (file : List ℕ) (payloads : List (List ℕ)) → IsForeign file → IsJournalOf file payloads → ⊥
foreign_journal file payloads foreign (inl small) = omega (arith, foreign.0, small.0)
foreign_journal file payloads foreign (inr stands) =
    foreign.1 (begins_with_header file payloads (stands.1.closed ∷ stands.1.rest) stands.1.whole)

pub foreign_breaks : (file : List ℕ) (at : ℕ) (rule : FrameRule) → IsForeign file → BreaksAt file at rule → ⊥
foreign_breaks file at rule foreign breaks = foreign.1
    (begins_with_header file breaks.payloads (1 ∷ breaks.behind) breaks.whole)
