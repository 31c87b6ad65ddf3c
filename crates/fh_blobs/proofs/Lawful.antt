-- What every layer above may cite: one lemma for each law of the blobs.
use Rattle.std.proofs.Common.{◌≡◌, ℕ, ◌+◌, ◌≤◌, Bool, true, false, List, [], ◌∷◌, ◌++◌, length, filter, find, Option, Some, None, refl, sym, ap, ◌∙◌, subst, arith}
use Rattle.std.specs.Prelude.{◌==◌, ◌&&◌, ◌||◌, nat_le, nat_lt, if◌then◌else◌, is_some, option_map}
use Rattle.std.specs.List.{list_all}
use Rattle.std.specs.Ordering.{is_lt, is_gt, is_ne, is_eq}
use Rattle.std.specs.Str.{bytes_eq}
use Rattle.std.proofs.lemmas.Bool.Decides.{nat_tests}
use Rattle.fh_base.specs.declared.rule.Rule.{Rule}
use Rattle.fh_event.specs.Judging.{Quiets, Makes, unless_refused}
use Rattle.fh_rows.proofs.Lawful.{find-passes}
use Rattle.fh_blobs.specs.declared.blob.BlobRow.{BlobRow}
use Rattle.fh_blobs.specs.declared.receipt.Receipt.{Receipt}
use Rattle.fh_blobs.specs.declared.ask.NewBlob.{NewBlob}
use Rattle.fh_blobs.specs.declared.act.Act.{Act}
use Rattle.fh_blobs.specs.declared.act.Act.TheVariants as acts
use Rattle.fh_blobs.specs.declared.done.BlobDone.{BlobDone}
use Rattle.fh_blobs.specs.declared.done.BlobDone.TheVariants as done
use Rattle.fh_blobs.specs.Part.{BlobPart, no_blobs, by_blob, by_receipt, blob_of, has_receipt, is_noted}
use Rattle.fh_blobs.specs.Asks.{Ask, Put, Remove, Note, PutAll, Nothing}
use Rattle.fh_blobs.specs.Rules.{text_rule, texts_rule}
use Rattle.fh_blobs.specs.Acts.{new_row, receipt_of, with_blob, acted, by_acts}
use Rattle.fh_blobs.specs.Outcome.{Acting, removing_found, noting_found, puts, acting, made_by, outcome}
use Rattle.fh_blobs.specs.Laws.{IsWhole, OfEachAsk, StaysWhole, gives, GivesVersionsInTurn, MakesReceiptsOnce, HasNoReceipt, new_versions, MovesVersions, answers, AnswersTheAsk, NotesTheCurrentVersion}
use Rattle.fh_blobs.proofs.Receipts.{has_receipt-made, first_of_both, second_of_both, same_text, blob_of-names, all-found, is_this, is_eq-by_receipt}

-- what holds of each way in which an ask changes something
record Ways (P : Ask → List Act → BlobDone → Type 0) (part : BlobPart) : Type 0 where
  stores : (c n text : List ℕ) → P (Put c n text) (acts.Put (new_row c n text) ∷ []) (done.Stored part.next_version)
  removes : (c n : List ℕ) → P (Remove c n) (acts.Remove c n ∷ []) done.Removed
  notes : (f : ℕ) (c n : List ℕ) (row : BlobRow) → blob_of c n part.blobs ≡ Some row → is_noted part f row ≡ false → P (Note f c n) (acts.Note (receipt_of f row) ∷ []) (done.NowNoted row.version)
  stores_all : (blobs : List NewBlob) → P (PutAll blobs) (puts blobs) (done.AllStored part.next_version (length blobs))
  nothing : P Nothing [] done.Nothing

record Way (P : Ask → List Act → BlobDone → Type 0) (part : BlobPart) (ask : Ask) (after : BlobPart) (answer : BlobDone) : Type 0 where
  chain : List Act
  made : by_acts part chain ≡ after
  holds : P ask chain answer

module _ (P : Ask → List Act → BlobDone → Type 0) (part : BlobPart) (ways : Ways P part) (after_ask : BlobPart) (answer : BlobDone) where
  accepted : (rule : Option Rule) (judged : Acting) → made_by part (unless_refused rule judged) ≡ Makes after_ask answer → made_by part judged ≡ Makes after_ask answer
  accepted None judged is = is
  accepted (Some rule) judged is = absurd (cc)

  way : (ask : Ask) (chain : List Act) (given : BlobDone) → P ask chain given → made_by part (Makes chain given) ≡ Makes after_ask answer → Way P part ask after_ask answer
  way ask chain given holds is =
      let made : by_acts part chain ≡ after_ask = cc in
      let same : given ≡ answer = cc in
      record { chain = chain; made = made; holds = subst (λ (d : BlobDone). P ask chain d) same holds }

  by_removing : (c n : List ℕ) (row : Option BlobRow) → made_by part (removing_found c n row) ≡ Makes after_ask answer → Way P part (Remove c n) after_ask answer
  by_removing c n None is = absurd (cc)
  by_removing c n (Some row) is = way (Remove c n) _ _ (ways.removes c n) is

  by_noted : (f : ℕ) (c n : List ℕ) (row : BlobRow) (noted : Bool) → blob_of c n part.blobs ≡ Some row → is_noted part f row ≡ noted → made_by part (if noted then Quiets done.Noted else Makes (acts.Note (receipt_of f row) ∷ []) (done.NowNoted row.version)) ≡ Makes after_ask answer → Way P part (Note f c n) after_ask answer
  by_noted f c n row true stands noted is = absurd (cc)
  by_noted f c n row false stands noted is = way (Note f c n) _ _ (ways.notes f c n row stands noted) is

  by_noting : (f : ℕ) (c n : List ℕ) (row : Option BlobRow) → blob_of c n part.blobs ≡ row → made_by part (noting_found part f row) ≡ Makes after_ask answer → Way P part (Note f c n) after_ask answer
  by_noting f c n None stands is = absurd (cc)
  by_noting f c n (Some row) stands is = by_noted f c n row (is_noted part f row) stands refl is

  by_acting : (ask : Ask) → made_by part (acting part ask) ≡ Makes after_ask answer → Way P part ask after_ask answer
  unfolding acting
  by_acting (Put c n text) is = way (Put c n text) _ _ (ways.stores c n text) (accepted (text_rule text) _ is)
  by_acting (Remove c n) is = by_removing c n (blob_of c n part.blobs) is
  by_acting (Note f c n) is = by_noting f c n (blob_of c n part.blobs) refl is
  by_acting (PutAll blobs) is = way (PutAll blobs) _ _ (ways.stores_all blobs) (accepted (texts_rule blobs) _ is)
  by_acting Nothing is = way Nothing _ _ ways.nothing is

  by_ways : (ask : Ask) (m : ℕ) → outcome part ask m ≡ Makes after_ask answer → Way P part ask after_ask answer
  unfolding outcome
  by_ways ask m is = by_acting ask is

-- ---- versions

next-puts : (blobs : List NewBlob) (part : BlobPart) → (by_acts part (puts blobs)).next_version ≡ part.next_version + length blobs
unfolding acted
next-puts [] part = omega arith
next-puts (new ∷ blobs) part = next-puts blobs (with_blob (new_row new.container new.name new.text) part) ∙ omega arith

module _ (part : BlobPart) where
  abbrev InTurn : Ask → List Act → BlobDone → Type 0
  InTurn ask chain answer = GivesVersionsInTurn part 0 ask (by_acts part chain) answer

  none_given : (v : ℕ) → false ≡ (nat_le part.next_version v && nat_lt v part.next_version)
  none_given v = grind (arith, nat_tests)

  turn_ways : Ways InTurn part
  unfolding acted
  turn_ways = record {
    stores = λ c n text v. grind (arith, nat_tests);
    removes = λ c n v. none_given v;
    notes = λ f c n row stands noted v. none_given v;
    stores_all = λ blobs v. rw (next-puts blobs part) refl;
    nothing = λ v. none_given v;
  }

pub gives_in_turn : OfEachAsk GivesVersionsInTurn
gives_in_turn part ask m after answer h is =
    let by = by_ways (InTurn part) part (turn_ways part) after answer ask m is in
    subst (λ (p : BlobPart). GivesVersionsInTurn part m ask p answer) by.made by.holds

module _ (part : BlobPart) where
  abbrev Little : Ask → List Act → BlobDone → Type 0
  Little ask chain answer = (by_acts part chain).next_version ≤ part.next_version + new_versions ask

  little_ways : Ways Little part
  unfolding acted
  little_ways = record {
    stores = λ c n text. omega arith;
    removes = λ c n. omega arith;
    notes = λ f c n row stands noted. omega arith;
    stores_all = λ blobs. omega (arith, next-puts blobs part);
    nothing = omega arith;
  }

pub moves_versions : MovesVersions
moves_versions part ask m after answer is =
    let by = by_ways (Little part) part (little_ways part) after answer ask m is in
    subst (λ (p : BlobPart). p.next_version ≤ part.next_version + new_versions ask) by.made by.holds

-- ---- answers

module _ (part : BlobPart) where
  abbrev Answers : Ask → List Act → BlobDone → Type 0
  Answers ask chain answer = answers ask answer ≡ true

  answer_ways : Ways Answers part
  answer_ways = record {
    stores = λ c n text. refl;
    removes = λ c n. refl;
    notes = λ f c n row stands noted. refl;
    stores_all = λ blobs. refl;
    nothing = refl;
  }

  abbrev Current : Ask → List Act → BlobDone → Type 0
  Current ask chain answer = NotesTheCurrentVersion part 0 ask part answer

  current_ways : Ways Current part
  current_ways = record {
    stores = λ c n text. tt;
    removes = λ c n. tt;
    notes = λ f c n row stands noted. ap (option_map (λ (r : BlobRow). r.version)) stands;
    stores_all = λ blobs. tt;
    nothing = tt;
  }

pub answers_the_ask : AnswersTheAsk
answers_the_ask part ask m after answer is = (by_ways (Answers part) part (answer_ways part) after answer ask m is).holds

pub notes_current : OfEachAsk NotesTheCurrentVersion
notes_current part ask m after answer h is =
    of_each ask answer (by_ways (Current part) part (current_ways part) after answer ask m is).holds
  where
    of_each : (ask : Ask) (answer : BlobDone) → Current part ask [] answer → NotesTheCurrentVersion part m ask after answer
    of_each (Note f c n) (done.NowNoted version) is = is
    of_each ask answer is = tt

-- ---- receipts

receipts-puts : (blobs : List NewBlob) (part : BlobPart) → (by_acts part (puts blobs)).receipts ≡ part.receipts
unfolding acted
receipts-puts [] part = refl
receipts-puts (new ∷ blobs) part = receipts-puts blobs (with_blob (new_row new.container new.name new.text) part)

or_false : (b : Bool) → b ≡ (b || false)
or_false true = refl
or_false false = refl

module _ (part : BlobPart) where
  abbrev Once : Ask → List Act → BlobDone → Type 0
  Once ask chain answer = MakesReceiptsOnce part 0 ask (by_acts part chain) answer

  noted_once : (f : ℕ) (c n : List ℕ) (row : BlobRow) → blob_of c n part.blobs ≡ Some row → is_noted part f row ≡ false → Once (Note f c n) (acts.Note (receipt_of f row) ∷ []) (done.NowNoted row.version)
  unfolding acted
  noted_once f c n row stands noted = record {
    new = λ g d b v is. was_new g d b v is;
    stays = λ g d b v. has_receipt-made (receipt_of f row) part g d b v ∙ ap (λ test. has_receipt part g d b v || test) (named g d b v);
  }
    where
      named : (g : ℕ) (d b : List ℕ) (v : ℕ) → is_this g d b v (receipt_of f row) ≡ ((f == g) && (bytes_eq c d && (bytes_eq n b && (row.version == v))))
      named g d b v = let names = blob_of-names c n part.blobs row stands in rw (names.0, names.1) refl

      was_new : (g : ℕ) (d b : List ℕ) (v : ℕ) → ((f == g) && (bytes_eq c d && (bytes_eq n b && (row.version == v)))) ≡ true → has_receipt part g d b v ≡ false
      was_new g d b v is =
          let names = blob_of-names c n part.blobs row stands in
          let rest = second_of_both (f == g) _ is in
          let last = second_of_both (bytes_eq c d) _ rest in
          let function : f ≡ g = let test = first_of_both (f == g) _ is in grind (arith, nat_tests, test) in
          let version : row.version ≡ v = let test = second_of_both (bytes_eq n b) _ last in grind (arith, nat_tests, test) in
          let container : row.container ≡ d = names.0 ∙ same_text c d (first_of_both (bytes_eq c d) _ rest) in
          let blob : row.blob ≡ b = names.1 ∙ same_text n b (first_of_both (bytes_eq n b) _ last) in
          rw (← function, ← version, ← container, ← blob) noted

  once_ways : Ways Once part
  unfolding acted
  once_ways = record {
    stores = λ c n text. record { new = λ f d b v is. cc; stays = λ f d b v. or_false (has_receipt part f d b v) };
    removes = λ c n. record { new = λ f d b v is. cc; stays = λ f d b v. or_false (has_receipt part f d b v) };
    notes = noted_once;
    stores_all = λ blobs. record { new = λ f d b v is. cc; stays = λ f d b v. ap (λ rows. is_some (find (λ row. is_eq (by_receipt f d b v row)) rows)) (receipts-puts blobs part) ∙ or_false (has_receipt part f d b v) };
    nothing = record { new = λ f d b v is. cc; stays = λ f d b v. or_false (has_receipt part f d b v) };
  }

pub made_once : OfEachAsk MakesReceiptsOnce
made_once part ask m after answer h is =
    let by = by_ways (Once part) part (once_ways part) after answer ask m is in
    let holds = subst (λ (p : BlobPart). MakesReceiptsOnce part 0 ask p answer) by.made by.holds in
    record { new = holds.new; stays = holds.stays }

-- ---- whole parts

pub Whole-none : IsWhole no_blobs
Whole-none = record { versions = omega arith; blobs = refl; receipts = refl }

pub no_receipt : (part : BlobPart) → IsWhole part → HasNoReceipt part
no_receipt part h f c b v late = by_found (find (λ row. is_eq (by_receipt f c b v row)) part.receipts) refl
  where
    by_found : (found : Option Receipt) → find (λ row. is_eq (by_receipt f c b v row)) part.receipts ≡ found → is_some found ≡ false
    by_found None is = refl
    by_found (Some row) is =
        let low = all-found (λ r. nat_lt r.version part.next_version) (λ r. is_eq (by_receipt f c b v r)) part.receipts row h.receipts is in
        let this = sym (is_eq-by_receipt f c b v row) ∙ find-passes (λ r. is_eq (by_receipt f c b v r)) part.receipts row is in
        let test = second_of_both (bytes_eq row.blob b) _ (second_of_both (bytes_eq row.container c) _ (second_of_both (row.function == f) _ this)) in
        absurd (grind (arith, nat_tests, test, low, late))

pub both : (a b : Bool) → a ≡ true → b ≡ true → (a && b) ≡ true
both a b x y = rw x y

module _ {X : Type 0} (p : X → Bool) where
  pub all-filter : (keeps : X → Bool) (xs : List X) → list_all p xs ≡ true → list_all p (filter keeps xs) ≡ true
  all-filter keeps [] all = refl
  all-filter keeps (x ∷ xs) all = by_test (keeps x) (all-filter keeps xs (second_of_both (p x) (list_all p xs) all))
    where
      by_test : (b : Bool) → list_all p (filter keeps xs) ≡ true → list_all p (if b then x ∷ filter keeps xs else filter keeps xs) ≡ true
      by_test true rest = both _ _ (first_of_both (p x) (list_all p xs) all) rest
      by_test false rest = rest

  all-append : (xs ys : List X) → list_all p xs ≡ true → list_all p ys ≡ true → list_all p (xs ++ ys) ≡ true
  all-append [] ys front back = back
  all-append (x ∷ xs) ys front back = both _ _ (first_of_both (p x) (list_all p xs) front) (all-append xs ys (second_of_both (p x) (list_all p xs) front) back)

  pub all-joined : (low high : X → Bool) (new : X) (xs : List X) → p new ≡ true → list_all p xs ≡ true → list_all p (filter low xs ++ new ∷ filter high xs) ≡ true
  all-joined low high new xs here all = all-append (filter low xs) (new ∷ filter high xs) (all-filter low xs all) (both _ _ here (all-filter high xs all))

pub all-weaker : {X : Type 0} (p q : X → Bool) → ((x : X) → p x ≡ true → q x ≡ true) → (xs : List X) → list_all p xs ≡ true → list_all q xs ≡ true
all-weaker p q gives [] all = refl
all-weaker p q gives (x ∷ xs) all = both _ _ (gives x (first_of_both (p x) (list_all p xs) all)) (all-weaker p q gives xs (second_of_both (p x) (list_all p xs) all))

Whole-with_blob : (row : BlobRow) (part : BlobPart) → IsWhole part → IsWhole (with_blob row part)
Whole-with_blob row part h =
    let next = part.next_version in
    let lower : (n : ℕ) → nat_lt n next ≡ true → nat_lt n (next + 1) ≡ true = λ n is. grind (arith, nat_tests) in
    record {
      versions = omega (arith, h.versions);
      blobs = all-joined (λ (r : BlobRow). nat_lt r.version (next + 1)) (λ r. is_lt (by_blob row.container row.blob r)) (λ r. is_gt (by_blob row.container row.blob r)) (record row { version = next }) part.blobs (grind (arith, nat_tests)) (all-weaker (λ r. nat_lt r.version next) (λ r. nat_lt r.version (next + 1)) (λ r is. lower r.version is) part.blobs h.blobs);
      receipts = all-weaker (λ r. nat_lt r.version next) (λ r. nat_lt r.version (next + 1)) (λ r is. lower r.version is) part.receipts h.receipts;
    }

Whole-puts : (blobs : List NewBlob) (part : BlobPart) → IsWhole part → IsWhole (by_acts part (puts blobs))
unfolding acted
Whole-puts [] part h = h
Whole-puts (new ∷ blobs) part h = Whole-puts blobs (with_blob (new_row new.container new.name new.text) part) (Whole-with_blob (new_row new.container new.name new.text) part h)

module _ (part : BlobPart) (h : IsWhole part) where
  abbrev Stays : Ask → List Act → BlobDone → Type 0
  Stays ask chain answer = IsWhole (by_acts part chain)

  whole_ways : Ways Stays part
  unfolding acted
  whole_ways = record {
    stores = λ c n text. Whole-with_blob (new_row c n text) part h;
    removes = λ c n. record { versions = h.versions; blobs = all-filter (λ r. nat_lt r.version part.next_version) (λ r. is_ne (by_blob c n r)) part.blobs h.blobs; receipts = h.receipts };
    notes = λ f c n row stands noted. record {
      versions = h.versions;
      blobs = h.blobs;
      receipts = all-joined (λ (r : Receipt). nat_lt r.version part.next_version) (λ r. is_lt (by_receipt f row.container row.blob row.version r)) (λ r. is_gt (by_receipt f row.container row.blob row.version r)) (receipt_of f row) part.receipts (all-found (λ r. nat_lt r.version part.next_version) (λ r. is_eq (by_blob c n r)) part.blobs row h.blobs stands) h.receipts;
    };
    stores_all = λ blobs. Whole-puts blobs part h;
    nothing = h;
  }

pub Whole-outcome : OfEachAsk StaysWhole
Whole-outcome part ask m after answer h is =
    let by = by_ways (Stays part h) part (whole_ways part h) after answer ask m is in
    subst IsWhole by.made by.holds
