-- What the index says of rows, and that it is kept.
use Rattle.std.proofs.Common.{◌≡◌, ◌≢◌, ℕ, zero, suc, ◌+◌, ◌-◌, ◌<◌, ◌≤◌, ◌^◌, Bool, true, false, List, [], ◌∷◌, ◌++◌, length, refl, sym, ap, subst, ◌∙◌, inl, inr, arith, add-one}
use Rattle.std.specs.Prelude.{nat_lt, set, slice_index, Option, Some, None}
use Rattle.std.specs.Str.{bytes_eq}
use Rattle.std.proofs.lemmas.Bool.{cases_eq}
use Rattle.std.proofs.lemmas.Bool.Decides.{nat_tests}
use Rattle.std.proofs.lemmas.List.{get_or-set_same, get_or-set_other, length-set, get_or_append_left, get_or_push, length_push}
use Rattle.fh_minima.specs.Tower.{AreAbove}
use Rattle.fh_queues.specs.declared.row.Message.{Message}
use Rattle.fh_queues.specs.declared.done.Ending.TheVariants.{Expired}
use Rattle.fh_queues.specs.declared.slot.Slot.{Slot}
use Rattle.fh_queues.specs.declared.slot.Slot.TheVariants.{Row, Ended}
use Rattle.fh_queues.specs.Rows.{is_before, is_of, is_visible, is_dead}
use Rattle.fh_queues.specs.Lanes.{LaneValue, KeepsKeys, IsReady}
use Rattle.fh_queues.specs.Index.{slot_at, live_of, IsNoLater, IsListed, IsLane, IsIndexed, Skips}
use Rattle.fh_queues.proofs.Naming.{bytes_same}
use Rattle.fh_queues.proofs.Slots.{AreNumbered, slot_within}

pub numbered : (lane : List ℕ → LaneValue) (slots : List Slot) (expiries : List ℕ) → IsIndexed lane slots expiries → AreNumbered 0 slots
numbered lane slots expiries indexed i row place is = omega (arith, (indexed.rows i row place is).numbered)

live_by_key : (m key : ℕ) (expiry : Option ℕ) → m < key → IsNoLater key expiry → is_before m expiry ≡ true
live_by_key m key None later is = refl
live_by_key m key (Some expiry) later is = grind (arith, nat_tests)

-- where the keys are above a moment, no row has expired by it
pub skips_due : (lane : List ℕ → LaneValue) (slots : List Slot) (expiries : List ℕ) (from to m : ℕ) → IsIndexed lane slots expiries → AreAbove expiries from to m → Skips (is_dead m) slots from to
skips_due lane slots expiries from to m indexed above i row place low high is =
    rw (live_by_key m (slice_index expiries i) row.expiry (above i low high) (indexed.rows i row place is).expires) refl

-- the last number before that place
abbrev pub seen_in : LaneValue → ℕ → ℕ
seen_in lane zero = 0
seen_in lane (suc k) = slice_index lane.numbers k

module _ (last : ℕ) (lane : LaneValue) (stands : IsLane last lane) where
  number-le : (i j : ℕ) → i ≤ j → j < length lane.numbers → slice_index lane.numbers i ≤ slice_index lane.numbers j
  number-le i j order low = elim (cases_eq i j) [
    | inl same ↦ rw same (omega arith)
    | inr differ ↦ omega (arith, stands.rising i j (omega (arith, order, differ)) low)
  ]

  seen-before : (place from : ℕ) → place < from → from ≤ length lane.numbers → slice_index lane.numbers place ≤ seen_in lane from
  seen-before place zero low within = absurd (omega (arith, low))
  seen-before place (suc k) low within = number-le place k (omega (arith, low)) (omega (arith, within))

  seen-behind : (from place : ℕ) → from ≤ place → place < length lane.numbers → seen_in lane from < slice_index lane.numbers place
  seen-behind zero place order within = omega (arith, (stands.within place within).0)
  seen-behind (suc k) place order within = stands.rising k place (omega (arith, order)) within

  pub seen-le : (from : ℕ) → from ≤ length lane.numbers → seen_in lane from ≤ last
  seen-le zero within = omega arith
  seen-le (suc k) within = (stands.within k (omega (arith, within))).1

-- the place behind the next one
pub seen-next : (lane : LaneValue) (place slot : ℕ) → slot ≡ slice_index lane.numbers place - 1 → 1 ≤ slice_index lane.numbers place → seen_in lane (place + 1) ≡ slot + 1
seen-next lane place slot is low =
    let next : place + 1 ≡ suc place = add-one place in
    ap (seen_in lane) next ∙ omega (arith, is, low)

-- a row that passes is in the queue, and its key is at most the bound
abbrev pub Reaches : (Message → Bool) → List ℕ → ℕ → Type 0
Reaches test queue most =
    (row : Message) → test row ≡ true
    → (is_of queue row ≡ true) × ((key : ℕ) → key ≤ row.visible_at → key < 2 ^ 64 - 1 → key ≤ most)

module _ (lane : List ℕ → LaneValue) (slots : List Slot) (expiries : List ℕ) (indexed : IsIndexed lane slots expiries) (test : Message → Bool) (queue : List ℕ) (most : ℕ) (reaches : Reaches test queue most) where
  -- between what was seen and the next place whose key is at most the bound, no row passes
  skips_between : (from to stop : ℕ) → from ≤ length (lane queue).numbers → AreAbove (lane queue).keys from to most
      → ((place : ℕ) → to ≤ place → place < length (lane queue).numbers → stop < slice_index (lane queue).numbers place)
      → Skips test slots (seen_in (lane queue) from) stop
  skips_between from to stop seen above behind i row place low high is = by_test (test row) refl
    where
      by_test : (b : Bool) → test row ≡ b → b ≡ false
      by_test false fails = refl
      by_test true passes =
          let facts = reaches row passes in
          let here : row.queue ≡ queue = bytes_same row.queue queue facts.0 in
          let listed : IsListed (lane queue) expiries i row place = subst (λ (q : List ℕ). IsListed (lane q) expiries i row place) here (indexed.rows i row place is) in
          let key : slice_index (lane queue).keys place ≤ most = facts.1 (slice_index (lane queue).keys place) listed.shown listed.comes in
          nowhere listed key (nat_lt place from) (nat_lt place to) refl refl
        where
          nowhere : IsListed (lane queue) expiries i row place → slice_index (lane queue).keys place ≤ most → (b c : Bool) → nat_lt place from ≡ b → nat_lt place to ≡ c → true ≡ false
          nowhere listed key true c first second =
              let under : place < from = grind (arith, nat_tests, first) in
              absurd (omega (arith, seen-before (length slots) (lane queue) (indexed.lanes queue) place from under seen, listed.listed, low))
          nowhere listed key false true first second =
              let over : from ≤ place = grind (arith, nat_tests, first) in
              let under : place < to = grind (arith, nat_tests, second) in
              absurd (omega (arith, above place over under, key))
          nowhere listed key false false first second =
              let over : to ≤ place = grind (arith, nat_tests, second) in
              absurd (omega (arith, behind place over listed.within, listed.listed, high))

  -- up to the slot of the next place
  pub skips_next : (from to slot : ℕ) → from ≤ to → to < length (lane queue).numbers → slot ≡ slice_index (lane queue).numbers to - 1 → AreAbove (lane queue).keys from to most → Skips test slots (seen_in (lane queue) from) slot
  skips_next from to slot order within is above =
      skips_between from to slot (omega (arith, order, within)) above
      (λ place high low. omega (arith, number-le (length slots) (lane queue) (indexed.lanes queue) to place high low, is, ((indexed.lanes queue).within to within).0))

  -- to the end, where there is no next one
  pub skips_rest : (from : ℕ) → from ≤ length (lane queue).numbers → AreAbove (lane queue).keys from (length (lane queue).numbers) most → Skips test slots (seen_in (lane queue) from) (length slots)
  skips_rest from within above = skips_between from (length (lane queue).numbers) (length slots) within above (λ place high low. absurd (omega (arith, high, low)))

  -- where the slot of the next place is
  pub slot_next : (from to slot : ℕ) → from ≤ to → to < length (lane queue).numbers → slot ≡ slice_index (lane queue).numbers to - 1 → (seen_in (lane queue) from ≤ slot) × (slot < length slots) × (seen_in (lane queue) (to + 1) ≡ slot + 1)
  slot_next from to slot order within is =
      let bounds = (indexed.lanes queue).within to within in (
        omega (arith, seen-behind (length slots) (lane queue) (indexed.lanes queue) from to order within, is),
        omega (arith, bounds.0, bounds.1, is),
        seen-next (lane queue) to slot is bounds.0,
      )

-- the lane of a name that is the changed one or another
by_name : (changed : List ℕ) (P : List ℕ → Type 0) → P changed → ((name : List ℕ) → bytes_eq changed name ≡ false → P name) → (name : List ℕ) → P name
by_name changed P here others name = by_test (bytes_eq changed name) refl
  where
    by_test : (b : Bool) → bytes_eq changed name ≡ b → P name
    by_test true is = subst P (bytes_same changed name is) here
    by_test false is = others name is

-- a lane stands as before where it has the same numbers
lane-kept : (last more : ℕ) (lane new : LaneValue) → IsLane last lane → last ≤ more → new.numbers ≡ lane.numbers → length lane.keys ≤ length new.keys → IsLane more new
lane-kept last more lane new stands up same longer = record {
  keyed = rw same (omega (arith, stands.keyed, longer));
  rising = rw same stands.rising;
  within = rw same (λ i fits. ((stands.within i fits).0, omega (arith, (stands.within i fits).1, up)));
}

-- more memory for lanes and for expiries
pub indexed-grows : (lane new : List ℕ → LaneValue) (slots : List Slot) (expiries more : List ℕ) → IsIndexed lane slots expiries → ((name : List ℕ) → (new name).numbers ≡ (lane name).numbers) → ((name : List ℕ) → KeepsKeys (lane name).keys (new name).keys) → KeepsKeys expiries more → IsIndexed new slots more
indexed-grows lane new slots expiries more indexed numbers keys longer = record {
  rows = λ i row place is.
      let old = indexed.rows i row place is in
      let key : slice_index (new row.queue).keys place ≡ slice_index (lane row.queue).keys place = (keys row.queue).same place (omega (arith, old.within, (indexed.lanes row.queue).keyed)) in
      let expiry : slice_index more i ≡ slice_index expiries i = longer.same i (omega (arith, slot_within slots i row place is, indexed.keyed)) in
      record {
        numbered = old.numbered;
        within = rw (numbers row.queue) old.within;
        listed = rw (numbers row.queue) old.listed;
        shown = omega (arith, key, old.shown);
        comes = omega (arith, key, old.comes);
        expires = rw expiry old.expires;
      };
  lanes = λ name. lane-kept (length slots) (length slots) (lane name) (new name) (indexed.lanes name) (omega arith) (numbers name) (keys name).longer;
  keyed = omega (arith, indexed.keyed, longer.longer);
}

-- one row's place has another key, and its slot changes
pub indexed-change : (lane new : List ℕ → LaneValue) (slots : List Slot) (expiries after : List ℕ) (at : ℕ) (row : Message) (place key : ℕ) (slot : Slot)
    → IsIndexed lane slots expiries → slot_at slots at ≡ Row row place
    → (new row.queue).numbers ≡ (lane row.queue).numbers → (new row.queue).keys ≡ set (lane row.queue).keys place key
    → ((name : List ℕ) → bytes_eq row.queue name ≡ false → new name ≡ lane name)
    → length after ≡ length expiries → ((i : ℕ) → i ≢ at → slice_index after i ≡ slice_index expiries i)
    → ((other : Message) (its : ℕ) → slot ≡ Row other its → (other.number ≡ row.number) × (other.queue ≡ row.queue) × (its ≡ place) × (key ≤ other.visible_at) × (key < 2 ^ 64 - 1) × IsNoLater (slice_index after at) other.expiry)
    → IsIndexed new (set slots at slot) after
indexed-change lane new slots expiries after at row place key slot indexed stands numbers keys others length_same elsewhere_same now = record {
  rows = rows;
  lanes = by_name row.queue (λ name. IsLane (length (set slots at slot)) (new name))
      (lane-kept (length slots) (length (set slots at slot)) (lane row.queue) (new row.queue) (indexed.lanes row.queue) (omega (arith, length-set slots at slot)) numbers (omega (arith, ap length keys, length-set (lane row.queue).keys place key)))
      (λ name differ. rw (others name differ) (lane-kept (length slots) (length (set slots at slot)) (lane name) (lane name) (indexed.lanes name) (omega (arith, length-set slots at slot)) refl (omega arith)));
  keyed = omega (arith, indexed.keyed, length-set slots at slot, length_same);
}
  where
    was : IsListed (lane row.queue) expiries at row place
    was = indexed.rows at row place stands

    here : (i : ℕ) (other : Message) (its : ℕ) → i ≡ at → slot ≡ Row other its → IsListed (new other.queue) after i other its
    here i other its same is =
        let facts = now other its is in
        let keyed : place < length (lane row.queue).keys = omega (arith, was.within, (indexed.lanes row.queue).keyed) in
        let its_key : slice_index (new row.queue).keys place ≡ key = ap (λ (ks : List ℕ). slice_index ks place) keys ∙ get_or-set_same (lane row.queue).keys place key 0 keyed in
        rw (facts.1, facts.2) (record {
          numbered = omega (arith, facts.0, same, was.numbered);
          within = rw numbers was.within;
          listed = rw numbers (was.listed ∙ ap (λ n. n + 1) (sym same));
          shown = omega (arith, its_key, facts.3);
          comes = omega (arith, its_key, facts.4);
          expires = rw same facts.5;
        })

    elsewhere : (i : ℕ) (other : Message) (its : ℕ) → i ≢ at → IsListed (lane other.queue) expiries i other its → IsListed (new other.queue) after i other its
    elsewhere i other its differ = by_name row.queue (λ name. IsListed (lane name) expiries i other its → IsListed (new name) after i other its) (λ old.
        let apart : its ≢ place = λ same. differ (omega (arith, sym old.listed ∙ ap (slice_index (lane row.queue).numbers) same ∙ was.listed)) in
        let its_key : slice_index (new row.queue).keys its ≡ slice_index (lane row.queue).keys its = ap (λ (ks : List ℕ). slice_index ks its) keys ∙ get_or-set_other (lane row.queue).keys place its key 0 apart in
        record {
          numbered = old.numbered;
          within = rw numbers old.within;
          listed = rw numbers old.listed;
          shown = omega (arith, its_key, old.shown);
          comes = omega (arith, its_key, old.comes);
          expires = rw (elsewhere_same i differ) old.expires;
        })
        (λ name other_name old. rw (others name other_name) (record {
          numbered = old.numbered;
          within = old.within;
          listed = old.listed;
          shown = old.shown;
          comes = old.comes;
          expires = rw (elsewhere_same i differ) old.expires;
        }))
        other.queue

    rows : (i : ℕ) (other : Message) (its : ℕ) → slot_at (set slots at slot) i ≡ Row other its → IsListed (new other.queue) after i other its
    rows i other its is = elim (cases_eq i at) [
      | inl same ↦ here i other its same (sym (ap (slot_at (set slots at slot)) same ∙ get_or-set_same slots at slot (Ended Expired) (slot_within slots at row place stands)) ∙ is)
      | inr differ ↦ elsewhere i other its differ (indexed.rows i other its (sym (get_or-set_other slots at i slot (Ended Expired) differ) ∙ is))
    ]

-- one more row, behind the others of its lane
pub indexed-put : (lane new : List ℕ → LaneValue) (slots : List Slot) (expiries after : List ℕ) (row : Message) (place key : ℕ)
    → IsIndexed lane slots expiries → row.number ≡ length slots + 1 → IsReady 1 (lane row.queue)
    → place ≡ length (lane row.queue).numbers
    → (new row.queue).numbers ≡ (lane row.queue).numbers ++ row.number ∷ []
    → (new row.queue).keys ≡ set (lane row.queue).keys (length (lane row.queue).numbers) key
    → ((name : List ℕ) → bytes_eq row.queue name ≡ false → new name ≡ lane name)
    → key ≤ row.visible_at → key < 2 ^ 64 - 1
    → length slots < length expiries → length after ≡ length expiries
    → ((i : ℕ) → i ≢ length slots → slice_index after i ≡ slice_index expiries i) → IsNoLater (slice_index after (length slots)) row.expiry
    → IsIndexed new (slots ++ Row row place ∷ []) after
indexed-put lane new slots expiries after row place key indexed number ready place_is numbers keys others early comes room length_same elsewhere_same expiry = record {
  rows = rows;
  lanes = by_name row.queue (λ name. IsLane (length (slots ++ Row row place ∷ [])) (new name)) longer
      (λ name differ. rw (others name differ) (lane-kept (length slots) (length (slots ++ Row row place ∷ [])) (lane name) (lane name) (indexed.lanes name) (omega (arith, length_push slots (Row row place))) refl (omega arith)));
  keyed = omega (arith, length_push slots (Row row place), length_same, room);
}
  where
    old_numbers : List ℕ
    old_numbers = (lane row.queue).numbers

    number_before : (its : ℕ) → its < length (lane row.queue).numbers → slice_index (new row.queue).numbers its ≡ slice_index (lane row.queue).numbers its
    number_before its low = ap (λ (ns : List ℕ). slice_index ns its) numbers ∙ get_or_append_left (lane row.queue).numbers (row.number ∷ []) 0 its low

    number_last : slice_index (new row.queue).numbers (length (lane row.queue).numbers) ≡ length slots + 1
    number_last = ap (λ (ns : List ℕ). slice_index ns (length (lane row.queue).numbers)) numbers ∙ get_or_push (lane row.queue).numbers row.number 0 (length (lane row.queue).numbers) refl ∙ number

    key_last : slice_index (new row.queue).keys (length (lane row.queue).numbers) ≡ key
    key_last = ap (λ (ks : List ℕ). slice_index ks (length (lane row.queue).numbers)) keys ∙ get_or-set_same (lane row.queue).keys (length (lane row.queue).numbers) key 0 (omega (arith, ready.keys))

    lane_length : length (new row.queue).numbers ≡ length (lane row.queue).numbers + 1
    lane_length = ap length numbers ∙ length_push (lane row.queue).numbers row.number

    lane_keys : length (new row.queue).keys ≡ length (lane row.queue).keys
    lane_keys = ap length keys ∙ length-set (lane row.queue).keys (length (lane row.queue).numbers) key

    stands : IsLane (length slots) (lane row.queue)
    stands = indexed.lanes row.queue

    stays : (i : ℕ) (other : Message) (its : ℕ) → i ≢ length slots → IsListed (lane other.queue) expiries i other its → IsListed (new other.queue) after i other its
    stays i other its differ = by_name row.queue (λ name. IsListed (lane name) expiries i other its → IsListed (new name) after i other its) (λ old.
        let apart : its ≢ length (lane row.queue).numbers = λ same. absurd (omega (arith, same, old.within)) in
        let its_key : slice_index (new row.queue).keys its ≡ slice_index (lane row.queue).keys its = ap (λ (ks : List ℕ). slice_index ks its) keys ∙ get_or-set_other (lane row.queue).keys (length (lane row.queue).numbers) its key 0 apart in
        record {
          numbered = old.numbered;
          within = omega (arith, old.within, lane_length);
          listed = number_before its old.within ∙ old.listed;
          shown = omega (arith, its_key, old.shown);
          comes = omega (arith, its_key, old.comes);
          expires = rw (elsewhere_same i differ) old.expires;
        })
        (λ name other_name old. rw (others name other_name) (record {
          numbered = old.numbered;
          within = old.within;
          listed = old.listed;
          shown = old.shown;
          comes = old.comes;
          expires = rw (elsewhere_same i differ) old.expires;
        }))
        other.queue

    arrives : IsListed (new row.queue) after (length slots) row (length (lane row.queue).numbers)
    arrives = record {
      numbered = number;
      within = omega (arith, lane_length);
      listed = number_last;
      shown = omega (arith, key_last, early);
      comes = omega (arith, key_last, comes);
      expires = expiry;
    }

    rows : (i : ℕ) (other : Message) (its : ℕ) → slot_at (slots ++ Row row place ∷ []) i ≡ Row other its → IsListed (new other.queue) after i other its
    rows i other its is = elim (cases_eq i (length slots)) [
      | inl end ↦
          let same : Row row place ≡ Row other its = sym (get_or_push slots (Row row place) (Ended Expired) i (sym end)) ∙ is in
          let same_row : row ≡ other = cc in
          let same_place : length (lane row.queue).numbers ≡ its = cc in
          subst (λ (k : ℕ). IsListed (new other.queue) after k other its) (sym end)
          (subst (λ (r : Message). IsListed (new r.queue) after (length slots) r its) same_row
          (subst (λ (p : ℕ). IsListed (new row.queue) after (length slots) row p) same_place arrives))
      | inr differ ↦
          let low : i < length slots = omega (arith, differ, slot_within (slots ++ Row row place ∷ []) i other its is, length_push slots (Row row place)) in
          stays i other its differ (indexed.rows i other its (sym (get_or_append_left slots (Row row place ∷ []) (Ended Expired) i low) ∙ is))
    ]

    longer : IsLane (length (slots ++ Row row place ∷ [])) (new row.queue)
    longer = record {
      keyed = omega (arith, lane_length, lane_keys, ready.keys);
      rising = rising;
      within = within;
    }
      where
        within : (i : ℕ) → i < length (new row.queue).numbers → (1 ≤ slice_index (new row.queue).numbers i) × (slice_index (new row.queue).numbers i ≤ length (slots ++ Row row place ∷ []))
        within i low = elim (cases_eq i (length (lane row.queue).numbers)) [
          | inl end ↦ rw end (omega (arith, number_last), omega (arith, number_last, length_push slots (Row row place)))
          | inr before ↦
              let fits : i < length (lane row.queue).numbers = omega (arith, low, before, lane_length) in
              let bounds = stands.within i fits in
              rw (number_before i fits) (bounds.0, omega (arith, bounds.1, length_push slots (Row row place)))
        ]

        rising : (i j : ℕ) → i < j → j < length (new row.queue).numbers → slice_index (new row.queue).numbers i < slice_index (new row.queue).numbers j
        rising i j order low =
            let i_before : i < length (lane row.queue).numbers = omega (arith, order, low, lane_length) in
            elim (cases_eq j (length (lane row.queue).numbers)) [
              | inl end ↦ rw end (omega (arith, number_before i i_before, (stands.within i i_before).1, number_last))
              | inr before ↦
                  let j_before : j < length (lane row.queue).numbers = omega (arith, low, before, lane_length) in
                  omega (arith, number_before i i_before, number_before j j_before, stands.rising i j order j_before)
            ]

pub seen-same : (lane new : LaneValue) (from : ℕ) → new.numbers ≡ lane.numbers → seen_in new from ≡ seen_in lane from
seen-same lane new zero same = refl
seen-same lane new (suc k) same = ap (λ (ns : List ℕ). slice_index ns k) same

pub reaches_queue : (queue : List ℕ) → Reaches (is_of queue) queue 18446744073709551614
reaches_queue queue row is = (is, λ key early comes. omega (arith, comes))

pub reaches_live : (queue : List ℕ) (m : ℕ) → Reaches (live_of queue m) queue 18446744073709551614
reaches_live queue m row is =
    let here : is_of queue row ≡ true = grind (arith, nat_tests, is) in
    (here, λ key early comes. omega (arith, comes))

pub reaches_visible : (queue : List ℕ) (m : ℕ) → Reaches (is_visible queue m) queue m
reaches_visible queue m row is =
    let here : is_of queue row ≡ true = grind (arith, nat_tests, is) in
    let due : row.visible_at ≤ m = grind (arith, nat_tests, is) in
    (here, λ key early comes. omega (arith, early, due))
