-- The lane of a name, as lanes change.
use Rattle.std.proofs.Common.{◌≡◌, ℕ, zero, suc, ◌<◌, ◌≤◌, Bool, true, false, List, [], ◌∷◌, length, map, refl, sym, ◌∙◌, ap, inl, inr, arith}
use Rattle.std.specs.Prelude.{if◌then◌else◌, set, get_or, Ok, Err}
use Rattle.std.specs.List.{list_all, insert, AllWithin}
use Rattle.std.specs.Str.{bytes_eq}
use Rattle.std.specs.declared.cmp.Ordering.TheVariants.{Equal, Greater}
use Rattle.std.specs.Cmp.Lexicographic.{slice_cmp, nat_list_cmp_total, texts_ties}
use Rattle.std.specs.Ordering.{nat_cmp, is_lt, is_eq, ordering_reverse}
use Rattle.std.proofs.lemmas.List.{get_or_read}
use Rattle.std.proofs.lemmas.Bool.{cases_eq}
use Rattle.std.proofs.lemmas.Bool.Decides.{nat_tests}
use Rattle.fh_queues.specs.Order.{comes_before, are_in_order, with_name}
use Rattle.fh_queues.specs.Part.{has_queue}
use Rattle.fh_queues.specs.Lanes.{LaneValue, no_lane, name_of, lane_of, queues_of, IsSought, KeepsKeys, GrowsLane, SameKeys, Grows}
use Rattle.fh_queues.proofs.Naming.{bytes_same, bytes_self, before-trans, before-differs, before-differs_back, before-self, with_name-front}

abbrev pub AreInOrder : List LaneValue → Type 0
AreInOrder lanes = are_in_order (map name_of lanes) ≡ true

abbrev lane_at : List LaneValue → ℕ → LaneValue
lane_at lanes at = get_or lanes at no_lane

behind : (lane : LaneValue) (lanes : List LaneValue) → AreInOrder (lane ∷ lanes) → AreInOrder lanes
behind lane lanes ordered = grind (arith, nat_tests)

below : (lane : LaneValue) (lanes : List LaneValue) → AreInOrder (lane ∷ lanes) → list_all (comes_before lane.name) (map name_of lanes) ≡ true
below lane lanes ordered = grind (arith, nat_tests)

before_at : (name : List ℕ) (lanes : List LaneValue) (at : ℕ) (d : LaneValue) → list_all (comes_before name) (map name_of lanes) ≡ true → at < length lanes → comes_before name (get_or lanes at d).name ≡ true
before_at name [] at d all within = absurd (omega (arith, within))
before_at name (lane ∷ lanes) zero d all within = grind (arith, nat_tests)
before_at name (lane ∷ lanes) (suc at) d all within = before_at name lanes at d (grind (arith, nat_tests)) (omega (arith, within))

-- the first lane differs from one behind it
first_differs : (lane : LaneValue) (lanes : List LaneValue) (at : ℕ) (name : List ℕ) → AreInOrder (lane ∷ lanes) → at < length lanes → (lane_at lanes at).name ≡ name → comes_before lane.name name ≡ true
first_differs lane lanes at name ordered within is = ap (comes_before lane.name) (sym is) ∙ before_at lane.name lanes at no_lane (below lane lanes ordered) within

rising : (lanes : List LaneValue) (i j : ℕ) (d : LaneValue) → AreInOrder lanes → i < j → j < length lanes → comes_before (get_or lanes i d).name (get_or lanes j d).name ≡ true
rising [] i j d ordered less within = absurd (omega (arith, within))
rising (lane ∷ lanes) i zero d ordered less within = absurd (omega (arith, less))
rising (lane ∷ lanes) zero (suc j) d ordered less within = before_at lane.name lanes j d (below lane lanes ordered) (omega (arith, within))
rising (lane ∷ lanes) (suc i) (suc j) d ordered less within = rising lanes i j d (behind lane lanes ordered) (omega (arith, less)) (omega (arith, within))

-- what comes before one lane comes before those behind it, and what comes behind one behind those before it
pub before-up : (name : List ℕ) (lanes : List LaneValue) (i j : ℕ) (d : LaneValue) → AreInOrder lanes → i ≤ j → j < length lanes → comes_before name (get_or lanes i d).name ≡ true → comes_before name (get_or lanes j d).name ≡ true
before-up name lanes i j d ordered order within before = elim (cases_eq i j) [
  | inl same ↦ ap (λ k. comes_before name (get_or lanes k d).name) (sym same) ∙ before
  | inr differ ↦ before-trans name (get_or lanes i d).name (get_or lanes j d).name before (rising lanes i j d ordered (omega (arith, order, differ)) within)
]

pub before-down : (name : List ℕ) (lanes : List LaneValue) (i j : ℕ) (d : LaneValue) → AreInOrder lanes → i ≤ j → j < length lanes → comes_before (get_or lanes j d).name name ≡ true → comes_before (get_or lanes i d).name name ≡ true
before-down name lanes i j d ordered order within before = elim (cases_eq i j) [
  | inl same ↦ ap (λ k. comes_before (get_or lanes k d).name name) same ∙ before
  | inr differ ↦ before-trans (get_or lanes i d).name (get_or lanes j d).name name (rising lanes i j d ordered (omega (arith, order, differ)) within) before
]

pub same-equal : (a b : List ℕ) → slice_cmp nat_cmp a b ≡ Equal → a ≡ b
same-equal a b is = bytes_same a b (texts_ties a b ∙ ap is_eq is)

pub before-greater : (a b : List ℕ) → slice_cmp nat_cmp a b ≡ Greater → comes_before b a ≡ true
before-greater a b is = ap is_lt (nat_list_cmp_total.antisymm b a ∙ ap ordering_reverse is)

named : (a b : List ℕ) → a ≡ b → bytes_eq a b ≡ true
named a b is = ap (bytes_eq a) (sym is) ∙ bytes_self a

pub lane_of-at : (name : List ℕ) (lanes : List LaneValue) (at : ℕ) → AreInOrder lanes → at < length lanes → (lane_at lanes at).name ≡ name → lane_of name lanes ≡ lane_at lanes at
lane_of-at name [] at ordered within is = absurd (omega (arith, within))
lane_of-at name (lane ∷ lanes) zero ordered within is = rw (named lane.name name is) refl
lane_of-at name (lane ∷ lanes) (suc at) ordered within is =
    let differs = before-differs lane.name name (first_differs lane lanes at name ordered (omega (arith, within)) is) in
    rw differs (lane_of-at name lanes at (behind lane lanes ordered) (omega (arith, within)) is)

pub lane_of-set : (name : List ℕ) (lanes : List LaneValue) (at : ℕ) (new : LaneValue) → AreInOrder lanes → at < length lanes → (lane_at lanes at).name ≡ name → new.name ≡ name → lane_of name (set lanes at new) ≡ new
lane_of-set name [] at new ordered within is its = absurd (omega (arith, within))
lane_of-set name (lane ∷ lanes) zero new ordered within is its = rw (named new.name name its) refl
lane_of-set name (lane ∷ lanes) (suc at) new ordered within is its =
    let differs = before-differs lane.name name (first_differs lane lanes at name ordered (omega (arith, within)) is) in
    rw differs (lane_of-set name lanes at new (behind lane lanes ordered) (omega (arith, within)) is its)

pub lane_of-set_other : (name other : List ℕ) (lanes : List LaneValue) (at : ℕ) (new : LaneValue) → (lane_at lanes at).name ≡ name → new.name ≡ name → bytes_eq name other ≡ false → lane_of other (set lanes at new) ≡ lane_of other lanes
lane_of-set_other name other [] at new is its differ = refl
lane_of-set_other name other (lane ∷ lanes) zero new is its differ =
    rw (ap (λ n. bytes_eq n other) its ∙ differ, ap (λ n. bytes_eq n other) is ∙ differ) refl
lane_of-set_other name other (lane ∷ lanes) (suc at) new is its differ = by_test (bytes_eq lane.name other) refl (lane_of-set_other name other lanes at new is its differ)
  where
    by_test : (b : Bool) → bytes_eq lane.name other ≡ b → lane_of other (set lanes at new) ≡ lane_of other lanes → lane_of other (lane ∷ set lanes at new) ≡ lane_of other (lane ∷ lanes)
    by_test true same more = rw same refl
    by_test false same more = rw same more

pub names-set : (lanes : List LaneValue) (at : ℕ) (new : LaneValue) → new.name ≡ (lane_at lanes at).name → map name_of (set lanes at new) ≡ map name_of lanes
names-set [] at new same = refl
names-set (lane ∷ lanes) zero new same = ap (λ n. n ∷ map name_of lanes) same
names-set (lane ∷ lanes) (suc at) new same = ap (λ ns. lane.name ∷ ns) (names-set lanes at new same)

pub queues-set : (lanes : List LaneValue) (at : ℕ) (new : LaneValue) → new.name ≡ (lane_at lanes at).name → new.made ≡ (lane_at lanes at).made → queues_of (set lanes at new) ≡ queues_of lanes
queues-set [] at new name made = refl
queues-set (lane ∷ lanes) zero new name made =
    ap (λ b. if b then new.name ∷ queues_of lanes else queues_of lanes) made ∙ ap (λ n. if lane.made then n ∷ queues_of lanes else queues_of lanes) name
queues-set (lane ∷ lanes) (suc at) new name made = ap (λ qs. if lane.made then lane.name ∷ qs else qs) (queues-set lanes at new name made)

-- queues are among the lanes
all_queues : (p : List ℕ → Bool) (lanes : List LaneValue) → list_all p (map name_of lanes) ≡ true → list_all p (queues_of lanes) ≡ true
all_queues p [] all = refl
all_queues p (lane ∷ lanes) all = by_test lane.made refl (all_queues p lanes (grind (arith, nat_tests)))
  where
    by_test : (b : Bool) → lane.made ≡ b → list_all p (queues_of lanes) ≡ true → list_all p (queues_of (lane ∷ lanes)) ≡ true
    by_test true made more = rw made (grind (arith, nat_tests, more))
    by_test false made more = rw made more

pub queues-make : (name : List ℕ) (lanes : List LaneValue) (at : ℕ) (new : LaneValue) → AreInOrder lanes → at < length lanes → (lane_at lanes at).name ≡ name → new.name ≡ name → new.made ≡ true → queues_of (set lanes at new) ≡ with_name name (queues_of lanes)
queues-make name [] at new ordered within is its made = absurd (omega (arith, within))
queues-make name (lane ∷ lanes) zero new ordered within is its made =
    rw made (ap (λ n. n ∷ queues_of lanes) its ∙ by_test lane.made refl)
  where
    by_test : (b : Bool) → lane.made ≡ b → name ∷ queues_of lanes ≡ with_name name (queues_of (lane ∷ lanes))
    by_test true there =
        let isnt : comes_before lane.name name ≡ false = ap (comes_before lane.name) (sym is) ∙ before-self lane.name in
        rw (there, isnt, named lane.name name is) (ap (λ n. n ∷ queues_of lanes) (sym is))
    by_test false there =
        let all : list_all (comes_before name) (queues_of lanes) ≡ true = ap (λ n. list_all (comes_before n) (queues_of lanes)) (sym is) ∙ all_queues (comes_before lane.name) lanes (below lane lanes ordered) in
        rw there (sym (with_name-front name (queues_of lanes) all))
queues-make name (lane ∷ lanes) (suc at) new ordered within is its made = by_test lane.made refl (queues-make name lanes at new (behind lane lanes ordered) (omega (arith, within)) is its made)
  where
    by_test : (b : Bool) → lane.made ≡ b → queues_of (set lanes at new) ≡ with_name name (queues_of lanes) → queues_of (lane ∷ set lanes at new) ≡ with_name name (queues_of (lane ∷ lanes))
    by_test true there more =
        let before = first_differs lane lanes at name ordered (omega (arith, within)) is in
        rw (there, before) (ap (λ ns. lane.name ∷ ns) more)
    by_test false there more = rw there more

-- a name that has no lane
module _ (name : List ℕ) where
  sought_behind : (lane : LaneValue) (lanes : List LaneValue) (at : ℕ) → IsSought name (lane ∷ lanes) (Err (suc at)) → IsSought name lanes (Err at)
  sought_behind lane lanes at sought = (
    omega (arith, sought.0),
    λ k d low high. sought.1 (suc k) d (omega arith) (omega arith),
    λ k d low high. sought.2 (suc k) d (omega arith) (omega arith),
  )

  sought_first : (lane : LaneValue) (lanes : List LaneValue) (at : ℕ) → IsSought name (lane ∷ lanes) (Err (suc at)) → comes_before lane.name name ≡ true
  sought_first lane lanes at sought = sought.1 0 lane (omega arith) (omega arith)

  none_behind : (lanes : List LaneValue) → AllWithin (λ lane. comes_before name lane.name ≡ true) lanes 0 (length lanes) → list_all (comes_before name) (map name_of lanes) ≡ true
  none_behind [] all = refl
  none_behind (lane ∷ lanes) all =
      let here : comes_before name lane.name ≡ true = all 0 lane (omega arith) (omega arith) in
      grind (arith, nat_tests, none_behind lanes (λ k d low high. all (suc k) d (omega arith) (omega arith)))

  lane_of-before : (lanes : List LaneValue) → list_all (comes_before name) (map name_of lanes) ≡ true → lane_of name lanes ≡ no_lane
  lane_of-before [] all = refl
  lane_of-before (lane ∷ lanes) all =
      let ahead : comes_before name lane.name ≡ true = grind (arith, nat_tests) in
      rw (before-differs_back name lane.name ahead) (lane_of-before lanes (grind (arith, nat_tests)))

  pub lane_of-none : (lanes : List LaneValue) (at : ℕ) → IsSought name lanes (Err at) → lane_of name lanes ≡ no_lane
  lane_of-none [] at sought = refl
  lane_of-none (lane ∷ lanes) zero sought = lane_of-before (lane ∷ lanes) (none_behind (lane ∷ lanes) sought.2)
  lane_of-none (lane ∷ lanes) (suc at) sought =
      rw (before-differs lane.name name (sought_first lane lanes at sought)) (lane_of-none lanes at (sought_behind lane lanes at sought))

  pub lane_of-insert : (lanes : List LaneValue) (at : ℕ) (new : LaneValue) → IsSought name lanes (Err at) → new.name ≡ name → lane_of name (insert lanes at new) ≡ new
  lane_of-insert [] zero new sought its = rw (named new.name name its) refl
  lane_of-insert [] (suc at) new sought its = absurd (omega (arith, sought.0))
  lane_of-insert (lane ∷ lanes) zero new sought its = rw (named new.name name its) refl
  lane_of-insert (lane ∷ lanes) (suc at) new sought its =
      rw (before-differs lane.name name (sought_first lane lanes at sought)) (lane_of-insert lanes at new (sought_behind lane lanes at sought) its)

  pub lane_of-insert_other : (other : List ℕ) (lanes : List LaneValue) (at : ℕ) (new : LaneValue) → at ≤ length lanes → new.name ≡ name → bytes_eq name other ≡ false → lane_of other (insert lanes at new) ≡ lane_of other lanes
  lane_of-insert_other other [] zero new within its differ = rw (ap (λ n. bytes_eq n other) its ∙ differ) refl
  lane_of-insert_other other [] (suc at) new within its differ = absurd (omega (arith, within))
  lane_of-insert_other other (lane ∷ lanes) zero new within its differ = rw (ap (λ n. bytes_eq n other) its ∙ differ) refl
  lane_of-insert_other other (lane ∷ lanes) (suc at) new within its differ = by_test (bytes_eq lane.name other) refl (lane_of-insert_other other lanes at new (omega (arith, within)) its differ)
    where
      by_test : (b : Bool) → bytes_eq lane.name other ≡ b → lane_of other (insert lanes at new) ≡ lane_of other lanes → lane_of other (lane ∷ insert lanes at new) ≡ lane_of other (lane ∷ lanes)
      by_test true same more = rw same refl
      by_test false same more = rw same more

  pub queues-insert : (lanes : List LaneValue) (at : ℕ) (new : LaneValue) → at ≤ length lanes → new.made ≡ false → queues_of (insert lanes at new) ≡ queues_of lanes
  queues-insert [] zero new within made = rw made refl
  queues-insert [] (suc at) new within made = absurd (omega (arith, within))
  queues-insert (lane ∷ lanes) zero new within made = rw made refl
  queues-insert (lane ∷ lanes) (suc at) new within made = ap (λ qs. if lane.made then lane.name ∷ qs else qs) (queues-insert lanes at new (omega (arith, within)) made)

  all-insert : (p : List ℕ → Bool) (lanes : List LaneValue) (at : ℕ) (new : LaneValue) → at ≤ length lanes → list_all p (map name_of lanes) ≡ true → p new.name ≡ true → list_all p (map name_of (insert lanes at new)) ≡ true
  all-insert p [] zero new within all one = grind (arith, nat_tests)
  all-insert p [] (suc at) new within all one = absurd (omega (arith, within))
  all-insert p (lane ∷ lanes) zero new within all one = grind (arith, nat_tests)
  all-insert p (lane ∷ lanes) (suc at) new within all one = grind (arith, nat_tests, all-insert p lanes at new (omega (arith, within)))

  pub in_order-insert : (lanes : List LaneValue) (at : ℕ) (new : LaneValue) → AreInOrder lanes → IsSought name lanes (Err at) → new.name ≡ name → AreInOrder (insert lanes at new)
  in_order-insert [] zero new ordered sought its = refl
  in_order-insert [] (suc at) new ordered sought its = absurd (omega (arith, sought.0))
  in_order-insert (lane ∷ lanes) zero new ordered sought its =
      let all : list_all (comes_before new.name) (map name_of (lane ∷ lanes)) ≡ true = ap (λ n. list_all (comes_before n) (map name_of (lane ∷ lanes))) its ∙ none_behind (lane ∷ lanes) sought.2 in
      grind (arith, nat_tests, all, ordered)
  in_order-insert (lane ∷ lanes) (suc at) new ordered sought its =
      let before : comes_before lane.name new.name ≡ true = ap (comes_before lane.name) its ∙ sought_first lane lanes at sought in
      let all = all-insert (comes_before lane.name) lanes at new (omega (arith, sought.0)) (below lane lanes ordered) before in
      let rest = in_order-insert lanes at new (behind lane lanes ordered) (sought_behind lane lanes at sought) its in
      grind (arith, nat_tests, all, rest)

  no_queue : (lanes : List LaneValue) → list_all (comes_before name) (map name_of lanes) ≡ true → has_queue (queues_of lanes) name ≡ false
  no_queue [] all = refl
  no_queue (lane ∷ lanes) all = by_test lane.made refl (no_queue lanes (grind (arith, nat_tests)))
    where
      by_test : (b : Bool) → lane.made ≡ b → has_queue (queues_of lanes) name ≡ false → has_queue (queues_of (lane ∷ lanes)) name ≡ false
      by_test true made more =
          let ahead : comes_before name lane.name ≡ true = grind (arith, nat_tests) in
          rw made (grind (arith, nat_tests, before-differs_back name lane.name ahead, more))
      by_test false made more = rw made more

  pub has_queue-none : (lanes : List LaneValue) (at : ℕ) → IsSought name lanes (Err at) → has_queue (queues_of lanes) name ≡ false
  has_queue-none [] at sought = refl
  has_queue-none (lane ∷ lanes) zero sought = no_queue (lane ∷ lanes) (none_behind (lane ∷ lanes) sought.2)
  has_queue-none (lane ∷ lanes) (suc at) sought = by_test lane.made refl (has_queue-none lanes at (sought_behind lane lanes at sought))
    where
      by_test : (b : Bool) → lane.made ≡ b → has_queue (queues_of lanes) name ≡ false → has_queue (queues_of (lane ∷ lanes)) name ≡ false
      by_test true made more = rw made (grind (arith, nat_tests, before-differs lane.name name (sought_first lane lanes at sought), more))
      by_test false made more = rw made more

  pub has_queue-at : (lanes : List LaneValue) (at : ℕ) → AreInOrder lanes → at < length lanes → (lane_at lanes at).name ≡ name → has_queue (queues_of lanes) name ≡ (lane_at lanes at).made
  has_queue-at [] at ordered within is = absurd (omega (arith, within))
  has_queue-at (lane ∷ lanes) zero ordered within is = by_test lane.made refl
    where
      by_test : (b : Bool) → lane.made ≡ b → has_queue (queues_of (lane ∷ lanes)) name ≡ lane.made
      by_test true made = rw made (grind (arith, nat_tests, named lane.name name is, made))
      by_test false made =
          let all : list_all (comes_before name) (map name_of lanes) ≡ true = ap (λ n. list_all (comes_before n) (map name_of lanes)) (sym is) ∙ below lane lanes ordered in
          rw made (no_queue lanes all)
  has_queue-at (lane ∷ lanes) (suc at) ordered within is = by_test lane.made refl (has_queue-at lanes at (behind lane lanes ordered) (omega (arith, within)) is)
    where
      by_test : (b : Bool) → lane.made ≡ b → has_queue (queues_of lanes) name ≡ (lane_at lanes at).made → has_queue (queues_of (lane ∷ lanes)) name ≡ (lane_at lanes at).made
      by_test true made more =
          let before = first_differs lane lanes at name ordered (omega (arith, within)) is in
          rw made (grind (arith, nat_tests, before-differs lane.name name before, more))
      by_test false made more = rw made more

-- the lane that was found at a place, as it is kept and as it is seen
pub record Finds (name : List ℕ) (lanes now : List LaneValue) (at : ℕ) (lane : LaneValue) : Type 0 where
  pub ordered : AreInOrder lanes
  pub same : lanes ≡ now
  pub sought : IsSought name now (Ok at)
  pub read : lane ≡ get_or lanes at lane

module _ {name : List ℕ} {lanes now : List LaneValue} {at : ℕ} {lane : LaneValue} (found : Finds name lanes now at lane) where
  within : at < length lanes
  within = omega (arith, found.sought.0, ap length found.same)

  stands : lane_at lanes at ≡ lane
  stands = sym (get_or_read lanes at lane within found.read no_lane)

  its_name : (lane_at lanes at).name ≡ name
  its_name = ap (λ (ls : List LaneValue). (lane_at ls at).name) found.same ∙ found.sought.1 no_lane

  pub found-lane : lane_of name now ≡ lane
  found-lane = ap (lane_of name) (sym found.same) ∙ lane_of-at name lanes at found.ordered within its_name ∙ stands

  module _ (new : LaneValue) (named : new.name ≡ lane.name) where
    new_name : new.name ≡ name
    new_name = named ∙ ap name_of (sym stands) ∙ its_name

    pub set-lane : lane_of name (set lanes at new) ≡ new
    set-lane = lane_of-set name lanes at new found.ordered within its_name new_name

    pub set-other : (other : List ℕ) → bytes_eq name other ≡ false → lane_of other (set lanes at new) ≡ lane_of other now
    set-other other differ = lane_of-set_other name other lanes at new its_name new_name differ ∙ ap (lane_of other) found.same

    pub set-order : AreInOrder (set lanes at new)
    set-order = ap are_in_order (names-set lanes at new (named ∙ ap name_of (sym stands))) ∙ found.ordered

    pub set-queues : new.made ≡ lane.made → queues_of (set lanes at new) ≡ queues_of now
    set-queues made = queues-set lanes at new (named ∙ ap name_of (sym stands)) (made ∙ ap (λ (l : LaneValue). l.made) (sym stands)) ∙ ap queues_of found.same

    pub set-make : new.made ≡ true → queues_of (set lanes at new) ≡ with_name name (queues_of now)
    set-make made = queues-make name lanes at new found.ordered within its_name new_name made ∙ ap (λ ls. with_name name (queues_of ls)) found.same

    -- a lane grows, and the others stay
    pub set-grows : GrowsLane lane new → Grows now (set lanes at new)
    set-grows grows = record {
      queues = set-queues grows.made;
      numbers = λ other. by_numbers other (bytes_eq name other) refl;
      keys = λ other. by_keys other (bytes_eq name other) refl;
      room = λ other. by_room other (bytes_eq name other) refl;
    }
      where
        here : (other : List ℕ) → bytes_eq name other ≡ true → (lane_of other (set lanes at new) ≡ new) × (lane_of other now ≡ lane)
        here other is =
            let its : other ≡ name = sym (bytes_same name other is) in
            (ap (λ n. lane_of n (set lanes at new)) its ∙ set-lane, ap (λ n. lane_of n now) its ∙ found-lane)

        by_numbers : (other : List ℕ) (b : Bool) → bytes_eq name other ≡ b → (lane_of other (set lanes at new)).numbers ≡ (lane_of other now).numbers
        by_numbers other true is = let h = here other is in rw (h.0, h.1) grows.numbers
        by_numbers other false is = ap (λ (l : LaneValue). l.numbers) (set-other other is)

        by_keys : (other : List ℕ) (b : Bool) → bytes_eq name other ≡ b → KeepsKeys (lane_of other now).keys (lane_of other (set lanes at new)).keys
        by_keys other true is = let h = here other is in rw (h.0, h.1) grows.keys
        by_keys other false is = rw (set-other other is) (record { longer = omega arith; same = λ i low. refl })

        by_room : (other : List ℕ) (b : Bool) → bytes_eq name other ≡ b → (lane_of other now).room ≤ (lane_of other (set lanes at new)).room
        by_room other true is = let h = here other is in rw (h.0, h.1) grows.room
        by_room other false is = rw (set-other other is) (omega arith)

    -- a lane keeps its keys, and the others stay
    pub set-same_keys : SameKeys lane new → (other : List ℕ) → SameKeys (lane_of other now) (lane_of other (set lanes at new))
    set-same_keys same other = by_test (bytes_eq name other) refl
      where
        by_test : (b : Bool) → bytes_eq name other ≡ b → SameKeys (lane_of other now) (lane_of other (set lanes at new))
        by_test true is =
            let its : other ≡ name = sym (bytes_same name other is) in
            let new_is : lane_of other (set lanes at new) ≡ new = ap (λ n. lane_of n (set lanes at new)) its ∙ set-lane in
            let old_is : lane_of other now ≡ lane = ap (λ n. lane_of n now) its ∙ found-lane in
            rw (new_is, old_is) same
        by_test false is = rw (set-other other is) (record { numbers = refl; keys = refl; room = refl })

-- a new lane without messages, in a place where none was found
pub insert-grows : (name : List ℕ) (lanes : List LaneValue) (at : ℕ) (new : LaneValue) → IsSought name lanes (Err at) → new.name ≡ name → new.made ≡ false → new.numbers ≡ [] → Grows lanes (insert lanes at new)
insert-grows name lanes at new sought named made empty = record {
  queues = queues-insert name lanes at new sought.0 made;
  numbers = λ other. by_numbers other (bytes_eq name other) refl;
  keys = λ other. by_keys other (bytes_eq name other) refl;
  room = λ other. by_room other (bytes_eq name other) refl;
}
  where
    here : (other : List ℕ) → bytes_eq name other ≡ true → (lane_of other (insert lanes at new) ≡ new) × (lane_of other lanes ≡ no_lane)
    here other is =
        let its : other ≡ name = sym (bytes_same name other is) in (
          ap (λ n. lane_of n (insert lanes at new)) its ∙ lane_of-insert name lanes at new sought named,
          ap (λ n. lane_of n lanes) its ∙ lane_of-none name lanes at sought,
        )

    by_numbers : (other : List ℕ) (b : Bool) → bytes_eq name other ≡ b → (lane_of other (insert lanes at new)).numbers ≡ (lane_of other lanes).numbers
    by_numbers other true is = let h = here other is in rw (h.0, h.1) empty
    by_numbers other false is = ap (λ (l : LaneValue). l.numbers) (lane_of-insert_other name other lanes at new sought.0 named is)

    by_keys : (other : List ℕ) (b : Bool) → bytes_eq name other ≡ b → KeepsKeys (lane_of other lanes).keys (lane_of other (insert lanes at new)).keys
    by_keys other true is = let h = here other is in rw (h.0, h.1) (record { longer = omega arith; same = λ i low. absurd (omega arith) })
    by_keys other false is = rw (lane_of-insert_other name other lanes at new sought.0 named is) (record { longer = omega arith; same = λ i low. refl })

    by_room : (other : List ℕ) (b : Bool) → bytes_eq name other ≡ b → (lane_of other lanes).room ≤ (lane_of other (insert lanes at new)).room
    by_room other true is = let h = here other is in rw (h.0, h.1) (omega arith)
    by_room other false is = rw (lane_of-insert_other name other lanes at new sought.0 named is) (omega arith)
