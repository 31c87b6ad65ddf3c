-- What every layer above may cite: one lemma for each law of the leases.
use Rattle.std.proofs.Common.{◌≡◌, ℕ, ◌<◌, ◌≤◌, Bool, true, false, List, [], ◌∷◌, Option, Some, None, Ok, Err, Result, refl, sym, ap, ◌∙◌, subst, ◌⊎◌, inl, inr, arith}
use Rattle.std.specs.Prelude.{if◌then◌else◌, ◌&&◌, ◌||◌, ◌==◌, nat_lt, IfSome, ◌↔◌}
use Rattle.std.specs.Str.{bytes_eq}
use Rattle.std.proofs.lemmas.Bool.Decides.{nat_tests}
use Rattle.fh_base.specs.declared.rule.Rule.{Rule}
use Rattle.fh_event.specs.Judging.{Judged, Makes, unless_refused}
use Rattle.fh_leases.specs.declared.lease.Lease.{Lease}
use Rattle.fh_leases.specs.declared.ask.HeldLease.{HeldLease}
use Rattle.fh_leases.specs.declared.act.Act.{Act}
use Rattle.fh_leases.specs.declared.act.Act.TheVariants.{Set, Remove}
use Rattle.fh_leases.specs.declared.done.LeaseDone.{LeaseDone}
use Rattle.fh_leases.specs.declared.done.LeaseDone.TheVariants as done
use Rattle.fh_leases.specs.Part.{LeasePart, lease_of, holder_of, holder_at}
use Rattle.fh_leases.specs.Asks.{Ask, Acquire, Renew, Release, RenewAll, Nothing}
use Rattle.fh_leases.specs.Rules.{first_broken, range_rule, held_rule, acquire_rule, owned, all_owned}
use Rattle.fh_leases.specs.Acts.{acted, by_acts}
use Rattle.fh_leases.specs.Outcome.{after, acquired, renewed, renewals, untils, Acting, renewing_owned, releasing_owned, renewing_each, acting, made_by, outcome}
use Rattle.fh_leases.specs.Laws.{OfEachAsk, own_end, end_of, TellsOfHolders, KeepsUnnamed, IsToldOfHolder, HasOneHolder, granted_in, KeepsUnlessOver}
use Rattle.fh_leases.proofs.Naming.{same_name, lease_of-set, lease_of-removed}
use Rattle.fh_leases.proofs.Telling.{set_granted, set_others, over_by_rule, over_by_owner, IsOwned, is_owned, Renews, Skips, renews_or_skips}

-- what holds of each way in which an ask is accepted
record Ways (P : Ask → List Act → LeaseDone → Type 0) (part : LeasePart) (m : ℕ) : Type 0 where
  acquires : (name : List ℕ) (holder seconds : ℕ) → held_rule m (lease_of name part.leases) holder ≡ None → P (Acquire name holder seconds) (Set (acquired m name holder seconds) ∷ []) (done.Acquired (after m seconds))
  renews : (name : List ℕ) (holder : ℕ) (lease : Lease) → IsOwned part name holder lease → P (Renew name holder) (Set (renewed m lease) ∷ []) (done.Renewed (after m lease.seconds))
  releases : (name : List ℕ) (holder : ℕ) (lease : Lease) → IsOwned part name holder lease → P (Release name holder) (Remove name ∷ []) done.Released
  renews_all : (held : List HeldLease) (leases : List Lease) → all_owned part held ≡ Ok leases → P (RenewAll held) (renewals m leases) (done.AllRenewed (untils m leases))
  nothing : P Nothing [] done.Nothing

record Way (P : Ask → List Act → LeaseDone → Type 0) (part : LeasePart) (ask : Ask) (after : LeasePart) (answer : LeaseDone) : Type 0 where
  acts : List Act
  made : by_acts part acts ≡ after
  holds : P ask acts answer

last_rule : (a b c : Option Rule) → first_broken (a ∷ b ∷ c ∷ []) ≡ None → c ≡ None
last_rule (Some a) b c is = cc
last_rule None (Some b) c is = cc
last_rule None None (Some c) is = cc
last_rule None None None is = refl

module _ (P : Ask → List Act → LeaseDone → Type 0) (part : LeasePart) (m : ℕ) (ways : Ways P part m) (after_ask : LeasePart) (answer : LeaseDone) where
  accepted : (rule : Option Rule) (acts : Acting) → made_by part (unless_refused rule acts) ≡ Makes after_ask answer → (rule ≡ None) × (made_by part acts ≡ Makes after_ask answer)
  accepted None acts is = (refl, is)
  accepted (Some rule) acts is = absurd (cc)

  way : (ask : Ask) (acts : List Act) (given : LeaseDone) → P ask acts given → made_by part (Makes acts given) ≡ Makes after_ask answer → Way P part ask after_ask answer
  way ask acts given holds is =
      let made : by_acts part acts ≡ after_ask = cc in
      let same : given ≡ answer = cc in
      record { acts = acts; made = made; holds = subst (λ (d : LeaseDone). P ask acts d) same holds }

  by_renewing : (name : List ℕ) (holder : ℕ) (owns : Result Lease Rule) → owned part name holder ≡ owns → made_by part (renewing_owned m owns) ≡ Makes after_ask answer → Way P part (Renew name holder) after_ask answer
  by_renewing name holder (Err rule) owns is = absurd (cc)
  by_renewing name holder (Ok lease) owns is = way (Renew name holder) _ _ (ways.renews name holder lease (is_owned part name holder lease owns)) is

  by_releasing : (name : List ℕ) (holder : ℕ) (owns : Result Lease Rule) → owned part name holder ≡ owns → made_by part (releasing_owned name owns) ≡ Makes after_ask answer → Way P part (Release name holder) after_ask answer
  by_releasing name holder (Err rule) owns is = absurd (cc)
  by_releasing name holder (Ok lease) owns is = way (Release name holder) _ _ (ways.releases name holder lease (is_owned part name holder lease owns)) is

  by_renewing_all : (held : List HeldLease) (all : Result (List Lease) Rule) → all_owned part held ≡ all → made_by part (renewing_each m all) ≡ Makes after_ask answer → Way P part (RenewAll held) after_ask answer
  by_renewing_all held (Err rule) all is = absurd (cc)
  by_renewing_all held (Ok leases) all is = way (RenewAll held) _ _ (ways.renews_all held leases all) is

  by_acting : (ask : Ask) → made_by part (acting part ask m) ≡ Makes after_ask answer → Way P part ask after_ask answer
  unfolding acting
  by_acting (Acquire name holder seconds) is =
      let fits = accepted (acquire_rule part m name holder seconds) _ is in
      let free = last_rule (range_rule holder 1 999999999999999) (range_rule seconds 15 60) (held_rule m (lease_of name part.leases) holder) fits.0 in
      way (Acquire name holder seconds) _ _ (ways.acquires name holder seconds free) fits.1
  by_acting (Renew name holder) is = by_renewing name holder (owned part name holder) refl is
  by_acting (Release name holder) is = by_releasing name holder (owned part name holder) refl is
  by_acting (RenewAll held) is = by_renewing_all held (all_owned part held) refl is
  by_acting Nothing is = way Nothing _ _ ways.nothing is

  by_ways : (ask : Ask) → outcome part ask m ≡ Makes after_ask answer → Way P part ask after_ask answer
  unfolding outcome
  by_ways ask is = by_acting ask is

module _ (part : LeasePart) (m : ℕ) where
  abbrev Tells : Ask → List Act → LeaseDone → Type 0
  Tells ask acts answer = TellsOfHolders part m ask (by_acts part acts) answer

  set_row : (lease : Lease) (x : List ℕ) → lease_of x (by_acts part (Set lease ∷ [])).leases ≡ (if bytes_eq lease.name x then Some lease else lease_of x part.leases)
  unfolding acted
  set_row lease x = lease_of-set lease part x

  removed_row : (name x : List ℕ) → lease_of x (by_acts part (Remove name ∷ [])).leases ≡ (if bytes_eq name x then None else lease_of x part.leases)
  unfolding acted
  removed_row name x = lease_of-removed name part x

  -- until when h has the lease that is set, and what became of the others
  set_has : (lease : Lease) (x : List ℕ) (h end : ℕ) → (if bytes_eq lease.name x && (lease.holder == h) then Some lease.until else None) ≡ Some end → end_of (by_acts part (Set lease ∷ [])) x h ≡ Some end
  set_has lease x h end is = ap (own_end h) (set_row lease x) ∙ set_granted (bytes_eq lease.name x) lease (lease_of x part.leases) h end is

  set_keeps : (lease : Lease) (x : List ℕ) (h : ℕ) → (bytes_eq lease.name x ≡ true → (lease.holder == h) ≡ false → IfSome (own_end h (lease_of x part.leases)) (λ end. end ≤ m)) → (if bytes_eq lease.name x && (lease.holder == h) then Some lease.until else None) ≡ None → KeepsUnlessOver m (end_of part x h) (end_of (by_acts part (Set lease ∷ [])) x h)
  set_keeps lease x h over is =
      subst (λ (row : Option Lease). KeepsUnlessOver m (end_of part x h) (own_end h row)) (sym (set_row lease x)) (set_others (bytes_eq lease.name x) lease (lease_of x part.leases) m h over is)

  acquire_tells : (name : List ℕ) (holder seconds : ℕ) → held_rule m (lease_of name part.leases) holder ≡ None → Tells (Acquire name holder seconds) (Set (acquired m name holder seconds) ∷ []) (done.Acquired (after m seconds))
  acquire_tells name holder seconds free =
      let lease = acquired m name holder seconds in
      record {
        grants = λ x h end is. set_has lease x h end is;
        takes = λ x h is. cc;
        others = λ x h none kept. set_keeps lease x h (λ same other. subst (λ (n : List ℕ). IfSome (own_end h (lease_of n part.leases)) (λ end. end ≤ m)) (same_name name x same) (over_by_rule m (lease_of name part.leases) holder h free other)) none;
      }

  renew_tells : (name : List ℕ) (holder : ℕ) (lease : Lease) → IsOwned part name holder lease → Tells (Renew name holder) (Set (renewed m lease) ∷ []) (done.Renewed (after m lease.seconds))
  renew_tells name holder lease owns =
      let same_grant : (x : List ℕ) (h : ℕ) → (if bytes_eq lease.name x && (lease.holder == h) then Some (after m lease.seconds) else None) ≡ (if bytes_eq name x && (holder == h) then Some (after m lease.seconds) else None) = λ x h. rw (owns.called, owns.owner) refl in
      record {
        grants = λ x h end is. set_has (renewed m lease) x h end (same_grant x h ∙ is);
        takes = λ x h is. cc;
        others = λ x h none kept. set_keeps (renewed m lease) x h (λ same other. over x h same other) (same_grant x h ∙ none);
      }
    where
      over : (x : List ℕ) (h : ℕ) → bytes_eq lease.name x ≡ true → (lease.holder == h) ≡ false → IfSome (own_end h (lease_of x part.leases)) (λ end. end ≤ m)
      over x h same other =
          let stands : lease_of x part.leases ≡ Some lease = ap (λ n. lease_of n part.leases) (sym (same_name lease.name x same) ∙ owns.called) ∙ owns.stands in
          subst (λ (row : Option Lease). IfSome (own_end h row) (λ end. end ≤ m)) (sym stands) (subst (λ (end : Option ℕ). IfSome end (λ e. e ≤ m)) (sym (over_by_owner m lease lease.holder h refl other)) tt)

  release_tells : (name : List ℕ) (holder : ℕ) (lease : Lease) → IsOwned part name holder lease → Tells (Release name holder) (Remove name ∷ []) done.Released
  release_tells name holder lease owns = record {
    grants = λ x h end is. cc;
    takes = λ x h is. ap (own_end h) (removed_row name x) ∙ gone (bytes_eq name x) (holder == h) (own_end h (lease_of x part.leases)) h (lease_of x part.leases) is;
    others = λ x h none kept. subst (λ (row : Option Lease). KeepsUnlessOver m (end_of part x h) (own_end h row)) (sym (removed_row name x)) (stays x h (bytes_eq name x) (holder == h) refl refl kept);
  }
    where
      gone : (named mine : Bool) (before : Option ℕ) (h : ℕ) (row : Option Lease) → (named && mine) ≡ true → own_end h (if named then None else row) ≡ None
      gone true mine before h row is = refl
      gone false mine before h row is = cc

      stays : (x : List ℕ) (h : ℕ) (named mine : Bool) → bytes_eq name x ≡ named → (holder == h) ≡ mine → (named && mine) ≡ false → KeepsUnlessOver m (end_of part x h) (own_end h (if named then None else lease_of x part.leases))
      stays x h false mine apart other is = inl refl
      stays x h true true same own is = cc
      stays x h true false same other is =
          let stands : lease_of x part.leases ≡ Some lease = ap (λ n. lease_of n part.leases) (sym (same_name name x same)) ∙ owns.stands in
          inl (sym (ap (own_end h) stands ∙ over_by_owner m lease holder h owns.owner other))

  renew_all_tells : (held : List HeldLease) (leases : List Lease) → all_owned part held ≡ Ok leases → Tells (RenewAll held) (renewals m leases) (done.AllRenewed (untils m leases))
  renew_all_tells held leases all = record {
    grants = λ x h end is. has x h end (renews_or_skips part m x h part held leases all) is;
    takes = λ x h is. cc;
    others = λ x h none kept. keeps x h (renews_or_skips part m x h part held leases all) none;
  }
    where
      has : (x : List ℕ) (h end : ℕ) → Skips part m x h held leases ⊎ Renews part part m x h held leases → granted_in x h held (untils m leases) ≡ Some end → end_of (by_acts part (renewals m leases)) x h ≡ Some end
      has x h end (inl skips) is = cc (skips.grants)
      has x h end (inr renews) is = ap (own_end h) renews.becomes ∙ sym renews.grants ∙ is

      keeps : (x : List ℕ) (h : ℕ) → Skips part m x h held leases ⊎ Renews part part m x h held leases → granted_in x h held (untils m leases) ≡ None → KeepsUnlessOver m (end_of part x h) (end_of (by_acts part (renewals m leases)) x h)
      keeps x h (inl skips) none = inl (ap (own_end h) skips.stays)
      keeps x h (inr renews) none = by_holder (renews.lease.holder == h) refl
        where
          by_holder : (b : Bool) → (renews.lease.holder == h) ≡ b → KeepsUnlessOver m (end_of part x h) (end_of (by_acts part (renewals m leases)) x h)
          by_holder true same =
              let given : (if renews.lease.holder == h then Some (after m renews.lease.seconds) else None) ≡ None = sym renews.grants ∙ none in
              let some : Some (after m renews.lease.seconds) ≡ None = subst (λ (b : Bool). (if b then Some (after m renews.lease.seconds) else None) ≡ None) same given in
              cc
          by_holder false other = inl (ap (own_end h) renews.becomes ∙ over_by_owner m (renewed m renews.lease) renews.lease.holder h refl other ∙ sym (ap (own_end h) renews.stands ∙ over_by_owner m renews.lease renews.lease.holder h refl other))

  nothing_tells : Tells Nothing [] done.Nothing
  nothing_tells = record { grants = λ x h end is. cc; takes = λ x h is. cc; others = λ x h none kept. inl refl }

  tell_ways : Ways Tells part m
  tell_ways = record { acquires = acquire_tells; renews = renew_tells; releases = release_tells; renews_all = renew_all_tells; nothing = nothing_tells }

  abbrev KeepsRows : Ask → List Act → LeaseDone → Type 0
  KeepsRows ask acts answer = KeepsUnnamed part m ask (by_acts part acts) answer

  skipped : (named : Bool) (new before : Option Lease) → named ≡ false → (if named then new else before) ≡ before
  skipped true new before is = cc
  skipped false new before is = refl

  keep_ways : Ways KeepsRows part m
  keep_ways = record {
    acquires = λ name holder seconds free x other. set_row (acquired m name holder seconds) x ∙ skipped (bytes_eq name x) _ _ other;
    renews = λ name holder lease owns x other. set_row (renewed m lease) x ∙ skipped (bytes_eq lease.name x) _ _ (ap (λ n. bytes_eq n x) owns.called ∙ other);
    releases = λ name holder lease owns x other. removed_row name x ∙ skipped (bytes_eq name x) _ _ other;
    renews_all = λ held leases all x other. unnamed held leases all x other;
    nothing = λ x other. refl;
  }
    where
      unnamed : (held : List HeldLease) (leases : List Lease) → all_owned part held ≡ Ok leases → KeepsUnnamed part m (RenewAll held) (by_acts part (renewals m leases)) (done.AllRenewed (untils m leases))
      unnamed held leases all x other = by_either (renews_or_skips part m x 0 part held leases all)
        where
          by_either : Skips part m x 0 held leases ⊎ Renews part part m x 0 held leases → lease_of x (by_acts part (renewals m leases)).leases ≡ lease_of x part.leases
          by_either (inl skips) = skips.stays
          by_either (inr renews) = absurd (cc (renews.named, other))

pub tells : OfEachAsk TellsOfHolders
tells part ask m after answer is =
    let by = by_ways (Tells part m) part m (tell_ways part m) after answer ask is in
    subst (λ (p : LeasePart). TellsOfHolders part m ask p answer) by.made by.holds

pub keeps_unnamed : OfEachAsk KeepsUnnamed
keeps_unnamed part ask m after answer is =
    let by = by_ways (KeepsRows part m) part m (keep_ways part m) after answer ask is in
    subst (λ (p : LeasePart). KeepsUnnamed part m ask p answer) by.made by.holds

own_holder : (h end : ℕ) (row : Option Lease) → own_end h row ≡ Some end → (lease : Lease) × (row ≡ Some lease) × (lease.holder ≡ h) × (lease.until ≡ end)
own_holder h end None is = cc
own_holder h end (Some lease) is = by_test (lease.holder == h) refl is
  where
    by_test : (b : Bool) → (lease.holder == h) ≡ b → (if b then Some lease.until else None) ≡ Some end → (one : Lease) × (Some lease ≡ Some one) × (one.holder ≡ h) × (one.until ≡ end)
    by_test true same until = (lease, refl, grind (arith, nat_tests, same), cc)
    by_test false apart until = cc

pub one_holder : (part : LeasePart) → HasOneHolder part
one_holder part x h other end later mine theirs =
    let first = own_holder h end (lease_of x part.leases) mine in
    let second = own_holder other later (lease_of x part.leases) theirs in
    let same : first.0 ≡ second.0 = cc (first.1, second.1) in
    sym first.2 ∙ ap (λ l. l.holder) same ∙ second.2

abbrev shown : Bool → Lease → Option (ℕ × ℕ)
shown late lease = if late then Some (lease.holder, lease.until) else None

abbrev holder_in : Option (ℕ × ℕ) → ℕ
holder_in None = 0
holder_in (Some told) = told.0

abbrev end_in : Option (ℕ × ℕ) → ℕ
end_in None = 0
end_in (Some told) = told.1

pub told : (part : LeasePart) → IsToldOfHolder part
told part x h end m = by_row (lease_of x part.leases)
  where
    by_tests : (lease : Lease) (late mine : Bool) → nat_lt m lease.until ≡ late → (lease.holder == h) ≡ mine → (shown late lease ≡ Some (h, end)) ↔ (((if mine then Some lease.until else None) ≡ Some end) × (m < end))
    by_tests lease false mine later same = (λ is. cc, λ is. absurd (omega (arith, over is.0 is.1)))
      where
        over : (if mine then Some lease.until else None) ≡ Some end → m < end → m < m
        over is before = by_mine mine is
          where
            by_mine : (b : Bool) → (if b then Some lease.until else None) ≡ Some end → m < m
            by_mine true until = let one : lease.until ≡ end = cc in absurd (grind (arith, nat_tests, later, one, before))
            by_mine false until = cc
    by_tests lease true true later same =
        (λ is. (ap (λ n. Some n) (ap end_in is), let one : lease.until ≡ end = ap end_in is in grind (arith, nat_tests, later)), λ is. let mine : lease.holder ≡ h = grind (arith, nat_tests, same) in let until : lease.until ≡ end = cc (is.0) in rw (mine, until) refl)
    by_tests lease true false later same =
        (λ is. absurd (let mine : lease.holder ≡ h = ap holder_in is in grind (arith, nat_tests, same)), λ is. cc (is.0))

    by_row : (row : Option Lease) → (holder_of m row ≡ Some (h, end)) ↔ ((own_end h row ≡ Some end) × (m < end))
    by_row None = (λ is. cc, λ is. cc (is.0))
    by_row (Some lease) = by_tests lease (nat_lt m lease.until) (lease.holder == h) refl refl
