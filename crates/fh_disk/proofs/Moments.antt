-- How a run of device calls goes on, and what holds of each image since it began.
use Rattle.std.proofs.Common.{◌≡◌, inl, inr, ⊎_elim, ℕ, List, Option, refl, ◌∙◌, arith}
use Rattle.fh_disk.specs.Disk.{NoNewImage}
use Rattle.fh_disk.specs.Moments.{Elapses, LeavesOnly, OnlyReads}

module _ {D : Type 0} (moment : D → ℕ) (left_since : D → ℕ → List ℕ → Type 0) where
  -- before the first call
  pub started : (old : D) (P : List ℕ → Type 0) → ((c : List ℕ) → left_since old (moment old) c → P c)
      → LeavesOnly moment left_since old old P
  started old P here = record { later = omega arith; each = here; before = λ t c le left. inl left }

  -- one call more, after which a crash leaves what has P
  pub goes_on : (old mid new : D) (P may_leave : List ℕ → Type 0) → LeavesOnly moment left_since old mid P
      → Elapses (moment mid) (moment new) (left_since mid) (left_since new) may_leave
      → ((c : List ℕ) → may_leave c → P c) → LeavesOnly moment left_since old new P
  goes_on old mid new P may_leave so_far time here = record {
    later = omega (arith, so_far.later, time.later);
    each = λ c left. ⊎_elim (so_far.each c) (here c) (time.nothing_else (moment old) c so_far.later left);
    before = λ t c le left. ⊎_elim (so_far.before t c le) (λ now. inr (here c now))
        (time.nothing_else t c (omega (arith, le, so_far.later)) left);
  }

  -- two runs, one behind the other
  pub joins : (old mid new : D) (P Q R : List ℕ → Type 0) → LeavesOnly moment left_since old mid P
      → LeavesOnly moment left_since mid new Q
      → ((c : List ℕ) → P c → R c) → ((c : List ℕ) → Q c → R c) → LeavesOnly moment left_since old new R
  joins old mid new P Q R first second p q = record {
    later = omega (arith, first.later, second.later);
    each = λ c left. ⊎_elim (λ was. p c (first.each c was)) (q c) (second.before (moment old) c first.later left);
    before = λ t c le left. ⊎_elim (λ was. ⊎_elim (λ earlier. inl earlier) (λ now. inr (p c now))
        (first.before t c le was)) (λ now. inr (q c now))
        (second.before t c (omega (arith, le, first.later)) left);
  }

  pub widens : (old new : D) (P Q : List ℕ → Type 0) → LeavesOnly moment left_since old new P
      → ((c : List ℕ) → P c → Q c)
      → LeavesOnly moment left_since old new Q
  widens old new P Q only wider = record {
    later = only.later;
    each = λ c left. wider c (only.each c left);
    before = λ t c le left. ⊎_elim (λ was. inl was) (λ now. inr (wider c now)) (only.before t c le left);
  }

-- calls that write nothing
module _ {D : Type 0} (told : D → Option (List ℕ)) (may_leave : D → List ℕ → Type 0) (moment : D → ℕ)
    (left_since : D → ℕ → List ℕ → Type 0) where
  pub quiet_start : (old : D) → ((c : List ℕ) → left_since old (moment old) c → may_leave old c)
      → OnlyReads told may_leave moment left_since old old
  quiet_start old here = record {
    same_bytes = refl;
    no_new = λ c left. left;
    only_old =
        started moment left_since old (may_leave old) here;
  }

  pub quiet_call : (old mid new : D) → OnlyReads told may_leave moment left_since old mid → told new ≡ told mid
      → NoNewImage (may_leave mid) (may_leave new)
      → Elapses (moment mid) (moment new) (left_since mid) (left_since new) (may_leave new)
      → OnlyReads told may_leave moment left_since old new
  quiet_call old mid new so_far same images time = record {
    same_bytes = same ∙ so_far.same_bytes;
    no_new = λ c left. so_far.no_new c (images c left);
    only_old =
        goes_on moment left_since old mid new (may_leave old) (may_leave new) so_far.only_old time
        (λ c left. so_far.no_new c (images c left));
  }

  pub quiet_both : (old mid new : D) → OnlyReads told may_leave moment left_since old mid
      → OnlyReads told may_leave moment left_since mid new
      → OnlyReads told may_leave moment left_since old new
  quiet_both old mid new first second = record {
    same_bytes = second.same_bytes ∙ first.same_bytes;
    no_new = λ c left. first.no_new c (second.no_new c left);
    only_old =
        joins moment left_since old mid new (may_leave old) (may_leave mid) (may_leave old)
        first.only_old second.only_old (λ c was. was) first.no_new;
  }
