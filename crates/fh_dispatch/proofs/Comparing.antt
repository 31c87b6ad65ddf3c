-- Settings count as the same exactly where they are equal.
use Rattle.std.proofs.Common.{◌≡◌, Bool, true, false, refl, subst}
use Rattle.std.specs.Prelude.{◌==◌, ◌&&◌}
use Rattle.std.specs.Bool.{beq}
use Rattle.std.specs.Cmp.{booleans_Decides}
use Rattle.std.proofs.lemmas.Bool.{eqb-true}
use Rattle.fh_event.specs.declared.settings.FunctionSettings.{FunctionSettings}
use Rattle.fh_event.specs.declared.settings.FunctionSettings.TheVariants.{Queue, Blob, Timer}
use Rattle.fh_dispatch.specs.Settings.{same_settings}
use Rattle.fh_dispatch.specs.Laws.{ComparesSettings}
use Rattle.fh_dispatch.proofs.Naming.{same_name, own_name, own_number}

first_of_both : (a b : Bool) → (a && b) ≡ true → a ≡ true
first_of_both true b is = refl
first_of_both false b is = cc

second_of_both : (a b : Bool) → (a && b) ≡ true → b ≡ true
second_of_both true b is = is
second_of_both false b is = cc

own_flag : (b : Bool) → beq b b ≡ true
own_flag b = (booleans_Decides b b).1 refl

same_as_itself : (one : FunctionSettings) → same_settings one one ≡ true
same_as_itself (Queue q b t l r s) = rw (
  own_name q,
  own_number b,
  own_number t,
  own_number l,
  own_number r,
  own_number s,
) refl
same_as_itself (Blob b t l r s) = rw (own_number b, own_number t, own_number l, own_number r, own_number s) refl
same_as_itself (Timer ms u w s) = rw (own_name ms, own_flag u, own_flag w, own_number s) refl

equal_where_same : (one other : FunctionSettings) → same_settings one other ≡ true → one ≡ other
equal_where_same (Queue q b t l r s) (Queue queue batch threshold limit retry singleton) is =
    let to_retry = first_of_both _ (s == singleton) is in
    let to_limit = first_of_both _ (r == retry) to_retry in
    let to_threshold = first_of_both _ (l == limit) to_limit in
    let to_batch = first_of_both _ (t == threshold) to_threshold in
    rw (
      same_name q queue (first_of_both _ (b == batch) to_batch),
      eqb-true b batch (second_of_both _ (b == batch) to_batch),
      eqb-true t threshold (second_of_both _ (t == threshold) to_threshold),
      eqb-true l limit (second_of_both _ (l == limit) to_limit),
      eqb-true r retry (second_of_both _ (r == retry) to_retry),
      eqb-true s singleton (second_of_both _ (s == singleton) is),
    ) refl
equal_where_same (Blob b t l r s) (Blob batch threshold limit retry singleton) is =
    let to_retry = first_of_both _ (s == singleton) is in
    let to_limit = first_of_both _ (r == retry) to_retry in
    let to_threshold = first_of_both _ (l == limit) to_limit in
    rw (
      eqb-true b batch (first_of_both _ (t == threshold) to_threshold),
      eqb-true t threshold (second_of_both _ (t == threshold) to_threshold),
      eqb-true l limit (second_of_both _ (l == limit) to_limit),
      eqb-true r retry (second_of_both _ (r == retry) to_retry),
      eqb-true s singleton (second_of_both _ (s == singleton) is),
    ) refl
equal_where_same (Timer ms u w s) (Timer masks startup monitor singleton) is =
    let to_monitor = first_of_both _ (s == singleton) is in
    let to_startup = first_of_both _ (beq w monitor) to_monitor in
    rw (
      same_name ms masks (first_of_both _ (beq u startup) to_startup),
      (booleans_Decides u startup).0 (second_of_both _ (beq u startup) to_startup),
      (booleans_Decides w monitor).0 (second_of_both _ (beq w monitor) to_monitor),
      eqb-true s singleton (second_of_both _ (s == singleton) is),
    ) refl
equal_where_same one other is = cc

pub compared : ComparesSettings
compared one other = (
  equal_where_same one other,
  λ is. subst (λ (o : FunctionSettings). same_settings one o ≡ true) is
      (same_as_itself one),
)
