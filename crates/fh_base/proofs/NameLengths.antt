-- That no name is longer than the array that holds it.
use Rattle.std.proofs.Common.{◌≡◌, ℕ, ◌≤◌, Bool, true, false, ◌&&◌, List, length, refl}
use Rattle.std.proofs.lemmas.Bool.{leb-true}
use Rattle.fh_base.specs.Names.{has_queue_length, is_queue_name}
use Rattle.fh_base.specs.PlainNames.{is_plain_name}

first_true : (a b : Bool) → (a && b) ≡ true → a ≡ true
first_true true b both = refl
first_true false b both = both

second_true : (a b : Bool) → (a && b) ≡ true → b ≡ true
second_true true b both = both
second_true false b both = cc

pub queue_name_length : (text : List ℕ) → is_queue_name text ≡ true → length text ≤ 63
queue_name_length text name =
    let sized : has_queue_length text ≡ true = first_true _ _ (first_true _ _ (first_true _ _ name)) in
    leb-true (length text) 63 (second_true _ _ sized)

pub plain_name_length : (text : List ℕ) → is_plain_name text ≡ true → length text ≤ 127
plain_name_length text name = leb-true (length text) 127 (first_true _ _ (first_true _ _ name))
