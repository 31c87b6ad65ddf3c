-- That a name which was copied to the front of an array of zeros is padded.
use Rattle.std.proofs.Common.{◌≡◌, ℕ, ◌-◌, ◌≤◌, Bool, true, List, ◌++◌, length, drop, replicate, ap, arith, length-append, sym, ◌∙◌}
use Rattle.std.proofs.lemmas.List.{drop-replicate, length-replicate, take_at, drop_at}
use Rattle.fh_base.specs.PaddedNames.{IsPadded}

pub is_padded : (width : ℕ) (is_name : List ℕ → Bool) (text front zeros : List ℕ) (n : ℕ) → n ≡ length text
    → front ≡ text
    → zeros ≡ replicate width 0 → length text ≤ width → is_name text ≡ true
    → IsPadded width is_name (front ++ drop n zeros) n
is_padded width is_name text front zeros n size is nothing short name =
    let long : length front ≡ n = ap length is ∙ sym size in
    let rest : drop n zeros ≡ replicate (width - n) 0 = ap (drop n) nothing ∙ drop-replicate n width 0 in
    record {
      short = omega arith;
      sized = rw rest (omega (
        arith,
        length-append front (replicate (width - n) 0),
        length-replicate {A = ℕ} (width - n) 0,
      ));
      name = rw (take_at front (drop n zeros) n long, is) name;
      zeros = drop_at front (drop n zeros) n long ∙ rest;
    }
